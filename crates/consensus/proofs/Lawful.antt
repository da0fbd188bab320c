-- The accepted rounds of a run that keeps the rules follow one another as the paper's do and keep its predicates: each
-- accepted step is such a step of the paper (the judge's Steps), and what is offered is its rounds up to the first that
-- is refused (Taken). By induction on that.
use mathlib.Core.Path.{◌≡◌, refl, ap, sym, ◌∙◌, subst, subst₃}
use mathlib.Core.Bool.{Bool, true, false}
use mathlib.Core.List.Memᴰ
use mathlib.Core.List.{List, [], ◌∷◌, ◌++◌}
use mathlib.Core.Logic.{⊎_elim}
use Prim.Native.Nat.{ℕ}
use native.Mathlib.Numerals.{add-one}
use Rattle.paper.specs.Stations.{size}
use Rattle.paper.specs.Heard as heard
use Rattle.paper.specs.Setup as setup
use Rattle.paper.specs.Rules as rules
use Rattle.paper.specs.Run as paper
use Rattle.paper.specs.Safety.{◌among◌}
use Rattle.limits.specs.declared.Setup.{Setup}
use Rattle.run.specs.declared.Run.{Run}
use Rattle.run.specs.Keeps.{Keeps}
use Rattle.run.specs.Reply.{is_accepted}
use Rattle.limits.specs.Setup.{is_u, setup_of}
use Rattle.round.specs.Bridge.{heard_in, station, sent_next, kind_next, paper_setup}
use Rattle.judge.specs.Step.{step_of, station_after}
use Rattle.judge.proofs.Stations.{station_next}
use Rattle.judge.proofs.Steps.{Passed, passed, setup_same, default_same, clock_next}
use Rattle.play.specs.Play.{take_rounds}
use Rattle.consensus.specs.Offered.{Offer, run_then, rounds_in, round_by_judge, taken, accepted}
use Rattle.consensus.proofs.RoundReplies.{under_u}
use Rattle.consensus.proofs.Taken.{then_taken, then_on}

module _ (run : Run) (bs : List ℕ) (ok : Passed run bs) where
  -- the accepted round is a step of the paper
  turn_steps : paper.Next (paper_setup run) run.default run.clock (station run) (round_by_judge run bs)
  unfolding round_by_judge setup_of station_after
  turn_steps =
      record {
        counted = refl;
        from = λ p h. refl;
        by_rule =
            λ p h.
            ap (λ (r : Run). station r p) ok.next ∙ station_next run bs p ok.keeps.setup.n_to h
            ∙ ap (λ (r : ℕ). rules.after (paper_setup run) run.default r (station run p)
            ((round_by_judge run bs).heard p)) (add-one run.clock);
      }

  -- the round's number, counted by suc as the paper's is, and by + 1 as the code's
  abbrev SentIn : ℕ → ℕ → heard.Message
  SentIn r q = rules.sends (rules.kind_of (paper_setup run).algorithm r) (station run q)

  -- and keeps its predicates
  turn_safe : paper.Safe (paper_setup run) (round_by_judge run bs)
  unfolding round_by_judge paper.PAlpha paper.PSafe paper.sent paper.kind setup_of sent_next kind_next
  turn_safe =
      record {
        few_altered =
            λ p h.
            subst
            (λ (r : ℕ). setup.tolerated (paper_setup run)
            (size run.setup.n (heard.AHO (heard_in run.setup.n bs p) (SentIn r))) ≡ true)
            (add-one run.clock) (ok.few p h);
        enough_safe =
            λ u p h.
            subst
            (λ (r : ℕ). setup.passes_bound (paper_setup run)
            (size run.setup.n (heard.SHO (heard_in run.setup.n bs p) (SentIn r))) ≡ true)
            (add-one run.clock) (ok.enough (under_u (is_u run.setup) u) p h);
      }

-- the rounds ts follow one another from this run on, and each keeps the predicates
abbrev From : Run → List paper.Turn → Type 0
From run ts =
    paper.Rounds (paper_setup run) run.default run.clock (station run) ts
    × ((t : paper.Turn) → t among ts → paper.Safe (paper_setup run) t)

-- one accepted round more in front
module _ (run : Run) (bs : List ℕ) (ts : List paper.Turn) where
  abbrev next : Run
  next = (step_of run bs).run

  one_more_from : Passed run bs → From next ts → From run (round_by_judge run bs ∷ ts)
  unfolding paper.Rounds round_by_judge
  one_more_from ok on =
      let rounds = subst₃ (λ (s : Setup) (d k : ℕ). paper.Rounds (setup_of s) d k (station next) ts)
      (setup_same run bs ok) (default_same run bs ok) (clock_next run bs ok) on.0 in
      let safe = subst (λ (s : Setup). (t : paper.Turn) → t among ts → paper.Safe (setup_of s) t) (setup_same run bs ok)
      on.1 in (
        (turn_steps run bs ok, rounds),
        λ t i. ⊎_elim (λ q. subst (paper.Safe (paper_setup run)) (sym q) (turn_safe run bs ok)) (safe t)
            (Memᴰ.cases_cons i),
      )

-- some rounds taken in front, up to the first that is refused
taken_from : (rs : List (List ℕ)) (run : Run) (ts : List paper.Turn) → From (take_rounds run rs).run ts
    → From run (taken run rs ++ ts)
unfolding take_rounds taken
taken_from [] run ts = λ on. on
taken_from (r ∷ rs) run ts = go (is_accepted (step_of run r).reply) refl (taken_from rs (step_of run r).run ts)
  where
    next : Run
    next = (step_of run r).run

    go : (b : Bool) → is_accepted (step_of run r).reply ≡ b → (From (take_rounds next rs).run ts
        → From next (taken next rs ++ ts))
        → From (take_rounds run (r ∷ rs)).run ts → From run (taken run (r ∷ rs) ++ ts)
    go true e below = rw e (λ on. one_more_from run r (taken next rs ++ ts) (passed run r e) (below on))
    go false e below = rw e (λ on. on)

-- all that is offered
pub follows : (offers : List Offer) (run : Run) → Keeps run → From run (accepted run offers)
unfolding paper.Rounds accepted
follows [] run keeps = (tt, λ t i. absurd (Memᴰ.not-nil i))
follows (o ∷ rest) run keeps =
    let on : From (run_then run o) (accepted (run_then run o) rest) = follows rest (run_then run o)
    (then_on run o keeps).keeps in
    taken_from (rounds_in run o) run (accepted (run_then run o) rest)
    (subst (λ (r : Run). From r (accepted (run_then run o) rest)) (then_taken run o) on)
