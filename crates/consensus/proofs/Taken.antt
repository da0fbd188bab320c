-- What is offered is its rounds, one after another up to the first that is refused: a bad run refuses each round as it
-- refuses a part, and a step is a part of one round. What the rounds leave, and how many they are, by induction on
-- them.
use mathlib.Core.Path.{◌≡◌, refl, ap, sym, ◌∙◌, subst}
use mathlib.Core.Bool.{Bool, true, false, cond, false≢true}
use mathlib.Core.List.{List, [], ◌∷◌, ◌++◌}
use Prim.Native.Nat.{ℕ, ◌+◌}
use native.Mathlib.Omega.{arith}
use lib.ListN.{length, length-append}
use Rattle.paper.specs.Run.{States, Turn}
use Rattle.run.specs.declared.Run.{Run}
use Rattle.run.specs.Reply.{Rules}
use Rattle.run.specs.Keeps.{Keeps}
use Rattle.run.specs.Reply.{is_accepted}
use Rattle.run.specs.Run.{sound}
use Rattle.run.proofs.Sound.{sound_iff}
use Rattle.round.specs.Reading.{round_length}
use Rattle.round.specs.Bridge.{station}
use Rattle.judge.specs.Step.{step_of}
use Rattle.judge.proofs.Steps.{passed, refused_same, setup_same, default_same, clock_next, keeps_next}
use Rattle.play.specs.Play.{cut, ended, more, take_rounds, play_of}
use Rattle.consensus.specs.Offered.{
  Offer,
  to_step,
  to_play,
  run_then,
  rounds_in,
  taken,
  accepted,
  run_after_all,
  left_by,
}

-- ---- a bad run takes nothing
bad_refuses : (run : Run) (bs : List ℕ) → sound run ≡ false → is_accepted (step_of run bs).reply ≡ false
bad_refuses run bs bad = go (is_accepted (step_of run bs).reply) refl
  where
    go : (b : Bool) → is_accepted (step_of run bs).reply ≡ b → b ≡ false
    go true e = absurd (false≢true (sym bad ∙ (sound_iff run).1 (passed run bs e).keeps))
    go false e = refl

module _ (run : Run) (bad : sound run ≡ false) where
  bad_run : (rs : List (List ℕ)) → (take_rounds run rs).run ≡ run
  unfolding take_rounds
  bad_run [] = refl
  bad_run (r ∷ rs) = rw (bad_refuses run r bad)

  bad_count : (rs : List (List ℕ)) → (take_rounds run rs).rounds ≡ 0
  unfolding take_rounds
  bad_count [] = refl
  bad_count (r ∷ rs) = rw (bad_refuses run r bad)

-- so a part is played by taking its rounds, whatever the run
module _ (run : Run) (bs : List ℕ) where
  abbrev pub parts : List (List ℕ)
  parts = cut (round_length run.setup.n) bs

  play_run : (play_of run bs).run ≡ (take_rounds run parts).run
  unfolding play_of
  play_run = go (sound run) refl
    where
      go : (b : Bool) → sound run ≡ b → (cond b (take_rounds run parts) (ended run (Rules 0))).run
          ≡ (take_rounds run parts).run
      go true e = refl
      go false e = sym (bad_run run e parts)

  pub play_rounds : (play_of run bs).rounds ≡ (take_rounds run parts).rounds
  unfolding play_of
  play_rounds = go (sound run) refl
    where
      go : (b : Bool) → sound run ≡ b → (cond b (take_rounds run parts) (ended run (Rules 0))).rounds
          ≡ (take_rounds run parts).rounds
      go true e = refl
      go false e = sym (bad_count run e parts)

  -- and a round is stepped by taking it alone
  step_run : (step_of run bs).run ≡ (take_rounds run (bs ∷ [])).run
  unfolding take_rounds
  step_run = go (is_accepted (step_of run bs).reply) refl
    where
      go : (b : Bool) → is_accepted (step_of run bs).reply ≡ b
          → (step_of run bs).run ≡ (cond b (more 1 (take_rounds (step_of run bs).run []))
          (ended run (step_of run bs).reply)).run
      go true e = refl
      go false e = refused_same run bs e

pub then_taken : (run : Run) (o : Offer) → run_then run o ≡ (take_rounds run (rounds_in run o)).run
unfolding run_then rounds_in
then_taken run (to_step bs) = step_run run bs
then_taken run (to_play bs) = play_run run bs

-- ---- what the rounds leave
-- each station as the last accepted one left it
pub taken_left : (rs : List (List ℕ)) (run : Run) → station (take_rounds run rs).run
    ≡ left_by (station run) (taken run rs)
unfolding take_rounds taken left_by
taken_left [] run = refl
taken_left (r ∷ rs) run = go (is_accepted (step_of run r).reply) refl (taken_left rs (step_of run r).run)
  where
    go : (b : Bool) → is_accepted (step_of run r).reply ≡ b
        → station (take_rounds (step_of run r).run rs).run
        ≡ left_by (station (step_of run r).run) (taken (step_of run r).run rs)
        → station (take_rounds run (r ∷ rs)).run ≡ left_by (station run) (taken run (r ∷ rs))
    go true e below = rw e below
    go false e below = rw e

-- as many rounds as are counted
pub taken_count : (rs : List (List ℕ)) (run : Run) → (take_rounds run rs).rounds ≡ length (taken run rs)
unfolding take_rounds taken
taken_count [] run = refl
taken_count (r ∷ rs) run = go (is_accepted (step_of run r).reply) refl (taken_count rs (step_of run r).run)
  where
    go : (b : Bool) → is_accepted (step_of run r).reply ≡ b
        → (take_rounds (step_of run r).run rs).rounds ≡ length (taken (step_of run r).run rs)
        → (take_rounds run (r ∷ rs)).rounds ≡ length (taken run (r ∷ rs))
    go true e below = rw e (omega (arith, below))
    go false e below = rw e

-- a run that keeps the rules, with the same setup and default, whose clock has counted k rounds
pub record On (run : Run) (k : ℕ) (next : Run) : Type 0 where
  pub keeps : Keeps next
  pub setup : next.setup ≡ run.setup
  pub default : next.default ≡ run.default
  pub clock : next.clock ≡ k + run.clock

pub taken_on : (rs : List (List ℕ)) (run : Run) → Keeps run → On run (length (taken run rs)) (take_rounds run rs).run
unfolding take_rounds taken
taken_on [] run keeps = record { keeps = keeps; setup = refl; default = refl; clock = omega arith }
taken_on (r ∷ rs) run keeps = go (is_accepted (step_of run r).reply) refl (λ k. taken_on rs (step_of run r).run k)
  where
    next : Run
    next = (step_of run r).run

    go : (b : Bool) → is_accepted (step_of run r).reply ≡ b
        → (Keeps next → On next (length (taken next rs)) (take_rounds next rs).run)
        → On run (length (taken run (r ∷ rs))) (take_rounds run (r ∷ rs)).run
    go true e below =
        let ok = passed run r e in
        let on = below (keeps_next run r ok) in
        rw e
        (record {
          keeps = on.keeps;
          setup = on.setup ∙ setup_same run r ok;
          default = on.default ∙ default_same run r ok;
          clock = omega (arith, on.clock, clock_next run r ok);
        })
    go false e below = rw e (record { keeps = keeps; setup = refl; default = refl; clock = omega arith })

-- ---- what all that is offered leaves
pub then_on : (run : Run) (o : Offer) → Keeps run → On run (length (taken run (rounds_in run o))) (run_then run o)
then_on run o keeps =
    subst (On run (length (taken run (rounds_in run o)))) (sym (then_taken run o))
    (taken_on (rounds_in run o) run keeps)

pub all_on : (offers : List Offer) (run : Run) → Keeps run
    → On run (length (accepted run offers)) (run_after_all run offers)
unfolding accepted run_after_all
all_on [] run keeps = record { keeps = keeps; setup = refl; default = refl; clock = omega arith }
all_on (o ∷ rest) run keeps =
    let first = then_on run o keeps in
    let on = all_on rest (run_then run o) first.keeps in
    record {
      keeps = on.keeps;
      setup = on.setup ∙ first.setup;
      default = on.default ∙ first.default;
      clock =
          omega (
            arith,
            on.clock,
            first.clock,
            length-append (taken run (rounds_in run o))
                (accepted (run_then run o) rest),
          );
    }

left_join : (ts us : List Turn) (s : States) → left_by s (ts ++ us) ≡ left_by (left_by s ts) us
unfolding left_by
left_join [] us s = refl
left_join (t ∷ ts) us s = left_join ts us t.after

pub all_left : (offers : List Offer) (run : Run) → station (run_after_all run offers)
    ≡ left_by (station run) (accepted run offers)
unfolding accepted run_after_all left_by
all_left [] run = refl
all_left (o ∷ rest) run =
    let mine = taken run (rounds_in run o) in
    all_left rest (run_then run o)
    ∙ ap (λ (s : States). left_by s (accepted (run_then run o) rest))
    (ap station (then_taken run o) ∙ taken_left (rounds_in run o) run)
    ∙ sym (left_join mine (accepted (run_then run o) rest) (station run))
