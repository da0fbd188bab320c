-- A loop over the stations: each turn stores the fields of the next station's outcome at its place, so that at the end
-- the arrays are those of the run after the round. What a station's outcome needs is known of every run that keeps the
-- rules, and then it is the paper's.
use mathlib.Core.Path.{◌≡◌, ap, sym, ◌∙◌}
use mathlib.Core.Bool.{Bool}
use Rattle.std.specs.Prelude.{Option, None}
use mathlib.Core.List.{List}
use Prim.Native.Nat.{ℕ, ◌+◌, ◌≤◌, ◌<◌}
use lib.ListN.{get_or, set, replicate}
use Rattle.run.specs.Reply.{Accepted}
use Rattle.run.specs.declared.Run.{Run}
use Rattle.run.specs.Keeps.{Keeps, StationKeeps}
use Rattle.limits.specs.Setup.{setup_of}
use Rattle.run.specs.Run.{stations, nothing, station_at}
use Rattle.run.specs.Filled.{filled}
use Rattle.run.proofs.Filled.{filled_none, filled_more, filled_same}
use Rattle.run.proofs.Built.{stored, built_none, built_more, built_same}
use Rattle.round.specs.Reading.{votes_next}
use Rattle.round.specs.Bridge.{heard_in, station, kind_next, paper_setup}
use Rattle.hearing.specs.Surveying.{sets_of}
use Rattle.hearing.proofs.Hearing.{kind_votes}
use Rattle.judge.specs.declared.Counted.{Counted}
use Rattle.outcome.specs.declared.Outcome.{Outcome}
use Rattle.judge.specs.declared.Stepped.{Stepped}
use Rattle.judge.specs.Step.{station_after, fired_at, run_after, stepped}
use Rattle.outcome.specs.Outcome.{outcome_of}
use Rattle.outcome.specs.Told.{Tellable}
use Rattle.judge.specs.Rows.{all_counted}
use Rattle.judge.specs.Taking.{told_at, begun, next_to, fired_to, advanced}
use Rattle.judge.proofs.Countings.{counted_ho, counted_sho, counted_tally}
use Rattle.outcome.proofs.Outcomes.{outcome_told}
use Rattle.judge.proofs.Checks.{ho_at}

-- ---- the loop
module _ (run : Run) (voting : Bool) (c : Counted) where
  abbrev outcome_at : ℕ → Outcome
  outcome_at p = told_at run voting c p

  pub next_none : begun run (run.clock + 1) ≡ next_to run voting c 0
  unfolding begun next_to
  next_none =
      built_none run.setup run.default (run.clock + 1) (λ i. nothing)
      ∙ sym (built_none run.setup run.default (run.clock + 1) (λ p. (outcome_at p).station))

  pub fired_none : replicate stations None ≡ fired_to run voting c 0
  unfolding fired_to
  fired_none = sym (filled_none stations (λ p. (outcome_at p).fired) None)

  module _ {k : ℕ} {o : Outcome} (l : k < stations) (h : o ≡ told_at run voting c k) where
    pub next_more : {a : Run} → a ≡ next_to run voting c k → stored a k o.station ≡ next_to run voting c (k + 1)
    unfolding next_to
    next_more e = rw (e, h) (built_more run.setup run.default (run.clock + 1) k (λ p. (outcome_at p).station) l)

    pub fired_more : {a : List (Option ℕ)} → a ≡ fired_to run voting c k
        → set a k o.fired ≡ fired_to run voting c (k + 1)
    unfolding fired_to
    fired_more e = rw (e, h) (filled_more stations k (λ p. (outcome_at p).fired) None l)

  pub advanced_done : {k : ℕ} {a : Run} {h : List (Option ℕ)} → a ≡ next_to run voting c k → h ≡ fired_to run voting c k
      → k ≡ run.setup.n
      → ◌≡◌ {A = Stepped} (record { reply = Accepted; run = a; fired = h; ho = c.ho; sho = c.sho })
      (advanced run voting c)
  unfolding advanced
  advanced_done e f d = rw (e, f, d)

-- ---- one station
module _ (run : Run) (bs : List ℕ) (keeps : Keeps run) where
  abbrev n : ℕ
  n = run.setup.n

  few : n ≤ stations
  few = keeps.setup.n_to

  abbrev counted : Counted
  counted = all_counted (votes_next run) run bs

  -- what the round makes of station p
  abbrev paper_outcome : ℕ → Outcome
  paper_outcome p = outcome_of (paper_setup run) run.default (run.clock + 1) (station run p) (heard_in n bs p)

  -- a station of a run that keeps the rules is one whose outcome can be told
  ready : (p : ℕ) → p < n → Tellable run.setup (run.clock + 1) (votes_next run) (station_at run p) (heard_in n bs p)
      (get_or counted.ho p 0)
  unfolding kind_next sets_of
  ready p below =
      let was : StationKeeps run.setup run.clock (station_at run p) = keeps.below p below in
      record {
        kind = kind_votes run;
        few = few;
        inequalities = keeps.setup.inequalities;
        heard = rw (counted_ho run bs few) (ho_at run bs few p below);
        beside_no_vote = was.beside_no_vote;
        beside_undecided = was.beside_undecided;
        no_round = was.undecided;
      }

  told_is : (p : ℕ) → p < n → told_at run (votes_next run) counted p ≡ paper_outcome p
  unfolding station setup_of
  told_is p below =
      rw (counted_tally run bs few p below)
      (outcome_told run.setup run.default (run.clock + 1) (votes_next run) (station_at run p) (heard_in n bs p) _
      (ready p below))

  column_is : {X : Type 0} (field : Outcome → X) (d : X)
      → filled stations n (λ p. field (told_at run (votes_next run) counted p)) d
      ≡ filled stations n (λ p. field (paper_outcome p)) d
  column_is field d = filled_same stations n _ _ d (λ p below. ap field (told_is p below))

  -- so the run after the round is the paper's
  pub advanced_is : advanced run (votes_next run) counted ≡ stepped run bs
  unfolding advanced next_to fired_to stepped run_after station_after fired_at kind_next setup_of outcome_of
  advanced_is =
      rw (
        built_same run.setup run.default (run.clock + 1) n (λ p. (told_at run (votes_next run) counted p).station)
            (λ p. (paper_outcome p).station) (λ p below. ap (λ (o : Outcome). o.station) (told_is p below)),
        column_is (λ o. o.fired) None,
        counted_ho run bs few,
        counted_sho run bs few,
      )
