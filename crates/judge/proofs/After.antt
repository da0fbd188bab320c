-- The run after a round keeps the rules: under A no station votes, under U votes stand after value rounds only; a new
-- decision has this round's number, and under U the rule fires in vote rounds only.
use mathlib.Core.Path.{◌≡◌, refl, subst}
use mathlib.Core.Bool.{Bool, true, false, cond, true≢false, false≢true}
use mathlib.Core.List.{List}
use Rattle.std.specs.Prelude.{Option, None, Some}
use Prim.Native.Nat.{ℕ, ◌+◌, ◌%◌, ◌≤◌, ◌<◌}
use native.Mathlib.Omega.{arith}
use lib.Dec.{eqb}
use borrow.Author.Tests.{eqb-true, eqb-false, eq-eqb}
use Rattle.paper.specs.Heard as heard
use Rattle.paper.specs.Setup as setup
use Rattle.paper.specs.Rules as rules
use Rattle.paper.proofs.After.{after_vote, after_decision}
use Rattle.limits.specs.declared.Setup.{Setup}
use Rattle.run.specs.declared.Run.{Run}
use Rattle.run.specs.Keeps.{Keeps, StationKeeps}
use Rattle.limits.specs.Setup.{byte_u, is_u, algorithm_of, setup_of}
use Rattle.run.specs.Run.{most_rounds, station_at}
use Rattle.round.specs.Bridge.{station, heard_in, has_value, value_in, is_decided, decision_in, round_in, paper_setup}
use Rattle.run.proofs.Built.{built_keeps}
use Rattle.judge.specs.Step.{station_after, entries_after, run_after}

-- a flag that is down has 0 beside it
no_value : (m : heard.Message) → has_value m ≡ false → value_in m ≡ 0
no_value (heard.val v) e = absurd (true≢false e)
no_value heard.query e = refl

no_round : (d : rules.Decision) → is_decided d ≡ false → round_in d ≡ 0
no_round rules.undecided e = refl
no_round (rules.decided v r) e = absurd (true≢false e)

no_decision : (d : rules.Decision) → is_decided d ≡ false → decision_in d ≡ 0
no_decision rules.undecided e = refl
no_decision (rules.decided v r) e = absurd (true≢false e)

-- what may be said of a decision's round
pub record RoundKeeps (s : Setup) (clock : ℕ) (d : rules.Decision) : Type 0 where
  pub from : is_decided d ≡ true → 1 ≤ round_in d
  pub to : is_decided d ≡ true → round_in d ≤ clock
  pub even : is_decided d ≡ true → s.algorithm ≡ byte_u → round_in d % 2 ≡ 0

-- under U a vote is cast in value rounds, which are odd, and cleared in the others
odd_vote : (S : setup.Setup) (r : ℕ) (s : rules.Station) (row : heard.Row)
    → has_value (rules.next_vote S (rules.kind_of setup.U r) s row) ≡ true
    → r % 2 ≡ 1
unfolding rules.kind_of rules.next_vote
odd_vote S r s row = go (eqb (r % 2) 0) refl
  where
    go : (b : Bool) → eqb (r % 2) 0 ≡ b → has_value (rules.next_vote S (cond b rules.vote rules.value) s row) ≡ true
        → r % 2 ≡ 1
    go true e h = absurd (false≢true h)
    go false e h = let odd = eqb-false (r % 2) 0 e in omega arith

module _ (run : Run) (bs : List ℕ) (keeps : Keeps run) (p : ℕ) (below : p < run.setup.n) where
  was : StationKeeps run.setup run.clock (station_at run p)
  was = keeps.below p below

  -- the paper's decision before the round
  before_keeps : RoundKeeps run.setup run.clock (station run p).decision
  unfolding station
  before_keeps = go (station_at run p).decided refl
    where
      go : (b : Bool) → (station_at run p).decided ≡ b
          → RoundKeeps run.setup run.clock (cond b (rules.decided (station_at run p).decision
          (station_at run p).round) rules.undecided)
      go true e = record { from = λ x. was.round_from e; to = λ x. was.round_to e; even = λ x. was.round_even e }
      go false e =
          record {
            from = λ x. absurd (false≢true x);
            to = λ x. absurd (false≢true x);
            even = λ x. absurd
                (false≢true x);
          }

  -- under U the rule fires in even rounds
  fires_even : (s : Setup) → s.algorithm ≡ byte_u → (r : ℕ) (row : heard.Row) (v : ℕ)
      → rules.fired (setup_of s) (rules.kind_of (algorithm_of s) r) row ≡ Some v → r % 2 ≡ 0
  unfolding rules.fired rules.kind_of rules.deciding
  fires_even s u r row v e = go (eqb (r % 2) 0) refl
      (subst (λ (b : Bool). rules.fired (setup_of s) (rules.kind_of (cond b setup.U setup.A) r) row
      ≡ Some v) (eq-eqb s.algorithm byte_u u) e)
    where
      go : (b : Bool) → eqb (r % 2) 0 ≡ b → rules.fired (setup_of s) (rules.kind_of setup.U r) row ≡ Some v → r % 2 ≡ 0
      go true q f = eqb-true (r % 2) 0 q
      go false q f = let z : ◌≡◌ {A = ℕ} 0 1 = cc (rw q at f) in absurd (omega arith)

  kept_keeps : (d : rules.Decision) (f : Option ℕ) → RoundKeeps run.setup run.clock d
      → ((v : ℕ) → f ≡ Some v → run.setup.algorithm ≡ byte_u → (run.clock + 1) % 2 ≡ 0)
      → RoundKeeps run.setup (run.clock + 1) (rules.keep d (run.clock + 1) f)
  unfolding rules.keep
  kept_keeps rules.undecided None k even =
      record { from = λ x. absurd (false≢true x); to = λ x. absurd (false≢true x); even = λ x. absurd (false≢true x) }
  kept_keeps rules.undecided (Some v) k even = record {
    from = λ x. omega arith;
    to = λ x. omega arith;
    even =
        λ x u. even v refl u;
  }
  kept_keeps (rules.decided v r) f k even =
      record { from = λ x. k.from x; to = λ x. omega (arith, k.to x); even = λ x u. k.even x u }

  after_keeps : RoundKeeps run.setup (run.clock + 1) (station_after run bs p).decision
  unfolding station_after setup_of
  after_keeps =
      rw (after_decision (paper_setup run) run.default (run.clock + 1) (station run p)
      (heard_in run.setup.n bs p))
      (kept_keeps (station run p).decision _ before_keeps
      (λ v e u. fires_even run.setup u (run.clock + 1) (heard_in run.setup.n bs p) v e))

  -- under A a station has no vote before the round
  no_vote_under_a : is_u run.setup ≡ false → has_value (station run p).vote ≡ true → ⊥
  unfolding station
  no_vote_under_a under = go (station_at run p).voted refl
    where
      go : (b : Bool) → (station_at run p).voted ≡ b
          → has_value (cond b (heard.val (station_at run p).vote) heard.query) ≡ true → ⊥
      go true e h = eqb-false run.setup.algorithm byte_u under (was.vote e).0
      go false e h = false≢true h

  -- a vote stands only under U, after a value round
  vote_after : has_value (station_after run bs p).vote ≡ true → (run.setup.algorithm ≡ byte_u)
      × ((run.clock + 1) % 2 ≡ 1)
  unfolding station_after setup_of rules.kind_of rules.next_vote
  vote_after =
      rw (after_vote (paper_setup run) run.default (run.clock + 1) (station run p) (heard_in run.setup.n bs p))
      (go (is_u run.setup) refl)
    where
      row : heard.Row
      row = heard_in run.setup.n bs p

      next : setup.Algorithm → heard.Message
      next a = rules.next_vote (paper_setup run) (rules.kind_of a (run.clock + 1)) (station run p) row

      go : (b : Bool) → is_u run.setup ≡ b → has_value (next (cond b setup.U setup.A)) ≡ true
          → (run.setup.algorithm ≡ byte_u) × ((run.clock + 1) % 2 ≡ 1)
      go true q h = (
        eqb-true run.setup.algorithm byte_u q,
        odd_vote (paper_setup run) (run.clock + 1)
            (station run p) row h,
      )
      go false q h = absurd (no_vote_under_a q h)

  station_keeps : StationKeeps run.setup (run.clock + 1) (entries_after run bs p)
  station_keeps =
      record {
        vote = vote_after;
        round_from = after_keeps.from;
        round_to = after_keeps.to;
        round_even = after_keeps.even;
        undecided = no_round (station_after run bs p).decision;
        beside_no_vote = no_value (station_after run bs p).vote;
        beside_undecided = no_decision (station_after run bs p).decision;
      }

-- the run after a round taken by a run that is not full keeps the rules again
pub run_keeps : (run : Run) (bs : List ℕ) → Keeps run → run.clock < most_rounds → Keeps (run_after run bs)
unfolding run_after
run_keeps run bs keeps room =
    built_keeps run.setup run.default (run.clock + 1) (entries_after run bs) keeps.setup keeps.default
    (omega arith)
    (λ p h. station_keeps run bs keeps p h)
