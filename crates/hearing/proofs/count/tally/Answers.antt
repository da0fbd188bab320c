-- `hearing::count::tally` meets its contract: the values still to come are those that pass a test P, and are struck
-- from the row that is counted so far. Each turn takes the value of the lowest sender left; at the end none is left, so
-- that the row is whole.
use mathlib.Core.Path.{◌≡◌, ap, ◌∙◌}
use Prim.Native.Nat.{min, ◌<◌, ◌≤◌}
use native.Mathlib.Omega.{arith}
use lib.Count.{count_trailing_zeros}
use borrow.Author.Rules.{rules}
use Rattle.paper.specs.Heard.{R}
use Rattle.paper.specs.Setup.{Setup, vouched}
use Rattle.paper.proofs.Thresholds.{vouched_iff}
use Rattle.run.specs.Run.{stations}
use Rattle.run.specs.Filled.{filled}
use Rattle.hearing.specs.declared.Spoken.{Spoken}
use Rattle.hearing.specs.Masks.{mask}
use Rattle.hearing.specs.Surveying.{row_of}
use Rattle.hearing.specs.Counting.{code_of, spoken_in}
use Rattle.hearing.proofs.Leads.{Positive}
use Rattle.hearing.proofs.Counts.{starts, ends, next_below, senders_all, some_senders, turns}
use Rattle.hearing.proofs.count.tally.Goals as goal
use Rattle.hearing.proofs.count.tally.Goals.{After-senders-set, In-loop-left}

-- alpha + 1 votes are more than none
positive : (S : Setup) → Positive (vouched S)
positive S m e = omega (arith, (vouched_iff S m).0 e)

pub loop-left-init : goal.loop-left-init
unfolding spoken_in
loop-left-init c = starts _ _ (positive _) _ _ (ap (λ (s : Spoken). s.senders) c.spoken-spoken.ensures)

-- the sender that is looked at has a place in the row
below : (c : In-loop-left)
    → count_trailing_zeros stations c.loop-left.left < min c.args.s.n stations
below c = next_below c.loop-left.invariant (omega arith) c.loop-left-test.true

-- a turn, with the value and the set that the calls gave: all who sent the value
module _ (c : After-senders-set) where
  codes_are : c.spoken-spoken.result.codes ≡ filled stations (min c.args.s.n stations)
      (λ q. code_of (row_of c.args.cells q)) 0
  unfolding spoken_in
  codes_are = ap (λ (s : Spoken). s.codes) c.spoken-spoken.ensures

  set_is : c.senders-set.result ≡ mask (min c.args.s.n stations)
      (R (row_of c.args.cells) c.value_of-v.result)
  set_is =
      c.senders-set.ensures
      ∙ senders_all c.loop-left.invariant (omega arith) c.loop-left-test.true _ _
      c.value_of-v.ensures codes_are

  some-set : (0 < c.senders-set.result) × (c.senders-set.result ≤ c.loop-left.left)
  some-set =
      some_senders c.loop-left.invariant (omega arith) c.loop-left-test.true _ _
      c.value_of-v.ensures set_is

pub overflow_sub-left : goal.overflow_sub-left
overflow_sub-left c =
    let after_senders = (goal.at.overflow_sub-left c).After-senders-set in
    (some-set after_senders).1

pub loop-left-smaller : goal.loop-left-smaller
loop-left-smaller c =
    let after_senders = (goal.at.loop-left-smaller c).After-senders-set in
    omega (arith, some-set after_senders)

pub loop-left-preserved : goal.loop-left-preserved
loop-left-preserved c =
    let after_senders = (goal.at.loop-left-preserved c).After-senders-set in
    rw (c.with_least-t.ensures, c.with_most.ensures)
    (turns c.loop-left.invariant (omega arith) c.loop-left-test.true _ _
    c.value_of-v.ensures (set_is after_senders) (positive _))

pub returns : goal.returns
returns c = ends c.loop-left.invariant c.loop-left-test.false

-- and so in the array
low : (c : In-loop-left) → count_trailing_zeros stations c.loop-left.left < stations
low c = omega (arith, below c)

pub senders-set-requires : goal.senders-set-requires
senders-set-requires c =
    let in_loop_left = (goal.at.senders-set-requires c).In-loop-left in
    below in_loop_left

pub overflow_cast-q : goal.overflow_cast-q
overflow_cast-q c = let l = low c in search rules

pub offset_bounds-cells-q : goal.offset_bounds-cells-q
offset_bounds-cells-q c = let l = low c in search rules

pub bounds-cells-q : goal.bounds-cells-q
bounds-cells-q c = low c
