-- `hearing::count::tally` meets its contract: the values still to come are those that pass a test P, and are struck
-- from the row that is counted so far. Each turn takes the value of the lowest sender left; at the end none is left, so
-- that the row is whole.
use Prim.Native.Nat.{min}
use Rattle.paper.specs.Setup.{vouched}
use Rattle.limits.specs.Setup.{setup_of}
use Rattle.run.specs.Run.{stations}
use Rattle.hearing.specs.Surveying.{row_of}
use Rattle.hearing.proofs.Counts.{Counted}
use Rattle.hearing.proofs.count.tally.Given as goal

abbrev pub invariant-loop-left : goal.invariant-loop-left
invariant-loop-left l =
    Counted (min l.n stations) (vouched (setup_of l.s)) (row_of l.cells) l.left l.t

abbrev pub decreases-loop-left : goal.decreases-loop-left
decreases-loop-left l = l.left
