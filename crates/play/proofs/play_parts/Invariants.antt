-- `play::play_parts` meets its contract: after each part the answer for the whole tape is the count so far and the
-- answer for the rest from the present run (Parts).
use Rattle.std.proofs.Common.{length}
use Rattle.play.proofs.Parts.{At}
use Rattle.play.proofs.play_parts.Given as goal

abbrev pub invariant-loop-left : goal.invariant-loop-left
invariant-loop-left l = At l.fn.run l.tape l.left l.played

abbrev pub decreases-loop-left : goal.decreases-loop-left
decreases-loop-left l = length l.left
