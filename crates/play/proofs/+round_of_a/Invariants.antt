-- The measure of `play::round_of_a` is what is left of the tape.
use Rattle.std.proofs.Common.{length}
use Rattle.play.proofs.+round_of_a.Given as goal

abbrev pub decreases-round_of_a : goal.decreases-round_of_a
decreases-round_of_a l = length l.tape.now
