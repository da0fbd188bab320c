-- The measure of `play::value_round` and `play::vote_round` is what is left of the tape.
use Rattle.std.proofs.Common.{length}
use Rattle.play.proofs.+rounds_of_u.Given as goal

abbrev pub decreases-value_round : goal.decreases-value_round
decreases-value_round l = length l.tape.now

abbrev pub decreases-vote_round : goal.decreases-vote_round
decreases-vote_round l = length l.tape.now
