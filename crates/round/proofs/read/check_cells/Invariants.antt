-- `round::read::check_cells`: the rows passed were all accepted.
use mathlib.Core.Path.{◌≡◌}
use Rattle.run.specs.Reply.{Accepted}
use Rattle.round.specs.Reading.{in_turn, row_part, check_row}
use Rattle.round.proofs.read.check_cells.Given as goal

abbrev pub invariant-loop-p : goal.invariant-loop-p
invariant-loop-p l = in_turn l.p (λ i. check_row l.voting l.n i (row_part l.n l.round i)) ≡ Accepted
