-- `round::read::read_row`: the records passed were all accepted, and their cells are in place, up to the array's end if
-- n goes past it.
use mathlib.Core.Path.{◌≡◌}
use Rattle.run.specs.Reply.{Accepted}
use Rattle.run.specs.Run.{stations}
use Rattle.run.specs.Filled.{filled}
use Rattle.round.specs.ByRow.{cell_read}
use Rattle.round.specs.declared.Cell.TheVariants.{Lost}
use Rattle.round.specs.Reading.{in_turn}
use Rattle.round.proofs.Rows.{said}
use Rattle.round.proofs.read.read_row.Given as goal

abbrev pub invariant-loop-q : goal.invariant-loop-q
invariant-loop-q l =
    (in_turn l.q (said l.voting l.n l.p l.row) ≡ Accepted) × (l.cells ≡ filled stations l.q (cell_read l.row) Lost)
