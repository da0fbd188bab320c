-- `round::read::check_cells` meets its contract: the first row that is refused gives the refusal.
use mathlib.Core.Path.{◌≡◌, sym, ◌∙◌}
use native.Mathlib.Omega.{arith}
use Rattle.run.proofs.Asked.{stops, handed}
use Rattle.round.specs.Reading.{check_cells}
use Rattle.round.proofs.Turns.{turn_zero, turn_on, turn_returns}
use Rattle.round.proofs.Rows.{row_cells, row_stops}
use Rattle.round.proofs.read.check_cells.Goals as goal

pub returns-in_err-read_row : goal.returns-in_err-read_row
unfolding check_cells
returns-in_err-read_row c =
    let no = row_stops _ _ _ _ _ c.in_err-read_row.ensures c.row_part.ensures in
    handed c.from_residual.ensures ∙ turn_returns _ c.args.n _ c.loop-p.invariant no (stops no) (omega arith)

pub loop-p-preserved : goal.loop-p-preserved
loop-p-preserved c =
    let read = row_cells _ _ _ _ _ c.in_ok-read_row.ensures c.row_part.ensures in
    turn_on _ _ c.loop-p.invariant read.0

pub returns : goal.returns
unfolding check_cells
returns c =
    let done : c.loop-p.p ≡ c.args.n = omega arith in
    sym (rw done at c.loop-p.invariant)

pub loop-p-init : goal.loop-p-init
loop-p-init c = turn_zero _
