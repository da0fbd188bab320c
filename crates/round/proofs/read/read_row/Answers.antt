-- `round::read::read_row` meets its contract: each turn's record is accepted and its cell put in place, and the first
-- that is refused gives the refusal.
use mathlib.Core.Path.{◌≡◌, sym, ◌∙◌}
use native.Mathlib.Omega.{arith}
use Rattle.run.specs.Run.{stations}
use Rattle.run.proofs.Filled.{filled_none, filled_more}
use Rattle.run.proofs.Asked.{handed}
use Rattle.round.specs.declared.Cell.TheVariants.{Lost}
use Rattle.round.proofs.Turns.{turn_zero, turn_on}
use Rattle.round.proofs.Rows.{filled_over, row_refused, row_read}
use Rattle.round.proofs.read.read_row.Goals as goal
use Rattle.round.proofs.read.read_row.Goals.{then-at-lt-STATIONS, else-at-lt-STATIONS}

pub returns-in_err-check_cell : goal.returns-in_err-check_cell
returns-in_err-check_cell c =
    let no = rw c.record_at-r.ensures at c.in_err-check_cell.ensures in
    handed c.from_residual.ensures ∙ row_refused _ _ _ _ c.loop-q.q c.loop-q.invariant.0 no (omega arith)

pub loop-q-preserved : goal.loop-q-preserved
loop-q-preserved c =
    let r = c.record_at-r.ensures in (
      turn_on _ _ c.loop-q.invariant.0 (sym (rw r at c.in_ok-check_cell.ensures)),
      elim c.if-at-lt-STATIONS.branch [
        | then-at-lt-STATIONS w ↦ w.cells-is ∙ rw (w.cell_in.ensures, c.loop-q.invariant.1, r)
            (filled_more stations _ _ Lost (omega arith))
        | else-at-lt-STATIONS w ↦ w.cells-is ∙ c.loop-q.invariant.1 ∙ filled_over stations _ _ Lost (omega arith)
      ],
    )

pub returns : goal.returns
returns c =
    let done : c.loop-q.q ≡ c.args.n = omega arith in
    row_read _ _ _ _ _ (rw done at c.loop-q.invariant.0) (rw done at c.loop-q.invariant.1)

pub loop-q-init : goal.loop-q-init
loop-q-init c = (turn_zero _, sym (filled_none stations _ Lost))
