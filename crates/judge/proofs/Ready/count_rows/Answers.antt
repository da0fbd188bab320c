-- `judge::Ready::count_rows` meets its contract: each turn's row is accepted, and its sets and count are stored; the first
-- row that is refused gives the refusal.
use mathlib.Core.Path.{◌≡◌, ◌∙◌}
use native.Mathlib.Omega.{arith}
use Rattle.run.proofs.Asked.{stops, handed}
use Rattle.round.specs.Reading.{check_cells}
use Rattle.round.proofs.Turns.{turn_zero, turn_on, turn_returns}
use Rattle.round.proofs.Rows.{row_cells, row_stops}
use Rattle.judge.proofs.Countings.{counted_none, counted_more, counted_refused, counted_done}
use Rattle.judge.proofs.Ready.count_rows.Goals as goal

pub returns-in_err-cells : goal.returns-in_err-cells
unfolding check_cells
returns-in_err-cells c =
    let no = row_stops _ _ _ _ _ c.in_err-cells.ensures c.row_part.ensures in
    handed c.from_residual.ensures
    ∙ counted_refused _ _ _
    (turn_returns _ c.args.self.now.run.now.setup.n _ c.loop-receiver.invariant.0 no (stops no) (omega arith))

pub loop-receiver-preserved : goal.loop-receiver-preserved
loop-receiver-preserved c =
    let read = row_cells _ _ _ _ _ c.in_ok-cells.ensures c.row_part.ensures in (
      turn_on _ _ c.loop-receiver.invariant.0 read.0,
      counted_more _ _ _ _ c.loop-receiver.invariant.1 (omega (arith, c.args.self.now.few)) read.1 c.sets_of-sets.ensures
          c.tally.ensures,
    )

pub returns : goal.returns
unfolding check_cells
returns c =
    let loop = c.loop-receiver in
    let done : loop.receiver ≡ c.args.self.now.run.now.setup.n = omega arith in
    counted_done _ _ _ loop.invariant.1 c.prescribed-sent.ensures done (rw done at loop.invariant.0)

pub loop-receiver-init : goal.loop-receiver-init
loop-receiver-init c = (turn_zero _, counted_none _ _ _ _)
