-- `round::read::fill` meets its contract: each turn stores the cell of the next record at its place, which no record
-- before it has.
use mathlib.Core.Path.{◌≡◌, ◌∙◌}
use Prim.Native.Nat.{◌*◌}
use native.Mathlib.Omega.{arith}
use Rattle.round.proofs.Matrices.{filling_none, filling_more, filling_done}
use Rattle.round.proofs.read.fill.Goals as goal

pub loop-k-init : goal.loop-k-init
loop-k-init c = c.lost-matrix.ensures ∙ filling_none _ _

pub loop-k-preserved : goal.loop-k-preserved
loop-k-preserved c =
    let read = rw c.record_at.ensures at c.cell_in.ensures in
    rw (c.loop-k.invariant, c.place.ensures.value) (filling_more _ _ c.loop-k.k _ c.args.size.few (omega arith) read)

pub returns : goal.returns
returns c =
    let done : c.loop-k.k ≡ c.args.size.n * c.args.size.n = omega arith in
    (rw done at c.loop-k.invariant) ∙ filling_done _ _
