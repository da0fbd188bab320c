-- `hearing::surveys::survey_rows` meets its contract: each turn stores the sets of the matrix's next row, up to the
-- array's end if n goes past it.
use mathlib.Core.Path.{◌≡◌, sym}
use Prim.Native.Nat.{min}
use native.Mathlib.Omega.{arith}
use Rattle.run.specs.Run.{stations}
use Rattle.run.proofs.Filled.{filled_none, filled_more}
use Rattle.hearing.specs.Surveying.{matrix_sets}
use Rattle.hearing.proofs.Surveyed.{surveyed_all}
use Rattle.hearing.proofs.surveys.survey_rows.Goals as goal

pub loop-p-preserved : goal.loop-p-preserved
unfolding matrix_sets
loop-p-preserved c =
    let loop = c.loop-p in
    let found = c.sets_of-sets.ensures in
    let row = c.row.ensures in (
      rw (loop.invariant.0, found, row) (filled_more stations _ _ 0 (omega arith)),
      rw (loop.invariant.1, found, row) (filled_more stations _ _ 0 (omega arith)),
    )

pub returns : goal.returns
returns c =
    let n = c.args.n in
    let done : c.loop-p.p ≡ min n stations = omega arith in
    surveyed_all _ _ _ _ done c.loop-p.invariant.0 c.loop-p.invariant.1

pub loop-p-init : goal.loop-p-init
loop-p-init c = (sym (filled_none stations _ 0), sym (filled_none stations _ 0))

pub overflow_cast-p : goal.overflow_cast-p
overflow_cast-p c = omega arith
