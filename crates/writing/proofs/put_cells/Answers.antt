-- `writing::put_cells` meets its contract: each turn writes the next record behind those before it.
use mathlib.Core.Path.{◌≡◌, refl, ◌∙◌}
use Prim.Native.Nat.{◌*◌}
use native.Mathlib.Nat.{mul_assoc}
use native.Mathlib.Omega.{arith}
use Rattle.run.specs.Record.{record_bytes}
use Rattle.run.proofs.Written.{written_zero, put_at_written, written_whole}
use Rattle.writing.proofs.Writings.{record_number, record_made, round_written}
use Rattle.writing.proofs.put_cells.Goals as goal

pub loop-k-preserved : goal.loop-k-preserved
loop-k-preserved c =
    let n = c.args.size.n in
    let m = c.args.matrix in (
      c.put_record.ensures
          ∙ rw (record_made n m c.loop-k.k c.place.ensures.value c.cell_record.ensures, c.loop-k.invariant.0)
          (put_at_written c.loop-k.k (record_number n m) _ (omega (arith, mul_assoc record_bytes n n))),
      c.put_record.auto.bytes ∙ c.loop-k.invariant.1,
    )

pub returns : goal.returns
returns c =
    let n = c.args.size.n in
    let done : c.loop-k.k ≡ n * n = omega arith in
    (rw done at c.loop-k.invariant.0) ∙ written_whole (n * n) _ _ (omega (arith, mul_assoc record_bytes n n))
    ∙ round_written _ _

pub loop-k-init : goal.loop-k-init
loop-k-init c = (rw written_zero, refl)
