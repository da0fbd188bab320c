-- `writing::put_cells`: the records passed are written, and the bytes behind them are as they were.
use mathlib.Core.Path.{◌≡◌}
use mathlib.Core.List.{◌++◌}
use Prim.Native.Nat.{◌*◌}
use lib.ListN.{length, drop}
use Rattle.run.specs.Record.{record_bytes}
use Rattle.run.specs.Written.{written}
use Rattle.writing.proofs.Writings.{record_number}
use Rattle.writing.proofs.put_cells.Given as goal

abbrev pub invariant-loop-k : goal.invariant-loop-k
invariant-loop-k l =
    (l.out ≡ written l.k (record_number l.size.n l.matrix) ++ drop (record_bytes * l.k) l.initial.out)
    × (length l.out ≡ length l.initial.out)
