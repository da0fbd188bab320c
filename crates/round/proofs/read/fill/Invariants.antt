-- `round::read::fill`: the records passed have their cells in place.
use mathlib.Core.Path.{◌≡◌}
use Rattle.round.specs.Reading.{matrix_of}
use Rattle.round.proofs.Matrices.{so_far}
use Rattle.round.proofs.read.fill.Given as goal

abbrev pub invariant-loop-k : goal.invariant-loop-k
invariant-loop-k l = l.matrix ≡ matrix_of (so_far l.size.n l.round l.k)
