-- `hearing::surveys::survey_rows` meets its contract: each turn stores the sets of the matrix's next row, up to the
-- array's end if n goes past it.
use mathlib.Core.Path.{◌≡◌}
use Rattle.run.specs.Run.{stations}
use Rattle.run.specs.Filled.{filled}
use Rattle.hearing.specs.Surveying.{matrix_sets}
use Rattle.hearing.proofs.surveys.survey_rows.Given as goal

abbrev pub invariant-loop-p : goal.invariant-loop-p
invariant-loop-p l =
    (l.ho ≡ filled stations l.p (λ i. (matrix_sets l.n l.sent l.matrix i).ho) 0)
    × (l.sho ≡ filled stations l.p (λ i. (matrix_sets l.n l.sent l.matrix i).sho) 0)
