-- The setup as the judge holds it, in bytes, and the paper's setup that it is (rules 1.5 and 10).
use Rattle.std.specs.Prelude.{ℕ, Bool, cond, eqb}
use Rattle.paper.specs.Setup as setup
use Rattle.limits.specs.declared.Setup.{Setup}
use Rattle.limits.specs.declared.Algorithm.{Algorithm}
use Rattle.limits.specs.declared.Algorithm.TheVariants as case

-- the algorithms' bytes
abbrev pub byte_a : ℕ
byte_a = 1

abbrev pub byte_u : ℕ
byte_u = 2

abbrev pub is_u : Setup → Bool
is_u s = eqb s.algorithm byte_u

abbrev pub algorithm_of : Setup → setup.Algorithm
algorithm_of s = cond (is_u s) setup.U setup.A

-- the algorithm that each case of the enum is
abbrev pub paper_algorithm : Algorithm → setup.Algorithm
paper_algorithm case.A = setup.A
paper_algorithm case.U = setup.U

-- the paper's setup, of a setup whose byte names an algorithm
unfoldable pub setup_of : Setup → setup.Setup
setup_of s = setup.whole (algorithm_of s) s.n s.t s.e s.alpha
