-- The one promise that is not of the form "the answer is this definition": an enum's case is told by the paper's
-- algorithm, which its two cases have apart.
use mathlib.Core.Path.{◌≡◌, refl}
use Prim.Native.Nat.{ℕ}
use native.Mathlib.Omega.{arith}
use Rattle.paper.specs.Setup as setup
use Rattle.limits.specs.declared.Algorithm.{Algorithm}
use Rattle.limits.specs.declared.Algorithm.TheVariants as case
use Rattle.limits.specs.Setup.{paper_algorithm}

pub one_algorithm : (x y : Algorithm) (a : setup.Algorithm) → paper_algorithm x ≡ a → paper_algorithm y ≡ a → x ≡ y
one_algorithm case.A case.A a p q = refl
one_algorithm case.A case.U a p q = let z : ◌≡◌ {A = ℕ} 0 1 = cc in absurd (omega arith)
one_algorithm case.U case.A a p q = let z : ◌≡◌ {A = ℕ} 0 1 = cc in absurd (omega arith)
one_algorithm case.U case.U a p q = refl
