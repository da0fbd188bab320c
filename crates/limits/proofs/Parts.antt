-- What the inequalities say of a setup's bytes: T and E are below n, and so is alpha, since n + 2 alpha is at most 2E.
use mathlib.Core.Path.{◌≡◌}
use mathlib.Core.Bool.{true}
use Prim.Native.Nat.{◌<◌}
use native.Mathlib.Omega.{arith}
use Rattle.paper.specs.Setup as setup
use Rattle.paper.proofs.Setups.{meets}
use Rattle.limits.specs.declared.Setup.{Setup}
use Rattle.limits.specs.Setup.{setup_of}

pub parts_below : (s : Setup) → setup.acceptable (setup_of s) ≡ true → (s.t < s.n) × (s.e < s.n) × (s.alpha < s.n)
unfolding setup_of
parts_below s ok = let m = meets (setup_of s) ok in omega arith
