-- `hearing::heard::grown` meets its contract: a flag as a number is 1 or 0, as the definition has it.
use mathlib.Core.Path.{◌≡◌, refl, ap}
use mathlib.Core.Bool.{Bool, true, false}
use Prim.Native.Nat.{ℕ, ◌+◌, ◌*◌, ◌≤◌}
use native.Mathlib.Omega.{arith}
use mir.Val.{bool_byte}
use Rattle.paper.specs.Stations.{one}
use Rattle.hearing.proofs.heard.grown.Goals as goal

flag : (there : Bool) → bool_byte there ≡ one there
unfolding one
flag true = refl
flag false = refl

flag_small : (there : Bool) → bool_byte there ≤ 1
flag_small true = omega arith
flag_small false = omega arith

pub overflow_add-result : goal.overflow_add-result
overflow_add-result c = omega (arith, flag_small c.args.there, c.requires)

pub returns : goal.returns
returns c = ap (λ (k : ℕ). 2 * c.args.set + k) (flag c.args.there)
