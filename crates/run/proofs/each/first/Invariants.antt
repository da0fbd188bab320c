-- `run::each::first`: no place passed fits, whatever test the calls agree with.
use Rattle.std.proofs.Common.{◌≡◌, ℕ, Bool, ◌<◌}
use Rattle.std.specs.Prelude.{None}
use Rattle.run.specs.First.{first}
use Rattle.run.proofs.each.first.Given as goal

abbrev pub invariant-loop-i : goal.invariant-loop-i
invariant-loop-i g l = (f : ℕ → Bool) → ((i : ℕ) (b : Bool) → i < l.n → goal.F-post g l.test i b → b ≡ f i) → first l.i f ≡ None
