-- The lowest place at which a test is true: rules 2.7 and 6.5.
use Rattle.std.specs.Prelude.{ℕ, zero, suc, Bool, cond}
use Rattle.std.specs.Prelude.{Option, None, Some}

-- the place found earlier, or else n where the test is true there
abbrev pub or_here : Option ℕ → Bool → ℕ → Option ℕ
or_here None b n = cond b (Some n) None
or_here (Some i) b n = Some i

-- the lowest place below n at which f is true
unfoldable pub first : ℕ → (ℕ → Bool) → Option ℕ
first zero f = None
first (suc n) f = or_here (first n f) (f n) n
