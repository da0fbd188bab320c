-- What a list of numbers is if a slice of bytes holds it.
use Rattle.std.specs.Prelude.{ℕ, ◌<◌, List, get_or}
use Rattle.run.specs.Number.{base}

-- every element is a byte; past its end a list reads as 0
pub record IsBytes (bs : List ℕ) : Type 0 where
  pub below : (i : ℕ) → get_or bs i 0 < base
