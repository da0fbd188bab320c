-- Numbers in bytes, over the number of the bytes: the low byte first (rule 2.3).
use Rattle.std.specs.Prelude.{ℕ, zero, suc, ◌+◌, ◌*◌, ◌/◌, ◌%◌, List, [], ◌∷◌}

-- a byte is below this, and two bytes together below its square
abbrev pub base : ℕ
base = 256

abbrev pub two_bytes : ℕ
two_bytes = 65536

-- the number that some bytes are, the lowest first
unfoldable pub number : List ℕ → ℕ
number [] = 0
number (b ∷ bs) = b + base * number bs

-- a number's lowest k bytes, the lowest first
unfoldable pub digits : ℕ → ℕ → List ℕ
digits zero v = []
digits (suc k) v = v % base ∷ digits k (v / base)
