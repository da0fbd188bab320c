-- A tape's two parts: the opening's bytes and the rounds' (rules 13.1 to 13.3).
use Rattle.std.specs.Prelude.{ℕ, List, get_or, take, drop}
use Rattle.run.specs.Opening.{opening_length}

-- where n stands in the setup's record
abbrev pub n_at : ℕ
n_at = 2

-- the bytes that the opening asks for, told from the first record; a tape without a byte 2 is all opening
unfoldable pub opening_size : List ℕ → ℕ
opening_size tape = opening_length (get_or tape n_at 0)

-- what byte 2 can ask for at most
abbrev pub longest_opening : ℕ
longest_opening = opening_length 255

unfoldable pub opening_part : List ℕ → List ℕ
unfolding opening_size
opening_part tape = take (opening_size tape) tape

unfoldable pub rounds_part : List ℕ → List ℕ
unfolding opening_size
rounds_part tape = drop (opening_size tape) tape
