-- The kinds of records, by the names that the header has for them (rule 2.4).
use Rattle.std.specs.Prelude.{ℕ}

-- openings
abbrev pub SETUP : ℕ
SETUP = 1

abbrev pub DEFAULT : ℕ
DEFAULT = 2

abbrev pub START : ℕ
START = 3

-- rounds
abbrev pub HEARD : ℕ
HEARD = 4

abbrev pub HEARD_QUERY : ℕ
HEARD_QUERY = 5

abbrev pub LOST : ℕ
LOST = 6

-- images
abbrev pub CLOCK : ℕ
CLOCK = 8

abbrev pub ESTIMATE : ℕ
ESTIMATE = 9

abbrev pub NO_VOTE : ℕ
NO_VOTE = 10

abbrev pub VOTE : ℕ
VOTE = 11

abbrev pub UNDECIDED : ℕ
UNDECIDED = 12

abbrev pub DECIDED : ℕ
DECIDED = 13

abbrev pub DECISION_ROUND : ℕ
DECISION_ROUND = 14
