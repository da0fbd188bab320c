-- A row counted as the code does it, value by value. That this comes to the row's tally is proved in
-- proofs/Counts.antt.
use Rattle.std.specs.Prelude.{ℕ, ◌+◌, Bool, true, false, ◌&&◌, ◌||◌, cond, Option, None, Some, List, eqb, ltb, get_or}
use Rattle.std.specs.Int.Count.{ones}
use Rattle.paper.specs.Stations.{Stations}
use Rattle.paper.specs.Heard.{val, query, Cell, lost, heard, Row}
use Rattle.run.specs.Run.{stations}
use Rattle.run.specs.Filled.{filled}
use Rattle.hearing.specs.declared.Spoken.{Spoken}
use Rattle.hearing.specs.declared.Tally.{Tally}
use Rattle.hearing.specs.Masks.{mask}

-- one more value, with the set of its senders: it takes the place of the most frequent so far where it came more often,
-- or as often and is smaller
abbrev pub outdoes : Tally → ℕ → ℕ → Bool
outdoes t v set = ltb (ones t.senders) (ones set) || eqb (ones t.senders) (ones set) && ltb v t.value

unfoldable pub with_most : Tally → ℕ → ℕ → Tally
with_most t v set =
    record {
      value = cond (outdoes t v set) v t.value;
      senders = cond (outdoes t v set) set t.senders;
      least = t.least;
    }

-- and that of the smallest that came often enough, where it did too and is smaller
abbrev pub below : ℕ → Option ℕ → Bool
below v None = true
below v (Some u) = ltb v u

abbrev pub undercuts : Tally → ℕ → ℕ → (ℕ → Bool) → Bool
undercuts t v set enough = enough (ones set) && below v t.least

unfoldable pub with_least : Tally → ℕ → ℕ → (ℕ → Bool) → Tally
with_least t v set enough =
    record {
      value = t.value;
      senders = t.senders;
      least = cond (undercuts t v set enough) (Some v) t.least;
    }

-- the value in a cell, 0 where it has none; whether it passes a test; whose values do
abbrev pub value_of : Cell → ℕ
value_of lost = 0
value_of (heard query) = 0
value_of (heard (val v)) = v

abbrev pub passes_in : (ℕ → Bool) → Cell → Bool
passes_in test lost = false
passes_in test (heard query) = false
passes_in test (heard (val v)) = test v

abbrev pub among : (ℕ → Bool) → Row → Stations
among test row q = passes_in test (row q)

abbrev pub any : ℕ → Bool
any v = true

-- a cell's value as a plain number: 0 where it has none
abbrev pub code_of : Cell → ℕ
code_of lost = 0
code_of (heard query) = 0
code_of (heard (val v)) = v + 1

-- the values of a row of n senders, and who sent one
unfoldable pub spoken_in : ℕ → Row → Spoken
unfolding filled mask
spoken_in n row = record { codes = filled stations n (λ q. code_of (row q)) 0; senders = mask n (among any row) }

-- who sent v, by the codes
abbrev pub sent_code : List ℕ → ℕ → Stations
sent_code codes v q = eqb (get_or codes q 0) (v + 1)
