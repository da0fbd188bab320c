-- A record in a list of bytes, read and written (rules 2.1 to 2.3).
use Rattle.std.specs.Prelude.{ℕ, ◌+◌, ◌*◌, ◌/◌, ◌^◌, ◌<◌, Bool, cond, List, ◌∷◌, ◌++◌, length, get_or, take, drop, ltb}
use Rattle.run.specs.Number.{base, number, digits}
use Rattle.run.specs.declared.record.Record.{Record}

-- rule 1.7
abbrev pub record_bytes : ℕ
record_bytes = 8

-- the record of eight zero bytes
abbrev pub blank : Record
blank = record { kind = 0; first = 0; second = 0; third = 0; number = 0 }

-- the record whose bytes stand from a place on
unfoldable pub record_from : List ℕ → ℕ → Record
record_from bs at =
    record {
      kind = get_or bs at 0;
      first = get_or bs (at + 1) 0;
      second = get_or bs (at + 2) 0;
      third = get_or bs (at + 3) 0;
      number = number (take 4 (drop (at + 4) bs));
    }

-- the list holds record i whole
abbrev pub has : List ℕ → ℕ → Bool
has bs i = ltb i (length bs / record_bytes)

-- record i, or a blank one where the list has no such whole record
unfoldable pub record_at : List ℕ → ℕ → Record
record_at bs i = cond (has bs i) (record_from bs (record_bytes * i)) blank

-- a record's eight bytes
unfoldable pub bytes_of : Record → List ℕ
bytes_of r = r.kind ∷ r.first ∷ r.second ∷ r.third ∷ digits 4 r.number

-- the list with record i replaced, where it has one
unfoldable pub put_at : List ℕ → ℕ → Record → List ℕ
put_at bs i r =
    cond (has bs i) (take (record_bytes * i) bs ++ bytes_of r ++ drop (record_bytes * i + record_bytes) bs) bs

-- the fields are ones that a record's bytes can hold
pub record Fits (r : Record) : Type 0 where
  pub kind : r.kind < base
  pub first : r.first < base
  pub second : r.second < base
  pub third : r.third < base
  pub number : r.number < 2 ^ 32
