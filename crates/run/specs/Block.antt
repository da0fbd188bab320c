-- Blocks of records, one for each station in order (rules 3.1 and 6.1). A block is told by its first record's place,
-- the number of stations and its kind; openings have one block (the starts) and images four.
use Rattle.std.specs.Prelude.{ℕ, ◌+◌, Bool, true, false, not, ◌&&◌, ◌||◌, List, get_or, eqb}
use Rattle.run.specs.declared.record.Record.{Record}
use Rattle.run.specs.declared.block.Shape.{Shape}
use Rattle.run.specs.declared.block.Shape.TheVariants.{Number, Maybe}
use Rattle.run.specs.Reply.{Reply}
use Rattle.run.specs.Reply.{Malformed}
use Rattle.run.specs.Record.{record_at}
use Rattle.run.specs.First.{first}
use Rattle.run.specs.Filled.{filled}
use Rattle.run.specs.Reply.{refuse_at}
use Rattle.run.specs.Run.{stations}

-- a record of this kind whose byte 1 is i and whose only other part is the number (rule 2.6)
unfoldable pub plain : ℕ → ℕ → ℕ → Record
plain kind i number = record { kind = kind; first = i; second = 0; third = 0; number = number }

unfoldable pub is_plain : ℕ → ℕ → Record → Bool
is_plain kind i r = eqb r.kind kind && eqb r.first i && eqb r.second 0 && eqb r.third 0

-- the record of station i in a block: with its number, or, where the block has records without one, perhaps without
-- (rule 2.8)
unfoldable pub record_of : Shape → ℕ → Bool → ℕ → Record
unfolding plain
record_of (Number kind) i there number = plain kind i number
record_of (Maybe without given) i true number = plain given i number
record_of (Maybe without given) i false number = plain without i 0

unfoldable pub block_fits : Shape → ℕ → Record → Bool
unfolding is_plain
block_fits (Number kind) i r = is_plain kind i r
block_fits (Maybe without given) i r = is_plain given i r || (is_plain without i r && eqb r.number 0)

-- 2 at the first record of the block that is not well formed (rule 2.7)
unfoldable pub check_block : List ℕ → ℕ → ℕ → Shape → Reply
unfolding block_fits
check_block bs start n shape =
    refuse_at (first n (λ i. not (block_fits shape i (record_at bs (start + i))))) (λ i. Malformed (start + i))

-- the numbers of a block, and which of its records are of this kind, as arrays with nothing from n up
unfoldable pub numbers_in : List ℕ → ℕ → ℕ → List ℕ
unfolding filled
numbers_in bs start n = filled stations n (λ i. (record_at bs (start + i)).number) 0

unfoldable pub flags_in : List ℕ → ℕ → ℕ → ℕ → List Bool
unfolding filled
flags_in bs start n kind = filled stations n (λ i. eqb (record_at bs (start + i)).kind kind) false

-- station i's record in the block that two arrays give
abbrev pub block_record : Shape → List Bool → List ℕ → ℕ → Record
block_record shape flags numbers i = record_of shape i (get_or flags i false) (get_or numbers i 0)
