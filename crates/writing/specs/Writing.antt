-- Rounds written from a matrix (rules 4.9 and 12.7).
use Rattle.std.specs.Prelude.{
  ◌≡◌,
  ℕ,
  zero,
  suc,
  ◌*◌,
  ◌/◌,
  ◌%◌,
  ◌^◌,
  ◌<◌,
  Bool,
  true,
  false,
  not,
  ◌&&◌,
  ◌||◌,
  cond,
  List,
  [],
  ◌++◌,
  length,
  eqb,
  ltb,
}
use Rattle.run.specs.Reply.{Reply}
use Rattle.run.specs.Reply.{Malformed, Query, Buffer, Rules}
use Rattle.run.specs.declared.Run.{Run}
use Rattle.run.specs.Reply.{is_accepted, ◌then◌, or_refuse}
use Rattle.run.specs.Run.{stations, sound}
use Rattle.run.specs.Written.{written}
use Rattle.round.specs.declared.Cell.{Cell}
use Rattle.round.specs.declared.Cell.TheVariants as cell
use Rattle.round.specs.declared.Matrix.{Matrix}
use Rattle.round.specs.Cells.{cell_record}
use Rattle.round.specs.Reading.{numbered, cell_of, in_turn, votes_next, cell_number, round_length}

abbrev pub is_query : Cell → Bool
is_query cell.Lost = false
is_query (cell.Value v) = false
is_query cell.Query = true

abbrev pub is_lost : Cell → Bool
is_lost cell.Lost = true
is_lost (cell.Value v) = false
is_lost cell.Query = false

-- what a matrix is if the code holds it: a place for each cell, and every value one of rule 1.3
pub record IsMatrix (m : Matrix) : Type 0 where
  pub places : length m.cells ≡ stations * stations
  pub values : (k v : ℕ) → numbered m k ≡ cell.Value v → v < 2 ^ 32

-- 5 at the first "?" that a record would spell
unfoldable pub check_queries : Bool → ℕ → Matrix → Reply
unfolding in_turn
check_queries voting n m =
    in_turn n (λ p. in_turn n (λ q. or_refuse (voting || not (is_query (cell_of m p q))) (Query (cell_number n p q))))

-- 2 past the last record, for a cell that has no record and isn't lost
unfoldable pub check_outside : ℕ → Matrix → Reply
unfolding in_turn
check_outside n m =
    in_turn (stations * stations)
    (λ k. or_refuse (ltb (k / stations) n && ltb (k % stations) n || is_lost (numbered m k)) (Malformed (n * n)))

-- 10, 5, 2, 9 (rule 12.7)
unfoldable pub check_writing : Run → Matrix → ℕ → Reply
unfolding sound check_queries check_outside
check_writing run m room =
    or_refuse (sound run) (Rules 0) then check_queries (votes_next run) run.setup.n m
    then check_outside run.setup.n m
    then or_refuse (eqb room (round_length run.setup.n)) Buffer

-- the bytes of row p, and of the first k rows
unfoldable pub row_bytes : ℕ → Matrix → ℕ → List ℕ
unfolding written cell_record
row_bytes n m p = written n (λ q. cell_record p q (cell_of m p q))

unfoldable pub rows_bytes : ℕ → ℕ → Matrix → List ℕ
unfolding row_bytes
rows_bytes zero n m = []
rows_bytes (suc k) n m = rows_bytes k n m ++ row_bytes n m k

-- a refusal writes no byte
unfoldable pub write_round : Run → Matrix → List ℕ → List ℕ
unfolding check_writing rows_bytes
write_round run m buffer =
    cond (is_accepted (check_writing run m (length buffer))) (rows_bytes run.setup.n run.setup.n m) buffer
