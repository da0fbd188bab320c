-- Rounds read: their form (rules 4.2 to 4.8), and the order of the checks (rule 12.5).
use Rattle.std.specs.Prelude.{
  ℕ,
  zero,
  suc,
  ◌+◌,
  ◌*◌,
  ◌/◌,
  ◌%◌,
  Bool,
  ◌&&◌,
  cond,
  List,
  length,
  get_or,
  take,
  drop,
  replicate,
  eqb,
  ltb,
  Result,
  Ok,
  Err,
}
use Rattle.run.specs.declared.reply.Refusal.{Refusal}
use Rattle.run.specs.Reply.{Reply}
use Rattle.run.specs.Reply.{Accepted, Length, Rules}
use Rattle.run.specs.declared.Run.{Run}
use Rattle.run.specs.Record.{record_bytes, record_at}
use Rattle.run.specs.Reply.{is_accepted, ◌then◌, or_refuse}
use Rattle.run.specs.Run.{stations, may_vote, sound}
use Rattle.run.specs.Filled.{tabulate}
use Rattle.round.specs.declared.Cell.{Cell}
use Rattle.round.specs.declared.Cell.TheVariants.{Lost}
use Rattle.round.specs.declared.Matrix.{Matrix}
use Rattle.round.specs.declared.Reading.{Reading}
use Rattle.round.specs.Cells.{cell_in, check_cell}

-- the first refusal of f 0, f 1, .., f (n - 1)
unfoldable pub in_turn : ℕ → (ℕ → Reply) → Reply
in_turn zero f = Accepted
in_turn (suc n) f = in_turn n f then f n

-- the round that the run waits for is a vote round: U with an odd clock (rule 4.2)
abbrev pub votes_next : Run → Bool
votes_next run = may_vote run.setup run.clock

-- the row of receiver p (rule 4.4)
unfoldable pub row_part : ℕ → List ℕ → ℕ → List ℕ
row_part n bs p = take (record_bytes * n) (drop (record_bytes * n * p) bs)

-- the number of the record of receiver p and sender q (rule 4.3)
abbrev pub cell_number : ℕ → ℕ → ℕ → ℕ
cell_number n p q = n * p + q

-- the row of receiver p, record by record
unfoldable pub check_row : Bool → ℕ → ℕ → List ℕ → Reply
unfolding in_turn check_cell
check_row voting n p row = in_turn n (λ q. check_cell voting (cell_number n p q) p q (record_at row q))

unfoldable pub check_cells : Bool → ℕ → List ℕ → Reply
unfolding in_turn check_row row_part
check_cells voting n bs = in_turn n (λ p. check_row voting n p (row_part n bs p))

abbrev pub round_length : ℕ → ℕ
round_length n = record_bytes * n * n

-- what is said of a round that is to be read: 10, 1, then its records in turn (rule 12.5)
unfoldable pub check_reading : Run → List ℕ → Reply
unfolding sound check_cells
check_reading run bs =
    or_refuse (sound run) (Rules 0) then or_refuse (eqb (length bs) (round_length run.setup.n)) Length
    then check_cells (votes_next run) run.setup.n bs

-- the cells that a round of n stations spells: cell (p, q), lost outside n by n
unfoldable pub cells : ℕ → List ℕ → ℕ → ℕ → Cell
unfolding cell_in row_part
cells n bs p q = cond (ltb p n && ltb q n) (cell_in (record_at (row_part n bs p) q)) Lost

-- the matrix with these cells (rule 4.7)
unfoldable pub matrix_of : (ℕ → ℕ → Cell) → Matrix
unfolding tabulate
matrix_of f = record { cells = tabulate (stations * stations) (λ k. f (k / stations) (k % stations)) }

-- cell number k, and cell (p, q), of a matrix
abbrev pub numbered : Matrix → ℕ → Cell
numbered m k = get_or m.cells k Lost

abbrev pub cell_of : Matrix → ℕ → ℕ → Cell
cell_of m p q = numbered m (stations * p + q)

-- row p of a matrix, as an array (rule 4.8); lost where there is no such row
unfoldable pub cells_of_row : Matrix → ℕ → List Cell
unfolding tabulate
cells_of_row m p = tabulate stations (λ q. get_or m.cells (stations * p + q) Lost)

abbrev pub all_lost : Matrix
all_lost = record { cells = replicate (stations * stations) Lost }

-- what a reading answers: the matrix, all lost where the round is refused (rule 12.5)
abbrev pub reading_of : Result Matrix Refusal → Reading
reading_of (Ok m) = record { reply = Accepted; matrix = m }
reading_of (Err r) = record { reply = Err r; matrix = all_lost }

-- the matrix of a round that is read, all lost where it is refused (rule 12.5)
unfoldable pub read_round : Run → List ℕ → Reading
unfolding check_reading matrix_of cells
read_round run bs =
    record {
      reply = check_reading run bs;
      matrix = cond (is_accepted (check_reading run bs)) (matrix_of (cells run.setup.n bs)) all_lost;
    }
