-- Rounds there and back: a matrix that can be written is read again as it was, and a round that is read is written
-- again byte by byte, since a cell and its record spell each other and the records stand in order.
use mathlib.Core.Path.{◌≡◌, refl, ap, sym, ◌∙◌}
use mathlib.Core.Bool.{Bool, true, false}
use mathlib.Core.List.{List}
use Prim.Native.Nat.{ℕ, ◌*◌, ◌/◌, ◌%◌, ◌<◌, ◌≤◌}
use native.Mathlib.Nat.{mul_assoc}
use native.Mathlib.Omega.{arith}
use borrow.Author.Tests.{ne_eqb, eqb-true, ltb-true, ltb-false}
use lib.Dec.{eqb, ltb}
use lib.ListN.{length}
use Rattle.run.specs.Reply.{Accepted}
use Rattle.run.specs.declared.Run.{Run}
use Rattle.run.specs.declared.record.Record.{Record}
use Rattle.run.specs.Bytes.{IsBytes}
use Rattle.run.specs.Record.{record_bytes, record_at, Fits}
use Rattle.run.specs.Run.{stations}
use Rattle.run.proofs.Written.{length_written, record_at_written, written_record_at, written_same}
use Rattle.round.specs.declared.Cell.TheVariants as cell
use Rattle.round.specs.declared.Matrix.{Matrix}
use Rattle.round.specs.Cells.{cell_record, cell_fits, cell_in}
use Rattle.round.specs.Reading.{votes_next, cell_of, cell_number, round_length, check_reading, cells, matrix_of}
use Rattle.round.specs.Reading.{read_round}
use Rattle.writing.specs.Writing.{is_query, IsMatrix, check_writing, rows_bytes, write_round}
use Rattle.round.proofs.Places.{receiver_of, sender_of, number_of, number_below, receiver_below, sender_below}
use Rattle.round.proofs.Matrices.{matrix_same, cell_of_matrix, matrix_again, cell_inside, cell_outside}
use Rattle.round.proofs.Spelling.{cell_record_in, cell_record_fits, cell_record_bytes, query_record, cell_in_record}
use Rattle.round.proofs.Readings.{few_stations, reading_accepted, reading_done, reading_matrix}
use Rattle.writing.proofs.Writings.{record_number, round_written, writing_iff, writing_done}

-- ---- a record that spells "?"
query_kind : (r : Record) → is_query (cell_in r) ≡ eqb r.kind 5
unfolding cell_in
query_kind r = go (eqb r.kind 4) (eqb r.kind 5) refl refl
  where
    go : (s t : Bool) → eqb r.kind 4 ≡ s → eqb r.kind 5 ≡ t → is_query (cell_in r) ≡ eqb r.kind 5
    go true t e f = let four : r.kind ≡ 4 = eqb-true r.kind 4 e in rw (e, ne_eqb r.kind 5 (omega arith))
    go false true e f = rw (e, f)
    go false false e f = rw (e, f)

pub query_in : (r : Record) → cell_in r ≡ cell.Query → r.kind ≡ 5
query_in r e = eqb-true r.kind 5 (sym (query_kind r) ∙ ap is_query e)

-- ---- reading what was written
module _ (n : ℕ) (m : Matrix) (small : n ≤ stations) (holds : IsMatrix m) where
  written_length : length (rows_bytes n n m) ≡ round_length n
  written_length =
      ap length (sym (round_written n m)) ∙ length_written (n * n) (record_number n m)
      ∙ sym (mul_assoc record_bytes n n)

  number_fits : (k : ℕ) → k < n * n → Fits (record_number n m k)
  number_fits k l =
      let receiver : k / n < n = receiver_below n k l in
      let sender : k % n < n = sender_below n k l in
      cell_record_bytes (k / n) (k % n) _ (omega arith) (omega arith) (λ v e. holds.values _ v e)

  -- record (p, q) is that of the matrix's cell
  written_record : (p q : ℕ) → p < n → q < n
      → record_at (rows_bytes n n m) (cell_number n p q) ≡ cell_record p q (cell_of m p q)
  written_record p q lp lq =
      let below = number_below n p q lp lq in
      rw (
        ← round_written n m,
        record_at_written (n * n) (record_number n m) (cell_number n p q) below
            (number_fits _ below),
        receiver_of n p q lq,
        sender_of n p q lq,
      )

  -- so the round's cells are the matrix's, if that is lost outside n by n
  written_cells : ((p q : ℕ) → p < stations → q < stations → (p < n → q < n → ⊥) → cell_of m p q ≡ cell.Lost)
      → (p q : ℕ) → p < stations → q < stations → cells n (rows_bytes n n m) p q ≡ cell_of m p q
  written_cells lost p q lp lq = go (ltb p n) (ltb q n) refl refl
    where
      out : (p < n → q < n → ⊥) → cells n (rows_bytes n n m) p q ≡ cell_of m p q
      out o = cell_outside n (rows_bytes n n m) p q o ∙ sym (lost p q lp lq o)

      go : (s t : Bool) → ltb p n ≡ s → ltb q n ≡ t → cells n (rows_bytes n n m) p q ≡ cell_of m p q
      go true true e f =
          let ip = ltb-true p n e in
          let iq = ltb-true q n f in
          cell_inside n (rows_bytes n n m) p q ip iq
          ∙ rw (written_record p q ip iq) (cell_record_in p q (cell_of m p q))
      go true false e f = let above : n ≤ q = ltb-false q n f in out (λ ip iq. omega arith)
      go false t e f = let above : n ≤ p = ltb-false p n e in out (λ ip iq. omega arith)

-- the bytes of a matrix that can be written are read as that matrix
bytes_read : (run : Run) (m : Matrix) (room : ℕ) → IsMatrix m → check_writing run m room ≡ Accepted
    → read_round run (rows_bytes run.setup.n run.setup.n m) ≡ record { reply = Accepted; matrix = m }
bytes_read run m room holds e =
    let (good, queries, lost, fits) = (writing_iff run m room).0 e in
    let n = run.setup.n in
    let small = few_stations run good in
    let bs = rows_bytes n n m in
    let spells : (p q : ℕ) → p < n → q < n → (cell_fits p q (record_at bs (cell_number n p q)) ≡ true)
    × ((record_at bs (cell_number n p q)).kind ≡ 5 → votes_next run ≡ true)
    =
    λ p q lp lq. rw (written_record n m small holds p q lp lq)
    (cell_record_fits p q (cell_of m p q), λ five. queries p q lp lq (query_record p q _ five)) in
    let accepted = (reading_accepted run bs).1 (good, written_length n m small holds, spells) in
    sym (reading_done run bs (sym accepted) accepted
    (matrix_again m holds.places ∙ matrix_same _ _
    (λ p q lp lq. sym (written_cells n m small holds lost p q lp lq))))

-- so a buffer that was written is read again (rule 4.10)
pub written_read : (run : Run) (m : Matrix) (buffer : List ℕ) → IsMatrix m
    → check_writing run m (length buffer) ≡ Accepted
    → read_round run (write_round run m buffer) ≡ record { reply = Accepted; matrix = m }
written_read run m buffer holds e = rw (← writing_done run m buffer e) (bytes_read run m (length buffer) holds e)

-- ---- writing what was read
-- the matrix that is read
abbrev matrix_in : Run → List ℕ → Matrix
matrix_in run bs = matrix_of (cells run.setup.n bs)

module _ (run : Run) (bs : List ℕ) (e : check_reading run bs ≡ Accepted) where
  read_matrix : (read_round run bs).matrix ≡ matrix_in run bs
  read_matrix = reading_matrix run bs refl e

  -- it can be written
  read_writable : (room : ℕ) → room ≡ round_length run.setup.n
      → check_writing run (matrix_in run bs) room ≡ Accepted
  read_writable room fits =
      let (good, long, spells) = (reading_accepted run bs).0 e in
      let n = run.setup.n in
      let small = few_stations run good in
      (writing_iff run (matrix_in run bs) room).1 (
        good,
        λ p q lp lq query.
            (spells p q lp lq).1
            (query_in (record_at bs (cell_number n p q))
            (sym (cell_inside n bs p q lp lq) ∙ sym (cell_of_matrix (cells n bs) p q (omega arith) (omega arith))
            ∙ query)),
        λ p q lp lq out. cell_of_matrix (cells n bs) p q lp lq ∙ cell_outside n bs p q out,
        fits,
      )

  -- each of its records is the round's
  read_record : (k : ℕ) → k < run.setup.n * run.setup.n
      → record_number run.setup.n (matrix_in run bs) k ≡ record_at bs k
  read_record k l =
      let (good, long, spells) = (reading_accepted run bs).0 e in
      let n = run.setup.n in
      let small = few_stations run good in
      let receiver = receiver_below n k l in
      let sender = sender_below n k l in
      let fits = (spells (k / n) (k % n) receiver sender).0 in
      rw (
        cell_of_matrix (cells n bs) (k / n) (k % n) (omega arith) (omega arith),
        cell_inside n bs (k / n) (k % n) receiver sender,
      )
      (cell_in_record (k / n) (k % n) (record_at bs (cell_number n (k / n) (k % n))) fits ∙ rw (number_of n k))

  module _ (bytes : IsBytes bs) where
    pub read_written : rows_bytes run.setup.n run.setup.n (read_round run bs).matrix ≡ bs
    read_written =
        let n = run.setup.n in
        let long = ((reading_accepted run bs).0 e).1 in
        rw (read_matrix, ← round_written n (matrix_in run bs))
        (written_same (n * n) (record_number n (matrix_in run bs)) (record_at bs) read_record
        ∙ written_record_at (n * n) bytes (long ∙ mul_assoc record_bytes n n))

    pub read_written_into : (buffer : List ℕ) → length buffer ≡ length bs
        → write_round run (read_round run bs).matrix buffer ≡ bs
    read_written_into buffer same =
        let long = ((reading_accepted run bs).0 e).1 in
        rw read_matrix (sym (writing_done run (matrix_in run bs) buffer (read_writable (length buffer) (same ∙ long))))
        ∙ read_written
