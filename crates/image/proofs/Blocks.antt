-- Blocks one behind the other: what is said of each block, with the record at which it begins, is proved from block to
-- block. So a block more is an element more of the list.
use mathlib.Core.Path.{◌≡◌, refl, sym, ◌∙◌}
use mathlib.Core.Logic.{◌↔◌}
use mathlib.Core.List.{List, [], ◌∷◌, ◌++◌, append_assoc, append-nil}
use Prim.Native.Nat.{ℕ, ◌+◌, ◌*◌, ◌^◌, ◌<◌, ◌≤◌}
use native.Mathlib.Omega.{arith}
use lib.ListN.{length, drop, length-append, length-drop, drop_of_length-le}
use Rattle.run.specs.declared.Run.{Run}
use Rattle.run.specs.Reply.{Accepted}
use Rattle.run.specs.Number.{base}
use Rattle.run.specs.Record.{record_bytes, record_at, Fits}
use Rattle.run.specs.Written.{written}
use Rattle.run.specs.Run.{station_at}
use Rattle.run.specs.Block.{check_block}
use Rattle.run.proofs.Written.{length_written, written_same, written_add}
use Rattle.run.proofs.Replies.{then_accepted, accepted_then}
use Rattle.run.proofs.Blocks.{
  KindsFit,
  record_of_fits,
  block_fits_record_of,
  check_block_accepted,
  record_at_between,
  put_block_back,
}
use Rattle.image.specs.Image.{Block, station_record, blocks_bytes, check_blocks}
use Rattle.image.specs.Putting.{put_blocks}

-- each block, with the record at which it begins, is so
abbrev pub Each : (ℕ → Block → Type 0) → ℕ → ℕ → List Block → Type 0
Each P n start [] = Unit {0}
Each P n start (b ∷ rest) = P start b × Each P n (start + n) rest

-- the record behind the last block
abbrev pub behind : ℕ → ℕ → List Block → ℕ
behind n start [] = start
behind n start (b ∷ rest) = behind n (start + n) rest

not_before : (n start : ℕ) (bs : List Block) → start ≤ behind n start bs
not_before n start [] = omega arith
not_before n start (b ∷ rest) = omega (arith, not_before n (start + n) rest)

-- ---- checked: all are accepted exactly if each is
abbrev pub Fit : List ℕ → ℕ → ℕ → Block → Type 0
Fit bytes n start b = check_block bytes start n b.shape ≡ Accepted

pub blocks_checked : (bytes : List ℕ) (n start : ℕ) (bs : List Block)
    → (check_blocks bytes start n bs ≡ Accepted) ↔ Each (Fit bytes n) n start bs
unfolding check_blocks
blocks_checked bytes n start [] = (λ e. tt, λ h. refl)
blocks_checked bytes n start (b ∷ rest) = (
  λ e.
      let rest_checked = check_blocks bytes (start + n) n rest in
      let (here, more) = then_accepted (check_block bytes start n b.shape) rest_checked e in
      (here, (blocks_checked bytes n (start + n) rest).0 more),
  λ h.
      accepted_then (check_block bytes start n b.shape) (check_blocks bytes (start + n) n rest) h.0
      ((blocks_checked bytes n (start + n) rest).1 h.1),
)

module _ (run : Run) where
  abbrev n : ℕ
  n = run.setup.n

  -- the block's records are the run's
  abbrev pub Holds : List ℕ → ℕ → Block → Type 0
  Holds bytes start b = (i : ℕ) → i < n → record_at bytes (start + i) ≡ station_record b run i

  -- bytes hold its kinds and numbers
  abbrev pub FitsBytes : ℕ → Block → Type 0
  FitsBytes start b = KindsFit b.shape × ((i : ℕ) → b.number (station_at run i) < 2 ^ 32)

  behind_one : (b : Block) (xs : List ℕ) (start : ℕ) → length xs ≡ record_bytes * start
      → length (xs ++ written n (station_record b run)) ≡ record_bytes * (start + n)
  behind_one b xs start long = rw length-append (omega (arith, length_written n (station_record b run)))

  -- ---- written: how long they are, and where each record stands
  pub length_blocks : (bs : List Block) (xs : List ℕ) (start : ℕ) → length xs ≡ record_bytes * start
      → length (xs ++ blocks_bytes bs run) ≡ record_bytes * behind n start bs
  unfolding blocks_bytes
  length_blocks [] xs start long = rw append-nil long
  length_blocks (b ∷ rest) xs start long =
      rw (← append_assoc xs (written n (station_record b run)) (blocks_bytes rest run))
      (length_blocks rest (xs ++ written n (station_record b run)) (start + n) (behind_one b xs start long))

  pub blocks_hold : n ≤ base → (bs : List Block) (bytes xs : List ℕ) (start : ℕ) → bytes ≡ xs ++ blocks_bytes bs run
      → length xs ≡ record_bytes * start → Each FitsBytes n start bs → Each (Holds bytes) n start bs
  unfolding blocks_bytes
  blocks_hold most [] bytes xs start e long fits = tt
  blocks_hold most (b ∷ rest) bytes xs start e long fits =
      let f = station_record b run in
      let ys = blocks_bytes rest run in
      let split : bytes ≡ xs ++ written n f ++ ys = e ∙ sym (append_assoc xs (written n f) ys) in
      let fit : (i : ℕ) → i < n → Fits (f i)
      = λ i l. record_of_fits b.shape i _ _ fits.0.0 (omega arith) (fits.0.1 i) in (
        λ i l. rw split (record_at_between xs ys start n f long i l (fit i l)),
        blocks_hold most rest bytes (xs ++ written n f) (start + n) split (behind_one b xs start long) fits.1,
      )

  -- what is held is accepted
  pub hold_checked : (bytes : List ℕ) (start : ℕ) (bs : List Block) → Each (Holds bytes) n start bs
      → check_blocks bytes start n bs ≡ Accepted
  hold_checked bytes start bs h = (blocks_checked bytes n start bs).1 (each start bs h)
    where
      each : (at : ℕ) (rest : List Block) → Each (Holds bytes) n at rest
          → Each (Fit bytes n) n at rest
      each at [] h = tt
      each at (b ∷ rest) h = (
        (check_block_accepted bytes at n b.shape).1 (λ i l. rw (h.0 i l) (block_fits_record_of b.shape i _ _)),
        each (at + n) rest h.1,
      )

  -- and is written as the records that are there
  pub hold_written : (bytes : List ℕ) (start : ℕ) (bs : List Block) → Each (Holds bytes) n start bs
      → written start (record_at bytes) ++ blocks_bytes bs run ≡ written (behind n start bs) (record_at bytes)
  unfolding blocks_bytes
  hold_written bytes start [] h = append-nil _
  hold_written bytes start (b ∷ rest) h =
      let f = station_record b run in
      rw (
        ← append_assoc (written start (record_at bytes)) (written n f) (blocks_bytes rest run),
        ← written_same n (λ i. record_at bytes (start + i)) f h.0,
        ← written_add start n (record_at bytes),
      )
      (hold_written bytes (start + n) rest h.1)

  -- ---- put into bytes that end with the last block, they are what these then end with
  pub put_blocks_back : (bs : List Block) (xs rest : List ℕ) (start : ℕ) → length xs ≡ record_bytes * start
      → length xs + length rest ≡ record_bytes * behind n start bs
      → put_blocks bs run start (xs ++ rest) ≡ xs ++ blocks_bytes bs run
  unfolding put_blocks blocks_bytes
  put_blocks_back [] xs rest start long whole =
      let none : rest ≡ [] = drop_of_length-le rest {i = 0} (omega arith) in
      rw none
  put_blocks_back (b ∷ more) xs rest start long whole =
      let f = station_record b run in
      let room : record_bytes * n ≤ length rest = omega (arith, not_before n (start + n) more) in
      let next = behind_one b xs start long in
      rw (put_block_back xs rest start n f long room, ← append_assoc xs (written n f) (blocks_bytes more run))
      (put_blocks_back more (xs ++ written n f) (drop (record_bytes * n) rest) (start + n) next
      (rw (next, length-drop) (omega arith)))
