-- A part written record by record is read record by record: each record stands behind those before it, 8 bytes each.
use mathlib.Core.Path.{◌≡◌, refl, sym, ◌∙◌}
use mathlib.Core.Logic.{⊎_elim}
use mathlib.Core.List.{List, [], ◌++◌, append_assoc, append-nil}
use Prim.Native.Nat.{ℕ, zero, suc, ◌+◌, ◌*◌, ◌<◌, ◌≤◌}
use native.Mathlib.Nat.{not-suc-le-zero, eq-or-lt_of_le, le_of_suc-le-suc, add-zero, add-suc}
use native.Mathlib.Numerals.{add-one}
use native.Mathlib.Omega.{arith}
use lib.ListN.{length, take, drop, length-append, length-drop, drop_of_length-le}
use lib.Seq.{take_all, take-add, drop-drop}
use Rattle.run.specs.Bytes.{IsBytes}
use Rattle.run.specs.Record.{record_bytes, record_at, bytes_of, put_at, Fits}
use Rattle.run.specs.Written.{written}
use Rattle.run.specs.declared.record.Record.{Record}
use Rattle.run.proofs.Bytes.{bytes_nil, bytes_append}
use Rattle.run.proofs.Records.{
  length_bytes_of,
  bytes_of_bytes,
  record_at_front,
  record_at_back,
  record_at_bytes_of,
  bytes_of_record_at,
  put_at_back,
}

pub written_zero : (f : ℕ → Record) → written 0 f ≡ []
unfolding written
written_zero f = refl

pub written_more : (n : ℕ) (f : ℕ → Record) → written (n + 1) f ≡ written n f ++ bytes_of (f n)
unfolding written
written_more n f = rw add-one

pub length_written : (n : ℕ) (f : ℕ → Record) → length (written n f) ≡ record_bytes * n
unfolding written
length_written zero f = refl
length_written (suc n) f = rw length-append (omega (arith, length_written n f, length_bytes_of (f n)))

pub written_bytes : (n : ℕ) (f : ℕ → Record) → ((i : ℕ) → i < n → Fits (f i)) → IsBytes (written n f)
unfolding written
written_bytes zero f h = bytes_nil
written_bytes (suc n) f h =
    bytes_append (written_bytes n f (λ i l. h i (omega arith))) (bytes_of_bytes (f n) (h n (omega arith)))

record_at_last : (n : ℕ) (f : ℕ → Record) → Fits (f n) → record_at (written n f ++ bytes_of (f n)) n ≡ f n
record_at_last n f h =
    (rw add-zero at (record_at_back (written n f) (bytes_of (f n)) n 0 (length_written n f)))
    ∙ record_at_bytes_of (f n) h

pub record_at_written : (n : ℕ) (f : ℕ → Record) (i : ℕ) → i < n → Fits (f i) → record_at (written n f) i ≡ f i
unfolding written
record_at_written zero f i l h = absurd (not-suc-le-zero l)
record_at_written (suc n) f i l h =
    ⊎_elim (λ q. rw (← q) (record_at_last i f h)) (λ q. record_at_front (written n f) (bytes_of (f n)) i
    (omega (arith, length_written n f)) ∙ record_at_written n f i q h)
    (eq-or-lt_of_le (le_of_suc-le-suc l))

-- bytes are what is written of the records read from them
pub written_take : (n : ℕ) {bs : List ℕ} → IsBytes bs → record_bytes * n ≤ length bs → written n (record_at bs)
    ≡ take (record_bytes * n) bs
unfolding written
written_take zero h l = refl
written_take (suc n) {bs} h l =
    let next : record_bytes * suc n ≡ record_bytes * n + record_bytes = omega arith in
    rw (written_take n h (omega arith), bytes_of_record_at bs n h (omega arith), next)
    (sym (take-add (record_bytes * n) record_bytes bs))

pub written_record_at : (n : ℕ) {bs : List ℕ} → IsBytes bs → length bs ≡ record_bytes * n → written n (record_at bs)
    ≡ bs
written_record_at n {bs} h e = written_take n h (omega arith) ∙ take_all (record_bytes * n) bs (omega arith)

-- a loop that has written k records into e writes the next
pub put_at_written : (k : ℕ) (f : ℕ → Record) (e : List ℕ) → record_bytes * (k + 1) ≤ length e
    → put_at (written k f ++ drop (record_bytes * k) e) k (f k) ≡ written (k + 1) f ++ drop (record_bytes * (k + 1)) e
put_at_written k f e l =
    let next : record_bytes * k + record_bytes ≡ record_bytes * (k + 1) = omega arith in
    put_at_back (written k f) (drop (record_bytes * k) e) k (f k) (length_written k f) (rw length-drop (omega arith))
    ∙ rw (written_more, drop-drop record_bytes (record_bytes * k) e, next)

-- a part written whole leaves nothing of what was there
pub written_whole : (n : ℕ) (f : ℕ → Record) (e : List ℕ) → length e ≡ record_bytes * n
    → written n f ++ drop (record_bytes * n) e
    ≡ written n f
written_whole n f e h =
    let over : length e ≤ record_bytes * n = omega arith in
    rw (drop_of_length-le e, append-nil)

-- functions that agree below n are written alike
pub written_same : (n : ℕ) (f g : ℕ → Record) → ((i : ℕ) → i < n → f i ≡ g i) → written n f ≡ written n g
unfolding written
written_same zero f g h = refl
written_same (suc n) f g h = rw (written_same n f g (λ i l. h i (omega arith)), h n (omega arith))

-- a part written in two goes
pub written_add : (m n : ℕ) (f : ℕ → Record) → written (m + n) f ≡ written m f ++ written n (λ i. f (m + i))
unfolding written
written_add m zero f = simp (add-zero, append-nil)
written_add m (suc n) f = rw (add-suc m n, written_add m n f) (append_assoc (written m f) (written n (λ i. f (m + i)))
    (bytes_of (f (m + n))))
