-- A record in a list is its eight bytes: what reads the same bytes reads the same record, and what is written is read
-- again. The code's reads and stores, byte by byte, are those eight.
use mathlib.Core.Path.{◌≡◌, refl, ap, sym, ◌∙◌}
use mathlib.Core.Bool.{Bool, true, false, cond}
use mathlib.Core.List.{List, [], ◌∷◌, ◌++◌}
use Prim.Native.Nat.{ℕ, suc, ◌+◌, ◌*◌, ◌/◌, ◌<◌, ◌≤◌}
use native.Mathlib.Nat.{add_assoc, add-zero}
use native.Mathlib.Numerals.{add-one, add-two, add-three, add-four, add_five, add_six, add_seven}
use native.Mathlib.Omega.{arith}
use borrow.Author.Tests.{lt-ltb, le-ltb, ltb-true}
use lib.Dec.{ltb}
use lib.ListN.{length, get_or, take, drop, set, length-take, length-drop, length-append}
use lib.Seq.{take_all, get_or-take, get_or-drop, take_at, drop_at, drop-cons, drop-drop, sets-eq}
use Rattle.run.specs.Number.{base, number, digits}
use Rattle.run.specs.Bytes.{IsBytes}
use Rattle.run.specs.Record.{record_bytes, has, blank, record_from, record_at, bytes_of, put_at, Fits}
use Rattle.run.specs.declared.record.Record.{Record}
use Rattle.run.proofs.Bytes.{bytes_cons, bytes_take, bytes_drop}
use Rattle.run.proofs.Number.{
  number_four,
  number_same,
  number_digits,
  digits_number,
  length_digits,
  digits_bytes,
}

-- ---- where the list has the record, and where it has not
pub record_at_in : (bs : List ℕ) (i : ℕ) → i < length bs / record_bytes → record_at bs i
    ≡ record_from bs (record_bytes * i)
unfolding record_at
record_at_in bs i h = rw (lt-ltb i (length bs / record_bytes) h)

pub record_at_out : (bs : List ℕ) (i : ℕ) → length bs / record_bytes ≤ i → record_at bs i ≡ blank
unfolding record_at
record_at_out bs i h = rw (le-ltb i (length bs / record_bytes) h)

pub put_at_in : (bs : List ℕ) (i : ℕ) (r : Record) → i < length bs / record_bytes
    → put_at bs i r ≡ take (record_bytes * i) bs ++ bytes_of r ++ drop (record_bytes * i + record_bytes) bs
unfolding put_at
put_at_in bs i r h = rw (lt-ltb i (length bs / record_bytes) h)

pub put_at_out : (bs : List ℕ) (i : ℕ) (r : Record) → length bs / record_bytes ≤ i → put_at bs i r ≡ bs
unfolding put_at
put_at_out bs i r h = rw (le-ltb i (length bs / record_bytes) h)

-- ---- what the code reads and stores, byte by byte
pub reads_record : (bs : List ℕ) (i n : ℕ) → i < length bs / record_bytes
    → n ≡ get_or bs (record_bytes * i + 4) 0 + base * (get_or bs (record_bytes * i + 5) 0 + base *
    (get_or bs (record_bytes * i + 6) 0 + base * get_or bs
    (record_bytes * i + 7) 0))
    → ◌≡◌ {A = Record}
    (record {
      kind = get_or bs (record_bytes * i) 0;
      first = get_or bs (record_bytes * i + 1) 0;
      second = get_or bs (record_bytes * i + 2) 0;
      third = get_or bs (record_bytes * i + 3) 0;
      number = n;
    })
    (record_at bs i)
unfolding record_from
reads_record bs i n h e = rw (record_at_in bs i h, e, number_four bs (record_bytes * i + 4)) (simp add_assoc)

pub stores_record : (bs : List ℕ) (i : ℕ) (r : Record) (a b c d : ℕ) → i < length bs / record_bytes
    → a ∷ b ∷ c ∷ d ∷ [] ≡ digits 4 r.number
    → set
    (set
    (set
    (set
    (set (set (set (set bs (record_bytes * i) r.kind) (record_bytes * i + 1) r.first) (record_bytes * i + 2)
    r.second) (record_bytes * i + 3) r.third)
    (record_bytes * i + 4)
    a)
    (record_bytes * i + 5)
    b)
    (record_bytes * i + 6)
    c)
    (record_bytes * i + 7)
    d
    ≡ put_at bs i r
unfolding bytes_of
stores_record bs i r a b c d h e =
    rw (
      put_at_in bs i r h,
      ← e,
      add-one (record_bytes * i),
      add-two (record_bytes * i),
      add-three (record_bytes * i),
      add-four (record_bytes * i),
      add_five (record_bytes * i),
      add_six (record_bytes * i),
      add_seven (record_bytes * i),
    )
    (sets-eq (r.kind ∷ r.first ∷ r.second ∷ r.third ∷ a ∷ b ∷ c ∷ d ∷ []) bs (record_bytes * i) (omega arith))

-- ---- the same bytes are the same record, so a record is found in a part as in the whole
test_same : (a b c d : ℕ) → (a < b → c < d) → (c < d → a < b) → ltb a b ≡ ltb c d
test_same a b c d there back = go (ltb a b) (ltb c d) refl refl
  where
    go : (s t : Bool) → ltb a b ≡ s → ltb c d ≡ t → ltb a b ≡ ltb c d
    go true t p q = p ∙ sym (lt-ltb c d (there (ltb-true a b p)))
    go false true p q = lt-ltb a b (back (ltb-true c d q)) ∙ sym q
    go false false p q = p ∙ sym q

pub record_at_same : (xs bs : List ℕ) (i j : ℕ) → (i < length xs / record_bytes → j < length bs / record_bytes)
    → (j < length bs / record_bytes → i < length xs / record_bytes)
    → ((k : ℕ) → k < record_bytes → get_or xs (record_bytes * i + k) 0 ≡ get_or bs (record_bytes * j + k) 0)
    → record_at xs i ≡ record_at bs j
unfolding record_at record_from
record_at_same xs bs i j there back h =
    let kind : get_or xs (record_bytes * i) 0 ≡ get_or bs (record_bytes * j) 0 = simp add-zero at (h 0 (omega arith)) in
    let number : number (take 4 (drop (record_bytes * i + 4) xs)) ≡ number (take 4 (drop (record_bytes * j + 4) bs))
    = number_same 4 (record_bytes * i + 4) (record_bytes * j + 4) xs bs
    (λ k l. simp add_assoc (h (4 + k) (omega arith))) in
    rw (test_same _ _ _ _ there back, kind, h 1 (omega arith), h 2 (omega arith), h 3 (omega arith), number)

pub record_at_take : (n : ℕ) (bs : List ℕ) (i : ℕ) → record_bytes * i + record_bytes ≤ n → record_at (take n bs) i
    ≡ record_at bs i
record_at_take n bs i h =
    record_at_same (take n bs) bs i i
    (simp length-take (omega arith))
    (simp length-take (omega arith))
    (λ k l. get_or-take n bs (record_bytes * i + k) 0 (omega arith))

pub record_at_drop : (k : ℕ) (bs : List ℕ) (i : ℕ) → record_at (drop (record_bytes * k) bs) i ≡ record_at bs (k + i)
record_at_drop k bs i =
    record_at_same (drop (record_bytes * k) bs) bs i (k + i)
    (simp length-drop (omega arith))
    (simp length-drop (omega arith))
    (λ j l. get_or-drop (record_bytes * k) bs (record_bytes * i + j) 0 ∙ ap (λ (m : ℕ). get_or bs m 0) (omega arith))

pub record_at_front : (xs bs : List ℕ) (i : ℕ) → record_bytes * i + record_bytes ≤ length xs → record_at (xs ++ bs) i
    ≡ record_at xs i
record_at_front xs bs i h =
    sym (record_at_take (length xs) (xs ++ bs) i h)
    ∙ ap (λ (l : List ℕ). record_at l i) (take_at xs bs (length xs) refl)

pub record_at_back : (xs bs : List ℕ) (k i : ℕ) → length xs ≡ record_bytes * k → record_at (xs ++ bs) (k + i)
    ≡ record_at bs i
record_at_back xs bs k i e = sym (record_at_drop k (xs ++ bs) i)
    ∙ ap (λ (l : List ℕ). record_at l i) (drop_at xs bs (record_bytes * k) e)

-- ---- a record's bytes, and the record of some bytes
pub length_bytes_of : (r : Record) → length (bytes_of r) ≡ record_bytes
unfolding bytes_of
length_bytes_of r = omega (arith, length_digits 4 r.number)

pub bytes_of_bytes : (r : Record) → Fits r → IsBytes (bytes_of r)
unfolding bytes_of
bytes_of_bytes r h =
    bytes_cons h.kind
    (bytes_cons h.first (bytes_cons h.second (bytes_cons h.third (digits_bytes 4 r.number))))

pub record_at_bytes_of : (r : Record) → Fits r → record_at (bytes_of r) 0 ≡ r
unfolding bytes_of record_from
record_at_bytes_of r h =
    let whole : length (digits 4 r.number) ≤ 4 = omega (arith, length_digits 4 r.number) in
    record_at_in (bytes_of r) 0 (omega (arith, length_digits 4 r.number))
    ∙ rw (take_all 4 (digits 4 r.number), number_digits 4 r.number (omega arith))

record_from_fits : {bs : List ℕ} (at : ℕ) → IsBytes bs → Fits (record_from bs at)
unfolding record_from
record_from_fits {bs} at h =
    record {
      kind = h.below at;
      first = h.below (at + 1);
      second = h.below (at + 2);
      third = h.below (at + 3);
      number = rw (number_four bs (at + 4)) (omega (
        arith,
        h.below (at + 4),
        h.below (at + 4 + 1),
        h.below (at + 4 + 2),
        h.below (at + 4 + 3),
      ));
    }

blank_fits : Fits blank
blank_fits = omega arith

pub record_at_fits : {bs : List ℕ} (i : ℕ) → IsBytes bs → Fits (record_at bs i)
unfolding record_at
record_at_fits {bs} i h = go (has bs i)
  where
    go : (b : Bool) → Fits (cond b (record_from bs (record_bytes * i)) blank)
    go true = record_from_fits (record_bytes * i) h
    go false = blank_fits

-- some bytes, with the first of them taken out
take_step : (bs : List ℕ) (at k : ℕ) → at < length bs → take (suc k) (drop at bs)
    ≡ get_or bs at 0 ∷ take k (drop (at + 1) bs)
take_step bs at k h = rw (add-one, drop-cons bs at 0)

pub bytes_of_record_at : (bs : List ℕ) (i : ℕ) → IsBytes bs → i < length bs / record_bytes → bytes_of (record_at bs i)
    ≡ take record_bytes (drop (record_bytes * i) bs)
unfolding bytes_of record_from
bytes_of_record_at bs i h l =
    let long : length (take 4 (drop (record_bytes * i + 4) bs)) ≡ 4 = simp (length-take, length-drop) (omega arith) in
    rw (
      record_at_in bs i l,
      digits_number 4 (take 4 (drop (record_bytes * i + 4) bs)) long
          (bytes_take 4 (bytes_drop (record_bytes * i + 4) h)),
    )
    (sym (rw (
      take_step bs (record_bytes * i) 7 (omega arith),
      take_step bs (record_bytes * i + 1) 6 (omega arith),
      take_step bs
          (record_bytes * i + 1 + 1) 5 (omega arith),
      take_step bs (record_bytes * i + 1 + 1 + 1) 4 (omega arith),
    ) (simp add_assoc)))

-- ---- a record written behind some others
pub put_at_back : (xs bs : List ℕ) (k : ℕ) (r : Record) → length xs ≡ record_bytes * k → record_bytes ≤ length bs
    → put_at (xs ++ bs) k r ≡ xs ++ bytes_of r ++ drop record_bytes bs
put_at_back xs bs k r e h =
    put_at_in (xs ++ bs) k r (omega (arith, length-append xs bs))
    ∙ rw (
      take_at xs bs (record_bytes * k) e,
      ← drop-drop record_bytes (record_bytes * k) (xs ++ bs),
      drop_at xs bs
          (record_bytes * k) e,
    )
