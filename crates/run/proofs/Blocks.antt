-- Blocks, written and read. A written block stands between what was before it and behind it; each record that fits is
-- the one that is written of what is read from it, and the arrays that are written are read again.
use mathlib.Core.Path.{◌≡◌, refl, ap, sym, ◌∙◌}
use mathlib.Core.Logic.{◌↔◌, ◌≢◌, ◌⊎◌, inl, inr, ⊎_elim}
use mathlib.Core.Bool.{Bool, true, false, not, ◌||◌, and-eq-true_iff, or-true, true≢false}
use mathlib.Core.List.{List, ◌++◌, append_assoc, append-nil}
use Rattle.std.specs.Prelude.{Option, None, Some}
use Prim.Native.Nat.{ℕ, zero, suc, ◌+◌, ◌*◌, ◌/◌, ◌^◌, ◌<◌, ◌≤◌}
use native.Mathlib.Numerals.{add-one}
use native.Mathlib.Omega.{arith}
use borrow.Author.Tests.{eq-eqb, ne_eqb, eqb-true, ltb-true, ltb-false, not-true, not-false}
use lib.Dec.{eqb, ltb}
use lib.ListN.{length, get_or, drop, length-append, length-take, length-drop}
use lib.Seq.{drop-drop}
use Rattle.run.specs.Number.{base}
use Rattle.run.specs.declared.record.Record.{Record}
use Rattle.run.specs.declared.block.Shape.{Shape}
use Rattle.run.specs.declared.block.Shape.TheVariants.{Number, Maybe}
use Rattle.run.specs.Reply.{Accepted, Malformed}
use Rattle.run.specs.Record.{record_bytes, record_at, bytes_of, put_at, Fits}
use Rattle.run.specs.Written.{written}
use Rattle.run.specs.First.{first}
use Rattle.run.specs.Reply.{is_accepted}
use Rattle.run.specs.Run.{stations}
use Rattle.run.specs.Block.{
  plain,
  is_plain,
  record_of,
  block_fits,
  check_block,
  numbers_in,
  flags_in,
  block_record,
}
use Rattle.run.specs.Putting.{put_block}
use Rattle.run.proofs.Records.{
  length_bytes_of,
  record_at_front,
  record_at_back,
  put_at_in,
  put_at_out,
  put_at_back,
}
use Rattle.run.proofs.Written.{length_written, record_at_written}
use Rattle.run.proofs.First.{first_none, first_some}
use Rattle.run.proofs.Filled.{length_filled, filled_below, filled_above, filled_of}
use Rattle.run.proofs.Replies.{refuse_at_accepted, accepted_refuse_at}

-- ---- a plain record
pub is_plain_plain : (kind i number : ℕ) → is_plain kind i (plain kind i number) ≡ true
unfolding is_plain plain
is_plain_plain kind i number = rw (eq-eqb kind kind refl, eq-eqb i i refl)

pub plain_is : (kind i : ℕ) (r : Record) → is_plain kind i r ≡ true → r ≡ plain kind i r.number
unfolding is_plain plain
plain_is kind i r e =
    let (upto_second, third) = (and-eq-true_iff _ _).0 e in
    let (upto_first, second) = (and-eq-true_iff _ _).0 upto_second in
    let (k, f) = (and-eq-true_iff _ _).0 upto_first in
    let same : ◌≡◌ {A = Record}
    (record { kind = r.kind; first = r.first; second = r.second; third = r.third; number = r.number })
    (record { kind = kind; first = i; second = 0; third = 0; number = r.number })
    = rw (
      eqb-true r.kind kind k,
      eqb-true r.first i f,
      eqb-true r.second 0 second,
      eqb-true r.third 0 third,
    ) in
    same

pub plain_fits : (kind i number : ℕ) → kind < base → i < base → number < 2 ^ 32 → Fits (plain kind i number)
unfolding plain
plain_fits kind i number k l h = record { kind = k; first = l; second = omega arith; third = omega arith; number = h }

-- ---- a block written
pub put_block_zero : (bs : List ℕ) (start : ℕ) (f : ℕ → Record) → put_block bs start 0 f ≡ bs
unfolding put_block
put_block_zero bs start f = refl

pub put_block_more : (bs : List ℕ) (start n : ℕ) (f : ℕ → Record) → put_block bs start (n + 1) f
    ≡ put_at (put_block bs start n f) (start + n) (f n)
unfolding put_block
put_block_more bs start n f = rw add-one

-- behind some records
pub put_block_back : (xs bs : List ℕ) (start n : ℕ) (f : ℕ → Record) → length xs ≡ record_bytes * start
    → record_bytes * n ≤ length bs
    → put_block (xs ++ bs) start n f ≡ xs ++ written n f ++ drop (record_bytes * n) bs
unfolding put_block written
put_block_back xs bs start zero f e h = rw append-nil
put_block_back xs bs start (suc n) f e h =
    let next : record_bytes * suc n ≡ record_bytes * n + record_bytes = omega arith in
    rw (put_block_back xs bs start n f e (omega arith), next)
    (put_at_back (xs ++ written n f) (drop (record_bytes * n) bs) (start + n) (f n) (rw (length-append, length_written)
    (omega arith)) (rw length-drop (omega arith))
    ∙ rw (drop-drop record_bytes (record_bytes * n) bs, append_assoc xs (written n f) (bytes_of (f n))))

pub length_put_at : (bs : List ℕ) (i : ℕ) (r : Record) → length (put_at bs i r) ≡ length bs
length_put_at bs i r = go (ltb i (length bs / record_bytes)) refl
  where
    go : (b : Bool) → ltb i (length bs / record_bytes) ≡ b → length (put_at bs i r) ≡ length bs
    go true q =
        let l : i < length bs / record_bytes = ltb-true _ _ q in
        rw (put_at_in bs i r l) (simp (length-append, length-take, length-drop, length_bytes_of) (omega arith))
    go false q = rw (put_at_out bs i r (ltb-false _ _ q))

pub length_put_block : (bs : List ℕ) (start n : ℕ) (f : ℕ → Record) → length (put_block bs start n f) ≡ length bs
unfolding put_block
length_put_block bs start zero f = refl
length_put_block bs start (suc n) f = length_put_at (put_block bs start n f) (start + n) (f n)
    ∙ length_put_block bs start n f

-- its records stand behind those before it
pub record_at_between : (xs ys : List ℕ) (start n : ℕ) (f : ℕ → Record) → length xs ≡ record_bytes * start → (i : ℕ)
    → i < n
    → Fits (f i)
    → record_at (xs ++ written n f ++ ys) (start + i) ≡ f i
record_at_between xs ys start n f e i l h =
    rw (append_assoc xs (written n f) ys, record_at_back xs (written n f ++ ys) start i e)
    (record_at_front (written n f) ys i (rw length_written (omega arith)) ∙ record_at_written n f i l h)

-- functions that agree below n are written alike
pub put_block_same : (bs : List ℕ) (start n : ℕ) (f g : ℕ → Record) → ((i : ℕ) → i < n → f i ≡ g i)
    → put_block bs start n f ≡ put_block bs start n g
unfolding put_block
put_block_same bs start zero f g h = refl
put_block_same bs start (suc n) f g h = rw (put_block_same bs start n f g (λ i l. h i (omega arith)), h n (omega arith))

-- ---- one record of a block
-- the kinds are bytes
abbrev pub KindsFit : Shape → Type 0
KindsFit (Number kind) = kind < base
KindsFit (Maybe without given) = (without < base) × (given < base)

pub record_of_fits : (shape : Shape) (i : ℕ) (there : Bool) (number : ℕ) → KindsFit shape → i < base → number < 2 ^ 32
    → Fits (record_of shape i there number)
unfolding record_of
record_of_fits (Number kind) i there number k l h = plain_fits kind i number k l h
record_of_fits (Maybe without given) i true number k l h = plain_fits given i number k.1 l h
record_of_fits (Maybe without given) i false number k l h = plain_fits without i 0 k.0 l (omega arith)

-- what is written fits
pub block_fits_record_of : (shape : Shape) (i : ℕ) (there : Bool) (number : ℕ)
    → block_fits shape i (record_of shape i there number) ≡ true
unfolding block_fits record_of
block_fits_record_of (Number kind) i there number = is_plain_plain kind i number
block_fits_record_of (Maybe without given) i true number = rw is_plain_plain
block_fits_record_of (Maybe without given) i false number = rw (is_plain_plain without i 0)
    (or-true (is_plain given i (plain without i 0)))

-- the flag and the number are read off a record that may come without one
pub maybe_flag : (without given i : ℕ) (there : Bool) (number : ℕ) → without ≢ given
    → eqb (record_of (Maybe without given) i there number).kind given ≡ there
unfolding record_of plain
maybe_flag without given i true number other = eq-eqb given given refl
maybe_flag without given i false number other = ne_eqb without given other

pub maybe_number : (without given i : ℕ) (there : Bool) (number : ℕ) → (there ≡ false → number ≡ 0)
    → (record_of (Maybe without given) i there number).number ≡ number
unfolding record_of plain
maybe_number without given i true number z = refl
maybe_number without given i false number z = sym (z refl)

-- what fits is what is written of its number, and of whether it has the kind with a number
pub number_record : (kind i : ℕ) (there : Bool) (r : Record) → block_fits (Number kind) i r ≡ true → r
    ≡ record_of (Number kind) i there r.number
unfolding block_fits record_of
number_record kind i there r e = plain_is kind i r e

either : (a b : Bool) → a || b ≡ true → (a ≡ true) ⊎ (b ≡ true)
either true b e = inl refl
either false b e = inr e

plain_kind : (kind i : ℕ) (r : Record) → is_plain kind i r ≡ true → r.kind ≡ kind
unfolding plain
plain_kind kind i r e = ap (λ (s : Record). s.kind) (plain_is kind i r e)

-- a record that may come without a number is of the one kind, or it is of the other with no number
maybe_either : (without given i : ℕ) (r : Record) → block_fits (Maybe without given) i r ≡ true
    → (is_plain given i r ≡ true) ⊎ ((is_plain without i r ≡ true) × (r.number ≡ 0))
unfolding block_fits
maybe_either without given i r e =
    ⊎_elim inl (λ w. let (p, z) = (and-eq-true_iff _ _).0 w in inr (p, eqb-true _ _ z)) (either (is_plain given i r) _ e)

pub maybe_record : (without given i : ℕ) (r : Record) → block_fits (Maybe without given) i r ≡ true
    → r ≡ record_of (Maybe without given) i (eqb r.kind given) r.number
unfolding record_of
maybe_record without given i r e = go (eqb r.kind given) refl (maybe_either without given i r e)
  where
    go : (b : Bool) → eqb r.kind given ≡ b → (is_plain given i r ≡ true) ⊎ ((is_plain without i r ≡ true)
        × (r.number ≡ 0))
        → r ≡ record_of (Maybe without given) i b r.number
    go b q (inl p) = rw (sym q ∙ eq-eqb _ _ (plain_kind given i r p)) (plain_is given i r p)
    go true q (inr w) =
        plain_is without i r w.0
        ∙ ap (λ (k : ℕ). plain k i r.number) (sym (plain_kind without i r w.0) ∙ eqb-true _ _ q)
    go false q (inr w) = plain_is without i r w.0 ∙ ap (plain without i) w.1

-- ---- a block checked
-- station i's record fits
abbrev pub fits_at : List ℕ → ℕ → Shape → ℕ → Bool
fits_at bs start shape i = block_fits shape i (record_at bs (start + i))

module _ (bs : List ℕ) (start n : ℕ) (shape : Shape) where
  abbrev found : Option ℕ
  found = first n (λ i. not (fits_at bs start shape i))

  -- accepted exactly if every record fits
  pub check_block_accepted : (check_block bs start n shape ≡ Accepted) ↔ ((i : ℕ) → i < n → fits_at bs start shape i
      ≡ true)
  unfolding check_block
  check_block_accepted = (there, back)
    where
      there : check_block bs start n shape ≡ Accepted → (i : ℕ) → i < n → fits_at bs start shape i ≡ true
      there e i l =
          not-false _ ((first_none (λ i. not (fits_at bs start shape i)) n).0 (refuse_at_accepted found
          (λ i. Malformed (start + i)) (λ i. refl) e) i l)

      back : ((i : ℕ) → i < n → fits_at bs start shape i ≡ true) → check_block bs start n shape ≡ Accepted
      back h = accepted_refuse_at found _ ((first_none (λ i. not (fits_at bs start shape i)) n).1
          (λ i l. ap not (h i l)))

  -- refused at the first that does not
  pub check_block_refused : is_accepted (check_block bs start n shape) ≡ false
      → (i : ℕ) × (i < n) × (fits_at bs start shape i ≡ false) × ((j : ℕ) → j < i → fits_at bs start shape j ≡ true)
      × (check_block bs start n shape ≡ Malformed (start + i))
  unfolding check_block
  check_block_refused e = go found refl
    where
      go : (o : Option ℕ) → found ≡ o
          → (i : ℕ) × (i < n) × (fits_at bs start shape i ≡ false) × ((j : ℕ) → j < i → fits_at bs start shape j ≡ true)
          × (check_block bs start n shape ≡ Malformed (start + i))
      go None q = absurd (true≢false (sym (ap is_accepted (accepted_refuse_at found _ q)) ∙ e))
      go (Some i) q =
          let (l, here, before) = (first_some (λ i. not (fits_at bs start shape i)) n i).0 q in
          (i, l, not-true _ here, λ j b. not-false _ (before j b), rw q)

-- ---- the arrays of a block
-- a place for each station, and nothing from n up
pub record Ends {ℓ} {A : Type ℓ} (d : A) (n : ℕ) (l : List A) : Type ℓ where
  pub long : length l ≡ stations
  pub above : (i : ℕ) → i < stations → n ≤ i → get_or l i d ≡ d

module _ (bs : List ℕ) (start n : ℕ) where
  pub numbers_in_below : (i : ℕ) → i < stations → i < n → get_or (numbers_in bs start n) i 0
      ≡ (record_at bs (start + i)).number
  unfolding numbers_in
  numbers_in_below i l h = filled_below stations n (λ i. (record_at bs (start + i)).number) 0 i 0 l h

  pub numbers_in_ends : Ends 0 n (numbers_in bs start n)
  unfolding numbers_in
  numbers_in_ends = record { long = length_filled stations n _ 0; above = λ i l h. filled_above stations n _ 0 i 0 l h }

  pub flags_in_below : (kind i : ℕ) → i < stations → i < n → get_or (flags_in bs start n kind) i false
      ≡ eqb (record_at bs (start + i)).kind kind
  unfolding flags_in
  flags_in_below kind i l h = filled_below stations n (λ i. eqb (record_at bs (start + i)).kind kind) false i false l h

  pub flags_in_ends : (kind : ℕ) → Ends false n (flags_in bs start n kind)
  unfolding flags_in
  flags_in_ends kind = record {
    long = length_filled stations n _ false;
    above =
        λ i l h. filled_above stations n _ false i false l h;
  }

  -- the records are those of two arrays
  abbrev pub Holds : Shape → List Bool → List ℕ → Type 0
  Holds shape flags numbers = (i : ℕ) → i < n → record_at bs (start + i) ≡ block_record shape flags numbers i

  -- what is written is accepted
  pub holds_accepted : (shape : Shape) (flags : List Bool) (numbers : List ℕ) → Holds shape flags numbers
      → check_block bs start n shape ≡ Accepted
  holds_accepted shape flags numbers h = (check_block_accepted bs start n shape).1
      (λ i l. rw (h i l) (block_fits_record_of shape i _ _))

  -- arrays that were written are read again
  pub numbers_again : (kind : ℕ) (flags : List Bool) (numbers : List ℕ) → Ends 0 n numbers
      → Holds (Number kind) flags numbers → numbers_in bs start n ≡ numbers
  unfolding numbers_in record_of plain
  numbers_again kind flags numbers ends h =
      sym (filled_of 0 stations n _ 0 numbers ends.long (λ i l b. sym (ap (λ (r : Record). r.number) (h i b)))
      ends.above)

  -- a block that was accepted is the one that is written of what is read from it
  pub numbers_hold : (kind : ℕ) (flags : List Bool) → n ≤ stations → check_block bs start n (Number kind) ≡ Accepted
      → Holds (Number kind) flags (numbers_in bs start n)
  numbers_hold kind flags most e i l =
      rw (numbers_in_below i (omega arith) l)
      (number_record kind i (get_or flags i false) (record_at bs (start + i)) ((check_block_accepted bs start n
      (Number kind)).0 e i l))
