-- An array filled from its start is known by its elements, so each law compares two lists of one length place by place.
use mathlib.Core.Path.{◌≡◌, refl, ap, sym, ◌∙◌}
use mathlib.Core.Logic.{⊎_elim, ◌≢◌}
use mathlib.Core.Bool.{Bool, true, false, cond}
use mathlib.Core.List.{List}
use Prim.Native.Nat.{ℕ, zero, suc, ◌+◌, min, ◌<◌, ◌≤◌}
use native.Mathlib.Nat.{not-suc-le-zero, le_of_suc-le-suc, eq-or-lt_of_le}
use native.Mathlib.Numerals.{add-one}
use native.Mathlib.Omega.{arith}
use borrow.Author.Tests.{lt-ltb, le-ltb, ltb-true, ltb-false}
use lib.Dec.{ltb}
use lib.ListN.{length, get_or, set, replicate, length-set, length-replicate, get_or-replicate, get_or-eq_default}
use lib.Seq.{ext_get_or, get_or-set_same, get_or-set_other}
use Rattle.run.specs.Filled.{tabulate, filled}

-- a list read past its end gives the default
pub past_end {ℓ} : {A : Type ℓ} (m : ℕ) (l : List A) (d : A) (i : ℕ) → length l ≡ m → m ≤ i → d ≡ get_or l i d
past_end m l d i e h = sym (get_or-eq_default l d (omega arith))

module _ {ℓ} {A : Type ℓ} where
  pub length_tabulate : (n : ℕ) (f : ℕ → A) → length (tabulate n f) ≡ n
  unfolding tabulate
  length_tabulate zero f = refl
  length_tabulate (suc n) f = ap suc (length_tabulate n (λ i. f (suc i)))

  pub get_or_tabulate : (n : ℕ) (f : ℕ → A) (i : ℕ) (e : A) → i < n → get_or (tabulate n f) i e ≡ f i
  unfolding tabulate
  get_or_tabulate zero f i e l = absurd (not-suc-le-zero l)
  get_or_tabulate (suc n) f zero e l = refl
  get_or_tabulate (suc n) f (suc i) e l = get_or_tabulate n (λ i. f (suc i)) i e (le_of_suc-le-suc l)

  -- a list with n elements, element i being f i, is the table of f
  pub tabulate_of : (e : A) (n : ℕ) (f : ℕ → A) (l : List A) → length l ≡ n → ((i : ℕ) → i < n → get_or l i e ≡ f i) → l
      ≡ tabulate n f
  tabulate_of e n f l len h = ext_get_or e l (tabulate n f) (len
      ∙ sym (length_tabulate n f)) (λ i b. rw (get_or_tabulate n f i e (omega arith)) (h i (omega arith)))

  pub length_filled : (m k : ℕ) (f : ℕ → A) (d : A) → length (filled m k f d) ≡ m
  unfolding filled
  length_filled m k f d = length_tabulate m (λ i. cond (ltb i k) (f i) d)

  pub get_or_filled : (m k : ℕ) (f : ℕ → A) (d : A) (i : ℕ) (e : A) → i < m → get_or (filled m k f d) i e
      ≡ cond (ltb i k) (f i) d
  unfolding filled
  get_or_filled m k f d i e l = get_or_tabulate m (λ i. cond (ltb i k) (f i) d) i e l

  -- the two kinds of places
  pub filled_below : (m k : ℕ) (f : ℕ → A) (d : A) (i : ℕ) (e : A) → i < m → i < k → get_or (filled m k f d) i e ≡ f i
  filled_below m k f d i e l h = rw (get_or_filled m k f d i e l, lt-ltb i k h)

  pub filled_above : (m k : ℕ) (f : ℕ → A) (d : A) (i : ℕ) (e : A) → i < m → k ≤ i → get_or (filled m k f d) i e ≡ d
  filled_above m k f d i e l h = rw (get_or_filled m k f d i e l, le-ltb i k h)

  -- a list that has the right element at each place of the two kinds
  pub filled_of : (e : A) (m k : ℕ) (f : ℕ → A) (d : A) (l : List A) → length l ≡ m → ((i : ℕ) → i < m → i < k
      → get_or l i e ≡ f i)
      → ((i : ℕ) → i < m → k ≤ i → get_or l i e ≡ d) → l ≡ filled m k f d
  unfolding filled
  filled_of e m k f d l len low high = tabulate_of e m (λ i. cond (ltb i k) (f i) d) l len
      (λ i b. go i b (ltb i k) refl)
    where
      go : (i : ℕ) → i < m → (t : Bool) → ltb i k ≡ t → get_or l i e ≡ cond (ltb i k) (f i) d
      go i b true q = rw q (low i b (ltb-true i k q))
      go i b false q = rw q (high i b (ltb-false i k q))

  pub filled_none : (m : ℕ) (f : ℕ → A) (d : A) → filled m 0 f d ≡ replicate m d
  filled_none m f d =
      sym
      (filled_of d m 0 f d (replicate m d) (length-replicate m d) (λ i l h. absurd (not-suc-le-zero h))
      (λ i l h. get_or-replicate m i d d l))

  -- a loop that has filled k places fills the next
  pub filled_more : (m k : ℕ) (f : ℕ → A) (d : A) → k < m → set (filled m k f d) k (f k) ≡ filled m (k + 1) f d
  filled_more m k f d l =
      filled_of d m (k + 1) f d (set (filled m k f d) k (f k)) (simp (length-set, length_filled)) low
      (λ i b h. other i (omega arith) ∙ filled_above m k f d i d b (omega arith))
    where
      other : (i : ℕ) → i ≢ k → get_or (set (filled m k f d) k (f k)) i d ≡ get_or (filled m k f d) i d
      other i n = get_or-set_other (filled m k f d) k i (f k) d n

      low : (i : ℕ) → i < m → i < k + 1 → get_or (set (filled m k f d) k (f k)) i d ≡ f i
      low i b h =
          ⊎_elim
          (λ q. rw q (get_or-set_same (filled m k f d) k (f k) d (rw length_filled l)))
          (λ q. other i (omega arith) ∙ filled_below m k f d i d b q)
          (eq-or-lt_of_le (le_of_suc-le-suc (rw add-one at h)))

  pub filled_same : (m k : ℕ) (f g : ℕ → A) (d : A) → ((i : ℕ) → i < k → f i ≡ g i) → filled m k f d ≡ filled m k g d
  filled_same m k f g d h =
      filled_of d m k g d (filled m k f d) (length_filled m k f d)
      (λ i l b. filled_below m k f d i d l b ∙ h i b)
      (λ i l b. filled_above m k f d i d l b)

  -- a list whose places from k up are d
  pub filled_self : (e : A) (m k : ℕ) (d : A) (l : List A) → length l ≡ m → ((i : ℕ) → i < m → k ≤ i → get_or l i e ≡ d)
      → l ≡ filled m k (λ i. get_or l i e) d
  filled_self e m k d l len high = filled_of e m k (λ i. get_or l i e) d l len (λ i b h. refl) high

  -- an array filled with what it holds anyway
  pub filled_plain : (m k : ℕ) (d : A) → filled m k (λ i. d) d ≡ replicate m d
  filled_plain m k d =
      sym (filled_of d m k (λ i. d) d (replicate m d) (length-replicate m d) (λ i l h. get_or-replicate m i d d l)
      (λ i l h. get_or-replicate m i d d l))

  -- a loop over the array's own places fills all that it is to fill
  pub filled_min : (m k : ℕ) (f : ℕ → A) (d : A) → filled m (min k m) f d ≡ filled m k f d
  filled_min m k f d =
      filled_of d m k f d (filled m (min k m) f d) (length_filled m (min k m) f d)
      (λ i l b. filled_below m (min k m) f d i d l (omega arith))
      (λ i l b. filled_above m (min k m) f d i d l (omega arith))
