-- What the lowest place at which a test is true is: by induction on the number of places, the last of which is asked
-- only if none before it was found.
use mathlib.Core.Path.{◌≡◌, refl, sym}
use mathlib.Core.Logic.{◌↔◌, ◌⊎◌, inl, inr, ⊎_elim}
use mathlib.Core.Bool.{Bool, true, false}
use Rattle.std.specs.Prelude.{Option, None, Some}
use Prim.Native.Nat.{ℕ, zero, suc, ◌+◌, ◌<◌}
use native.Mathlib.Nat.{not-suc-le-zero, eq-or-lt_of_le, le_of_suc-le-suc}
use native.Mathlib.Numerals.{add-one}
use native.Mathlib.Omega.{arith}
use borrow.Author.Count.{below_more}
use Rattle.run.specs.First.{or_here, first}

nowhere : {i : ℕ} → ◌≡◌ {A = Option ℕ} (Some i) None → ⊥
nowhere e = let z : ◌≡◌ {A = ℕ} 0 1 = cc in omega arith

-- one more place, taken apart
or_here_none : (o : Option ℕ) (b : Bool) (n : ℕ) → or_here o b n ≡ None → (o ≡ None) × (b ≡ false)
or_here_none None true n e = absurd (nowhere e)
or_here_none None false n e = (refl, refl)
or_here_none (Some i) b n e = absurd (nowhere e)

or_here_some : (o : Option ℕ) (b : Bool) (n i : ℕ) → or_here o b n ≡ Some i → (o ≡ Some i) ⊎ ((o ≡ None) × (b ≡ true)
    × (n ≡ i))
or_here_some None true n i e = inr (refl, refl, cc)
or_here_some None false n i e = absurd (nowhere (sym e))
or_here_some (Some j) b n i e = inl e

module _ (f : ℕ → Bool) where
  -- every place below n fails the test
  abbrev NoneBelow : ℕ → Type 0
  NoneBelow n = (i : ℕ) → i < n → f i ≡ false

  pub first_zero : first 0 f ≡ None
  unfolding first
  first_zero = refl

  -- a loop that has found nothing goes on
  pub first_on : (n : ℕ) → first n f ≡ None → f n ≡ false → first (n + 1) f ≡ None
  unfolding first
  first_on n e h = rw (add-one, e, h)

  first_none_below : (n : ℕ) → first n f ≡ None → NoneBelow n
  unfolding first
  first_none_below zero e i l = absurd (not-suc-le-zero l)
  first_none_below (suc n) e i l =
      let (none_before, fails) = or_here_none (first n f) (f n) n e in
      below_more (λ k. f k ≡ false) n (first_none_below n none_before) fails i (omega arith)

  none_below_first : (n : ℕ) → NoneBelow n → first n f ≡ None
  unfolding first
  none_below_first zero h = refl
  none_below_first (suc n) h = rw (none_below_first n (λ i l. h i (omega arith)), h n (omega arith))

  pub first_none : (n : ℕ) → (first n f ≡ None) ↔ ((i : ℕ) → i < n → f i ≡ false)
  first_none n = (first_none_below n, none_below_first n)

  -- a loop that finds its place returns it
  pub first_here : (n i : ℕ) → first i f ≡ None → f i ≡ true → i < n → first n f ≡ Some i
  unfolding first
  first_here zero i e h l = absurd (not-suc-le-zero l)
  first_here (suc n) i e h l =
      ⊎_elim (λ q. rw (← q, e, h)) (λ q. rw (first_here n i e h q)) (eq-or-lt_of_le (le_of_suc-le-suc l))

  -- the place that was found passes the test, and is the lowest
  first_lowest : (n i : ℕ) → first n f ≡ Some i → (i < n) × (f i ≡ true) × NoneBelow i
  unfolding first
  first_lowest zero i e = absurd (nowhere (sym e))
  first_lowest (suc n) i e =
      ⊎_elim
      (λ before. let (l, h, b) = first_lowest n i before in (omega arith, h, b))
      (λ here. let (e₀, h, q) = here in (omega arith, rw (← q) h, rw (← q) (first_none_below n e₀)))
      (or_here_some (first n f) (f n) n i e)

  pub first_some : (n i : ℕ) → (first n f ≡ Some i) ↔ ((i < n) × (f i ≡ true) × ((j : ℕ) → j < i → f j ≡ false))
  first_some n i = (first_lowest n i, λ h. first_here n i (none_below_first i h.2) h.1 h.0)

-- tests that agree below n find the same place
pub first_same : (n : ℕ) (f g : ℕ → Bool) → ((i : ℕ) → i < n → f i ≡ g i) → first n f ≡ first n g
unfolding first
first_same zero f g h = refl
first_same (suc n) f g h = rw (first_same n f g (λ i l. h i (omega arith)), h n (omega arith))
