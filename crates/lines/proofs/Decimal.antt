-- Numbers are decimal (rule 14.1): what is spelled are digits, they tell the number that they spell, and the first is 0
-- only where the number is 0.
use mathlib.Core.Path.{◌≡◌, refl, sym, ap, ◌∙◌}
use mathlib.Core.Bool.{Bool, true, false, cond}
use mathlib.Core.List.{List, [], ◌∷◌, ◌++◌}
use Prim.Native.Nat.{ℕ, zero, suc, ◌+◌, ◌-◌, ◌*◌, ◌/◌, ◌%◌, ◌^◌, ◌≤◌, ◌<◌}
use native.Mathlib.Nat.{div-add-mod', div-lt_iff_lt-mul, pow-suc}
use native.Mathlib.Omega.{arith}
use borrow.Author.Tests.{lt-ltb, ltb-true, ltb-false}
use lib.Dec.{ltb}
use lib.ListN.{length, get_or, get_or-append, length-append}
use Rattle.lines.specs.Text.{ten, digit, spelled, most_digits, number}

-- ---- the number that digits tell, behind others that told k
unfoldable pub told : ℕ → List ℕ → ℕ
told k [] = k
told k (d ∷ ds) = told (k * ten + (d - digit 0)) ds

told_last : (ds : List ℕ) (k d : ℕ) → told k (ds ++ (d ∷ [])) ≡ told k ds * ten + (d - digit 0)
unfolding told
told_last [] k d = refl
told_last (c ∷ ds) k d = told_last ds (k * ten + (c - digit 0)) d

-- one digit less
tenth : (most x : ℕ) → x < ten ^ suc most → x / ten < ten ^ most
tenth most x h = (div-lt_iff_lt-mul {k = ten} {x = x} {y = ten ^ most} (omega arith)).1 (rw (pow-suc ten most) at h)

told_again : (most x : ℕ) → x < ten ^ most → told 0 (spelled most x) ≡ x
unfolding spelled told
told_again zero x h = omega arith
told_again (suc most) x h = go (ltb x ten) refl (told_again most (x / ten) (tenth most x h))
  where
    go : (b : Bool) → ltb x ten ≡ b → told 0 (spelled most (x / ten)) ≡ x / ten
        → told 0 (cond b (digit x ∷ []) (spelled most (x / ten) ++ (digit (x % ten) ∷ []))) ≡ x
    go true e below = omega arith
    go false e below =
        let sum : x / ten * ten + (digit (x % ten) - digit 0) ≡ x = omega (arith, div-add-mod' x ten) in
        told_last (spelled most (x / ten)) 0 (digit (x % ten))
        ∙ ap (λ (k : ℕ). k * ten + (digit (x % ten) - digit 0)) below ∙ sum

-- ---- digits, and no others
abbrev pub Digits : List ℕ → Type 0
Digits [] = Unit {0}
Digits (d ∷ ds) = (digit 0 ≤ d) × (d < digit ten) × Digits ds

digits_last : (ds : List ℕ) (d : ℕ) → Digits ds → d < ten → Digits (ds ++ (digit d ∷ []))
digits_last [] d are h = (omega arith, omega arith, tt)
digits_last (c ∷ ds) d are h = (are.0, are.1, digits_last ds d are.2 h)

pub spelled_digits : (most x : ℕ) → Digits (spelled most x)
unfolding spelled
spelled_digits zero x = tt
spelled_digits (suc most) x = go (ltb x ten) refl (spelled_digits most (x / ten))
  where
    go : (b : Bool) → ltb x ten ≡ b → Digits (spelled most (x / ten))
        → Digits (cond b (digit x ∷ []) (spelled most (x / ten) ++ (digit (x % ten) ∷ [])))
    go true e below = digits_last [] x tt (ltb-true x ten e)
    go false e below = digits_last (spelled most (x / ten)) (x % ten) below (omega arith)

-- ---- the first of them
spelled_some : (most x : ℕ) → 0 < length (spelled (suc most) x)
unfolding spelled
spelled_some most x = go (ltb x ten)
  where
    go : (b : Bool) → 0 < length (cond b (digit x ∷ []) (spelled most (x / ten) ++ (digit (x % ten) ∷ [])))
    go true = omega arith
    go false = omega (arith, length-append (spelled most (x / ten)) (digit (x % ten) ∷ []))

first_zero : (most x : ℕ) → x < ten ^ suc most → get_or (spelled (suc most) x) 0 0 ≡ digit 0 → x ≡ 0
unfolding spelled
first_zero zero x h is =
    let low : x < ten = omega (arith, h) in
    let same : digit x ≡ digit 0 = rw (lt-ltb x ten low) at is in
    omega arith
first_zero (suc most) x h is = go (ltb x ten) refl is (first_zero most (x / ten) (tenth (suc most) x h))
  where
    go : (b : Bool) → ltb x ten ≡ b
        → get_or (cond b (digit x ∷ []) (spelled (suc most) (x / ten) ++ (digit (x % ten) ∷ []))) 0 0 ≡ digit 0
        → (get_or (spelled (suc most) (x / ten)) 0 0 ≡ digit 0 → x / ten ≡ 0) → x ≡ 0
    go true e is below = omega arith
    go false e is below =
        let front : List ℕ = spelled (suc most) (x / ten) in
        let first = get_or-append front (digit (x % ten) ∷ []) 0 0 (spelled_some most (x / ten)) in
        let none : x / ten ≡ 0 = below (sym first ∙ is) in
        absurd (omega (arith, ltb-false x ten e, div-add-mod' x ten))

-- ---- a number of 32 bits
module _ (x : ℕ) (h : x < 2 ^ 32) where
  fits : x < ten ^ most_digits
  fits = omega (arith, h)

  pub number_told : told 0 (number x) ≡ x
  number_told = told_again most_digits x fits

  pub number_plain : get_or (number x) 0 0 ≡ digit 0 → x ≡ 0
  number_plain = first_zero 9 x fits
