-- Masks and sets, once, over the number of stations: a mask is the sum of its stations' powers of two, so it can be
-- taken apart at its lowest and at its highest station, and each law follows by induction on one of the two.
use mathlib.Core.Path.{◌≡◌, refl, sym, ap, ap₂, ◌∙◌, subst}
use mathlib.Core.Bool.{Bool, true, false, not, ◌&&◌, false≢true}
use mathlib.Core.Logic.{◌⊎◌, inl, inr, ⊎_elim}
use Prim.Native.Nat.{ℕ, zero, suc, ◌+◌, ◌-◌, ◌*◌, ◌/◌, ◌%◌, ◌^◌, ◌≤◌, ◌<◌, min}
use native.Mathlib.Nat.{le_refl, lt_of_lt_of_le, eq-or-lt_of_le, eq-zero-or-pos, div-eq_of_lt, add_comm, pow-suc}
use native.Mathlib.Nat.{div-one, zero-mul, one-mul, mul-one, mul_comm, mul_left_comm}
use native.Mathlib.Omega.{arith}
use lib.Bits.{bit_and, and_step}
use lib.Count.{ones, ones_cat, count_trailing_zeros, under}
use lib.Dec.{eqb}
use lib.Pow.{shr-shr, pow_mono}
use Rattle.paper.specs.Stations.{Stations, ◌∈◌, ◌∖◌, one, size, All}
use Rattle.run.specs.Run.{stations}
use Rattle.hearing.specs.Masks.{mask, in_mask, mask_without}

double : (n : ℕ) → 2 ^ suc n ≡ 2 * 2 ^ n
double n = pow-suc 2 n ∙ mul_comm (2 ^ n) 2

one_small : (b : Bool) → one b < 2
unfolding one
one_small true = omega arith
one_small false = omega arith

one_inj : (a b : Bool) → one a ≡ one b → a ≡ b
unfolding one
one_inj true true e = refl
one_inj true false e = absurd (omega arith)
one_inj false true e = absurd (omega arith)
one_inj false false e = refl

-- what one station adds
weight : (b : Bool) (n : ℕ) → one b * 2 ^ n ≤ 2 ^ n
unfolding one
weight true n = omega (arith, one-mul (2 ^ n))
weight false n = omega (arith, zero-mul (2 ^ n))

pub mask_lt : (n : ℕ) (X : Stations) → mask n X < 2 ^ n
unfolding mask
mask_lt zero X = le_refl 1
mask_lt (suc n) X = omega (arith, mask_lt n X, weight (X n) n, double n)

-- the same sets have the same mask
pub mask_cong : (n : ℕ) (X Y : Stations) → All n (λ q. X q ≡ Y q) → mask n X ≡ mask n Y
unfolding mask
mask_cong zero X Y at = refl
mask_cong (suc n) X Y at =
    let here : one (X n) * 2 ^ n ≡ one (Y n) * 2 ^ n = ap (λ (b : Bool). one b * 2 ^ n) (at n (le_refl (suc n))) in
    omega (arith, mask_cong n X Y (λ q h. at q (omega arith)))

pub mask_none : (n : ℕ) → mask n (λ q. false) ≡ 0
unfolding mask one
mask_none zero = refl
mask_none (suc n) = omega (arith, mask_none n, zero-mul (2 ^ n))

-- the lowest station taken off
pub mask_low : (n : ℕ) (X : Stations) → mask (suc n) X ≡ one (X 0) + 2 * mask n (λ q. X (suc q))
unfolding mask
mask_low zero X = omega (arith, mul-one (one (X 0)))
mask_low (suc n) X =
    let top : one (X (suc n)) * 2 ^ suc n ≡ 2 * (one (X (suc n)) * 2 ^ n) =
    ap (λ (k : ℕ). one (X (suc n)) * k) (double n) ∙ mul_left_comm (one (X (suc n))) 2 (2 ^ n) in
    omega (arith, mask_low n X)

-- the language's count of ones is the size of the set
pub ones_mask : (n : ℕ) (X : Stations) → ones (mask n X) ≡ size n X
unfolding mask size ones
ones_mask zero X = refl
ones_mask (suc n) X =
    ap ones (add_comm (mask n X) (one (X n) * 2 ^ n)) ∙ ones_cat n (one (X n)) (mask n X) (mask_lt n X)
    ∙ omega (arith, ones_mask n X, ones_one (X n))
  where
    ones_one : (b : Bool) → ones (one b) ≡ one b
    ones_one true = refl
    ones_one false = refl

-- a set and a part of it: what is left is the difference of the masks
pub mask_part : (n : ℕ) (X Y : Stations) → All n (λ q. Y q ≡ true → X q ≡ true) → mask n X ≡ mask n Y + mask n (X ∖ Y)
unfolding mask
mask_part zero X Y part = refl
mask_part (suc n) X Y part =
    omega (arith, mask_part n X Y (λ q h. part q (omega arith)), here (X n) (Y n) (part n (le_refl (suc n))))
  where
    here : (a b : Bool) → (b ≡ true → a ≡ true) → one a * 2 ^ n ≡ one b * 2 ^ n + one (a && not b) * 2 ^ n
    here true true h = omega (arith, zero-mul (2 ^ n))
    here true false h = omega (arith, zero-mul (2 ^ n))
    here false true h = let z : one false ≡ one true = ap one (h refl) in omega arith
    here false false h = omega (arith, zero-mul (2 ^ n))

-- halving drops the lowest station
half : (n : ℕ) (X : Stations) → mask (suc n) X / 2 ≡ mask n (λ q. X (suc q))
half n X = omega (arith, mask_low n X, one_small (X 0))

low : (n : ℕ) (X : Stations) → mask (suc n) X % 2 ≡ one (X 0)
low n X = omega (arith, mask_low n X, one_small (X 0))

-- bit q is set exactly if q is in the set
pub mask_bit : (n : ℕ) (X : Stations) (q : ℕ) → q < n → mask n X / 2 ^ q % 2 ≡ one (X q)
mask_bit zero X q h = absurd (omega arith)
mask_bit (suc n) X zero h = ap (λ (k : ℕ). k % 2) (div-one (mask (suc n) X)) ∙ low n X
mask_bit (suc n) X (suc q) h =
    ap (λ (k : ℕ). mask (suc n) X / 2 ^ k % 2) (omega arith)
    ∙ ap (λ (k : ℕ). k % 2) (sym (shr-shr (mask (suc n) X) 1 q))
    ∙ ap (λ (k : ℕ). k / 2 ^ q % 2) (half n X) ∙ mask_bit n (λ j. X (suc j)) q (omega arith)

-- so a mask tells its set
pub mask_inj : (n : ℕ) (X Y : Stations) → mask n X ≡ mask n Y → All n (λ q. X q ≡ Y q)
mask_inj n X Y e q h = one_inj (X q) (Y q) (sym (mask_bit n X q h) ∙ ap (λ (k : ℕ). k / 2 ^ q % 2) e ∙ mask_bit n Y q h)

-- ---- the set of a mask
in_mask_one : (m q : ℕ) → one (in_mask m q) ≡ m / 2 ^ q % 2
unfolding in_mask one
in_mask_one m q = bit_one (m / 2 ^ q % 2) (omega arith)
  where
    bit_one : (x : ℕ) → x < 2 → one (eqb x 1) ≡ x
    bit_one zero l = refl
    bit_one (suc zero) l = refl
    bit_one (suc (suc x)) l = absurd (omega arith)

-- it is the set that the mask was made of
in_mask_of : (n : ℕ) (X : Stations) (q : ℕ) → q < n → in_mask (mask n X) q ≡ X q
in_mask_of n X q h = one_inj (in_mask (mask n X) q) (X q) (in_mask_one (mask n X) q ∙ mask_bit n X q h)

in_mask_past : (n : ℕ) (X : Stations) (q : ℕ) → n ≤ q → in_mask (mask n X) q ≡ false
unfolding one
in_mask_past n X q h =
    let none : mask n X / 2 ^ q ≡ 0 = div-eq_of_lt (lt_of_lt_of_le (mask_lt n X) (pow_mono h)) in
    one_inj (in_mask (mask n X) q) false (in_mask_one (mask n X) q ∙ ap (λ (k : ℕ). k % 2) none)

in_mask_half : (m q : ℕ) → in_mask m (suc q) ≡ in_mask (m / 2) q
unfolding in_mask
in_mask_half m q =
    let more : suc q ≡ 1 + q = omega arith in
    ap (λ (k : ℕ). eqb (m / 2 ^ k % 2) 1) more ∙ ap (λ (k : ℕ). eqb (k % 2) 1) (sym (shr-shr m 1 q))

-- a set with no station from n up has the same mask in more places
mask_wider : (n w : ℕ) (X : Stations) → n ≤ w → ((q : ℕ) → n ≤ q → X q ≡ false) → mask w X ≡ mask n X
unfolding mask one
mask_wider n zero X h past = let e : 0 ≡ n = omega arith in ap (λ (k : ℕ). mask k X) e
mask_wider n (suc w) X h past =
    ⊎_elim
    (λ e. ap (λ (k : ℕ). mask k X) (sym e))
    (λ l.
    let none : one (X w) * 2 ^ w ≡ 0 * 2 ^ w = ap (λ (b : Bool). one b * 2 ^ w) (past w (omega arith)) in
    omega (arith, zero-mul (2 ^ w), mask_wider n w X (omega arith) past))
    (eq-or-lt_of_le h)

-- a mask is what it has in common with another and what it has without it
apart : (w a b : ℕ) → a < 2 ^ w → a ≡ bit_and a b + mask w (in_mask a ∖ in_mask b)
unfolding mask one
apart zero a b h = let none : a ≡ 0 = omega arith in rw none
apart (suc w) a b h =
    omega (
      arith,
      and_step a b,
      mask_low w (in_mask a ∖ in_mask b),
      mask_cong w (λ q. (in_mask a ∖ in_mask b) (suc q)) (in_mask (a / 2) ∖ in_mask (b / 2))
          (λ q l. rw (in_mask_half a q, in_mask_half b q)),
      apart w (a / 2) (b / 2) (omega (arith, double w)),
      digit (in_mask a 0) (in_mask b 0) (a % 2) (b % 2) (lowest a) (lowest b),
    )
  where
    lowest : (m : ℕ) → one (in_mask m 0) ≡ m % 2
    lowest m = in_mask_one m 0 ∙ ap (λ (k : ℕ). k % 2) (div-one m)

    digit : (s t : Bool) (x y : ℕ) → one s ≡ x → one t ≡ y → x ≡ min x y + one (s && not t)
    digit true true x y e f = omega arith
    digit true false x y e f = omega arith
    digit false true x y e f = omega arith
    digit false false x y e f = omega arith

pub without_is : (a b : ℕ) → a < 2 ^ stations → a - bit_and a b ≡ mask_without a b
unfolding mask_without
without_is a b h = omega (arith, apart stations a b h)

-- that of two sets' masks is the mask of their difference
pub without_of : (n : ℕ) (X Y : Stations) → n ≤ stations → mask_without (mask n X) (mask n Y) ≡ mask n (X ∖ Y)
unfolding mask_without
without_of n X Y h =
    mask_wider n stations (in_mask (mask n X) ∖ in_mask (mask n Y)) h (λ q past. rw (in_mask_past n X q past))
    ∙ mask_cong n (in_mask (mask n X) ∖ in_mask (mask n Y)) (X ∖ Y) (λ q l. rw (in_mask_of n X q l, in_mask_of n Y q l))

-- ---- empty masks
-- the mask of a set with no station is 0, and no other
pub mask_empty : (n : ℕ) (X : Stations) → mask n X ≡ 0 → All n (λ q. X q ≡ false)
mask_empty n X e = mask_inj n X (λ q. false) (e ∙ sym (mask_none n))

pub mask_pos : (n : ℕ) (X : Stations) (q : ℕ) → q < n → q ∈ X → 0 < mask n X
mask_pos n X q h m = go (eq-zero-or-pos (mask n X))
  where
    go : (mask n X ≡ 0) ⊎ (0 < mask n X) → 0 < mask n X
    go (inl e) = absurd (false≢true (sym (mask_empty n X e q h) ∙ m))
    go (inr p) = p

-- the lowest station of a mask that is not 0
trailing : (n k : ℕ) (X : Stations)
    → count_trailing_zeros (suc k) (mask (suc n) X) ≡ under (one (X 0)) (count_trailing_zeros k (mask n (λ q. X (suc q))))
unfolding count_trailing_zeros
trailing n k X = ap₂ under (low n X) (ap (count_trailing_zeros k) (half n X))

abbrev Lowest : ℕ → Stations → ℕ → Type 0
Lowest n X q = (q < n) × (X q ≡ true) × ((i : ℕ) → i < q → X i ≡ false)

pub mask_lowest : (n k : ℕ) (X : Stations) → n ≤ k → 0 < mask n X → Lowest n X (count_trailing_zeros k (mask n X))
unfolding mask one
mask_lowest zero k X h pos = absurd (omega arith)
mask_lowest (suc n) zero X h pos = absurd (omega arith)
mask_lowest (suc n) (suc k) X h pos =
    subst (Lowest (suc n) X) (sym (trailing n k X))
    (go (X 0) refl (λ more. mask_lowest n k (λ q. X (suc q)) (omega arith) more))
  where
    rest : ℕ
    rest = count_trailing_zeros k (mask n (λ q. X (suc q)))

    go : (b : Bool) → X 0 ≡ b → (0 < mask n (λ q. X (suc q)) → Lowest n (λ q. X (suc q)) rest)
        → Lowest (suc n) X (under (one b) rest)
    go true e below = (omega arith, e, λ i l. absurd (omega arith))
    go false e below =
        let none_low : one (X 0) ≡ 0 = ap one e in
        let found = below (omega (arith, mask_low n X)) in
        (omega (arith, found.0), found.1, none_under found.2)
      where
        none_under : ((i : ℕ) → i < rest → X (suc i) ≡ false) → (i : ℕ) → i < suc rest → X i ≡ false
        none_under under_rest zero l = e
        none_under under_rest (suc i) l = under_rest i (omega arith)
