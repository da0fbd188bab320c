-- A loop from the highest place down: a mask in which each turn doubles what there is and adds the next station's bit.
-- One law for none, one for a turn, one for the end.
use mathlib.Core.Path.{◌≡◌, sym, ap, ◌∙◌, subst}
use mathlib.Core.Bool.{Bool, true, false, ◌&&◌}
use Prim.Native.Nat.{ℕ, zero, suc, ◌+◌, ◌-◌, ◌*◌, ◌%◌, ◌^◌, ◌≤◌, ◌<◌}
use native.Mathlib.Nat.{lt_of_lt_of_le, zero-add, add-zero, add-suc, mul_comm, mul_left_comm, mul-add, mul-zero}
use native.Mathlib.Nat.{mod-eq_of_lt, pow-suc}
use native.Mathlib.Omega.{arith}
use borrow.Author.Tests.{le-leb, lt-leb}
use lib.Dec.{leb}
use lib.ListN.{set}
use lib.Pow.{pow_mono, pow-add}
use Rattle.paper.specs.Stations.{Stations, one}
use Rattle.run.specs.Run.{stations}
use Rattle.hearing.specs.Masks.{mask, from}
use Rattle.hearing.proofs.Masks.{mask_lt, mask_cong, mask_none, mask_low}

-- ---- a mask
-- what one more bit makes of a mask of the places from q up and below n, and that it fits
bit_small : (b : Bool) → one b ≤ 1
unfolding one
bit_small true = omega arith
bit_small false = omega arith

twice : (n q : ℕ) → 0 < q → q ≤ n → 2 ^ (n - (q - 1)) ≡ 2 * 2 ^ (n - q)
twice n q pos h =
    let more : n - (q - 1) ≡ suc (n - q) = omega arith in
    ap (λ (k : ℕ). 2 ^ k) more ∙ pow-suc 2 (n - q) ∙ mul_comm (2 ^ (n - q)) 2

pub one_more : (n q set : ℕ) (b : Bool) → 0 < q → q ≤ n → set < 2 ^ (n - q) → 2 * set + one b < 2 ^ (n - (q - 1))
one_more n q set b pos h l = omega (arith, twice n q pos h, bit_small b)

pub fits : (n q set : ℕ) → 0 < q → q ≤ n → n ≤ stations → set < 2 ^ (n - q) → 2 * set + 1 < 2 ^ stations
fits n q set pos h small l =
    let few : n - (q - 1) ≤ stations = omega arith in
    let below : 2 ^ (n - (q - 1)) ≤ 2 ^ stations = pow_mono few in
    omega (arith, twice n q pos h)

pub room : (k : ℕ) → 0 < 2 ^ k
room k = omega (arith, mask_lt k (λ q. false))

-- of the stations of X below n those from q up, q being the lowest bit
unfoldable pub mask_from : ℕ → ℕ → Stations → ℕ
unfolding mask
mask_from q n X = mask (n - q) (λ i. X (q + i))

module _ (n : ℕ) (X : Stations) where
  pub from_none : mask_from n n X ≡ 0
  unfolding mask_from mask
  from_none = let none : n - n ≡ 0 = omega arith in rw none

  next : (q : ℕ) → q < n → 2 * mask_from (suc q) n X + one (X q) ≡ mask_from q n X
  unfolding mask_from
  next q h =
      let left : n - q ≡ suc (n - suc q) = omega arith in
      omega (
        arith,
        ap (λ (k : ℕ). mask k (λ i. X (q + i))) left,
        mask_low (n - suc q) (λ i. X (q + i)),
        ap (λ (k : ℕ). one (X k)) (add-zero q),
        mask_cong (n - suc q) (λ i. X (q + suc i)) (λ i. X (suc q + i)) (λ i l. ap X (omega arith)),
      )

  pub from_more : (q : ℕ) → 0 < q → q ≤ n → 2 * mask_from q n X + one (X (q - 1)) ≡ mask_from (q - 1) n X
  from_more q pos h =
      let this : suc (q - 1) ≡ q = omega arith in
      subst (λ (k : ℕ). 2 * mask_from k n X + one (X (q - 1)) ≡ mask_from (q - 1) n X) this (next (q - 1) (omega arith))

  -- the next bit fits
  pub from_fits : (q : ℕ) → 0 < q → q ≤ n → n ≤ stations → 2 * mask_from q n X + 1 < 2 ^ stations
  unfolding mask_from
  from_fits q pos h small = fits n q (mask_from q n X) pos h small (mask_lt (n - q) (λ i. X (q + i)))

  pub from_all : mask_from 0 n X ≡ mask n X
  unfolding mask_from
  from_all =
      let whole : n - 0 ≡ n = omega arith in
      ap (λ (k : ℕ). mask k (λ i. X (0 + i))) whole ∙ mask_cong n (λ i. X (0 + i)) X (λ i l. ap X (omega arith))

-- a mask in two parts
mask_split : (q k : ℕ) (X : Stations) → mask (q + k) X ≡ mask q X + 2 ^ q * mask k (λ i. X (q + i))
unfolding mask
mask_split q zero X = rw (add-zero q, mul-zero (2 ^ q), add-zero)
mask_split q (suc k) X =
    let top : one (X (q + k)) * 2 ^ (q + k) ≡ 2 ^ q * (one (X (q + k)) * 2 ^ k) =
    ap (λ (m : ℕ). one (X (q + k)) * m) (pow-add 2 q k) ∙ mul_left_comm (one (X (q + k))) (2 ^ q) (2 ^ k) in
    rw (add-suc q k) (omega (
      arith,
      mask_split q k X,
      mul-add (2 ^ q) (mask k (λ i. X (q + i))) (one (X (q + k)) * 2 ^ k),
    ))

-- a loop that stops at q has found those from q up; shifted to their places they are a mask of the whole
pub from_shifted : (q n : ℕ) (X : Stations) → q ≤ n → n ≤ stations
    → (mask_from q n X * 2 ^ q) % 2 ^ stations ≡ mask n (from q X)
unfolding mask_from
from_shifted q n X h small =
    let whole : mask_from q n X * 2 ^ q ≡ mask n (from q X) = shifted in
    rw whole (mod-eq_of_lt (lt_of_lt_of_le (mask_lt n (λ i. leb q i && X i)) (pow_mono small)))
  where
    shifted : mask (n - q) (λ i. X (q + i)) * 2 ^ q ≡ mask n (from q X)
    shifted =
        let sum : q + (n - q) ≡ n = omega arith in
        let none : mask q (λ i. leb q i && X i) ≡ 0 =
        mask_cong q (λ i. leb q i && X i) (λ i. false) (λ i l. rw (lt-leb q i l)) ∙ mask_none q in
        let rest : mask (n - q) (λ i. leb q (q + i) && X (q + i)) ≡ mask (n - q) (λ i. X (q + i)) =
        mask_cong (n - q) (λ i. leb q (q + i) && X (q + i)) (λ i. X (q + i))
        (λ i l. rw (le-leb q (q + i) (omega arith))) in
        mul_comm (mask (n - q) (λ i. X (q + i))) (2 ^ q)
        ∙ sym (ap (λ (k : ℕ). mask k (λ i. leb q i && X i)) (sym sum) ∙ mask_split q (n - q) (λ i. leb q i && X i)
        ∙ rw (none, rest, zero-add))

-- from the first of all on they are all
pub from_first : (n : ℕ) (X : Stations) → mask n (from 0 X) ≡ mask n X
from_first n X = mask_cong n (from 0 X) X (λ i l. rw (le-leb 0 i (omega arith)))
