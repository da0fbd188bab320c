-- A number and its bytes determine each other: a number is its lowest byte and 256 times the rest, and so it goes byte
-- by byte.
use mathlib.Core.Path.{◌≡◌, refl, ap, sym}
use mathlib.Core.List.{List, [], ◌∷◌}
use Prim.Native.Nat.{ℕ, zero, suc, ◌+◌, ◌*◌, ◌/◌, ◌%◌, ◌^◌, ◌<◌}
use native.Mathlib.Nat.{pow-succ', add_assoc, add-zero, suc-ne-zero}
use native.Mathlib.Omega.{arith}
use native.Mathlib.Numerals.{add-one, one-add}
use lib.ListN.{length, get_or, take, drop}
use Rattle.run.specs.Number.{base, number, digits}
use Rattle.run.specs.Bytes.{IsBytes}
use Rattle.run.proofs.Bytes.{bytes_nil, bytes_cons, bytes_tail}

pub length_digits : (k v : ℕ) → length (digits k v) ≡ k
unfolding digits
length_digits zero v = refl
length_digits (suc k) v = ap suc (length_digits k (v / base))

pub digits_bytes : (k v : ℕ) → IsBytes (digits k v)
unfolding digits
digits_bytes zero v = bytes_nil
digits_bytes (suc k) v = bytes_cons (omega arith) (digits_bytes k (v / base))

pub number_digits : (k v : ℕ) → v < base ^ k → number (digits k v) ≡ v
unfolding digits number
number_digits zero v h = omega arith
number_digits (suc k) v h =
    let p : base ^ suc k ≡ base * base ^ k = pow-succ' base k in
    let ih : number (digits k (v / base)) ≡ v / base = number_digits k (v / base) (omega arith) in
    omega arith

pub digits_number : (k : ℕ) (bs : List ℕ) → length bs ≡ k → IsBytes bs → digits k (number bs) ≡ bs
unfolding digits number
digits_number zero [] e h = refl
digits_number zero (b ∷ bs) e h = absurd (suc-ne-zero _ e)
digits_number (suc k) [] e h = absurd (suc-ne-zero _ (sym e))
digits_number (suc k) (b ∷ bs) e h =
    let low : (b + base * number bs) % base ≡ b = omega (arith, h.below 0) in
    let high : (b + base * number bs) / base ≡ number bs = omega (arith, h.below 0) in
    rw (low, high, digits_number k bs (omega arith) (bytes_tail h))

pub number_lt : (bs : List ℕ) → IsBytes bs → number bs < base ^ length bs
unfolding number
number_lt [] h = omega arith
number_lt (b ∷ bs) h =
    let p : base ^ suc (length bs) ≡ base * base ^ length bs = pow-succ' base (length bs) in
    omega (arith, h.below 0, number_lt bs (bytes_tail h))

-- the number of the bytes from a place on, byte by byte: what a list does not have reads as 0
number_suc : (at k : ℕ) (bs : List ℕ) → number (take (suc k) (drop at bs))
    ≡ get_or bs at 0 + base * number (take k (drop (suc at) bs))
unfolding number
number_suc zero zero [] = refl
number_suc zero (suc k) [] = refl
number_suc (suc at) zero [] = refl
number_suc (suc at) (suc k) [] = refl
number_suc zero k (b ∷ bs) = refl
number_suc (suc at) k (b ∷ bs) = number_suc at k bs

pub number_step : (at k : ℕ) (bs : List ℕ) → number (take (suc k) (drop at bs))
    ≡ get_or bs at 0 + base * number (take k (drop (at + 1) bs))
number_step at k bs = rw add-one (number_suc at k bs)

-- four bytes, written out
pub number_four : (bs : List ℕ) (at : ℕ) → number (take 4 (drop at bs))
    ≡ get_or bs at 0 + base * (get_or bs (at + 1) 0 + base * (get_or bs (at + 2) 0 + base * get_or bs (at + 3) 0))
unfolding number
number_four bs at = rw (number_step at 3 bs, number_step, number_step, number_step) (simp (add_assoc, add-zero))

-- bytes that are the same at each place make the same number
pub number_same : (k at at' : ℕ) (xs bs : List ℕ) → ((j : ℕ) → j < k → get_or xs (at + j) 0 ≡ get_or bs (at' + j) 0)
    → number (take k (drop at xs)) ≡ number (take k (drop at' bs))
number_same zero at at' xs bs h = refl
number_same (suc k) at at' xs bs h =
    let here : get_or xs at 0 ≡ get_or bs at' 0 = simp add-zero at (h 0 (omega arith)) in
    let more : (j : ℕ) → j < k → get_or xs (at + 1 + j) 0 ≡ get_or bs (at' + 1 + j) 0
    = λ j l. simp (add_assoc, one-add) (h (suc j) (omega arith)) in
    rw (number_step at k xs, number_step at' k bs, here, number_same k (at + 1) (at' + 1) xs bs more)
