-- A record's number in a round of n stations, and its receiver and its sender: record n p + q is that of receiver p and
-- sender q.
use mathlib.Core.Path.{◌≡◌, ◌∙◌}
use Prim.Native.Nat.{ℕ, zero, suc, ◌+◌, ◌*◌, ◌/◌, ◌%◌, ◌<◌, ◌≤◌}
use native.Mathlib.Nat.{add-zero, mul-add-div, mul-add-mod_self_left, div-eq_of_lt, mod-eq_of_lt, div-add-mod, mod-lt}
use native.Mathlib.Nat.{div-lt_iff_lt-mul, mul-le-mul, mul-suc}
use native.Mathlib.Omega.{arith}
use Rattle.run.specs.Run.{stations}
use Rattle.round.specs.Reading.{cell_number}

pub receiver_of : (n p q : ℕ) → q < n → cell_number n p q / n ≡ p
receiver_of n p q l =
    let pos : 0 < n = omega arith in
    mul-add-div pos p q ∙ rw (div-eq_of_lt l) (add-zero p)

pub sender_of : (n p q : ℕ) → q < n → cell_number n p q % n ≡ q
sender_of n p q l = mul-add-mod_self_left n p q ∙ mod-eq_of_lt l

pub number_of : (n k : ℕ) → cell_number n (k / n) (k % n) ≡ k
number_of n k = div-add-mod k n

-- a record's number is below n² exactly if its receiver and its sender are stations
pub number_below : (n p q : ℕ) → p < n → q < n → cell_number n p q < n * n
number_below n p q lp lq =
    let whole : n * suc p ≤ n * n = mul-le-mul {n₁ = n} {n₂ = n} (omega arith) lp in
    omega (arith, mul-suc n p)

-- where there is a record there is a station
pub some_station : (n k : ℕ) → k < n * n → 0 < n
some_station zero k l = omega arith
some_station (suc n) k l = omega arith

pub receiver_below : (n k : ℕ) → k < n * n → k / n < n
receiver_below n k l = (div-lt_iff_lt-mul (some_station n k l)).1 l

pub sender_below : (n k : ℕ) → k < n * n → k % n < n
sender_below n k l = mod-lt k (some_station n k l)

-- so a record of at most as many stations as an array has places has its place in the matrix
pub place_below : (n k : ℕ) → n ≤ stations → k < n * n → stations * (k / n) + k % n < stations * stations
place_below n k small l = omega (arith, receiver_below n k l, sender_below n k l)
