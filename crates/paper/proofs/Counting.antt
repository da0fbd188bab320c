-- Counting, once, over the number of stations and any sets of them: an inequality that holds at each station holds of
-- the sizes, since a size is the sum of what each station adds.
use mathlib.Core.Path.{◌≡◌, refl, ap, ◌∙◌, sym}
use mathlib.Core.Bool.{Bool, true, false, ◌&&◌, false≢true}
use mathlib.Core.List.{List, [], ◌∷◌}
use mathlib.Core.Logic.{◌⊎◌, ◌≢◌, ⊎_elim}
use Prim.Native.Nat.{ℕ, zero, suc, ◌+◌, ◌≤◌, ◌<◌}
use native.Mathlib.Nat.{le_refl, le_of_suc-le-suc, eq-or-lt_of_le}
use native.Mathlib.Decide.{ℕ_discrete}
use native.Mathlib.Omega.{arith}
use Rattle.paper.specs.Stations.{Stations, ◌∈◌, one, size, All, every}

-- the sizes of some sets, added up, and what one station adds to that
abbrev pub sizes : ℕ → List Stations → ℕ
sizes n [] = 0
sizes n (X ∷ Xs) = size n X + sizes n Xs

abbrev pub ones : List Stations → ℕ → ℕ
ones [] q = 0
ones (X ∷ Xs) q = one (X q) + ones Xs q

sizes_zero : (Xs : List Stations) → sizes 0 Xs ≡ 0
unfolding size
sizes_zero [] = refl
sizes_zero (X ∷ Xs) = omega (arith, sizes_zero Xs)

sizes_suc : (n : ℕ) (Xs : List Stations) → sizes (suc n) Xs ≡ sizes n Xs + ones Xs n
unfolding size
sizes_suc n [] = refl
sizes_suc n (X ∷ Xs) = let below : sizes (suc n) Xs ≡ sizes n Xs + ones Xs n = sizes_suc n Xs in omega arith

-- what holds at each station holds of the sizes
pub count_le : (n : ℕ) (Xs Ys : List Stations) → All n (λ q. ones Xs q ≤ ones Ys q) → sizes n Xs ≤ sizes n Ys
count_le zero Xs Ys at = omega (arith, sizes_zero Xs, sizes_zero Ys)
count_le (suc n) Xs Ys at =
    let below : sizes n Xs ≤ sizes n Ys = count_le n Xs Ys (λ q h. at q (omega arith)) in
    omega (arith, sizes_suc n Xs, sizes_suc n Ys, at n (le_refl (suc n)))

-- all stations
abbrev pub everyone : Stations
everyone q = true

pub size_everyone : (n : ℕ) → size n everyone ≡ n
unfolding size one
size_everyone zero = refl
size_everyone (suc n) = omega (arith, size_everyone n)

pub one_le : (b : Bool) → one b ≤ 1
unfolding one
one_le true = le_refl 1
one_le false = omega arith

-- a set is no larger than the number of stations
pub size_le : (n : ℕ) (X : Stations) → size n X ≤ n
unfolding one
size_le n X =
    omega (arith, size_everyone n, count_le n (X ∷ []) (everyone ∷ []) (λ q h. omega (arith, one_le (X q))))

below_suc : {q n : ℕ} → q < suc n → (q ≡ n) ⊎ (q < n)
below_suc h = eq-or-lt_of_le (le_of_suc-le-suc h)

-- a set that has a station is not empty
pub size_pos : (n : ℕ) (X : Stations) (q : ℕ) → q < n → q ∈ X → 0 < size n X
unfolding size one
size_pos zero X q h m = omega arith
size_pos (suc n) X q h m =
    ⊎_elim (λ e. let here : one (X n) ≡ 1 = ap one (ap X (sym e) ∙ m) in omega arith)
    (λ l. omega (arith, size_pos n X q l m)) (below_suc h)

-- and a set that is not empty has a station
pub size_member : (n : ℕ) (X : Stations) → 0 < size n X → (q : ℕ) × (q < n) × (q ∈ X)
unfolding size one
size_member zero X h = absurd (omega arith)
size_member (suc n) X h = here (X n) refl (λ k. size_member n X k)
  where
    here : (b : Bool) → X n ≡ b → (0 < size n X → (q : ℕ) × (q < n) × (q ∈ X)) → (q : ℕ) × (q < suc n) × (q ∈ X)
    here true e below = (n, le_refl (suc n), e)
    here false e below =
        let none_here : one (X n) ≡ 0 = ap one e in
        let found = below (omega arith) in
        (found.0, omega (arith, found.1), found.2)

-- all stations are in a set whose size is n
pub size_all : (n : ℕ) (X : Stations) → All n (λ q. q ∈ X) → size n X ≡ n
unfolding size one
size_all zero X all = refl
size_all (suc n) X all =
    let here : one (X n) ≡ 1 = ap one (all n (le_refl (suc n))) in
    omega (arith, size_all n X (λ q h. all q (omega arith)))

-- no station is in a set whose size is 0
pub size_none : (n : ℕ) (X : Stations) → All n (λ q. X q ≡ false) → size n X ≡ 0
unfolding size one
size_none zero X none = refl
size_none (suc n) X none =
    let here : one (X n) ≡ 0 = ap one (none n (le_refl (suc n))) in
    omega (arith, size_none n X (λ q h. none q (omega arith)))

-- sets with the same stations have the same size
pub size_cong : (n : ℕ) (X Y : Stations) → All n (λ q. X q ≡ Y q) → size n X ≡ size n Y
unfolding size
size_cong zero X Y at = refl
size_cong (suc n) X Y at =
    let here : one (X n) ≡ one (Y n) = ap one (at n (le_refl (suc n))) in
    omega (arith, size_cong n X Y (λ q h. at q (omega arith)))

-- two numbers whose difference is absurd are equal
pub agree : (v w : ℕ) → (v ≢ w → ⊥) → v ≡ w
agree v w h = go (ℕ_discrete v w)
  where
    go : Dec (v ≡ w) → v ≡ w
    go (yes e) = e
    go (no apart) = absurd (h apart)

pub both : (a b : Bool) → a && b ≡ true → (a ≡ true) × (b ≡ true)
both true b e = (refl, e)
both false b e = absurd (false≢true e)

-- a test of each station holds of all exactly if it holds at each
pub every_at : (n : ℕ) (X : Stations) → every n X ≡ true → All n (λ q. q ∈ X)
unfolding every
every_at zero X e q h = absurd (omega arith)
every_at (suc n) X e q h =
    let here = both (every n X) (X n) e in
    ⊎_elim (λ (p : q ≡ n). rw p here.1) (every_at n X here.0 q) (below_suc h)

pub every_is : (n : ℕ) (X : Stations) → All n (λ q. q ∈ X) → every n X ≡ true
unfolding every
every_is zero X all = refl
every_is (suc n) X all = rw (every_is n X (λ q h. all q (omega arith)), all n (le_refl (suc n)))
