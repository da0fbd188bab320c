-- Sets of stations and their sizes: the paper's section 2.1, rules 7.5 and 7.8.
-- A station is a number below n, its place, and nothing else tells one station from another.
use Rattle.std.specs.Prelude.{◌≡◌, Bool, true, false, not, ◌&&◌, ℕ, zero, suc, ◌+◌, ◌<◌}

-- a set of stations: a test of each station
abbrev pub Stations : Type 0
Stations = ℕ → Bool

infix 40 ◌∈◌
abbrev pub ◌∈◌ : ℕ → Stations → Type 0
q ∈ X = X q ≡ true

infixl 60 ◌∖◌
abbrev pub ◌∖◌ : Stations → Stations → Stations
(X ∖ Y) q = X q && not (Y q)

-- what one station adds to the size of a set
unfoldable pub one : Bool → ℕ
one true = 1
one false = 0

-- |X|, the number of the stations below n that are in X
unfoldable pub size : ℕ → Stations → ℕ
unfolding one
size zero X = 0
size (suc n) X = size n X + one (X n)

-- each station below n is in X
abbrev pub All : ℕ → (ℕ → Type 0) → Type 0
All n P = (q : ℕ) → q < n → P q

-- the same as a test
unfoldable pub every : ℕ → Stations → Bool
every zero X = true
every (suc n) X = every n X && X n
