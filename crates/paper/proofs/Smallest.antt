-- What `smallest` finds: by induction over the senders, each cell is either passed over or gives a value that passes
-- the test, and the smaller of two such values is kept.
use mathlib.Core.Path.{◌≡◌, refl, ap, subst}
use mathlib.Core.Bool.{Bool, true, false, cond}
use Rattle.std.specs.Prelude.{Option, None, Some}
use mathlib.Core.Logic.{◌⊎◌, inl, inr}
use Prim.Native.Nat.{ℕ, zero, suc, ◌≤◌, ◌<◌, min}
use native.Mathlib.Nat.{le_refl, le_of_suc-le-suc, eq-or-lt_of_le, min-eq_left, min-eq_right, le_antisymm}
use native.Mathlib.Decide.{dec_le}
use native.Mathlib.Omega.{arith}
use Rattle.paper.specs.Heard.{val, query, Cell, lost, heard, Row}
use Rattle.paper.specs.Rules.{candidate, smaller, smallest}

-- v is received, passes the test, and no received value that passes is below it
pub record Least (n : ℕ) (row : Row) (test : ℕ → Bool) (v : ℕ) : Type 0 where
  pub from : ℕ
  pub below : from < n
  pub heard_there : row from ≡ heard (val v)
  pub passes : test v ≡ true
  pub least : (q w : ℕ) → q < n → row q ≡ heard (val w) → test w ≡ true → v ≤ w

-- what an answer says of the values that pass, and of where it comes from
abbrev AtMost : Option ℕ → ℕ → Type 0
AtMost None w = ⊥
AtMost (Some v) w = v ≤ w

abbrev PassesIn : (ℕ → Bool) → Cell → ℕ → Type 0
PassesIn test c v = (c ≡ heard (val v)) × (test v ≡ true)

abbrev Source : ℕ → Row → (ℕ → Bool) → Option ℕ → Type 0
Source n row test None = Unit {0}
Source n row test (Some v) = (q : ℕ) × (q < n) × PassesIn test (row q) v

abbrev SourceCell : (ℕ → Bool) → Cell → Option ℕ → Type 0
SourceCell test c None = Unit {0}
SourceCell test c (Some v) = PassesIn test c v

module _ (test : ℕ → Bool) where
  cell_source : (c : Cell) → SourceCell test c (candidate test c)
  unfolding candidate
  cell_source lost = tt
  cell_source (heard query) = tt
  cell_source (heard (val v)) = go (test v) refl
    where
      go : (b : Bool) → test v ≡ b → SourceCell test (heard (val v)) (cond b (Some v) None)
      go true e = (refl, e)
      go false e = tt

  cell_least : (c : Cell) (w : ℕ) → c ≡ heard (val w) → test w ≡ true → AtMost (candidate test c) w
  unfolding candidate
  cell_least c w e t = rw (e, t) (le_refl w)

-- the answer so far and the answer of the next cell, taken together
joined_source : (test : ℕ → Bool) (n : ℕ) (row : Row) (a b : Option ℕ) → Source n row test a
    → SourceCell test (row n) b
    → Source (suc n) row test (smaller a b)
unfolding smaller
joined_source test n row None None s c = tt
joined_source test n row None (Some w) s c = (n, le_refl (suc n), c)
joined_source test n row (Some v) None s c = (s.0, omega (arith, s.1), s.2)
joined_source test n row (Some v) (Some w) s c = go (dec_le v w)
  where
    go : Dec (v ≤ w) → Source (suc n) row test (Some (min v w))
    go (yes h) = rw min-eq_left (s.0, omega (arith, s.1), s.2)
    go (no h) = let h' : w ≤ v = omega arith in rw min-eq_right (n, le_refl (suc n), c)

joined_least : (a b : Option ℕ) (w : ℕ) → AtMost a w ⊎ AtMost b w → AtMost (smaller a b) w
unfolding smaller
joined_least None None w (inl h) = h
joined_least None None w (inr h) = h
joined_least None (Some y) w (inl h) = absurd h
joined_least None (Some y) w (inr h) = h
joined_least (Some x) None w (inl h) = h
joined_least (Some x) None w (inr h) = absurd h
joined_least (Some x) (Some y) w (inl h) = omega arith
joined_least (Some x) (Some y) w (inr h) = omega arith

module _ (row : Row) (test : ℕ → Bool) where
  source : (n : ℕ) → Source n row test (smallest n row test)
  unfolding smallest
  source zero = tt
  source (suc n) =
      joined_source test n row (smallest n row test) (candidate test (row n)) (source n) (cell_source test (row n))

  at_most : (n q w : ℕ) → q < n → row q ≡ heard (val w) → test w ≡ true → AtMost (smallest n row test) w
  unfolding smallest
  at_most zero q w h e t = omega arith
  at_most (suc n) q w h e t =
      joined_least (smallest n row test) (candidate test (row n)) w
      (go (eq-or-lt_of_le (le_of_suc-le-suc h)) (λ l. at_most n q w l e t))
    where
      go : (q ≡ n) ⊎ (q < n) → (q < n → AtMost (smallest n row test) w)
          → AtMost (smallest n row test) w ⊎ AtMost (candidate test (row n)) w
      go (inl p) earlier = inr (cell_least test (row n) w (rw p at e) t)
      go (inr l) earlier = inl (earlier l)

-- the answer is the least received value that passes
pub smallest_some : (n : ℕ) (row : Row) (test : ℕ → Bool) (v : ℕ) → smallest n row test ≡ Some v → Least n row test v
smallest_some n row test v e =
    let s : Source n row test (Some v) = rw e at (source row test n) in
    record {
      from = s.0;
      below = s.1;
      heard_there = s.2.0;
      passes = s.2.1;
      least = λ q w h f t. subst (λ a. AtMost a w) e (at_most row test n q w h f t);
    }

-- no answer: no received value passes
pub smallest_none : (n : ℕ) (row : Row) (test : ℕ → Bool) → smallest n row test ≡ None → (q w : ℕ) → q < n
    → row q ≡ heard (val w)
    → test w ≡ true → ⊥
smallest_none n row test e q w h f t = subst (λ a. AtMost a w) e (at_most row test n q w h f t)

-- there is one least value at most, and where there is one the answer is it
pub smallest_is : (n : ℕ) (row : Row) (test : ℕ → Bool) (v : ℕ) → Least n row test v → smallest n row test ≡ Some v
smallest_is n row test v l = go (smallest n row test) refl
  where
    go : (a : Option ℕ) → smallest n row test ≡ a → a ≡ Some v
    go None e = absurd (smallest_none n row test e l.from v l.below l.heard_there l.passes)
    go (Some w) e =
        let m : Least n row test w = smallest_some n row test w e in
        ap {B = Option ℕ} Some (le_antisymm (m.least l.from v l.below l.heard_there l.passes)
        (l.least m.from w m.below m.heard_there m.passes))

-- where a received value passes there is an answer
pub smallest_found : (n : ℕ) (row : Row) (test : ℕ → Bool) (q w : ℕ) → q < n → row q ≡ heard (val w) → test w ≡ true
    → (v : ℕ) × (smallest n row test ≡ Some v)
smallest_found n row test q w h f t = go (smallest n row test) refl
  where
    go : (a : Option ℕ) → smallest n row test ≡ a → (v : ℕ) × (smallest n row test ≡ Some v)
    go None e = absurd (smallest_none n row test e q w h f t)
    go (Some v) e = (v, e)
