-- Acceptable setups: the tests of Theorems 1 and 2 as orders of numbers, and back. Under A the last inequality follows
-- from the others, so that the four in a row are the test under either algorithm.
use mathlib.Core.Path.{◌≡◌, refl, sym, ◌∙◌, subst}
use mathlib.Core.Bool.{Bool, true, false, ◌&&◌}
use Prim.Native.Nat.{ℕ, ◌+◌, ◌*◌, ◌≤◌, ◌<◌}
use native.Mathlib.Omega.{arith}
use lib.Dec.{leb}
use borrow.Author.Tests.{ltb-true, leb-true, lt-ltb, le-leb}
use Rattle.paper.proofs.Counting.{both}
use Rattle.paper.specs.Setup.{Algorithm, A, U, Setup, whole, e_below_n, t_below_n, t_enough, e_enough}
use Rattle.paper.specs.Setup.{acceptable_for, acceptable}

-- the two algorithms are apart
pub a_not_u : A ≡ U → ⊥
a_not_u e = let z : ◌≡◌ {A = ℕ} 0 1 = cc in omega arith

-- a setup goes by its own algorithm's test
pub acceptable_own : (S : Setup) (a : Algorithm) → acceptable S ≡ true → S.algorithm ≡ a → acceptable_for a S ≡ true
unfolding acceptable
acceptable_own S a ok own = subst (λ (b : Algorithm). acceptable_for b S ≡ true) own ok

-- the inequalities of Theorem 1 and of Theorem 2, as orders of numbers
pub record MeetsA (S : Setup) : Type 0 where
  pub e_below : S.E < S.n
  pub t_below : S.T < S.n
  pub t_high : 2 * (S.n + 2 * S.alpha) ≤ S.T + 2 * S.E

pub record MeetsU (S : Setup) : Type 0 where
  pub e_below : S.E < S.n
  pub t_below : S.T < S.n
  pub t_high : S.n + 2 * S.alpha ≤ 2 * S.T
  pub e_high : S.n + 2 * S.alpha ≤ 2 * S.E

pub meets_a : (S : Setup) → acceptable_for A S ≡ true → MeetsA S
unfolding acceptable_for e_below_n t_below_n t_enough
meets_a S e =
    let (first_two, third) = both _ _ e in
    let (first, second) = both _ _ first_two in
    record { e_below = ltb-true _ _ first; t_below = ltb-true _ _ second; t_high = leb-true _ _ third }

pub meets_u : (S : Setup) → acceptable_for U S ≡ true → MeetsU S
unfolding acceptable_for e_below_n t_below_n t_enough e_enough
meets_u S e =
    let (first_three, fourth) = both _ _ e in
    let (first_two, third) = both _ _ first_three in
    let (first, second) = both _ _ first_two in
    record {
      e_below = ltb-true _ _ first;
      t_below = ltb-true _ _ second;
      t_high = leb-true _ _ third;
      e_high = leb-true _ _ fourth;
    }

-- and back: a setup is acceptable exactly if it meets them
pub acceptable_a : (S : Setup) → MeetsA S → acceptable_for A S ≡ true
unfolding acceptable_for e_below_n t_below_n t_enough
acceptable_a S m = rw (lt-ltb _ _ m.e_below, lt-ltb _ _ m.t_below, le-leb _ _ m.t_high)

pub acceptable_u : (S : Setup) → MeetsU S → acceptable_for U S ≡ true
unfolding acceptable_for e_below_n t_below_n t_enough e_enough
acceptable_u S m = rw (lt-ltb _ _ m.e_below, lt-ltb _ _ m.t_below, le-leb _ _ m.t_high, le-leb _ _ m.e_high)

-- the bound 2E >= n + 2 alpha follows under A (Theorem 1's proof)
pub e_follows : (S : Setup) → acceptable_for A S ≡ true → e_enough S ≡ true
unfolding e_enough
e_follows S ok = let m = meets_a S ok in le-leb (S.n + 2 * S.alpha) (2 * S.E) (omega arith)

-- a test that follows from another adds nothing to it
and_follows : (a b : Bool) → (a ≡ true → b ≡ true) → a ≡ a && b
and_follows true b h = sym (h refl)
and_follows false b h = refl

four_for : (a : Algorithm) (S : Setup) → acceptable_for a S ≡ e_below_n S && t_below_n S && t_enough a S && e_enough S
unfolding acceptable_for
four_for A S = and_follows (acceptable_for A S) (e_enough S) (e_follows S)
four_for U S = refl

-- each setup's test is that of the four inequalities
pub acceptable_is : (S : Setup) → acceptable S ≡ e_below_n S && t_below_n S && t_enough S.algorithm S && e_enough S
unfolding acceptable
acceptable_is S = four_for S.algorithm S

-- what every acceptable setup meets, under either algorithm
pub record Meets (S : Setup) : Type 0 where
  pub e_below : S.E < S.n
  pub t_below : S.T < S.n
  pub e_high : S.n + 2 * S.alpha ≤ 2 * S.E

pub meets : (S : Setup) → acceptable S ≡ true → Meets S
unfolding e_below_n t_below_n e_enough
meets S e =
    let (three, fourth) = both _ _ (rw acceptable_is at e) in
    let (two, third) = both _ _ three in
    let (first, second) = both _ _ two in
    record { e_below = ltb-true _ _ first; t_below = ltb-true _ _ second; e_high = leb-true _ _ fourth }

-- no setup with one station and whole thresholds is acceptable
pub lone_fails : (a : Algorithm) (n T E alpha : ℕ) → n ≡ 1 → acceptable (whole a n T E alpha) ≡ false
lone_fails a n T E alpha one = go (acceptable (whole a n T E alpha)) refl
  where
    go : (b : Bool) → acceptable (whole a n T E alpha) ≡ b → b ≡ false
    go true e = let m = meets (whole a n T E alpha) e in absurd (omega arith)
    go false e = refl

-- orders that follow from each other are tested alike
pub leb_same : (a b c d : ℕ) → (a ≤ b → c ≤ d) → (c ≤ d → a ≤ b) → leb a b ≡ leb c d
leb_same a b c d there back = go (leb a b) (leb c d) refl refl
  where
    go : (s t : Bool) → leb a b ≡ s → leb c d ≡ t → leb a b ≡ leb c d
    go true t p q = p ∙ sym (le-leb c d (there (leb-true a b p)))
    go false true p q = le-leb a b (back (leb-true c d q)) ∙ sym q
    go false false p q = p ∙ sym q
