-- Counts that pass T, E, the bound of equation (7) or alpha: what each test says in plain numbers, and what the lemmas
-- need of them. Each is linear arithmetic over the inequalities of Theorems 1 and 2.
use mathlib.Core.Path.{◌≡◌}
use mathlib.Core.Bool.{true}
use mathlib.Core.Logic.{◌↔◌}
use Prim.Native.Nat.{ℕ, ◌+◌, ◌*◌, ◌≤◌, ◌<◌, zero-le}
use native.Mathlib.Omega.{arith}
use borrow.Author.Tests.{ltb-true, leb-true, lt-ltb, le-leb}
use Rattle.paper.specs.Setup.{A, U, Setup, passes_t, passes_e, vouched, tolerated, acceptable, safe_bound}
use Rattle.paper.specs.Setup.{passes_bound}
use Rattle.paper.proofs.Setups.{acceptable_own, meets_a, meets_u, meets}

module _ (S : Setup) where
  -- ---- the tests, as orders of numbers
  pub passes_t_iff : (k : ℕ) → (passes_t S k ≡ true) ↔ (S.T < k)
  unfolding passes_t
  passes_t_iff k = (ltb-true S.T k, lt-ltb S.T k)

  pub passes_e_iff : (k : ℕ) → (passes_e S k ≡ true) ↔ (S.E < k)
  unfolding passes_e
  passes_e_iff k = (ltb-true S.E k, lt-ltb S.E k)

  pub vouched_iff : (k : ℕ) → (vouched S k ≡ true) ↔ (S.alpha < k)
  unfolding vouched
  vouched_iff k = (λ e. omega (arith, leb-true (S.alpha + 1) k e), λ h. le-leb (S.alpha + 1) k (omega arith))

  pub tolerated_iff : (k : ℕ) → (tolerated S k ≡ true) ↔ (k ≤ S.alpha)
  unfolding tolerated
  tolerated_iff k = (leb-true k S.alpha, le-leb k S.alpha)

  -- equation (7): more than T, more than alpha, and more than n + 2 alpha - E - 1, with E + 1 on both sides. Of any
  -- setup: what is more than T is not 0, so that a difference cut off at 0 is passed too
  pub passes_bound_iff : (k : ℕ)
      → (passes_bound S k ≡ true) ↔ ((S.T < k) × (S.alpha < k) × (S.n + 2 * S.alpha < k + S.E + 1))
  unfolding passes_bound safe_bound
  passes_bound_iff k = (λ e. omega (arith, ltb-true (safe_bound S) k e), λ more. lt-ltb (safe_bound S) k (omega arith))

  -- ---- of any setup
  -- where one count passes E, or T, so does a larger one
  pub more_pass_e : (a b : ℕ) → a ≤ b → passes_e S a ≡ true → passes_e S b ≡ true
  more_pass_e a b h x = (passes_e_iff b).1 (omega (arith, (passes_e_iff a).0 x))

  pub more_pass_t : (a b : ℕ) → a ≤ b → passes_t S a ≡ true → passes_t S b ≡ true
  more_pass_t a b h x = (passes_t_iff b).1 (omega (arith, (passes_t_iff a).0 x))

  -- none altered is tolerated
  pub none_tolerated : tolerated S 0 ≡ true
  none_tolerated = (tolerated_iff 0).1 zero-le

  -- equation (7) gives: a safe set passes T
  pub bound_t : (k : ℕ) → passes_bound S k ≡ true → passes_t S k ≡ true
  bound_t k x = (passes_t_iff k).1 ((passes_bound_iff k).0 x).0

  -- ---- of an acceptable setup
  module _ (ok : acceptable S ≡ true) where
    -- a count that passes T, or E, is not 0
    pub passed_t : (k : ℕ) → passes_t S k ≡ true → 0 < k
    passed_t k x = omega (arith, (passes_t_iff k).0 x)

    pub passed_e : (k : ℕ) → passes_e S k ≡ true → 0 < k
    passed_e k x = omega (arith, (passes_e_iff k).0 x)

    -- two counts that pass E are together more than n + 2 alpha (Lemmas 2 and 3)
    pub two_pass_e : (a b : ℕ) → passes_e S a ≡ true → passes_e S b ≡ true → S.n + 2 * S.alpha < a + b
    two_pass_e a b x y = let m = meets S ok in omega (arith, (passes_e_iff a).0 x, (passes_e_iff b).0 y)

    -- alpha is below n
    pub alpha_below_n : S.alpha < S.n
    alpha_below_n = let m = meets S ok in omega arith

    -- n messages pass T, E and the bound
    pub n_passes_t : passes_t S S.n ≡ true
    n_passes_t = let m = meets S ok in (passes_t_iff S.n).1 m.t_below

    pub n_passes_e : passes_e S S.n ≡ true
    n_passes_e = let m = meets S ok in (passes_e_iff S.n).1 m.e_below

    pub n_passes_bound : passes_bound S S.n ≡ true
    n_passes_bound =
        let m = meets S ok in (passes_bound_iff S.n).1 (m.t_below, alpha_below_n, omega arith)

    -- all stations and alpha together pass E
    pub all_pass_e : passes_e S (S.n + S.alpha) ≡ true
    all_pass_e = more_pass_e S.n (S.n + S.alpha) (omega arith) n_passes_e

    -- alpha alone does not pass E
    pub alpha_not_e : passes_e S S.alpha ≡ true → ⊥
    alpha_not_e x = let m = meets S ok in omega (arith, (passes_e_iff S.alpha).0 x)

    -- Lemma 4's count, under A: where k stations and alpha together pass E, and h heard pass T, those heard are more
    -- than twice those left over
    pub outweighs : S.algorithm ≡ A → (h k : ℕ) → passes_t S h ≡ true → passes_e S (k + S.alpha) ≡ true
        → 2 * (S.n + S.alpha) < h + 2 * k
    outweighs own h k x y =
        let m = meets_a S (acceptable_own S A ok own) in
        omega (arith, (passes_t_iff h).0 x, (passes_e_iff (k + S.alpha)).0 y)

    -- two counts that pass T are together more than n + 2 alpha, under U (Lemma 8)
    pub two_pass_t : S.algorithm ≡ U → (a b : ℕ) → passes_t S a ≡ true → passes_t S b ≡ true
        → S.n + 2 * S.alpha < a + b
    two_pass_t own a b x y =
        let m = meets_u S (acceptable_own S U ok own) in omega (arith, (passes_t_iff a).0 x, (passes_t_iff b).0 y)

    -- equation (7) again: with k voters that together with alpha pass E, a safe set is large enough for Lemma 9
    pub bound_e : S.algorithm ≡ U → (k s : ℕ) → passes_e S (k + S.alpha) ≡ true → passes_bound S s ≡ true
        → S.n + S.alpha < k + s
    bound_e own k s x y = omega (arith, (passes_e_iff (k + S.alpha)).0 x, (passes_bound_iff s).0 y)
