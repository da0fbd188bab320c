-- The parameters of a run and the inequalities between them: the paper's Theorems 1 and 2 (n > alpha follows from the
-- others), rules 10.2 to 10.6, and the bounds of its equations (2) and (7), rules 10.8 and 10.9.
-- Each inequality has its own name. What the numbers T and E mean is said here and nowhere else: all else goes by
-- whether a count passes T, or E, or the bound, and by the laws of proofs/Setups and proofs/Thresholds.
use Rattle.std.specs.Prelude.{Bool, ◌&&◌, ℕ, ◌+◌, ◌-◌, ◌*◌, max, leb, ltb}

pub data Algorithm : Type 0 where
  A U : Algorithm

pub record Setup : Type 0 where
  pub algorithm : Algorithm
  pub n : ℕ
  pub T : ℕ
  pub E : ℕ
  pub alpha : ℕ

-- A(n, T, E, alpha) or U(n, T, E, alpha): the setup with these whole thresholds
abbrev pub whole : Algorithm → ℕ → ℕ → ℕ → ℕ → Setup
whole a n T E alpha = record { algorithm = a; n = n; T = T; E = E; alpha = alpha }

-- k messages are more than T (Algorithm 1, line 7; Algorithm 2, line 8)
unfoldable pub passes_t : Setup → ℕ → Bool
passes_t S k = ltb S.T k

-- k messages are more than E (Algorithm 1, line 9; Algorithm 2, line 18)
unfoldable pub passes_e : Setup → ℕ → Bool
passes_e S k = ltb S.E k

-- k messages are at least alpha + 1 (Algorithm 2, line 14)
unfoldable pub vouched : Setup → ℕ → Bool
vouched S k = leb (S.alpha + 1) k

-- k altered messages are at most alpha (equation (2))
unfoldable pub tolerated : Setup → ℕ → Bool
tolerated S k = leb k S.alpha

-- n > E
unfoldable pub e_below_n : Setup → Bool
e_below_n S = ltb S.E S.n

-- n > T
unfoldable pub t_below_n : Setup → Bool
t_below_n S = ltb S.T S.n

-- T >= 2(n + 2 alpha - E) under A (Theorem 1), with 2E on both sides; 2T >= n + 2 alpha under U (Theorem 2)
unfoldable pub t_enough : Algorithm → Setup → Bool
t_enough A S = leb (2 * (S.n + 2 * S.alpha)) (S.T + 2 * S.E)
t_enough U S = leb (S.n + 2 * S.alpha) (2 * S.T)

-- 2E >= n + 2 alpha (Theorem 2; under A it follows from the others)
unfoldable pub e_enough : Setup → Bool
e_enough S = leb (S.n + 2 * S.alpha) (2 * S.E)

-- what the setup of each algorithm has to meet
unfoldable pub acceptable_for : Algorithm → Setup → Bool
unfolding e_below_n t_below_n t_enough e_enough
acceptable_for A S = e_below_n S && t_below_n S && t_enough A S
acceptable_for U S = e_below_n S && t_below_n S && t_enough U S && e_enough S

unfoldable pub acceptable : Setup → Bool
unfolding acceptable_for
acceptable S = acceptable_for S.algorithm S

-- the right side of equation (7): T, alpha or n + 2 alpha - E - 1, whichever is greatest (T, in acceptable setups of
-- U). A difference below 0 counts as 0, and T is no less: `passes_bound_iff` says the same with nothing subtracted
unfoldable pub safe_bound : Setup → ℕ
safe_bound S = max (max (S.n + 2 * S.alpha - S.E - 1) S.T) S.alpha

-- k senders are more than that bound
unfoldable pub passes_bound : Setup → ℕ → Bool
unfolding safe_bound
passes_bound S k = ltb (safe_bound S) k
