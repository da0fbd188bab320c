-- What a tally tells of the rules' answers. Its fields are those of the two answers that it holds; and of the values
-- that pass T, or E, of which there is one at most, the most frequent is the one, if any passes.
use mathlib.Core.Path.{◌≡◌, refl, ap, ◌∙◌}
use mathlib.Core.Bool.{Bool, true, cond}
use Rattle.std.specs.Prelude.{Option, None, Some}
use Prim.Native.Nat.{ℕ, ◌<◌}
use native.Mathlib.Omega.{arith}
use lib.Count.{ones}
use lib.Dec.{eqb}
use borrow.Author.Tests.{ne_eqb}
use Rattle.paper.specs.Heard.{Row, R}
use Rattle.paper.specs.Setup.{U, Setup, acceptable, passes_t, passes_e, vouched}
use Rattle.paper.specs.Rules.{times, smallest, most_often}
use Rattle.paper.proofs.Passing.{OnePasses, if_passing, zero_fails, passing_is_most, one_passes_t, one_passes_e}
use Rattle.hearing.specs.Masks.{mask}
use Rattle.hearing.specs.Tally.{value_or_0, senders_of, tally}
use Rattle.hearing.proofs.Leads.{leads_iff}
use Rattle.hearing.proofs.Counts.{times_ones}

module _ (n : ℕ) (row : Row) (enough : ℕ → Bool) where
  -- the most frequent value: none exactly if it has no senders
  pub most_told : smallest n row (most_often n row)
      ≡ cond (eqb (tally n row enough).senders 0) None (Some (tally n row enough).value)
  unfolding tally ones
  most_told = go (smallest n row (most_often n row)) refl
    where
      go : (a : Option ℕ) → smallest n row (most_often n row) ≡ a
          → a ≡ cond (eqb (senders_of n row a) 0) None (Some (value_or_0 a))
      go None e = refl
      go (Some v) e =
          let came : 0 < times n row v = ((leads_iff n row v).0 e).received in
          rw (ne_eqb (mask n (R row v)) 0 (λ z. omega (arith, times_ones n row v ∙ ap ones z)))

  -- the smallest that came often enough
  pub least_told : smallest n row (λ v. enough (times n row v)) ≡ (tally n row enough).least
  unfolding tally
  least_told = refl

  -- where one value at most passes a test, the most frequent is the one, if any passes
  pub passing_told : (pass : ℕ → Bool) → OnePasses n row pass
      → smallest n row (λ v. pass (times n row v))
      ≡ cond (pass (ones (tally n row enough).senders)) (Some (tally n row enough).value) None
  unfolding tally ones
  passing_told pass one = rw (passing_is_most n row pass one) (go (smallest n row (most_often n row)))
    where
      go : (a : Option ℕ) → if_passing n row pass a ≡ cond (pass (ones (senders_of n row a))) (Some (value_or_0 a)) None
      go None = rw (zero_fails n row pass one)
      go (Some v) = rw (← times_ones n row v)

-- the same in the rules' own words
module _ (S : Setup) (row : Row) where
  pub over_t_told : (enough : ℕ → Bool) → acceptable S ≡ true → S.algorithm ≡ U
      → smallest S.n row (λ v. passes_t S (times S.n row v))
      ≡ cond (passes_t S (ones (tally S.n row enough).senders)) (Some (tally S.n row enough).value) None
  over_t_told enough ok own = passing_told S.n row enough (passes_t S) (one_passes_t S row ok own)

  pub over_e_told : (enough : ℕ → Bool) → acceptable S ≡ true
      → smallest S.n row (λ v. passes_e S (times S.n row v))
      ≡ cond (passes_e S (ones (tally S.n row enough).senders)) (Some (tally S.n row enough).value) None
  over_e_told enough ok = passing_told S.n row enough (passes_e S) (one_passes_e S row ok)

  pub vouched_told : smallest S.n row (λ v. vouched S (times S.n row v))
      ≡ (tally S.n row (vouched S)).least
  vouched_told = least_told S.n row (vouched S)
