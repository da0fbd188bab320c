-- An array filled from its start (rules 4.7 and 5.9).
use Rattle.std.specs.Prelude.{ℕ, zero, suc, cond, List, [], ◌∷◌, ltb}

module _ {ℓ} {A : Type ℓ} where
  -- the list of n elements whose element i is f i
  unfoldable pub tabulate : ℕ → (ℕ → A) → List A
  tabulate zero f = []
  tabulate (suc n) f = f 0 ∷ tabulate n (λ i. f (suc i))

  -- m elements: the first k of them from f, the others d
  unfoldable pub filled : ℕ → ℕ → (ℕ → A) → A → List A
  filled m k f d = tabulate m (λ i. cond (ltb i k) (f i) d)
