-- That the starts end at n, as a test and as a fact at each place.
use mathlib.Core.Path.{◌≡◌, refl}
use mathlib.Core.Logic.{◌↔◌}
use mathlib.Core.Bool.{Bool, true, false, cond}
use mathlib.Core.List.{List}
use Prim.Native.Nat.{ℕ, ◌<◌, ◌≤◌}
use borrow.Author.Tests.{ltb-false, le-ltb, eq-eqb, eqb-true}
use lib.Dec.{eqb, ltb}
use lib.ListN.{get_or}
use Rattle.paper.proofs.Counting.{every_at, every_is}
use Rattle.limits.specs.declared.Setup.{Setup}
use Rattle.run.specs.Run.{stations}
use Rattle.run.specs.Opening.{starts_end}

module _ (s : Setup) (starts : List ℕ) where
  ends_at : starts_end s starts ≡ true → (i : ℕ) → i < stations → s.n ≤ i → get_or starts i 0 ≡ 0
  unfolding starts_end
  ends_at e i l h = eqb-true (get_or starts i 0) 0 (rw (le-ltb i s.n h) at (every_at stations _ e i l))

  at_ends : ((i : ℕ) → i < stations → s.n ≤ i → get_or starts i 0 ≡ 0) → starts_end s starts ≡ true
  unfolding starts_end
  at_ends h = every_is stations _ (λ i l. go i l (ltb i s.n) refl)
    where
      go : (i : ℕ) → i < stations → (b : Bool) → ltb i s.n ≡ b → cond (ltb i s.n) true (eqb (get_or starts i 0) 0)
          ≡ true
      go i l true q = rw q
      go i l false q = rw q (eq-eqb (get_or starts i 0) 0 (h i l (ltb-false i s.n q)))

  pub starts_end_iff : (starts_end s starts ≡ true) ↔ ((i : ℕ) → i < stations → s.n ≤ i → get_or starts i 0 ≡ 0)
  starts_end_iff = (ends_at, at_ends)

  -- a start from n up that is not 0
  pub starts_go_on : (i : ℕ) → i < stations → s.n ≤ i → (get_or starts i 0 ≡ 0 → ⊥) → false ≡ starts_end s starts
  starts_go_on i l h no_zero = go (starts_end s starts) refl
    where
      go : (b : Bool) → starts_end s starts ≡ b → false ≡ b
      go true e = absurd (no_zero (ends_at e i l h))
      go false e = refl
