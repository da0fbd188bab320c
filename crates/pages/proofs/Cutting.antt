-- A tape's rounds, as they are handed to the calls: no piece is empty, since an empty one would say that the tape has
-- ended; and joined behind the opening they are the tape.
use mathlib.Core.Path.{◌≡◌, refl, ap, ◌∙◌}
use mathlib.Core.List.{List, [], ◌∷◌, ◌++◌, flatten}
use Prim.Native.Nat.{ℕ, zero, suc, ◌≤◌, ◌<◌}
use native.Mathlib.Nat.{le_refl}
use native.Mathlib.Omega.{arith}
use lib.ListN.{length, take, drop, length-take, length-drop, take-append-drop}
use Rattle.run.specs.Tape.{opening_part, rounds_part}
use Rattle.run.proofs.Tapes.{parts_join}
use Rattle.play.specs.Play.{cut_to, cut}

abbrev pub NoneEmpty : List (List ℕ) → Type 0
NoneEmpty [] = Unit {0}
NoneEmpty (r ∷ rs) = (length r ≡ 0 → ⊥) × NoneEmpty rs

module _ (size : ℕ) (some : 0 < size) where
  some_first : (b : ℕ) (bs : List ℕ) → length (take size (b ∷ bs)) ≡ 0 → ⊥
  some_first b bs none = omega (arith, length-take size (b ∷ bs))

  none_empty : (most : ℕ) (bs : List ℕ) → NoneEmpty (cut_to most size bs)
  unfolding cut_to
  none_empty zero bs = tt
  none_empty (suc most) [] = tt
  none_empty (suc most) (b ∷ bs) = (some_first b bs, none_empty most (drop size (b ∷ bs)))

  pub cut_some : (bs : List ℕ) → NoneEmpty (cut size bs)
  unfolding cut
  cut_some bs = none_empty (length bs) bs

  none_lost : (most : ℕ) (bs : List ℕ) → length bs ≤ most → flatten (cut_to most size bs) ≡ bs
  unfolding cut_to flatten
  none_lost zero [] few = refl
  none_lost zero (b ∷ bs) few = absurd (omega arith)
  none_lost (suc most) [] few = refl
  none_lost (suc most) (b ∷ bs) few =
      ap (λ (l : List ℕ). take size (b ∷ bs) ++ l)
      (none_lost most (drop size (b ∷ bs)) (omega (arith, length-drop size (b ∷ bs))))
      ∙ take-append-drop size (b ∷ bs)

  pub cut_joined : (bs : List ℕ) → flatten (cut size bs) ≡ bs
  unfolding cut
  cut_joined bs = none_lost (length bs) bs (le_refl (length bs))

  -- what the calls are handed is the whole tape
  pub tape_joined : (tape : List ℕ) → opening_part tape ++ flatten (cut size (rounds_part tape)) ≡ tape
  tape_joined tape = ap (λ (l : List ℕ). opening_part tape ++ l) (cut_joined (rounds_part tape)) ∙ parts_join tape
