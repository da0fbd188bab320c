-- Bytes cut into pieces (rule 13.3): none, one piece off the front, and two lists of bytes joined where the first is
-- whole pieces. What is left falls with each piece, so any bound that is long enough gives the same pieces.
use mathlib.Core.Path.{◌≡◌, refl, ap, ap₂, sym, ◌∙◌}
use mathlib.Core.Bool.{Bool, true, false}
use mathlib.Core.List.{List, [], ◌∷◌, ◌++◌, append-nil}
use Prim.Native.Nat.{ℕ, zero, suc, ◌+◌, ◌*◌, ◌≤◌, ◌<◌}
use native.Mathlib.Nat.{le_refl, zero-mul, suc-mul}
use native.Mathlib.Omega.{arith}
use lib.Dec.{leb}
use lib.ListN.{length, take, drop, length-drop, length-append, take-append-drop, drop_of_length-le}
use lib.Seq.{take_all, length-take-le, take-append-le, drop-append-le}
use borrow.Author.Tests.{leb-true, leb-false}
use Rattle.play.specs.Play.{cut_to, cut}

pub cut_none : (size : ℕ) → cut size [] ≡ []
unfolding cut
cut_none size = refl

pub cut_first : (size : ℕ) (bs : List ℕ) → (length bs ≡ 0 → ⊥) → take 1 (cut size bs) ≡ take size bs ∷ []
unfolding cut
cut_first size [] some = absurd (some refl)
cut_first size (b ∷ bs) some = refl

module _ (size : ℕ) (some : 0 < size) where
  -- a bound that is long enough is as good as any other
  enough : (m k : ℕ) (bs : List ℕ) → length bs ≤ m → length bs ≤ k → cut_to m size bs ≡ cut_to k size bs
  unfolding cut_to
  enough zero zero bs h g = refl
  enough zero (suc k) [] h g = refl
  enough zero (suc k) (b ∷ bs) h g = absurd (omega arith)
  enough (suc m) zero [] h g = refl
  enough (suc m) zero (b ∷ bs) h g = absurd (omega arith)
  enough (suc m) (suc k) [] h g = refl
  enough (suc m) (suc k) (b ∷ bs) h g =
      ap (λ (rest : List (List ℕ)). take size (b ∷ bs) ∷ rest)
      (enough m k (drop size (b ∷ bs)) (omega (arith, length-drop size (b ∷ bs)))
      (omega (arith, length-drop size (b ∷ bs))))

  pub cut_on : (bs : List ℕ) → 0 < length bs → cut size bs ≡ take size bs ∷ cut size (drop size bs)
  unfolding cut
  cut_on [] h = absurd (omega arith)
  cut_on (b ∷ bs) h =
      ap (λ (rest : List (List ℕ)). take size (b ∷ bs) ∷ rest)
      (enough (length bs) (length (drop size (b ∷ bs))) (drop size (b ∷ bs)) (omega (arith, length-drop size (b ∷ bs)))
      (le_refl (length (drop size (b ∷ bs)))))

  -- cutting after a whole number of pieces
  pub cut_join : (k : ℕ) (xs ys : List ℕ) → length xs ≡ k * size → cut size (xs ++ ys) ≡ cut size xs ++ cut size ys
  cut_join zero [] ys e = rw (cut_none size)
  cut_join zero (x ∷ xs) ys e = absurd (omega (arith, zero-mul size))
  cut_join (suc k) xs ys e =
      let long : length xs ≡ k * size + size = e ∙ suc-mul k size in
      let left : length (drop size xs) ≡ k * size = length-drop size xs ∙ omega arith in
      let fits : size ≤ length xs = omega arith in
      cut_on (xs ++ ys) (omega (arith, length-append xs ys))
      ∙ ap₂ (λ (x : List ℕ) (rest : List (List ℕ)). x ∷ rest) (take-append-le size xs ys fits)
      (ap (cut size) (drop-append-le size xs ys fits) ∙ cut_join k (drop size xs) ys left)
      ∙ ap (λ (rest : List (List ℕ)). rest ++ cut size ys) (sym (cut_on xs (omega arith)))

  -- the first k pieces and the rest, also where there are fewer
  pub cut_part : (k : ℕ) (bs : List ℕ) → cut size bs ≡ cut size (take (k * size) bs) ++ cut size (drop (k * size) bs)
  cut_part k bs = go (leb (k * size) (length bs)) refl
    where
      go : (b : Bool) → leb (k * size) (length bs) ≡ b
          → cut size bs ≡ cut size (take (k * size) bs) ++ cut size (drop (k * size) bs)
      go true e =
          ap (cut size) (sym (take-append-drop (k * size) bs))
          ∙ cut_join k (take (k * size) bs) (drop (k * size) bs) (length-take-le (k * size) bs (leb-true _ _ e))
      go false e =
          let above = leb-false (k * size) (length bs) e in
          rw (take_all (k * size) bs (omega arith), drop_of_length-le bs {i = k * size} (omega arith), cut_none size)
          (sym (append-nil (cut size bs)))
