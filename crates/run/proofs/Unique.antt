-- Answers are determined: two that meet one promise of the form "the answer is this definition of what was handed in"
-- are equal, since both are that definition.
use mathlib.Core.Path.{◌≡◌, sym, ◌∙◌}

pub one_answer {ℓ} : {A : Type ℓ} {x y d : A} → x ≡ d → y ≡ d → x ≡ y
one_answer p q = p ∙ sym q
