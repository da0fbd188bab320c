-- A test holds of every place exactly if a search finds none that fails it: by induction on the number of places.
use Rattle.std.proofs.Common.{◌≡◌, refl, sym, ◌∙◌, ℕ, zero, suc, Bool, true, false, not, ◌&&◌}
use mathlib.Core.Bool.{false≢true}
use Rattle.std.specs.Option.{is_some}
use Rattle.std.specs.Prelude.{Option, None, Some}
use Rattle.paper.specs.Stations.{every}
use Rattle.run.specs.First.{or_here, first}

-- one more place
fails_here : (o : Option ℕ) (all here : Bool) (n : ℕ) → is_some o ≡ not all
    → is_some (or_here o (not here) n) ≡ not (all && here)
fails_here None true true n e = refl
fails_here None true false n e = refl
fails_here None false here n e = absurd (false≢true e)
fails_here (Some i) true here n e = absurd (false≢true (sym e))
fails_here (Some i) false here n e = refl

found_fails : (n : ℕ) (f : ℕ → Bool) → is_some (first n (λ i. not (f i))) ≡ not (every n f)
unfolding first every
found_fails zero f = refl
found_fails (suc n) f = fails_here (first n (λ i. not (f i))) (every n f) (f n) n (found_fails n f)

same_not : (a b : Bool) → not a ≡ not b → a ≡ b
same_not true true e = refl
same_not true false e = absurd (false≢true e)
same_not false true e = absurd (false≢true (sym e))
same_not false false e = refl

pub none_fails : (n : ℕ) (f : ℕ → Bool) (none : Bool) → is_some (first n (λ i. not (f i))) ≡ not none → none ≡ every n f
none_fails n f none e = same_not none (every n f) (sym e ∙ found_fails n f)
