-- What `smallest` finds, told by the counts alone. A value is received exactly if its count is not 0, so which value
-- leads depends on how often each came, as does which is the smallest that passes (the paper's proofs/Passing.antt);
-- and one more value changes both only at itself.
use mathlib.Core.Path.{◌≡◌, refl, sym, ◌∙◌}
use mathlib.Core.Bool.{Bool, true, false}
use Rattle.std.specs.Prelude.{Option, None, Some}
use Rattle.std.proofs.lemmas.Option.{none-some}
use mathlib.Core.Logic.{◌↔◌, ◌≢◌}
use Prim.Native.Nat.{ℕ, ◌≤◌, ◌<◌}
use native.Mathlib.Nat.{le_refl}
use native.Mathlib.Decide.{dec_le, ℕ_discrete}
use native.Mathlib.Omega.{arith}
use Rattle.paper.specs.Heard.{Row}
use Rattle.paper.specs.Rules.{times, smallest, most_often}
use Rattle.paper.proofs.Smallest.{Least, smallest_some, smallest_is}
use Rattle.paper.proofs.MostOften.{Received, came, most_often_iff, most_often_all, most_often_found}
use Rattle.paper.proofs.Passing.{lowest_found}

-- f w is how often w came
pub record Leads (f : ℕ → ℕ) (v : ℕ) : Type 0 where
  pub received : 0 < f v
  pub oftenest : (w : ℕ) → f w ≤ f v
  pub first : (w : ℕ) → f w ≡ f v → v ≤ w

module _ (n : ℕ) (row : Row) where
  pub leads_iff : (v : ℕ) → (smallest n row (most_often n row) ≡ Some v) ↔ Leads (times n row) v
  leads_iff v = (to, from)
    where
      to : smallest n row (most_often n row) ≡ Some v → Leads (times n row) v
      to e =
          let l : Least n row (most_often n row) v = smallest_some n row (most_often n row) v e in
          let r : 0 < times n row v = (came n row v).1 (l.from, l.below, l.heard_there) in
          record {
            received = r;
            oftenest = most_often_all n row v l.passes;
            first =
                λ w t.
                let s : Received n row w = (came n row w).0 (omega arith) in
                l.least s.0 w s.1 s.2 ((most_often_iff n row w).1
                (λ u h. omega (arith, most_often_all n row v l.passes u)));
          }

      from : Leads (times n row) v → smallest n row (most_often n row) ≡ Some v
      from l =
          let r : Received n row v = (came n row v).0 l.received in
          smallest_is n row (most_often n row) v
          (record {
            from = r.0;
            below = r.1;
            heard_there = r.2;
            passes = (most_often_iff n row v).1 (λ w s. l.oftenest w);
            least = λ q w h e t. l.first w (omega (arith, l.oftenest w, most_often_all n row w t v));
          })

  pub leads_none : smallest n row (most_often n row) ≡ None → (w : ℕ) → times n row w ≡ 0
  leads_none e w = go (dec_le 1 (times n row w))
    where
      go : Dec (0 < times n row w) → times n row w ≡ 0
      go (yes h) =
          let (v, f) = most_often_found n row w ((came n row w).0 h) in
          absurd (none-some v (sym e ∙ f))
      go (no h) = omega arith

  pub none_leads : ((w : ℕ) → times n row w ≡ 0) → smallest n row (most_often n row) ≡ None
  none_leads empty = go (smallest n row (most_often n row)) refl
    where
      go : (a : Option ℕ) → smallest n row (most_often n row) ≡ a → a ≡ None
      go None e = refl
      go (Some v) e = absurd (omega (arith, empty v, ((leads_iff v).0 e).received))

-- a test that a value never received fails
abbrev pub Positive : (ℕ → Bool) → Type 0
Positive pass = (m : ℕ) → pass m ≡ true → 0 < m

-- where there is no smallest that passes, none passes
pub none_passed : (n : ℕ) (row : Row) (pass : ℕ → Bool) → Positive pass
    → smallest n row (λ u. pass (times n row u)) ≡ None → (w : ℕ) → pass (times n row w) ≡ false
none_passed n row pass positive e w = go (pass (times n row w)) refl
  where
    go : (b : Bool) → pass (times n row w) ≡ b → b ≡ false
    go true h = let (v, f) = lowest_found n row pass positive w h in absurd (none-some v (sym e ∙ f))
    go false h = refl

-- f before the value v was counted, g after it
module _ (f g : ℕ → ℕ) (v : ℕ) (new : f v ≡ 0) (there : 0 < g v) (other : (w : ℕ) → w ≢ v → g w ≡ f w) where
  -- what holds of v's new count, and of each count before, holds of each count after
  pub each : (P : ℕ → ℕ → Type 0) → P v (g v) → ((w : ℕ) → P w (f w)) → (w : ℕ) → P w (g w)
  each P at_v before w = go (ℕ_discrete w v)
    where
      go : Dec (w ≡ v) → P w (g w)
      go (yes e) = rw e at_v
      go (no apart) = rw (other w apart) (before w)

  -- where no value came more often, and none below it as often, v leads
  pub new_leads : ((w : ℕ) → f w ≤ g v) → ((w : ℕ) → f w ≡ g v → v ≤ w) → Leads g v
  new_leads most least =
      record {
        received = there;
        oftenest = each (λ w m. m ≤ g v) (le_refl (g v)) most;
        first = each (λ w m. m ≡ g v → v ≤ w) (λ e. le_refl v) least;
      }

  -- one that came before came as often after
  pub stays : (u : ℕ) → 0 < f u → g u ≡ f u
  stays u h = other u (λ e. let z : f u ≡ 0 = rw e new in omega arith)

  -- where it did not, the one that led still leads
  pub old_leads : (u : ℕ) → Leads f u → g v ≤ f u → (g v ≡ f u → u ≤ v) → Leads g u
  old_leads u l few least =
      let same : g u ≡ f u = stays u l.received in
      record {
        received = omega (arith, l.received);
        oftenest = each (λ w m. m ≤ g u) (omega arith) (λ w. omega (arith, l.oftenest w));
        first = each (λ w m. m ≡ g u → u ≤ w) (λ e. least (e ∙ same)) (λ w e. l.first w (e ∙ same));
      }
