-- Going by checks in their order: what is so of the reply of each check that may refuse, and of what follows where it
-- does not, is so of the reply of them all.
use mathlib.Core.Path.{◌≡◌, refl, ap, sym, ◌∙◌, subst}
use mathlib.Core.Bool.{Bool, true, false, true≢false}
use Rattle.std.specs.Prelude.{Option, None, Some}
use Prim.Native.Nat.{ℕ, zero, suc, ◌<◌}
use native.Mathlib.Omega.{arith}
use Rattle.run.specs.Reply.{Reply}
use Rattle.run.specs.Reply.{Accepted}
use Rattle.run.specs.Reply.{is_accepted, ◌then◌, or_refuse, refuse_at}
use Rattle.run.specs.First.{first}
use Rattle.run.proofs.First.{first_none, first_some}
use Rattle.run.proofs.Replies.{accepted_is, then_on, then_stop}
use Rattle.round.specs.Reading.{in_turn}
use Rattle.round.proofs.Turns.{turn_accepted}

-- ---- the first of some checks that refuses
pub record FirstRefusal (n : ℕ) (f : ℕ → Reply) : Type 0 where
  pub place : ℕ
  pub below : place < n
  pub before : (j : ℕ) → j < place → f j ≡ Accepted
  pub refuses : is_accepted (f place) ≡ false
  pub reply : in_turn n f ≡ f place

pub first_refusal : (n : ℕ) (f : ℕ → Reply) → is_accepted (in_turn n f) ≡ false → FirstRefusal n f
unfolding in_turn
first_refusal zero f e = absurd (true≢false e)
first_refusal (suc n) f e = go (is_accepted (in_turn n f)) refl (first_refusal n f)
  where
    go : (b : Bool) → is_accepted (in_turn n f) ≡ b → (is_accepted (in_turn n f) ≡ false → FirstRefusal n f)
        → FirstRefusal (suc n) f
    go true q below =
        let last : in_turn (suc n) f ≡ f n = then_on (in_turn n f) (f n) q in
        record {
          place = n;
          below = omega arith;
          before = (turn_accepted f n).0 (accepted_is (in_turn n f) q);
          refuses = sym (ap is_accepted last) ∙ e;
          reply = last;
        }
    go false q below =
        let x = below q in
        record {
          place = x.place;
          below = omega (arith, x.below);
          before = x.before;
          refuses = x.refuses;
          reply = then_stop (in_turn n f) (f n) q ∙ x.reply;
        }

module _ (P : Reply → Type 0) where
  -- one check, then others
  pub then_by : (r s : Reply) → (is_accepted r ≡ false → P r) → (r ≡ Accepted → P s) → P (r then s)
  then_by r s stop on = go (is_accepted r) refl
    where
      go : (b : Bool) → is_accepted r ≡ b → P (r then s)
      go true e = subst P (sym (then_on r s e)) (on (accepted_is r e))
      go false e = subst P (sym (then_stop r s e)) (stop e)

  -- one test
  pub test_by : (b : Bool) (r : Reply) → (b ≡ false → P r) → (b ≡ true → P Accepted) → P (or_refuse b r)
  test_by true r stop on = on refl
  test_by false r stop on = stop refl

  -- one test, then others
  pub test_then : (b : Bool) (r s : Reply) → is_accepted r ≡ false → (b ≡ false → P r) → (b ≡ true → P s)
      → P (or_refuse b r then s)
  test_then true r s f stop on = on refl
  test_then false r s f stop on = subst P (sym (then_stop r s f)) (stop refl)

  -- checks in turn, then others
  pub turn_then : (n : ℕ) (f : ℕ → Reply) (s : Reply)
      → ((i : ℕ) → i < n → ((j : ℕ) → j < i → f j ≡ Accepted) → is_accepted (f i) ≡ false → P (f i))
      → (((i : ℕ) → i < n → f i ≡ Accepted) → P s) → P (in_turn n f then s)
  turn_then n f s stop on =
      then_by (in_turn n f) s
      (λ e.
      let x = first_refusal n f e in
      subst P (sym x.reply) (stop x.place x.below x.before x.refuses))
      (λ e. on ((turn_accepted f n).0 e))

  -- checks in turn
  pub turn_by : (n : ℕ) (f : ℕ → Reply)
      → ((i : ℕ) → i < n → ((j : ℕ) → j < i → f j ≡ Accepted) → is_accepted (f i) ≡ false → P (f i))
      → (((i : ℕ) → i < n → f i ≡ Accepted) → P Accepted) → P (in_turn n f)
  turn_by n f stop on = go (is_accepted (in_turn n f)) refl
    where
      go : (b : Bool) → is_accepted (in_turn n f) ≡ b → P (in_turn n f)
      go true e =
          let all = accepted_is (in_turn n f) e in subst P (sym all) (on ((turn_accepted f n).0 all))
      go false e =
          let x = first_refusal n f e in
          subst P (sym x.reply) (stop x.place x.below x.before x.refuses)

  -- a search for the lowest place at fault
  pub search_by : (n : ℕ) (f : ℕ → Bool) (r : ℕ → Reply)
      → ((i : ℕ) → i < n → f i ≡ true → ((j : ℕ) → j < i → f j ≡ false) → P (r i))
      → (((i : ℕ) → i < n → f i ≡ false) → P Accepted) → P (refuse_at (first n f) r)
  search_by n f r stop on = go (first n f) refl
    where
      go : (o : Option ℕ) → first n f ≡ o → P (refuse_at o r)
      go None e = on ((first_none f n).0 e)
      go (Some i) e = let (l, here, before) = (first_some f n i).0 e in stop i l here before

  pub search_then : (n : ℕ) (f : ℕ → Bool) (r : ℕ → Reply) (s : Reply) → ((i : ℕ) → is_accepted (r i) ≡ false)
      → ((i : ℕ) → i < n → f i ≡ true → ((j : ℕ) → j < i → f j ≡ false) → P (r i))
      → (((i : ℕ) → i < n → f i ≡ false) → P s) → P (refuse_at (first n f) r then s)
  search_then n f r s refuses stop on = go (first n f) refl
    where
      go : (o : Option ℕ) → first n f ≡ o → P (refuse_at o r then s)
      go None e = on ((first_none f n).0 e)
      go (Some i) e =
          let (l, here, before) = (first_some f n i).0 e in
          subst P (sym (then_stop (r i) s (refuses i))) (stop i l here before)

-- a test that fails, from what it would tell
pub unless : (b : Bool) → (b ≡ true → ⊥) → b ≡ false
unless true h = absurd (h refl)
unless false h = refl

-- a test that refuses is false, and gives its reply
pub test_false : (b : Bool) (r : Reply) → is_accepted (or_refuse b r) ≡ false → (b ≡ false) × (or_refuse b r ≡ r)
test_false true r e = absurd (true≢false e)
test_false false r e = (refl, refl)
