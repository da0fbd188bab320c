-- Checks in a stated order: what is accepted passed each of them, since a reply that refuses has a number other than 0.
use mathlib.Core.Path.{◌≡◌, refl, ap, sym, ◌∙◌}
use mathlib.Core.Bool.{Bool, true, false, false≢true}
use Rattle.std.specs.Prelude.{Option, None, Some}
use Prim.Native.Nat.{ℕ}
use Rattle.run.specs.Reply.{Reply}
use Rattle.std.specs.Prelude.{Ok, Err}
use Rattle.run.specs.declared.reply.Refusal.TheVariants as refusal
use Rattle.run.specs.Reply.{Accepted}
use Rattle.run.specs.Reply.{is_accepted, ◌then◌, or_refuse, refuse_at}

pub accepted_is : (r : Reply) → is_accepted r ≡ true → r ≡ Accepted
accepted_is (Ok tt) e = refl
accepted_is (Err refusal.Length) e = absurd (false≢true e)
accepted_is (Err (refusal.Malformed at)) e = absurd (false≢true e)
accepted_is (Err refusal.Range) e = absurd (false≢true e)
accepted_is (Err refusal.Inequality) e = absurd (false≢true e)
accepted_is (Err (refusal.Query at)) e = absurd (false≢true e)
accepted_is (Err (refusal.Altered at)) e = absurd (false≢true e)
accepted_is (Err (refusal.Unsafe at)) e = absurd (false≢true e)
accepted_is (Err refusal.Full) e = absurd (false≢true e)
accepted_is (Err refusal.Buffer) e = absurd (false≢true e)
accepted_is (Err (refusal.Rules at)) e = absurd (false≢true e)

-- a reply that refuses is not the accepting one
pub refused_isn't : (r : Reply) → is_accepted r ≡ false → r ≡ Accepted → ⊥
refused_isn't r f e = false≢true (sym f ∙ ap is_accepted e)

-- one check, and then another
pub then_on : (r s : Reply) → is_accepted r ≡ true → (r then s) ≡ s
then_on r s e = rw e

pub then_stop : (r s : Reply) → is_accepted r ≡ false → (r then s) ≡ r
then_stop r s e = rw e

pub then_accepted : (r s : Reply) → (r then s) ≡ Accepted → (r ≡ Accepted) × (s ≡ Accepted)
then_accepted r s e = go (is_accepted r) refl
  where
    go : (b : Bool) → is_accepted r ≡ b → (r ≡ Accepted) × (s ≡ Accepted)
    go true q = (accepted_is r q, sym (then_on r s q) ∙ e)
    go false q = absurd (refused_isn't r q (sym (then_stop r s q) ∙ e))

pub accepted_then : (r s : Reply) → r ≡ Accepted → s ≡ Accepted → (r then s) ≡ Accepted
accepted_then r s p q = then_on r s (ap is_accepted p) ∙ q

-- nothing to ask at the end, and checks made in two goes
pub then_end : (r : Reply) → (r then Accepted) ≡ r
then_end r = go (is_accepted r) refl
  where
    go : (b : Bool) → is_accepted r ≡ b → (r then Accepted) ≡ r
    go true q = rw q (sym (accepted_is r q))
    go false q = rw q

pub then_assoc : (r s t : Reply) → ((r then s) then t) ≡ (r then (s then t))
then_assoc r s t = go (is_accepted r) refl
  where
    go : (b : Bool) → is_accepted r ≡ b → ((r then s) then t) ≡ (r then (s then t))
    go true q = rw q
    go false q = rw (q, q)

-- one test
pub or_refuse_accepted : (b : Bool) (r : Reply) → is_accepted r ≡ false → or_refuse b r ≡ Accepted → b ≡ true
or_refuse_accepted true r f e = refl
or_refuse_accepted false r f e = absurd (refused_isn't r f e)

pub accepted_or_refuse : (b : Bool) (r : Reply) → b ≡ true → or_refuse b r ≡ Accepted
accepted_or_refuse b r e = rw e

-- a search for a place at fault
pub refuse_at_accepted : (o : Option ℕ) (r : ℕ → Reply) → ((i : ℕ) → is_accepted (r i) ≡ false) → refuse_at o r
    ≡ Accepted → o ≡ None
refuse_at_accepted None r f e = refl
refuse_at_accepted (Some i) r f e = absurd (refused_isn't (r i) (f i) e)

pub accepted_refuse_at : (o : Option ℕ) (r : ℕ → Reply) → o ≡ None → refuse_at o r ≡ Accepted
accepted_refuse_at o r e = rw e
