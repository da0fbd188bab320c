-- A callee's answer that the code tests is its definition's answer: what the branch taken tells of the definition.
use mathlib.Core.Path.{◌≡◌, refl, sym, ap, ◌∙◌}
use mathlib.Core.Bool.{Bool, true, false, false≢true}
use Rattle.std.specs.Prelude.{Result, Ok, Err, IsErr, IsErrAnd, is_err}
use Rattle.std.proofs.lemmas.Result.{err_from_is_err_and}
use Rattle.run.specs.declared.reply.Refusal.{Refusal}
use Rattle.run.specs.declared.reply.Refusal.TheVariants as refusal
use Rattle.run.specs.Reply.{Reply, Accepted, is_accepted}

-- a test with `!`
pub fails : {b t : Bool} → b ≡ t → b ≡ false → t ≡ false
fails e h = sym e ∙ h

pub passes : {b t : Bool} → b ≡ t → b ≡ true → t ≡ true
passes e h = sym e ∙ h

-- a reply that refuses, and that `?` hands out
pub stops : {s : Reply} {r : Refusal} → Err r ≡ s → is_accepted s ≡ false
stops {r = r} e = sym (ap is_accepted e) ∙ go r
  where
    go : (r : Refusal) → is_accepted (Err r) ≡ false
    go refusal.Length = refl
    go (refusal.Malformed at) = refl
    go refusal.Range = refl
    go refusal.Inequality = refl
    go (refusal.Query at) = refl
    go (refusal.Altered at) = refl
    go (refusal.Unsafe at) = refl
    go refusal.Full = refl
    go refusal.Buffer = refl
    go (refusal.Rules at) = refl

pub handed : {A : Type 0} {r : Result A Refusal} {e : Refusal} → IsErr r × IsErrAnd r (λ x. x ≡ e) → r ≡ Err e
handed {r = r} h = let p = err_from_is_err_and r h.1 in p.1 ∙ ap Err p.2

-- a reply asked whether it refuses
pub refuses : (r : Reply) → is_err r ≡ true → is_accepted r ≡ false
refuses (Ok accepted) e = absurd (false≢true e)
refuses (Err e) told = stops {r = e} refl

pub accepts : (r : Reply) → is_err r ≡ false → r ≡ Accepted
accepts (Ok accepted) e = refl
accepts (Err e) told = absurd (false≢true (sym told))
