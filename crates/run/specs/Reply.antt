-- The judge's replies (rules 11): nothing more where it accepts, else why not. Each has its number and its place, and
-- checks are made in a stated order: the first that refuses gives the reply.
use Rattle.std.specs.Prelude.{ℕ, Bool, true, false, cond, eqb, Option, None, Some, Result, Ok, Err}
use Rattle.run.specs.declared.reply.Refusal.{Refusal}
use Rattle.run.specs.declared.reply.Refusal.TheVariants as refusal

abbrev pub Reply : Type 0
Reply = Result (Unit {0}) Refusal

abbrev pub Accepted : Reply
Accepted = Ok tt

abbrev pub Length : Reply
Length = Err refusal.Length

abbrev pub Malformed : ℕ → Reply
Malformed at = Err (refusal.Malformed at)

abbrev pub Range : Reply
Range = Err refusal.Range

abbrev pub Inequality : Reply
Inequality = Err refusal.Inequality

abbrev pub Query : ℕ → Reply
Query at = Err (refusal.Query at)

abbrev pub Altered : ℕ → Reply
Altered at = Err (refusal.Altered at)

abbrev pub Unsafe : ℕ → Reply
Unsafe at = Err (refusal.Unsafe at)

abbrev pub Full : Reply
Full = Err refusal.Full

abbrev pub Buffer : Reply
Buffer = Err refusal.Buffer

abbrev pub Rules : ℕ → Reply
Rules at = Err (refusal.Rules at)

abbrev pub number_of : Reply → ℕ
number_of (Ok accepted) = 0
number_of (Err refusal.Length) = 1
number_of (Err (refusal.Malformed at)) = 2
number_of (Err refusal.Range) = 3
number_of (Err refusal.Inequality) = 4
number_of (Err (refusal.Query at)) = 5
number_of (Err (refusal.Altered at)) = 6
number_of (Err (refusal.Unsafe at)) = 7
number_of (Err refusal.Full) = 8
number_of (Err refusal.Buffer) = 9
number_of (Err (refusal.Rules at)) = 10

abbrev pub place_of : Reply → ℕ
place_of (Ok accepted) = 0
place_of (Err refusal.Length) = 0
place_of (Err (refusal.Malformed at)) = at
place_of (Err refusal.Range) = 0
place_of (Err refusal.Inequality) = 0
place_of (Err (refusal.Query at)) = at
place_of (Err (refusal.Altered at)) = at
place_of (Err (refusal.Unsafe at)) = at
place_of (Err refusal.Full) = 0
place_of (Err refusal.Buffer) = 0
place_of (Err (refusal.Rules at)) = at

abbrev pub is_accepted : Reply → Bool
is_accepted r = eqb (number_of r) 0

-- one check, and then another: the first that refuses gives the reply
infixr 20 ◌then◌
abbrev pub ◌then◌ : Reply → Reply → Reply
r then s = cond (is_accepted r) s r

-- refused with r unless the test passes
abbrev pub or_refuse : Bool → Reply → Reply
or_refuse true r = Accepted
or_refuse false r = r

-- refused at the place found, if one is
abbrev pub refuse_at : Option ℕ → (ℕ → Reply) → Reply
refuse_at None r = Accepted
refuse_at (Some i) r = r i

-- what is given where nothing refuses
abbrev pub unless_refused : {A : Type 0} → Reply → A → Result A Refusal
unless_refused (Ok accepted) x = Ok x
unless_refused (Err r) x = Err r
