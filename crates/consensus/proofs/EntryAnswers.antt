-- What the two entries answer and leave in the buffer is what specs/EntryAnswers says and no more: the checks of an
-- opening, an image and a round each have their relation, and an accepted opening or image tells the setup, and so the
-- length that the buffer must have.
use mathlib.Core.Path.{◌≡◌, refl, ap, sym, ◌∙◌, subst}
use mathlib.Core.Bool.{Bool, true, false}
use mathlib.Core.List.{List}
use mathlib.Core.Logic.{◌⊎◌, inl, inr}
use Prim.Native.Nat.{ℕ, ◌+◌, ◌*◌, ◌≤◌}
use native.Mathlib.Omega.{arith}
use lib.Dec.{eqb}
use lib.ListN.{length}
use borrow.Author.Tests.{eqb-true, eqb-false, eq-eqb, ne_eqb}
use Rattle.limits.specs.declared.Setup.{Setup}
use Rattle.run.specs.declared.Run.{Run}
use Rattle.run.specs.Reply.{Reply}
use Rattle.run.specs.Reply.{Accepted, Buffer}
use Rattle.run.specs.Record.{record_bytes}
use Rattle.run.specs.Reply.{number_of, is_accepted}
use Rattle.run.specs.Opening.{setup_in, check_opening, read_opening}
use Rattle.run.proofs.Replies.{accepted_is, refused_isn't}
use Rattle.run.proofs.Openings.{opened_at_starts}
use Rattle.image.specs.Image.{image_length, image, run_in, check_image}
use Rattle.judge.specs.Step.{check_step, run_after, step_of}
use Rattle.judge.proofs.Steps.{passed, reply_is}
use Rattle.switch.specs.Switch.{opened_run, loaded_run, open_reply, open_image, step_reply, step_image}
use Rattle.switch.proofs.Calls.{open_reply_is, open_image_is, step_reply_is, step_image_is, loaded_in}
use Rattle.consensus.specs.OneReply.{Only}
use Rattle.consensus.specs.OpeningReplies.{OpeningReply}
use Rattle.consensus.specs.ImageReplies.{ImageReply}
use Rattle.consensus.specs.RoundReplies.{StepReply}
use Rattle.consensus.specs.EntryAnswers.{OpenAnswer, StepAnswer}
use Rattle.consensus.proofs.Asking.{unless}
use Rattle.consensus.proofs.OpeningReplies.{opening_replies}
use Rattle.consensus.proofs.ImageReplies.{image_replies}
use Rattle.consensus.proofs.RoundReplies.{step_replies}

-- a reply that its relation says, and one that is not accepted
said : (R : Reply → Type 0) (r s : Reply) → Only R r → R s → r ≡ s
said R r s only x = sym (only.alone s x)

not_accepted : (r s : Reply) → r ≡ s → ¬ (s ≡ Accepted) → is_accepted r ≡ false
not_accepted r s e refusal = unless (is_accepted r) (λ a. refusal (sym e ∙ accepted_is r a))

-- ---- `judge_open`
module _ (opening buffer : List ℕ) where
  abbrev checked : Reply
  checked = check_opening opening

  abbrev size : ℕ
  size = record_bytes * (3 + 4 * (setup_in opening).n)

  same_size : checked ≡ Accepted → image_length (opened_run opening).setup.n ≡ size
  same_size e = ap (λ (s : Setup). image_length s.n) (opened_at_starts opening e).setup

  -- how a call ends: the reply, and the buffer
  open_stops : is_accepted checked ≡ false
      → (open_reply opening buffer ≡ checked) × (open_image opening buffer ≡ buffer)
  open_stops f =
      let reply : open_reply opening buffer ≡ checked = open_reply_is opening buffer ∙ rw f in
      (reply, open_image_is opening buffer ∙ rw (reply, f))

  open_misfits : checked ≡ Accepted → ¬ (length buffer ≡ size)
      → (open_reply opening buffer ≡ Buffer) × (open_image opening buffer ≡ buffer)
  open_misfits e h =
      let reply : open_reply opening buffer ≡ Buffer
      = open_reply_is opening buffer ∙ rw (e, same_size e, ne_eqb (length buffer) size h) in
      (reply, open_image_is opening buffer ∙ rw reply)

  open_fits : checked ≡ Accepted → length buffer ≡ size
      → (open_reply opening buffer ≡ Accepted) × (open_image opening buffer ≡ image (read_opening opening).run)
  open_fits e h =
      let reply : open_reply opening buffer ≡ Accepted
      = open_reply_is opening buffer ∙ rw (e, same_size e, eq-eqb (length buffer) size h) in
      (reply, open_image_is opening buffer ∙ rw reply)

  abbrev Ends : Reply → List ℕ → Type 0
  Ends r out = (open_reply opening buffer ≡ r) × (open_image opening buffer ≡ out)

  ended : (r : Reply) (out : List ℕ) → Ends r out → OpenAnswer read_opening opening buffer r out
      → OpenAnswer read_opening opening buffer (open_reply opening buffer) (open_image opening buffer)
  ended r out e x = rw (e.0, e.1) x

  pub open_holds : OpenAnswer read_opening opening buffer (open_reply opening buffer) (open_image opening buffer)
  open_holds = go (is_accepted checked) refl
    where
      says : OpeningReply opening checked
      says = (opening_replies opening).holds

      fits : checked ≡ Accepted → (b : Bool) → eqb (length buffer) size ≡ b
          → OpenAnswer read_opening opening buffer (open_reply opening buffer) (open_image opening buffer)
      fits e true q =
          let h = eqb-true (length buffer) size q in
          ended Accepted (image (read_opening opening).run) (open_fits e h)
          (OpenAnswer.accepted (subst (OpeningReply opening) e says) h)
      fits e false q =
          let h = eqb-false (length buffer) size q in
          ended Buffer buffer (open_misfits e h) (OpenAnswer.no_room (subst (OpeningReply opening) e says) h)

      go : (b : Bool) → is_accepted checked ≡ b
          → OpenAnswer read_opening opening buffer (open_reply opening buffer) (open_image opening buffer)
      go true q = fits (accepted_is checked q) (eqb (length buffer) size) refl
      go false q =
          ended checked buffer (open_stops q) (OpenAnswer.refused says (λ e. refused_isn't checked q e))

  pub open_alone : (r : Reply) (out : List ℕ) → OpenAnswer read_opening opening buffer r out
      → (r ≡ open_reply opening buffer) × (out ≡ open_image opening buffer)
  open_alone r out (OpenAnswer.refused says refusal) =
      let is = said (OpeningReply opening) checked r (opening_replies opening) says in
      let (reply, left) = open_stops (not_accepted checked r is refusal) in
      (sym (reply ∙ is), sym left)
  open_alone r out (OpenAnswer.no_room says h) =
      let (reply, left) = open_misfits (said (OpeningReply opening) checked Accepted (opening_replies opening) says) h in
      (sym reply, sym left)
  open_alone r out (OpenAnswer.accepted says h) =
      let (reply, left) = open_fits (said (OpeningReply opening) checked Accepted (opening_replies opening) says) h in
      (sym reply, sym left)

-- ---- `judge_step`
module _ (bytes round : List ℕ) where
  abbrev loads : Reply
  loads = check_image bytes

  abbrev steps : Reply
  steps = check_step (run_in bytes) round

  image_stops : is_accepted loads ≡ false
      → (step_reply bytes round ≡ loads) × (step_image bytes round ≡ bytes)
  image_stops f =
      let reply : step_reply bytes round ≡ loads = step_reply_is bytes round ∙ rw f in
      (reply, step_image_is bytes round ∙ rw (reply, f))

  module _ (e : loads ≡ Accepted) where
    asked : step_reply bytes round ≡ steps
    asked =
        step_reply_is bytes round ∙ rw e (ap (λ (run : Run). check_step run round) (loaded_in bytes e))

    round_stops : is_accepted steps ≡ false → (step_reply bytes round ≡ steps) × (step_image bytes round ≡ bytes)
    round_stops f = (asked, step_image_is bytes round ∙ rw (asked, f))

    round_goes : steps ≡ Accepted
        → (step_reply bytes round ≡ Accepted) × (step_image bytes round ≡ image (step_of (run_in bytes) round).run)
    round_goes a =
        let reply : step_reply bytes round ≡ Accepted = asked ∙ a in
        let ok = passed (run_in bytes) round (ap is_accepted (reply_is (run_in bytes) round ∙ a)) in
        let next : run_after (loaded_run bytes) round ≡ (step_of (run_in bytes) round).run
        = ap (λ (run : Run). run_after run round) (loaded_in bytes e) ∙ sym ok.next in
        (reply, step_image_is bytes round ∙ rw (reply, next))

  ends_step : (r : Reply) (out : List ℕ) → (step_reply bytes round ≡ r) × (step_image bytes round ≡ out)
      → StepAnswer step_of bytes round r out → StepAnswer step_of bytes round (step_reply bytes round) (step_image bytes round)
  ends_step r out e x = rw (e.0, e.1) x

  pub step_holds : StepAnswer step_of bytes round (step_reply bytes round) (step_image bytes round)
  step_holds = go (is_accepted loads) refl
    where
      image_says : ImageReply bytes loads
      image_says = (image_replies bytes).holds

      round_says : StepReply (run_in bytes) round steps
      round_says = (step_replies (run_in bytes) round).holds

      on : loads ≡ Accepted → (b : Bool) → is_accepted steps ≡ b
          → StepAnswer step_of bytes round (step_reply bytes round) (step_image bytes round)
      on e true q =
          let a = accepted_is steps q in
          ends_step Accepted (image (step_of (run_in bytes) round).run) (round_goes e a)
          (StepAnswer.accepted (subst (ImageReply bytes) e image_says)
          (subst (StepReply (run_in bytes) round) a round_says))
      on e false q =
          ends_step steps bytes (round_stops e q)
          (StepAnswer.round_refused (subst (ImageReply bytes) e image_says) round_says
          (λ a. refused_isn't steps q a))

      go : (b : Bool) → is_accepted loads ≡ b
          → StepAnswer step_of bytes round (step_reply bytes round) (step_image bytes round)
      go true q = on (accepted_is loads q) (is_accepted steps) refl
      go false q =
          ends_step loads bytes (image_stops q) (StepAnswer.image_refused image_says (λ a. refused_isn't loads q a))

  pub step_alone : (r : Reply) (out : List ℕ) → StepAnswer step_of bytes round r out
      → (r ≡ step_reply bytes round) × (out ≡ step_image bytes round)
  step_alone r out (StepAnswer.image_refused says refusal) =
      let is = said (ImageReply bytes) loads r (image_replies bytes) says in
      let (reply, left) = image_stops (not_accepted loads r is refusal) in
      (sym (reply ∙ is), sym left)
  step_alone r out (StepAnswer.round_refused ok says refusal) =
      let e = said (ImageReply bytes) loads Accepted (image_replies bytes) ok in
      let is = said (StepReply (run_in bytes) round) steps r (step_replies (run_in bytes) round) says in
      let (reply, left) = round_stops e (not_accepted steps r is refusal) in
      (sym (reply ∙ is), sym left)
  step_alone r out (StepAnswer.accepted ok says) =
      let e = said (ImageReply bytes) loads Accepted (image_replies bytes) ok in
      let a = said (StepReply (run_in bytes) round) steps Accepted (step_replies (run_in bytes) round) says in
      let (reply, left) = round_goes e a in
      (sym reply, sym left)

-- ---- which numbers they answer (rule 15.4)
opening_number : (bs : List ℕ) (r : Reply) → OpeningReply bs r → number_of r ≤ 4
opening_number bs r (OpeningReply.too_short h) = omega arith
opening_number bs r (OpeningReply.no_setup h none) = omega arith
opening_number bs r (OpeningReply.out_of_range there out) = omega arith
opening_number bs r (OpeningReply.unmet there range not_met) = omega arith
opening_number bs r (OpeningReply.misfit head other) = omega arith
opening_number bs r (OpeningReply.no_default head long none) = omega arith
opening_number bs r (OpeningReply.no_start p head long default l before none) = omega arith
opening_number bs r (OpeningReply.accepted head long default all) = omega arith

pub open_numbers : (opening buffer : List ℕ) (r : Reply) (out : List ℕ) → OpenAnswer read_opening opening buffer r out
    → (number_of r ≤ 4) ⊎ (number_of r ≡ 9)
open_numbers opening buffer r out (OpenAnswer.refused says refusal) = inl (opening_number opening r says)
open_numbers opening buffer r out (OpenAnswer.no_room says h) = inr refl
open_numbers opening buffer r out (OpenAnswer.accepted says h) = inl (omega arith)

image_number : (bs : List ℕ) (r : Reply) → ImageReply bs r → (number_of r ≤ 8) ⊎ (number_of r ≡ 10)
image_number bs r (ImageReply.too_short h) = inl (omega arith)
image_number bs r (ImageReply.no_setup h none) = inl (omega arith)
image_number bs r (ImageReply.out_of_range there out) = inl (omega arith)
image_number bs r (ImageReply.unmet there range not_met) = inl (omega arith)
image_number bs r (ImageReply.misfit head other) = inl (omega arith)
image_number bs r (ImageReply.malformed k head long from to before bad) = inl (omega arith)
image_number bs r (ImageReply.broken k form b none) = inr refl
image_number bs r (ImageReply.accepted form none) = inl (omega arith)

round_number : (run : Run) (bs : List ℕ) (r : Reply) → StepReply run bs r → (number_of r ≤ 8) ⊎ (number_of r ≡ 10)
round_number run bs r (StepReply.not_good bad) = inr refl
round_number run bs r (StepReply.is_full keeps full) = inl (omega arith)
round_number run bs r (StepReply.misfit ready other) = inl (omega arith)
round_number run bs r (StepReply.malformed p q ready whole first bad) = inl (omega arith)
round_number run bs r (StepReply.query p q ready whole first m) = inl (omega arith)
round_number run bs r (StepReply.altered p ready formed l high before) = inl (omega arith)
round_number run bs r (StepReply.unsafe p ready formed few own l low before) = inl (omega arith)
round_number run bs r (StepReply.accepted ready formed safe) = inl (omega arith)

pub step_numbers : (bytes round : List ℕ) (r : Reply) (out : List ℕ) → StepAnswer step_of bytes round r out
    → (number_of r ≤ 8) ⊎ (number_of r ≡ 10)
step_numbers bytes round r out (StepAnswer.image_refused says refusal) = image_number bytes r says
step_numbers bytes round r out (StepAnswer.round_refused ok says refusal) = round_number (run_in bytes) round r says
step_numbers bytes round r out (StepAnswer.accepted ok says) = inl (omega arith)
