-- What the calls' promises give a host. They name the answer and the bytes, so there is one of each. The number and the
-- place are read back from an answer, since no number reaches 2^32. An image that a call wrote is a sound run's, so the
-- next call loads that very run.
use mathlib.Core.Path.{◌≡◌, ap, sym, subst, ◌∙◌}
use mathlib.Core.List.{List}
use Prim.Native.Nat.{ℕ, ◌/◌, ◌%◌, ◌^◌, ◌<◌}
use native.Mathlib.Omega.{arith}
use Rattle.run.specs.declared.Run.{Run}
use Rattle.std.specs.Prelude.{Ok, Err}
use Rattle.run.specs.declared.reply.Refusal.TheVariants as refusal
use Rattle.run.specs.Reply.{Reply}
use Rattle.run.specs.Reply.{Accepted}
use Rattle.run.specs.Bytes.{IsBytes}
use Rattle.run.specs.Reply.{number_of, place_of, is_accepted}
use Rattle.run.specs.Opening.{check_opening}
use Rattle.run.specs.Machine.{Machine}
use Rattle.run.proofs.Replies.{then_accepted}
use Rattle.run.proofs.Unique.{one_answer}
use Rattle.run.proofs.Openings.{opened_sound}
use Rattle.run.proofs.Machines.{opened_machine}
use Rattle.run.proofs.Sound.{sound_iff}
use Rattle.image.specs.Image.{check_image, loaded}
use Rattle.image.proofs.Loaded.{loaded_machine}
use Rattle.image.proofs.Saved.{image_again}
use Rattle.judge.specs.Step.{check_step, run_after}
use Rattle.judge.proofs.After.{run_keeps}
use Rattle.judge.proofs.Steps.{passed, reply_is}
use Rattle.switch.specs.Switch.{answer_of, opened_run, loaded_run, open_reply, open_image, step_reply, step_image}
use Rattle.switch.proofs.Calls.{open_reply_is, open_image_is, step_reply_is, step_image_is, loaded_in}
use Rattle.judge.proofs.Machines.{machine_after}

-- ---- one answer, and one content of the bytes, for what was lent
pub open_unique : (opening buffer : List ℕ) (r r' : ℕ) (out out' : List ℕ)
    → (r ≡ answer_of (open_reply opening buffer)) × (out ≡ open_image opening buffer)
    → (r' ≡ answer_of (open_reply opening buffer)) × (out' ≡ open_image opening buffer) → (r ≡ r') × (out ≡ out')
open_unique opening buffer r r' out out' p q = (one_answer p.0 q.0, one_answer p.1 q.1)

pub step_unique : (bytes round : List ℕ) (r r' : ℕ) (out out' : List ℕ)
    → (r ≡ answer_of (step_reply bytes round)) × (out ≡ step_image bytes round)
    → (r' ≡ answer_of (step_reply bytes round)) × (out' ≡ step_image bytes round) → (r ≡ r') × (out ≡ out')
step_unique bytes round r r' out out' p q = (one_answer p.0 q.0, one_answer p.1 q.1)

-- ---- the number and the place, read back
number_small : (r : Reply) → number_of r < 2 ^ 32
number_small (Ok accepted) = omega arith
number_small (Err refusal.Length) = omega arith
number_small (Err (refusal.Malformed at)) = omega arith
number_small (Err refusal.Range) = omega arith
number_small (Err refusal.Inequality) = omega arith
number_small (Err (refusal.Query at)) = omega arith
number_small (Err (refusal.Altered at)) = omega arith
number_small (Err (refusal.Unsafe at)) = omega arith
number_small (Err refusal.Full) = omega arith
number_small (Err refusal.Buffer) = omega arith
number_small (Err (refusal.Rules at)) = omega arith

pub answer_apart : (r : Reply) → (answer_of r % 2 ^ 32 ≡ number_of r) × (answer_of r / 2 ^ 32 ≡ place_of r)
answer_apart r = (omega (arith, number_small r), omega (arith, number_small r))

-- and 64 bits hold the answer
pub answer_fits : (r : Reply) → place_of r < 2 ^ 32 → answer_of r < 2 ^ 64
answer_fits r h = omega (arith, number_small r)

-- ---- what an accepted call wrote is loaded by the next one
pub opened_loads : (opening buffer : List ℕ) → IsBytes opening → open_reply opening buffer ≡ Accepted
    → loaded (open_image opening buffer) ≡ record { reply = Accepted; run = opened_run opening }
opened_loads opening buffer bytes e =
    let (good, _) = then_accepted (check_opening opening) _ (rw open_reply_is at e) in
    rw (open_image_is, e) (image_again (opened_run opening) (opened_sound opening good) (opened_machine opening bytes))

pub stepped_loads : (bytes round : List ℕ) → IsBytes bytes → IsBytes round → step_reply bytes round ≡ Accepted
    → loaded (step_image bytes round) ≡ record { reply = Accepted; run = run_after (loaded_run bytes) round }
stepped_loads bytes round in_bytes in_round e =
    let run : Run = loaded_run bytes in
    let (good, taken) = then_accepted (check_image bytes) (check_step run round) (rw step_reply_is at e) in
    let ok = passed run round (ap is_accepted (reply_is run round ∙ taken)) in
    let machine : Machine run = subst Machine (sym (loaded_in bytes good)) (loaded_machine bytes good in_bytes) in
    rw (step_image_is, e)
    (image_again (run_after run round) ((sound_iff (run_after run round)).1 (run_keeps run round ok.keeps ok.room))
    (machine_after run round machine ok.room in_round))
