-- The two calls, step by step as the code goes: the first check that refuses gives the answer and leaves the bytes;
-- where none does, the bytes have the length of the image that is put into them, since a round leaves the setup as it
-- was.
use mathlib.Core.Path.{◌≡◌, refl, ap, sym, ◌∙◌}
use mathlib.Core.Bool.{false, cond}
use mathlib.Core.List.{List}
use Prim.Native.Nat.{ℕ}
use borrow.Author.Tests.{eq-eqb, ne_eqb}
use lib.ListN.{length}
use lib.Dec.{eqb}
use Rattle.run.specs.declared.Run.{Run}
use Rattle.run.specs.Reply.{Reply}
use Rattle.run.specs.Reply.{Accepted, Buffer}
use Rattle.run.specs.Reply.{is_accepted, ◌then◌, or_refuse}
use Rattle.run.specs.Opening.{check_opening, answer}
use Rattle.run.proofs.Replies.{then_accepted}
use Rattle.image.specs.Image.{image_length, image, check_form, run_in, check_rules, check_image, loaded}
use Rattle.image.specs.Putting.{put_image}
use Rattle.image.proofs.Images.{put_whole}
use Rattle.image.proofs.Loaded.{form_checked}
use Rattle.judge.specs.declared.Stepped.{Stepped}
use Rattle.judge.specs.Step.{check_step, run_after, stepped, step_of}
use Rattle.judge.proofs.Steps.{step_accepted}
use Rattle.switch.specs.Switch.{opened_run, loaded_run, open_reply, open_image, step_reply, step_image}

-- ---- the definitions' own text, to rewrite with while what it cites stays shut
pub open_reply_is : (opening buffer : List ℕ) → open_reply opening buffer
    ≡ (check_opening opening then or_refuse (eqb (length buffer) (image_length (opened_run opening).setup.n)) Buffer)
unfolding open_reply
open_reply_is opening buffer = refl

pub open_image_is : (opening buffer : List ℕ) → open_image opening buffer
    ≡ cond (is_accepted (open_reply opening buffer)) (image (opened_run opening)) buffer
unfolding open_image
open_image_is opening buffer = refl

pub step_reply_is : (bytes round : List ℕ) → step_reply bytes round
    ≡ (check_image bytes then check_step (loaded_run bytes) round)
unfolding step_reply
step_reply_is bytes round = refl

pub step_image_is : (bytes round : List ℕ) → step_image bytes round
    ≡ cond (is_accepted (step_reply bytes round)) (image (run_after (loaded_run bytes) round)) bytes
unfolding step_image
step_image_is bytes round = refl

stepped_run : (run : Run) (round : List ℕ) → check_step run round ≡ Accepted → (step_of run round).run
    ≡ run_after run round
unfolding stepped
stepped_run run round e = ap (λ (s : Stepped). s.run) (step_accepted run round e)

-- ---- opening: what the code answers and writes
module _ (opening buffer : List ℕ) where
  pub open_refused : is_accepted (check_opening opening) ≡ false → (check_opening opening ≡ open_reply opening buffer)
      × (buffer ≡ open_image opening buffer)
  open_refused f =
      let refused : open_reply opening buffer ≡ check_opening opening = rw (open_reply_is, f) in
      (sym refused, rw (open_image_is, refused, f))

  module _ (e : check_opening opening ≡ Accepted) where
    pub open_misfit : (length buffer ≡ image_length (opened_run opening).setup.n → ⊥)
        → (Buffer ≡ open_reply opening buffer) × (buffer ≡ open_image opening buffer)
    open_misfit h =
        let refused : open_reply opening buffer ≡ Buffer = rw (open_reply_is, e, ne_eqb _ _ h) in
        (sym refused, rw (open_image_is, refused))

    pub open_fit : length buffer ≡ image_length (opened_run opening).setup.n
        → (Accepted ≡ open_reply opening buffer) × (put_image buffer (opened_run opening) ≡ open_image opening buffer)
    open_fit h =
        let taken : open_reply opening buffer ≡ Accepted = rw (open_reply_is, e, eq-eqb _ _ h) in
        (sym taken, rw (open_image_is, taken) (put_whole (opened_run opening) buffer h))

-- ---- an accepted image gives the run that its records spell, and has the length of that run's image
pub loaded_in : (bytes : List ℕ) → check_image bytes ≡ Accepted → loaded_run bytes ≡ run_in bytes
unfolding loaded
loaded_in bytes e = ap (λ (r : Reply). (answer r (run_in bytes)).run) e

loaded_long : (bytes : List ℕ) → check_image bytes ≡ Accepted → length bytes ≡ image_length (loaded_run bytes).setup.n
unfolding check_image run_in
loaded_long bytes e =
    let (form, _) = then_accepted (check_form bytes) (check_rules (run_in bytes)) e in
    ((form_checked bytes).0 form).whole ∙ ap (λ (run : Run). image_length run.setup.n) (sym (loaded_in bytes e))

-- ---- stepping: what the code answers and writes
module _ (bytes round : List ℕ) where
  pub image_refused : is_accepted (check_image bytes) ≡ false → (check_image bytes ≡ step_reply bytes round)
      × (bytes ≡ step_image bytes round)
  image_refused f =
      let refused : step_reply bytes round ≡ check_image bytes = rw (step_reply_is, f) in
      (sym refused, rw (step_image_is, refused, f))

  module _ (e : check_image bytes ≡ Accepted) where
    -- the round's check is then the call's
    step_on : step_reply bytes round ≡ check_step (loaded_run bytes) round
    step_on = rw (step_reply_is, e)

    pub round_refused : is_accepted (check_step (loaded_run bytes) round) ≡ false
        → (check_step (loaded_run bytes) round ≡ step_reply bytes round) × (bytes ≡ step_image bytes round)
    round_refused f = (sym step_on, rw (step_image_is, step_on, f))

    pub round_taken : check_step (loaded_run bytes) round ≡ Accepted
        → (Accepted ≡ step_reply bytes round) × (put_image bytes (step_of (loaded_run bytes) round).run
        ≡ step_image bytes round)
    unfolding run_after
    round_taken a =
        let taken : step_reply bytes round ≡ Accepted = step_on ∙ a in (
          sym taken,
          rw (stepped_run (loaded_run bytes) round a, step_image_is, taken)
              (put_whole (run_after (loaded_run bytes) round) bytes (loaded_long bytes e)),
        )
