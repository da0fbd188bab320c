-- The switch's calls (rules 12.10, 12.11 and 15).
use Rattle.std.specs.Prelude.{ℕ, ◌+◌, ◌*◌, ◌^◌, cond, List, length, eqb}
use Rattle.run.specs.declared.Run.{Run}
use Rattle.run.specs.Reply.{Reply}
use Rattle.run.specs.Reply.{Buffer}
use Rattle.run.specs.Reply.{number_of, place_of, is_accepted, ◌then◌, or_refuse}
use Rattle.run.specs.Opening.{check_opening, read_opening}
use Rattle.image.specs.Image.{image_length, image, check_image, loaded}
use Rattle.judge.specs.Step.{check_step, run_after}

-- a reply as one plain number: its number in the low 32 bits, its place in the high 32 (rule 15.2)
abbrev pub answer_of : Reply → ℕ
answer_of r = number_of r + 2 ^ 32 * place_of r

-- the run that an opening, and that an image, stands for
abbrev pub opened_run : List ℕ → Run
opened_run opening = (read_opening opening).run

abbrev pub loaded_run : List ℕ → Run
loaded_run bytes = (loaded bytes).run

-- rule 12.10
unfoldable pub open_reply : List ℕ → List ℕ → Reply
unfolding check_opening read_opening
open_reply opening buffer =
    check_opening opening then or_refuse (eqb (length buffer) (image_length (opened_run opening).setup.n)) Buffer

-- what the buffer then holds: the image of the opened run, or what it held (rule 15.3)
unfoldable pub open_image : List ℕ → List ℕ → List ℕ
unfolding open_reply image
open_image opening buffer = cond (is_accepted (open_reply opening buffer)) (image (opened_run opening)) buffer

-- rule 12.11
unfoldable pub step_reply : List ℕ → List ℕ → Reply
unfolding check_image loaded check_step
step_reply bytes round = check_image bytes then check_step (loaded_run bytes) round

-- and the image after it
unfoldable pub step_image : List ℕ → List ℕ → List ℕ
unfolding step_reply image run_after
step_image bytes round = cond (is_accepted (step_reply bytes round)) (image (run_after (loaded_run bytes) round)) bytes
