-- A judge, as the demands see it: what it answers to each call, as a function of what is handed in. `ours` has the
-- definitions that the promises of this judge's functions cite.
use Rattle.std.specs.Prelude.{List, ℕ, length}
use Rattle.limits.specs.declared.Setup.{Setup}
use Rattle.run.specs.declared.Run.{Run}
use Rattle.run.specs.Reply.{Reply}
use Rattle.run.specs.declared.Opened.{Opened}
use Rattle.run.specs.Opening.{read_opening, check_write, write_opening}
use Rattle.image.specs.Image.{check_save, saved, loaded}
use Rattle.round.specs.declared.Matrix.{Matrix}
use Rattle.round.specs.declared.Reading.{Reading}
use Rattle.round.specs.Reading.{read_round}
use Rattle.writing.specs.Writing.{check_writing, write_round}
use Rattle.hearing.specs.declared.Survey.{Survey}
use Rattle.hearing.specs.Survey.{survey_of}
use Rattle.judge.specs.declared.Stepped.{Stepped}
use Rattle.judge.specs.Step.{step_of}
use Rattle.play.specs.declared.Played.{Played}
use Rattle.play.specs.Play.{play_of}
use Rattle.switch.specs.Switch.{open_reply, open_image, step_reply, step_image}

-- what a call answers that was lent a buffer: its reply, and the buffer after it
pub record Wrote : Type 0 where
  pub reply : Reply
  pub bytes : List ℕ

pub record Judge : Type 0 where
  -- an opening read; a setup, default and starts written as one, into a buffer
  pub read_opening : List ℕ → Opened
  pub write_opening : Setup → ℕ → List ℕ → List ℕ → Wrote
  -- an image loaded; a run saved as one, into a buffer
  pub load : List ℕ → Opened
  pub save : Run → List ℕ → Wrote
  -- a round read into a matrix, surveyed, and written from a matrix, into a buffer
  pub read_round : Run → List ℕ → Reading
  pub survey : Run → List ℕ → Survey
  pub write_round : Run → Matrix → List ℕ → Wrote
  -- a round taken, and a part of a tape played
  pub step : Run → List ℕ → Stepped
  pub play : Run → List ℕ → Played
  -- the two entries for a host: an opening and a buffer; an image, which is the buffer, and a round
  pub judge_open : List ℕ → List ℕ → Wrote
  pub judge_step : List ℕ → List ℕ → Wrote

unfoldable pub ours : Judge
ours =
    record {
      read_opening = read_opening;
      write_opening =
          λ s d starts buffer.
          record { reply = check_write s d starts (length buffer); bytes = write_opening s d starts buffer };
      load = loaded;
      save = λ run buffer. record { reply = check_save run (length buffer); bytes = saved run buffer };
      read_round = read_round;
      survey = survey_of;
      write_round =
          λ run m buffer. record { reply = check_writing run m (length buffer); bytes = write_round run m buffer };
      step = step_of;
      play = play_of;
      judge_open = λ opening buffer. record { reply = open_reply opening buffer; bytes = open_image opening buffer };
      judge_step = λ bytes round. record { reply = step_reply bytes round; bytes = step_image bytes round };
    }
