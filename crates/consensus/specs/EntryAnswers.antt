-- What the two entries answer, and what they leave in the buffer, and when (rules 12.10, 12.11 and 15.3): one case for
-- each way that a call can end. Proved in proofs/EntryAnswers.antt.
use Rattle.std.specs.Prelude.{◌≡◌, List, ℕ, ◌+◌, ◌*◌, length}
use Rattle.run.specs.declared.Run.{Run}
use Rattle.run.specs.Reply.{Reply}
use Rattle.run.specs.Reply.{Accepted, Buffer}
use Rattle.run.specs.Record.{record_bytes}
use Rattle.run.specs.declared.Opened.{Opened}
use Rattle.run.specs.Opening.{setup_in}
use Rattle.image.specs.Image.{image, run_in}
use Rattle.judge.specs.declared.Stepped.{Stepped}
use Rattle.consensus.specs.OpeningReplies.{OpeningReply}
use Rattle.consensus.specs.ImageReplies.{ImageReply}
use Rattle.consensus.specs.RoundReplies.{StepReply}

-- `judge_open`: the reply, and the buffer after the call. `open_as` is what is answered to an opening: it tells the run
pub data OpenAnswer (open_as : List ℕ → Opened) (opening buffer : List ℕ) : Reply → List ℕ → Type 0 where
  -- the opening is refused
  refused : {r : Reply} → OpeningReply opening r → ¬ (r ≡ Accepted) → OpenAnswer open_as opening buffer r buffer
  -- 9: the buffer has not 8(4n + 3) bytes
  no_room : OpeningReply opening Accepted → ¬ (length buffer ≡ record_bytes * (3 + 4 * (setup_in opening).n))
      → OpenAnswer open_as opening buffer Buffer buffer
  -- 0: the buffer is the image of the opened run
  accepted : OpeningReply opening Accepted → length buffer ≡ record_bytes * (3 + 4 * (setup_in opening).n)
      → OpenAnswer open_as opening buffer Accepted (image (open_as opening).run)

-- `judge_step`: the reply, and the image after the call. `step` is what is answered to a round: it tells the next run
pub data StepAnswer (step : Run → List ℕ → Stepped) (bytes round : List ℕ) : Reply → List ℕ → Type 0 where
  -- the image is refused
  image_refused : {r : Reply} → ImageReply bytes r → ¬ (r ≡ Accepted) → StepAnswer step bytes round r bytes
  -- its run refuses the round
  round_refused : {r : Reply} → ImageReply bytes Accepted → StepReply (run_in bytes) round r → ¬ (r ≡ Accepted)
      → StepAnswer step bytes round r bytes
  -- 0: the image is that of the next run
  accepted : ImageReply bytes Accepted → StepReply (run_in bytes) round Accepted
      → StepAnswer step bytes round Accepted (image (step (run_in bytes) round).run)
