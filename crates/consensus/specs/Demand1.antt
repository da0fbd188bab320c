-- Demand 1, as a predicate of any judge: each call is answered, whatever is handed in, with the number and place that
-- the rules give; a refusal leaves the run as it was handed in, and every lent byte as it was.
use Rattle.std.specs.Prelude.{◌≡◌, false, List, ℕ, length, replicate, None}
use Rattle.limits.specs.declared.Setup.{Setup}
use Rattle.run.specs.declared.Run.{Run}
use Rattle.run.specs.Reply.{is_accepted}
use Rattle.run.specs.Run.{stations, idle}
use Rattle.round.specs.declared.Matrix.{Matrix}
use Rattle.round.specs.Reading.{all_lost}
use Rattle.judge.specs.declared.Stepped.{Stepped}
use Rattle.consensus.specs.Judge.{Judge}
use Rattle.consensus.specs.RoundReplies.{StepReply, ReadReply}
use Rattle.consensus.specs.OpeningReplies.{OpeningReply, WriteOpeningReply}
use Rattle.consensus.specs.ImageReplies.{ImageReply, SaveReply}
use Rattle.consensus.specs.WritingReplies.{WriteRoundReply}
use Rattle.consensus.specs.PlayAnswers.{Plays}
use Rattle.consensus.specs.EntryAnswers.{OpenAnswer, StepAnswer}

-- what is left by a round that is refused: the run is the one handed in, nothing fires, and every set is empty
pub record Leaves (run : Run) (s : Stepped) : Type 0 where
  pub same_run : s.run ≡ run
  pub fired : s.fired ≡ replicate stations None
  pub ho : s.ho ≡ replicate stations 0
  pub sho : s.sho ≡ replicate stations 0

pub record Demand1 (J : Judge) : Type 0 where
  -- the reply, number and place, of each call (rules 12.1 to 12.8)
  pub open_says : (bs : List ℕ) → OpeningReply bs (J.read_opening bs).reply
  pub write_opening_says : (s : Setup) (d : ℕ) (starts buffer : List ℕ)
      → WriteOpeningReply s d starts (length buffer) (J.write_opening s d starts buffer).reply
  pub load_says : (bs : List ℕ) → ImageReply bs (J.load bs).reply
  pub save_says : (run : Run) (buffer : List ℕ) → SaveReply run (length buffer) (J.save run buffer).reply
  pub read_says : (run : Run) (bs : List ℕ) → ReadReply run bs (J.read_round run bs).reply
  pub survey_says : (run : Run) (bs : List ℕ) → ReadReply run bs (J.survey run bs).reply
  pub write_round_says : (run : Run) (m : Matrix) (buffer : List ℕ)
      → WriteRoundReply run m (length buffer) (J.write_round run m buffer).reply
  pub step_says : (run : Run) (bs : List ℕ) → StepReply run bs (J.step run bs).reply
  -- the reply, the run and the count (12.9)
  pub play_says : (run : Run) (bs : List ℕ)
      → Plays J.step run bs (J.play run bs).run (J.play run bs).reply (J.play run bs).rounds
  -- the reply and every byte of the buffer (12.10 and 12.11)
  pub judge_open_says : (opening buffer : List ℕ)
      → OpenAnswer J.read_opening opening buffer (J.judge_open opening buffer).reply (J.judge_open opening buffer).bytes
  pub judge_step_says : (bytes round : List ℕ)
      → StepAnswer J.step bytes round (J.judge_step bytes round).reply (J.judge_step bytes round).bytes
  -- what is refused leaves the run, or gives the idle run, the matrix of all lost, empty sets (3.4, 6.6, 12.5, 12.6)
  pub step_leaves : (run : Run) (bs : List ℕ) → is_accepted (J.step run bs).reply ≡ false
      → Leaves run (J.step run bs)
  pub open_idles : (bs : List ℕ) → is_accepted (J.read_opening bs).reply ≡ false → (J.read_opening bs).run ≡ idle
  pub load_idles : (bs : List ℕ) → is_accepted (J.load bs).reply ≡ false → (J.load bs).run ≡ idle
  pub read_loses : (run : Run) (bs : List ℕ) → is_accepted (J.read_round run bs).reply ≡ false
      → (J.read_round run bs).matrix ≡ all_lost
  pub survey_empties : (run : Run) (bs : List ℕ) → is_accepted (J.survey run bs).reply ≡ false
      → ((J.survey run bs).ho ≡ replicate stations 0) × ((J.survey run bs).sho ≡ replicate stations 0)
  -- and no byte is written
  pub write_opening_leaves : (s : Setup) (d : ℕ) (starts buffer : List ℕ)
      → is_accepted (J.write_opening s d starts buffer).reply ≡ false
      → (J.write_opening s d starts buffer).bytes ≡ buffer
  pub save_leaves : (run : Run) (buffer : List ℕ) → is_accepted (J.save run buffer).reply ≡ false
      → (J.save run buffer).bytes ≡ buffer
  pub write_round_leaves : (run : Run) (m : Matrix) (buffer : List ℕ)
      → is_accepted (J.write_round run m buffer).reply ≡ false → (J.write_round run m buffer).bytes ≡ buffer
