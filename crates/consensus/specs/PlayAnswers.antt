-- What is answered to a part of a tape that is played, and when (rules 12.9 and 13.3 to 13.9): the run, the reply and
-- the number of accepted rounds, with no list of pieces and no fold. Proved in proofs/PlayAnswers.antt.
use Rattle.std.specs.Prelude.{◌≡◌, List, [], ℕ, suc, ◌*◌, ◌<◌, length, take, drop}
use Rattle.run.specs.declared.Run.{Run}
use Rattle.run.specs.Reply.{Reply}
use Rattle.run.specs.Reply.{Accepted, Rules}
use Rattle.run.specs.Keeps.{Keeps}
use Rattle.run.specs.Record.{record_bytes}
use Rattle.judge.specs.declared.Stepped.{Stepped}
use Rattle.consensus.specs.RoundReplies.{StepReply}

-- the first piece of a part: 8n² bytes, or what is left of it; and what is behind it
abbrev pub first_piece : Run → List ℕ → List ℕ
first_piece run bs = take (record_bytes * run.setup.n * run.setup.n) bs

abbrev pub behind_it : Run → List ℕ → List ℕ
behind_it run bs = drop (record_bytes * run.setup.n * run.setup.n) bs

-- a run is handed this part, and these are the run, the reply and the count of the answer. `step` is what is answered to
-- one round: it tells the next run
pub data Plays (step : Run → List ℕ → Stepped) : Run → List ℕ → Run → Reply → ℕ → Type 0 where
  -- 10, even if the part is empty
  not_good : {run : Run} {bs : List ℕ} → ¬ Keeps run → Plays step run bs run (Rules 0) 0
  -- nothing is left
  over : {run : Run} → Keeps run → Plays step run [] run Accepted 0
  -- a piece that is refused ends it, with its reply and the run before it
  refused : {run : Run} {bs : List ℕ} {r : Reply} → Keeps run → 0 < length bs → StepReply run (first_piece run bs) r
      → ¬ (r ≡ Accepted) → Plays step run bs run r 0
  -- a piece that is accepted counts, and what is behind it goes to the next run
  on : {run next : Run} {bs : List ℕ} {r : Reply} {k : ℕ} → Keeps run → 0 < length bs
      → StepReply run (first_piece run bs) Accepted
      → Plays step (step run (first_piece run bs)).run (behind_it run bs) next r k → Plays step run bs next r (suc k)
