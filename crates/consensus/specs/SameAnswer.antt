-- What it is for two judges to agree. Two answers to one round say the same in the reply, in the run, and at every place
-- of every array.
use Rattle.std.specs.Prelude.{◌≡◌, List, ℕ, ◌^◌, ◌<◌, get_or, None}
use Rattle.limits.specs.declared.Setup.{Setup}
use Rattle.run.specs.declared.Run.{Run}
use Rattle.run.specs.Bytes.{IsBytes}
use Rattle.run.specs.Machine.{Words, Machine}
use Rattle.run.specs.Run.{stations, station_at}
use Rattle.round.specs.declared.Matrix.{Matrix}
use Rattle.writing.specs.Writing.{IsMatrix}
use Rattle.judge.specs.declared.Stepped.{Stepped}
use Rattle.consensus.specs.Judge.{Judge}

pub record SameAnswer (a b : Stepped) : Type 0 where
  pub reply : a.reply ≡ b.reply
  pub setup : a.run.setup ≡ b.run.setup
  pub default : a.run.default ≡ b.run.default
  pub clock : a.run.clock ≡ b.run.clock
  pub each_station : (p : ℕ) → p < stations → station_at a.run p ≡ station_at b.run p
  pub fired : (p : ℕ) → get_or a.fired p None ≡ get_or b.fired p None
  pub ho : (p : ℕ) → get_or a.ho p 0 ≡ get_or b.ho p 0
  pub sho : (p : ℕ) → get_or a.sho p 0 ≡ get_or b.sho p 0

-- two judges that agree in every call, to all bytes and to every run that the code can hold
pub record SameJudge (I J : Judge) : Type 0 where
  pub read_opening : (bs : List ℕ) → IsBytes bs → I.read_opening bs ≡ J.read_opening bs
  pub write_opening : (s : Setup) (d : ℕ) (starts buffer : List ℕ) → d < 2 ^ 32 → Words starts
      → I.write_opening s d starts buffer ≡ J.write_opening s d starts buffer
  pub load : (bs : List ℕ) → IsBytes bs → I.load bs ≡ J.load bs
  pub save : (run : Run) (buffer : List ℕ) → Machine run → I.save run buffer ≡ J.save run buffer
  pub read_round : (run : Run) (bs : List ℕ) → I.read_round run bs ≡ J.read_round run bs
  pub write_round : (run : Run) (m : Matrix) (buffer : List ℕ) → IsMatrix m
      → I.write_round run m buffer ≡ J.write_round run m buffer
  -- sets, firings and their values at every place
  pub survey : (run : Run) (bs : List ℕ)
      → ((I.survey run bs).reply ≡ (J.survey run bs).reply)
      × ((p : ℕ) → get_or (I.survey run bs).ho p 0 ≡ get_or (J.survey run bs).ho p 0)
      × ((p : ℕ) → get_or (I.survey run bs).sho p 0 ≡ get_or (J.survey run bs).sho p 0)
  pub step : (run : Run) (bs : List ℕ) → SameAnswer (I.step run bs) (J.step run bs)
  pub step_run : (run : Run) (bs : List ℕ) → Machine run → IsBytes bs → (I.step run bs).run ≡ (J.step run bs).run
  pub play : (run : Run) (bs : List ℕ) → Machine run → IsBytes bs → I.play run bs ≡ J.play run bs
  pub judge_open : (opening buffer : List ℕ) → IsBytes opening → I.judge_open opening buffer ≡ J.judge_open opening buffer
  pub judge_step : (bytes round : List ℕ) → IsBytes bytes → IsBytes round
      → I.judge_step bytes round ≡ J.judge_step bytes round
