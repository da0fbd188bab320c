-- What bytes spell, record by record: an opening, an image, a round (rules 3.1, 4.3 to 4.8, 6.1 and 6.2). What is read is
-- spelled by the bytes that were read, and what is written spells what it was written from.
use Rattle.std.specs.Prelude.{◌≡◌, true, false, List, ℕ, ◌+◌, ◌*◌, ◌<◌, length, get_or}
use Rattle.limits.specs.declared.Setup.{Setup}
use Rattle.run.specs.declared.Run.{Run}
use Rattle.run.specs.Kinds as kind
use Rattle.run.specs.Record.{record_bytes, record_at}
use Rattle.run.specs.Run.{stations, station_at}
use Rattle.run.specs.Block.{plain}
use Rattle.round.specs.declared.Matrix.{Matrix}
use Rattle.round.specs.Cells.{cell_record}
use Rattle.round.specs.Reading.{cell_of}
use Rattle.consensus.specs.Round.{cell_at, Whole}
use Rattle.consensus.specs.WritingReplies.{LostOutside}

-- the setup, by the bytes of record 0 (rule 2.4)
pub record SetupOf (s : Setup) (bs : List ℕ) : Type 0 where
  pub kind_byte : get_or bs 0 0 ≡ kind.SETUP
  pub algorithm : get_or bs 1 0 ≡ s.algorithm
  pub n : get_or bs 2 0 ≡ s.n
  pub T : get_or bs 3 0 ≡ s.t
  pub E : get_or bs 4 0 ≡ s.e
  pub alpha : get_or bs 5 0 ≡ s.alpha
  pub byte_6 : get_or bs 6 0 ≡ 0
  pub byte_7 : get_or bs 7 0 ≡ 0

-- an opening with this setup, default and starts
pub record OpeningOf (s : Setup) (d : ℕ) (starts bs : List ℕ) : Type 0 where
  pub long : length bs ≡ record_bytes * (2 + s.n)
  pub setup : SetupOf s bs
  pub default : record_at bs 1 ≡ plain kind.DEFAULT 0 d
  pub start : (p : ℕ) → p < s.n → record_at bs (2 + p) ≡ plain kind.START p (get_or starts p 0)

-- the image of this run
pub record ImageOf (run : Run) (bs : List ℕ) : Type 0 where
  pub long : length bs ≡ record_bytes * (3 + 4 * run.setup.n)
  pub setup : SetupOf run.setup bs
  pub default : record_at bs 1 ≡ plain kind.DEFAULT 0 run.default
  pub clock : record_at bs 2 ≡ plain kind.CLOCK 0 run.clock
  pub estimate : (p : ℕ) → p < run.setup.n
      → record_at bs (3 + p) ≡ plain kind.ESTIMATE p (station_at run p).estimate
  pub vote : (p : ℕ) → p < run.setup.n → (station_at run p).voted ≡ true
      → record_at bs (3 + run.setup.n + p) ≡ plain kind.VOTE p (station_at run p).vote
  pub no_vote : (p : ℕ) → p < run.setup.n → (station_at run p).voted ≡ false
      → record_at bs (3 + run.setup.n + p) ≡ plain kind.NO_VOTE p 0
  pub decided : (p : ℕ) → p < run.setup.n → (station_at run p).decided ≡ true
      → record_at bs (3 + 2 * run.setup.n + p) ≡ plain kind.DECIDED p (station_at run p).decision
  pub undecided : (p : ℕ) → p < run.setup.n → (station_at run p).decided ≡ false
      → record_at bs (3 + 2 * run.setup.n + p) ≡ plain kind.UNDECIDED p 0
  pub round : (p : ℕ) → p < run.setup.n
      → record_at bs (3 + 3 * run.setup.n + p) ≡ plain kind.DECISION_ROUND p (station_at run p).round

-- a round with this matrix, offered to this run
pub record RoundOf (run : Run) (m : Matrix) (bs : List ℕ) : Type 0 where
  pub long : Whole run bs
  pub cells : (p q : ℕ) → p < run.setup.n → q < run.setup.n
      → cell_at run bs p q ≡ cell_record p q (cell_of m p q)
  pub outside : LostOutside run m
  pub places : length m.cells ≡ stations * stations
