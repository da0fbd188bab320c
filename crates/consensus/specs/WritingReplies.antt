-- What is answered to a round that is to be written, and when: one case for each reply, with all that must hold before
-- it (rule 12.7). Proved in proofs/WritingReplies.antt.
use Rattle.std.specs.Prelude.{◌≡◌, ℕ, ◌+◌, ◌*◌, ◌<◌}
use Rattle.run.specs.declared.Run.{Run}
use Rattle.run.specs.Reply.{Reply}
use Rattle.run.specs.Reply.{Accepted, Malformed, Query, Buffer, Rules}
use Rattle.run.specs.Keeps.{Keeps}
use Rattle.run.specs.Record.{record_bytes}
use Rattle.run.specs.Run.{stations}
use Rattle.round.specs.declared.Cell.TheVariants as cell
use Rattle.round.specs.declared.Matrix.{Matrix}
use Rattle.round.specs.Reading.{cell_of}
use Rattle.consensus.specs.Round.{VoteNext}

-- a "?" in cell (p, q), and the next round is no vote round (rule 4.2)
pub record QueryAt (run : Run) (m : Matrix) (p q : ℕ) : Type 0 where
  pub there : cell_of m p q ≡ cell.Query
  pub no_vote : ¬ VoteNext run

-- no cell within n by n has one
abbrev pub NoQuery : Run → Matrix → Type 0
NoQuery run m = (p q : ℕ) → p < run.setup.n → q < run.setup.n → ¬ QueryAt run m p q

-- all cells outside n by n are lost
abbrev pub LostOutside : Run → Matrix → Type 0
LostOutside run m =
    (p q : ℕ) → p < stations → q < stations → ¬ ((p < run.setup.n) × (q < run.setup.n)) → cell_of m p q ≡ cell.Lost

pub data WriteRoundReply (run : Run) (m : Matrix) (room : ℕ) : Reply → Type 0 where
  -- 10
  not_good : ¬ Keeps run → WriteRoundReply run m room (Rules 0)
  -- 5 at np + q: the first "?" that is out of place, rows in order
  query : (p q : ℕ) → Keeps run → p < run.setup.n → q < run.setup.n → QueryAt run m p q
      → ((i j : ℕ) → i < run.setup.n → j < run.setup.n → run.setup.n * i + j < run.setup.n * p + q
      → ¬ QueryAt run m i j)
      → WriteRoundReply run m room (Query (run.setup.n * p + q))
  -- 2 at n²: a cell that has no record is not lost
  outside : Keeps run → NoQuery run m → ¬ LostOutside run m
      → WriteRoundReply run m room (Malformed (run.setup.n * run.setup.n))
  -- 9: not 8n² bytes
  no_room : Keeps run → NoQuery run m → LostOutside run m → ¬ (room ≡ record_bytes * run.setup.n * run.setup.n)
      → WriteRoundReply run m room Buffer
  -- 0
  accepted : Keeps run → NoQuery run m → LostOutside run m → room ≡ record_bytes * run.setup.n * run.setup.n
      → WriteRoundReply run m room Accepted
