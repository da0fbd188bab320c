-- A round offered to a run, in the page's and the paper's terms: its records, the round of the paper that they spell,
-- and the sizes of its sets. No check of the code is mentioned here.
use Rattle.std.specs.Prelude.{◌≡◌, List, ℕ, suc, ◌+◌, ◌*◌, ◌<◌, length}
use Rattle.paper.specs.Stations.{size}
use Rattle.paper.specs.Heard.{SHO, AHO}
use Rattle.paper.specs.Rules as rules
use Rattle.paper.specs.Run as paper
use Rattle.run.specs.declared.Run.{Run}
use Rattle.run.specs.declared.record.Record.{Record}
use Rattle.run.specs.Keeps.{Keeps}
use Rattle.run.specs.Record.{record_bytes, record_at}
use Rattle.run.specs.Run.{most_rounds}
use Rattle.round.specs.declared.Cell.{Cell}
use Rattle.round.specs.declared.Cell.TheVariants.{Query}
use Rattle.round.specs.Cells.{cell_record}
use Rattle.round.specs.Bridge.{heard_in, station, paper_setup}

-- the round that these bytes spell, offered to this run: what each station held before it, and after it what the paper
-- makes of each. (`round_by_judge` in Offered.antt has in its `after` what the judge's run then holds.) Outside n by n
-- every cell is lost (`heard_in`)
unfoldable pub round_by_paper : Run → List ℕ → paper.Turn
unfolding station heard_in
round_by_paper run bs =
    record {
      number = suc run.clock;
      before = station run;
      heard = heard_in run.setup.n bs;
      after =
          λ p.
          rules.after (paper_setup run) run.default (suc run.clock) (station run p)
          (heard_in run.setup.n bs p);
    }

-- ---- the run
-- it can take a round: it is good (rule 5.11), and not full (1.2)
pub record Ready (run : Run) : Type 0 where
  pub keeps : Keeps run
  pub room : run.clock < most_rounds

-- the next round is a vote round (rule 4.2)
abbrev pub VoteNext : Run → Type 0
VoteNext run = rules.kind_of (paper_setup run).algorithm (suc run.clock) ≡ rules.vote

-- ---- the records
-- that of receiver p and sender q is number np + q (rule 4.3)
abbrev pub cell_at : Run → List ℕ → ℕ → ℕ → Record
cell_at run bs p q = record_at bs (run.setup.n * p + q)

-- it is well formed if it spells a cell of p and q (rules 2.6 and 4.5)
abbrev pub Spells : Run → List ℕ → ℕ → ℕ → Type 0
Spells run bs p q = (c : Cell) × (cell_at run bs p q ≡ cell_record p q c)

-- it spells "?", and the next round is no vote round (rule 4.6)
pub record Misplaced (run : Run) (bs : List ℕ) (p q : ℕ) : Type 0 where
  pub spells : cell_at run bs p q ≡ cell_record p q Query
  pub no_vote : ¬ VoteNext run

-- nothing is wrong with it
pub record InOrder (run : Run) (bs : List ℕ) (p q : ℕ) : Type 0 where
  pub spells : Spells run bs p q
  pub in_place : ¬ Misplaced run bs p q

-- those before it are in order (rule 12.5)
pub record InOrderUpTo (run : Run) (bs : List ℕ) (p q : ℕ) : Type 0 where
  pub receiver : p < run.setup.n
  pub sender : q < run.setup.n
  pub before : (i j : ℕ) → i < run.setup.n → j < run.setup.n → run.setup.n * i + j < run.setup.n * p + q
      → InOrder run bs i j

-- the round has its length, 8n² bytes (rule 1.7)
abbrev pub Whole : Run → List ℕ → Type 0
Whole run bs = length bs ≡ record_bytes * run.setup.n * run.setup.n

-- and all its records are in order
pub record WellFormed (run : Run) (bs : List ℕ) : Type 0 where
  pub long : Whole run bs
  pub in_order : (p q : ℕ) → p < run.setup.n → q < run.setup.n → InOrder run bs p q

-- ---- the sets
-- |AHO(p)| and |SHO(p)|
abbrev pub altered_at : Run → List ℕ → ℕ → ℕ
altered_at run bs p =
    let t : paper.Turn = round_by_paper run bs in
    size run.setup.n (AHO (t.heard p) (paper.sent (paper_setup run) t))

abbrev pub safe_at : Run → List ℕ → ℕ → ℕ
safe_at run bs p =
    let t : paper.Turn = round_by_paper run bs in
    size run.setup.n (SHO (t.heard p) (paper.sent (paper_setup run) t))
