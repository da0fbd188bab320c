-- The bridge to the paper: what the judge holds, as the paper has it. One map each for a setup, a message, a station, a
-- cell and a round. (The setup's own stands with its guards, as `setup_of` of crate limits.)
use Rattle.std.specs.Prelude.{ℕ, ◌+◌, Bool, true, false, cond, List}
use Rattle.paper.specs.Heard as heard
use Rattle.paper.specs.Setup as setup
use Rattle.paper.specs.Rules as rules
use Rattle.limits.specs.Setup.{algorithm_of, setup_of}
use Rattle.run.specs.declared.Run.{Run}
use Rattle.run.specs.declared.Station.{Station}
use Rattle.run.specs.Run.{station_at}
use Rattle.round.specs.declared.Cell.{Cell}
use Rattle.round.specs.declared.Cell.TheVariants as cell
use Rattle.round.specs.Reading.{cells}

-- the setup of a run
abbrev pub paper_setup : Run → setup.Setup
paper_setup run = setup_of run.setup

-- a flag and a number are a message
abbrev pub message : Bool → ℕ → heard.Message
message given v = cond given (heard.val v) heard.query

-- a flag and two numbers are a decision
abbrev pub decision : Bool → ℕ → ℕ → rules.Decision
decision decided v r = cond decided (rules.decided v r) rules.undecided

-- what a run holds of a station, as the paper's station
abbrev pub paper_station : Station → rules.Station
paper_station x =
    record {
      estimate = x.estimate;
      vote = message x.voted x.vote;
      decision = decision x.decided x.decision x.round;
    }

-- and back: how a run keeps a vote and a decision, with 0 where there is nothing
abbrev pub has_value : heard.Message → Bool
has_value (heard.val v) = true
has_value heard.query = false

abbrev pub value_in : heard.Message → ℕ
value_in (heard.val v) = v
value_in heard.query = 0

abbrev pub is_decided : rules.Decision → Bool
is_decided rules.undecided = false
is_decided (rules.decided v r) = true

abbrev pub decision_in : rules.Decision → ℕ
decision_in rules.undecided = 0
decision_in (rules.decided v r) = v

abbrev pub round_in : rules.Decision → ℕ
round_in rules.undecided = 0
round_in (rules.decided v r) = r

abbrev pub entries : rules.Station → Station
entries s =
    record {
      estimate = s.estimate;
      voted = has_value s.vote;
      vote = value_in s.vote;
      decided = is_decided s.decision;
      decision = decision_in s.decision;
      round = round_in s.decision;
    }

-- the stations of a run
unfoldable pub station : Run → ℕ → rules.Station
station run p = paper_station (station_at run p)

-- the kind of the round that the run waits for, and what each station ought to send in it (rules 4.2 and 7.2)
unfoldable pub kind_next : Run → rules.Kind
kind_next run = rules.kind_of (algorithm_of run.setup) (run.clock + 1)

unfoldable pub sent_next : Run → ℕ → heard.Message
unfolding kind_next station
sent_next run q = rules.sends (kind_next run) (station run q)

-- each case of a cell, and the round that some bytes spell
abbrev pub paper_cell : Cell → heard.Cell
paper_cell cell.Lost = heard.lost
paper_cell (cell.Value v) = heard.heard (heard.val v)
paper_cell cell.Query = heard.heard heard.query

unfoldable pub heard_in : ℕ → List ℕ → heard.Matrix
unfolding cells
heard_in n bs p q = paper_cell (cells n bs p q)
