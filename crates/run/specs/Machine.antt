-- A run as the code holds it (rules 1.3 and 1.8). What is not said here,
-- that the setup's parts are bytes and that the clock and the rounds fit, follows from the rules of a run.
use Rattle.std.specs.Prelude.{◌≡◌, List, ℕ, ◌^◌, ◌<◌, length, get_or}
use Rattle.run.specs.declared.Run.{Run}
use Rattle.run.specs.Run.{stations}

-- a number of 32 bits for each place
pub record Words (l : List ℕ) : Type 0 where
  pub long : length l ≡ stations
  pub below : (i : ℕ) → get_or l i 0 < 2 ^ 32

pub record Machine (run : Run) : Type 0 where
  pub default : run.default < 2 ^ 32
  pub estimates : Words run.estimates
  pub voted : length run.voted ≡ stations
  pub votes : Words run.votes
  pub decided : length run.decided ≡ stations
  pub decisions : Words run.decisions
  pub rounds : Words run.rounds
