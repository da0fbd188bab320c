-- The run after a round holds, at each station below n, what the paper's rule makes of that station, and nothing from n
-- up: it is built from the paper's stations, and a vote or a decision is kept as a flag and numbers that tell it again.
use mathlib.Core.Path.{◌≡◌, refl, ap, ◌∙◌}
use mathlib.Core.Bool.{cond}
use mathlib.Core.List.{List}
use Prim.Native.Nat.{ℕ, ◌+◌, ◌≤◌, ◌<◌}
use native.Mathlib.Omega.{arith}
use Rattle.paper.specs.Heard as heard
use Rattle.paper.specs.Rules as rules
use Rattle.run.specs.declared.Run.{Run}
use Rattle.run.specs.Run.{stations, station_at}
use Rattle.run.proofs.Built.{built_below}
use Rattle.round.specs.Bridge.{station, paper_station, has_value, value_in, is_decided, decision_in, round_in, entries}
use Rattle.judge.specs.Step.{station_after, entries_after, run_after}

-- each place of the run after a round: below n what the rules leave, and nothing from n up
module _ (run : Run) (bs : List ℕ) (p : ℕ) (within : p < stations) where
  pub entries_next : p < run.setup.n → station_at (run_after run bs) p ≡ entries_after run bs p
  unfolding run_after
  entries_next h = built_below run.setup run.default (run.clock + 1) run.setup.n
      (entries_after run bs) p within h

vote_again : (m : heard.Message) → cond (has_value m) (heard.val (value_in m)) heard.query ≡ m
vote_again (heard.val v) = refl
vote_again heard.query = refl

decision_again : (d : rules.Decision) → cond (is_decided d) (rules.decided (decision_in d) (round_in d)) rules.undecided
    ≡ d
decision_again rules.undecided = refl
decision_again (rules.decided v r) = refl

-- the paper's station of what is held is the one that is held
pub told_entries : (s : rules.Station) → paper_station (entries s) ≡ s
told_entries s = rw (vote_again s.vote, decision_again s.decision)

-- each station of the run after a round is the paper's
pub station_next : (run : Run) (bs : List ℕ) (p : ℕ) → run.setup.n ≤ stations → p < run.setup.n
    → station (run_after run bs) p ≡ station_after run bs p
unfolding station
station_next run bs p small h = ap paper_station (entries_next run bs p (omega arith) h)
    ∙ told_entries (station_after run bs p)
