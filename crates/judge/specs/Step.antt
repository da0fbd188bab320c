-- Taking one round: the checks in the order of rule 12.8, and the paper's rules for what then holds (rules 8 and 9).
use Rattle.std.specs.Prelude.{ℕ, ◌+◌, cond, List, length, replicate, eqb, ltb}
use Rattle.std.specs.Prelude.{Option, None}
use Rattle.paper.specs.Stations.{size}
use Rattle.paper.specs.Heard as heard
use Rattle.paper.specs.Setup as setup
use Rattle.paper.specs.Rules as rules
use Rattle.limits.specs.Setup.{is_u, setup_of}
use Rattle.run.specs.Reply.{Reply}
use Rattle.run.specs.Reply.{Accepted, Length, Altered, Unsafe, Full, Rules}
use Rattle.run.specs.declared.Run.{Run}
use Rattle.run.specs.declared.Station.{Station}
use Rattle.run.specs.Reply.{is_accepted, ◌then◌, or_refuse}
use Rattle.run.specs.Run.{stations, most_rounds, run_to, run_of, sound}
use Rattle.run.specs.Filled.{filled}
use Rattle.round.specs.Bridge.{paper_setup, entries, heard_in, station, kind_next, sent_next}
use Rattle.round.specs.Reading.{in_turn, votes_next, round_length, check_cells}
use Rattle.hearing.specs.Survey.{ho_sets, sho_sets}
use Rattle.judge.specs.declared.Stepped.{Stepped}

-- |AHO(p)| and |SHO(p)| of the round that these bytes spell
abbrev pub altered : Run → List ℕ → ℕ → ℕ
altered run bs p = size run.setup.n (heard.AHO (heard_in run.setup.n bs p) (sent_next run))

abbrev pub safe : Run → List ℕ → ℕ → ℕ
safe run bs p = size run.setup.n (heard.SHO (heard_in run.setup.n bs p) (sent_next run))

-- rule 11.6
unfoldable pub check_altered : Run → List ℕ → Reply
unfolding in_turn setup_of
check_altered run bs =
    in_turn run.setup.n (λ p. or_refuse (setup.tolerated (paper_setup run) (altered run bs p)) (Altered p))

-- rule 11.7
unfoldable pub check_safe : Run → List ℕ → Reply
unfolding in_turn setup_of
check_safe run bs =
    cond (is_u run.setup)
    (in_turn run.setup.n (λ p. or_refuse (setup.passes_bound (paper_setup run) (safe run bs p)) (Unsafe p)))
    Accepted

-- rule 12.8
unfoldable pub check_step : Run → List ℕ → Reply
unfolding sound check_cells check_altered check_safe
check_step run bs =
    or_refuse (sound run) (Rules 0) then or_refuse (ltb run.clock most_rounds) Full
    then or_refuse (eqb (length bs) (round_length run.setup.n)) Length
    then check_cells (votes_next run) run.setup.n bs then check_altered run bs then check_safe run bs

-- the paper's station after the round, and what fired at it
unfoldable pub station_after : Run → List ℕ → ℕ → rules.Station
unfolding setup_of station heard_in
station_after run bs p = rules.after (paper_setup run) run.default (run.clock + 1) (station run p)
    (heard_in run.setup.n bs p)

unfoldable pub fired_at : Run → List ℕ → ℕ → Option ℕ
unfolding setup_of kind_next heard_in
fired_at run bs p = rules.fired (paper_setup run) (kind_next run) (heard_in run.setup.n bs p)

-- what the run then holds of station p
abbrev pub entries_after : Run → List ℕ → ℕ → Station
entries_after run bs p = entries (station_after run bs p)

-- the run after the round (rule 9.11)
unfoldable pub run_after : Run → List ℕ → Run
unfolding station_after run_to
run_after run bs = run_of run.setup run.default (run.clock + 1) (entries_after run bs)

-- what is refused leaves the run as it was handed in, with no firing and empty sets
abbrev pub unstepped : Reply → Run → Stepped
unstepped r run =
    record {
      reply = r;
      run = run;
      fired = replicate stations None;
      ho = replicate stations 0;
      sho = replicate stations 0;
    }

-- an accepted one gives the next run, what fired, HO and SHO
unfoldable pub stepped : Run → List ℕ → Stepped
unfolding run_after fired_at ho_sets sho_sets filled
stepped run bs =
    record {
      reply = Accepted;
      run = run_after run bs;
      fired = filled stations run.setup.n (fired_at run bs) None;
      ho = ho_sets run.setup.n bs;
      sho = sho_sets run run.setup.n bs;
    }

unfoldable pub step_of : Run → List ℕ → Stepped
unfolding check_step stepped
step_of run bs = cond (is_accepted (check_step run bs)) (stepped run bs) (unstepped (check_step run bs) run)
