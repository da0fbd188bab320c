-- The run and its rules, as tests (rules 5).
use Rattle.std.specs.Prelude.{ℕ, ◌%◌, Bool, false, not, ◌&&◌, ◌||◌, cond, get_or, eqb, leb, ltb}
use Rattle.paper.specs.Setup as setup
use Rattle.paper.specs.Stations.{every}
use Rattle.limits.specs.declared.Setup.{Setup}
use Rattle.limits.specs.Setup.{byte_a, byte_u, is_u, setup_of}
use Rattle.run.specs.declared.Run.{Run}
use Rattle.run.specs.declared.Station.{Station}
use Rattle.run.specs.Filled.{filled}

-- the stations and the rounds that a run may have (rules 1.1 and 1.2)
abbrev pub stations : ℕ
stations = 32

abbrev pub most_rounds : ℕ
most_rounds = 4096

-- a place that holds no station (rule 5.9), and a station that has just been opened (rule 3.3)
abbrev pub nothing : Station
nothing = record { estimate = 0; voted = false; vote = 0; decided = false; decision = 0; round = 0 }

abbrev pub at_start : ℕ → Station
at_start x = record { estimate = x; voted = false; vote = 0; decided = false; decision = 0; round = 0 }

-- every run is built here: with this setup, default and clock, station i below k is f i, and from k up there is nothing
unfoldable pub run_to : Setup → ℕ → ℕ → ℕ → (ℕ → Station) → Run
unfolding filled
run_to s d clock k f =
    record {
      setup = s;
      default = d;
      clock = clock;
      estimates = filled stations k (λ i. (f i).estimate) 0;
      voted = filled stations k (λ i. (f i).voted) false;
      votes = filled stations k (λ i. (f i).vote) 0;
      decided = filled stations k (λ i. (f i).decided) false;
      decisions = filled stations k (λ i. (f i).decision) 0;
      rounds = filled stations k (λ i. (f i).round) 0;
    }

-- the run of n stations
abbrev pub run_of : Setup → ℕ → ℕ → (ℕ → Station) → Run
run_of s d clock f = run_to s d clock s.n f

-- the idle run (rule 5.10)
unfoldable pub idle : Run
unfolding run_to
idle = run_of (record { algorithm = 0; n = 0; t = 0; e = 0; alpha = 0 }) 0 0 (λ i. nothing)

-- what stands at place i of the arrays
abbrev pub station_at : Run → ℕ → Station
station_at run i =
    record {
      estimate = get_or run.estimates i 0;
      voted = get_or run.voted i false;
      vote = get_or run.votes i 0;
      decided = get_or run.decided i false;
      decision = get_or run.decisions i 0;
      round = get_or run.rounds i 0;
    }

-- rule 10.1
unfoldable pub in_range : Setup → Bool
in_range s = leb byte_a s.algorithm && leb s.algorithm byte_u && leb 1 s.n && leb s.n stations

-- rule 5.3
unfoldable pub default_fits : Setup → ℕ → Bool
default_fits s d = is_u s || eqb d 0

-- rule 5.5, and which round comes next (rule 4.2): votes stand just before a vote round
unfoldable pub may_vote : Setup → ℕ → Bool
may_vote s clock = is_u s && eqb (clock % 2) 1

unfoldable pub vote_fits : Setup → ℕ → Bool → Bool
unfolding may_vote
vote_fits s clock voted = not voted || may_vote s clock

-- rule 5.7, and with it 5.6
unfoldable pub may_decide : Setup → ℕ → ℕ → Bool
may_decide s clock round = leb 1 round && leb round clock && (not (is_u s) || eqb (round % 2) 0)

unfoldable pub decision_fits : Setup → ℕ → Bool → ℕ → Bool
unfolding may_decide
decision_fits s clock decided round = cond decided (may_decide s clock round) (eqb round 0)

-- rule 5.8
unfoldable pub kept_fits : Bool → ℕ → Bool
kept_fits there number = there || eqb number 0

-- what a run holds of a station keeps the rules
unfoldable pub station_fits : Setup → ℕ → Station → Bool
unfolding vote_fits decision_fits kept_fits
station_fits s clock p =
    vote_fits s clock p.voted && decision_fits s clock p.decided p.round && kept_fits p.voted p.vote
    && kept_fits p.decided p.decision

-- rule 5.9
unfoldable pub clear : Station → Bool
clear p =
    eqb p.estimate 0 && not p.voted && eqb p.vote 0 && not p.decided && eqb p.decision 0
    && eqb p.round 0

-- place i may hold this: what keeps the rules below n, and nothing from n up
unfoldable pub place_fits : Setup → ℕ → ℕ → Station → Bool
unfolding station_fits clear
place_fits s clock i p = cond (ltb i s.n) (station_fits s clock p) (clear p)

abbrev pub place_fits_in : Run → ℕ → Bool
place_fits_in run i = place_fits run.setup run.clock i (station_at run i)

-- rules 5.2, 5.3 and 5.4
unfoldable pub head_fits : Setup → ℕ → ℕ → Bool
unfolding in_range setup_of default_fits
head_fits s d clock = in_range s && setup.acceptable (setup_of s) && default_fits s d && leb clock most_rounds

-- the run is good (rule 5.11)
unfoldable pub sound : Run → Bool
unfolding head_fits place_fits
sound run = head_fits run.setup run.default run.clock && every stations (place_fits_in run)
