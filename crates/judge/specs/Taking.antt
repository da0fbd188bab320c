-- A round taken as the code does it: room for it, its records, then 6 and 7 asked of the masks of HO and SHO, and each
-- station's outcome from the count of its row. That this is the step is proved in proofs/Checks.antt and
-- proofs/Advances.antt.
use Rattle.std.specs.Prelude.{ℕ, ◌+◌, Bool, not, cond, Option, None, List, eqb, ltb, length, get_or, set}
use Rattle.std.specs.Int.Count.{ones}
use Rattle.paper.specs.Setup as setup
use Rattle.run.specs.Reply.{Reply}
use Rattle.run.specs.Reply.{Accepted, Length, Altered, Unsafe, Full, Rules}
use Rattle.run.specs.declared.Run.{Run}
use Rattle.run.specs.declared.Station.{Station}
use Rattle.limits.specs.declared.Setup.{Setup}
use Rattle.run.specs.Reply.{◌then◌, or_refuse, refuse_at}
use Rattle.run.specs.First.{first}
use Rattle.limits.specs.Setup.{is_u, setup_of}
use Rattle.run.specs.Run.{stations, most_rounds, nothing, run_to, station_at, sound}
use Rattle.run.specs.Filled.{filled}
use Rattle.round.specs.Reading.{round_length}
use Rattle.hearing.specs.Masks.{mask_without}
use Rattle.judge.specs.declared.Counted.{Counted}
use Rattle.outcome.specs.declared.Outcome.{Outcome}
use Rattle.judge.specs.declared.Stepped.{Stepped}
use Rattle.outcome.specs.Told.{told}
use Rattle.judge.specs.Rows.{no_value}

-- 10, 8, 1
unfoldable pub check_room : Run → List ℕ → Reply
unfolding sound
check_room run bs =
    or_refuse (sound run) (Rules 0) then or_refuse (ltb run.clock most_rounds) Full
    then or_refuse (eqb (length bs) (round_length run.setup.n)) Length

-- 6, asked of the masks of HO and SHO
abbrev pub few_at : Setup → List ℕ → List ℕ → ℕ → Bool
few_at s ho sho p = setup.tolerated (setup_of s) (ones (mask_without (get_or ho p 0) (get_or sho p 0)))

unfoldable pub altered_asked : Setup → List ℕ → List ℕ → Reply
unfolding first setup_of
altered_asked s ho sho = refuse_at (first s.n (λ p. not (few_at s ho sho p))) Altered

-- 7, asked of those of SHO
abbrev pub enough_at : Setup → List ℕ → ℕ → Bool
enough_at s sho p = setup.passes_bound (setup_of s) (ones (get_or sho p 0))

unfoldable pub safe_asked : Setup → List ℕ → Reply
unfolding first setup_of
safe_asked s sho = refuse_at (first s.n (λ p. not (enough_at s sho p))) Unsafe

unfoldable pub sets_asked : Setup → List ℕ → List ℕ → Reply
unfolding altered_asked safe_asked
sets_asked s ho sho = altered_asked s ho sho then cond (is_u s) (safe_asked s sho) Accepted

-- a run with a station stored at place p
abbrev pub placed : Run → ℕ → Station → Run
placed run p s =
    record {
      setup = run.setup;
      default = run.default;
      clock = run.clock;
      estimates = set run.estimates p s.estimate;
      voted = set run.voted p s.voted;
      votes = set run.votes p s.vote;
      decided = set run.decided p s.decided;
      decisions = set run.decisions p s.decision;
      rounds = set run.rounds p s.round;
    }

-- what the round makes of station p, told from its row's count
abbrev pub told_at : Run → Bool → Counted → ℕ → Outcome
told_at run voting c p =
    told run.setup run.default (run.clock + 1) voting (station_at run p) (get_or c.ho p 0)
    (get_or c.tallies p no_value)

-- the run after the round, before its stations are told, and with the first k of them
unfoldable pub begun : Run → ℕ → Run
unfolding run_to
begun run number = run_to run.setup run.default number 0 (λ i. nothing)

unfoldable pub next_to : Run → Bool → Counted → ℕ → Run
unfolding run_to told
next_to run voting c k = run_to run.setup run.default (run.clock + 1) k (λ p. (told_at run voting c p).station)

-- what fired at the first k
unfoldable pub fired_to : Run → Bool → Counted → ℕ → List (Option ℕ)
unfolding filled told
fired_to run voting c k = filled stations k (λ p. (told_at run voting c p).fired) None

-- and all of it
unfoldable pub advanced : Run → Bool → Counted → Stepped
unfolding next_to fired_to
advanced run voting c =
    let n = run.setup.n in
    record {
      reply = Accepted;
      run = next_to run voting c n;
      fired = fired_to run voting c n;
      ho = c.ho;
      sho = c.sho;
    }
