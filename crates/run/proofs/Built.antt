-- Runs are built in one way, so what a place holds, what a loop that tells the stations one by one has made, that a run
-- fits its machine types and that it keeps the rules are said here once. Each array is filled from its start, and known
-- by its elements.
use mathlib.Core.Path.{◌≡◌, refl, ap}
use mathlib.Core.Bool.{Bool, true, false}
use mathlib.Core.List.{List}
use Prim.Native.Nat.{ℕ, ◌+◌, ◌^◌, ◌<◌, ◌≤◌}
use native.Mathlib.Omega.{arith}
use borrow.Author.Tests.{ltb-true, ltb-false}
use lib.Dec.{ltb}
use lib.ListN.{length, get_or, set, replicate}
use Rattle.limits.specs.declared.Setup.{Setup}
use Rattle.limits.specs.Setup.{byte_a}
use Rattle.run.specs.declared.Run.{Run}
use Rattle.run.specs.declared.Station.{Station}
use Rattle.run.specs.Filled.{filled}
use Rattle.run.specs.Run.{stations, most_rounds, nothing, run_to, run_of, station_at}
use Rattle.run.specs.Keeps.{SetupKeeps, StationKeeps, Keeps}
use Rattle.run.specs.Machine.{Words, Machine}
use Rattle.run.proofs.Filled.{
  length_filled,
  filled_below,
  filled_above,
  filled_none,
  filled_more,
  filled_same,
  filled_self,
  past_end,
}

-- a run with nothing at any place, and a run with a station stored
abbrev pub cleared : Setup → ℕ → ℕ → Run
cleared s d clock =
    record {
      setup = s;
      default = d;
      clock = clock;
      estimates = replicate stations 0;
      voted = replicate stations false;
      votes = replicate stations 0;
      decided = replicate stations false;
      decisions = replicate stations 0;
      rounds = replicate stations 0;
    }

abbrev pub stored : Run → ℕ → Station → Run
stored run k p =
    record {
      setup = run.setup;
      default = run.default;
      clock = run.clock;
      estimates = set run.estimates k p.estimate;
      voted = set run.voted k p.voted;
      votes = set run.votes k p.vote;
      decided = set run.decided k p.decided;
      decisions = set run.decisions k p.decision;
      rounds = set run.rounds k p.round;
    }

module _ (s : Setup) (d clock : ℕ) where
  pub built_none : (f : ℕ → Station) → run_to s d clock 0 f ≡ cleared s d clock
  unfolding run_to
  built_none f =
      rw (
        filled_none stations (λ i. (f i).estimate) 0,
        filled_none stations (λ i. (f i).voted) false,
        filled_none stations (λ i. (f i).vote) 0,
        filled_none stations (λ i. (f i).decided) false,
        filled_none stations (λ i. (f i).decision) 0,
        filled_none stations (λ i. (f i).round) 0,
      )

  module _ (k : ℕ) (f : ℕ → Station) where
    -- what the places hold
    pub built_below : (i : ℕ) → i < stations → i < k → station_at (run_to s d clock k f) i ≡ f i
    unfolding run_to
    built_below i l h =
        let same : station_at (run_to s d clock k f) i
        ≡ record {
          estimate = (f i).estimate;
          voted = (f i).voted;
          vote = (f i).vote;
          decided = (f i).decided;
          decision = (f i).decision;
          round = (f i).round;
        }
        = rw (
          filled_below stations k (λ j. (f j).estimate) 0 i 0 l h,
          filled_below stations k (λ j. (f j).voted) false i false l h,
          filled_below stations k (λ j. (f j).vote) 0 i 0 l h,
          filled_below stations k (λ j. (f j).decided) false i false l h,
          filled_below stations k (λ j. (f j).decision) 0 i 0 l h,
          filled_below stations k (λ j. (f j).round) 0 i 0 l h,
        ) in
        same

    pub built_above : (i : ℕ) → i < stations → k ≤ i → station_at (run_to s d clock k f) i ≡ nothing
    unfolding run_to
    built_above i l h =
        rw (
          filled_above stations k (λ j. (f j).estimate) 0 i 0 l h,
          filled_above stations k (λ j. (f j).voted) false i false l h,
          filled_above stations k (λ j. (f j).vote) 0 i 0 l h,
          filled_above stations k (λ j. (f j).decided) false i false l h,
          filled_above stations k (λ j. (f j).decision) 0 i 0 l h,
          filled_above stations k (λ j. (f j).round) 0 i 0 l h,
        )

    -- a loop that has told k stations tells the next
    pub built_more : k < stations → stored (run_to s d clock k f) k (f k) ≡ run_to s d clock (k + 1) f
    unfolding run_to
    built_more l =
        rw (
          filled_more stations k (λ j. (f j).estimate) 0 l,
          filled_more stations k (λ j. (f j).voted) false l,
          filled_more stations k (λ j. (f j).vote) 0 l,
          filled_more stations k (λ j. (f j).decided) false l,
          filled_more stations k (λ j. (f j).decision) 0 l,
          filled_more stations k (λ j. (f j).round) 0 l,
        )

    -- stations that are the same make the same run
    pub built_same : (g : ℕ → Station) → ((i : ℕ) → i < k → f i ≡ g i) → run_to s d clock k f ≡ run_to s d clock k g
    unfolding run_to
    built_same g h =
        rw (
          filled_same stations k (λ j. (f j).estimate) (λ j. (g j).estimate) 0 (λ i l. ap (λ (p : Station). p.estimate)
              (h i l)),
          filled_same stations k (λ j. (f j).voted) (λ j. (g j).voted) false (λ i l. ap (λ (p : Station). p.voted)
              (h i l)),
          filled_same stations k (λ j. (f j).vote) (λ j. (g j).vote) 0 (λ i l. ap (λ (p : Station). p.vote) (h i l)),
          filled_same stations k (λ j. (f j).decided) (λ j. (g j).decided) false (λ i l. ap (λ (p : Station). p.decided)
              (h i l)),
          filled_same stations k (λ j. (f j).decision) (λ j. (g j).decision) 0 (λ i l. ap (λ (p : Station). p.decision)
              (h i l)),
          filled_same stations k (λ j. (f j).round) (λ j. (g j).round) 0 (λ i l. ap (λ (p : Station). p.round) (h i l)),
        )

-- ---- a run that fits its machine types
-- the numbers of a station are ones of 32 bits
pub record FitsWords (p : Station) : Type 0 where
  pub estimate : p.estimate < 2 ^ 32
  pub vote : p.vote < 2 ^ 32
  pub decision : p.decision < 2 ^ 32
  pub round : p.round < 2 ^ 32

-- a list with a place for each station, each of which fits
pub words : (l : List ℕ) → length l ≡ stations → ((i : ℕ) → i < stations → get_or l i 0 < 2 ^ 32) → Words l
words l long fits = record { long = long; below = λ i. go i (ltb i stations) refl }
  where
    go : (i : ℕ) (b : Bool) → ltb i stations ≡ b → get_or l i 0 < 2 ^ 32
    go i true q = fits i (ltb-true _ _ q)
    go i false q = rw (← past_end stations l 0 i long (ltb-false _ _ q)) (omega arith)

filled_words : (k : ℕ) (f : ℕ → ℕ) → ((i : ℕ) → i < k → f i < 2 ^ 32) → Words (filled stations k f 0)
filled_words k f fits = words (filled stations k f 0) (length_filled stations k f 0) (λ i l. go i l (ltb i k) refl)
  where
    go : (i : ℕ) → i < stations → (b : Bool) → ltb i k ≡ b → get_or (filled stations k f 0) i 0 < 2 ^ 32
    go i l true q = rw (filled_below stations k f 0 i 0 l (ltb-true _ _ q)) (fits i (ltb-true _ _ q))
    go i l false q = rw (filled_above stations k f 0 i 0 l (ltb-false _ _ q)) (omega arith)

pub built_machine : (s : Setup) (d clock k : ℕ) (f : ℕ → Station) → d < 2 ^ 32 → ((i : ℕ) → i < k → FitsWords (f i))
    → Machine (run_to s d clock k f)
unfolding run_to
built_machine s d clock k f fits each =
    record {
      default = fits;
      estimates = filled_words k (λ j. (f j).estimate) (λ i l. (each i l).estimate);
      voted = length_filled stations k (λ j. (f j).voted) false;
      votes = filled_words k (λ j. (f j).vote) (λ i l. (each i l).vote);
      decided = length_filled stations k (λ j. (f j).decided) false;
      decisions = filled_words k (λ j. (f j).decision) (λ i l. (each i l).decision);
      rounds = filled_words k (λ j. (f j).round) (λ i l. (each i l).round);
    }

-- ---- a run whose places from n up are clear is the one built from its stations
module _ (run : Run) (machine : Machine run) (clear : (i : ℕ) → run.setup.n ≤ i → i < stations → station_at run i
    ≡ nothing) where
  pub built_whole : run ≡ run_of run.setup run.default run.clock (station_at run)
  unfolding run_to
  built_whole =
      let n = run.setup.n in
      let same : ◌≡◌ {A = Run}
      (record {
        setup = run.setup;
        default = run.default;
        clock = run.clock;
        estimates = run.estimates;
        voted = run.voted;
        votes = run.votes;
        decided = run.decided;
        decisions = run.decisions;
        rounds = run.rounds;
      })
      (record {
        setup = run.setup;
        default = run.default;
        clock = run.clock;
        estimates = filled stations n (λ i. get_or run.estimates i 0) 0;
        voted = filled stations n (λ i. get_or run.voted i false) false;
        votes = filled stations n (λ i. get_or run.votes i 0) 0;
        decided = filled stations n (λ i. get_or run.decided i false) false;
        decisions = filled stations n (λ i. get_or run.decisions i 0) 0;
        rounds = filled stations n (λ i. get_or run.rounds i 0) 0;
      })
      = rw (
        ← filled_self 0 stations n 0 run.estimates machine.estimates.long
            (λ i l h. ap (λ (p : Station). p.estimate) (clear i h l)),
        ← filled_self false stations n false run.voted machine.voted (λ i l h. ap (λ (p : Station). p.voted)
            (clear i h l)),
        ← filled_self 0 stations n 0 run.votes machine.votes.long (λ i l h. ap (λ (p : Station). p.vote)
            (clear i h l)),
        ← filled_self false stations n false run.decided machine.decided
            (λ i l h. ap (λ (p : Station). p.decided) (clear i h l)),
        ← filled_self 0 stations n 0 run.decisions machine.decisions.long
            (λ i l h. ap (λ (p : Station). p.decision) (clear i h l)),
        ← filled_self 0 stations n 0 run.rounds machine.rounds.long (λ i l h. ap (λ (p : Station). p.round)
            (clear i h l)),
      ) in
      same

-- ---- a run that keeps the rules
pub built_keeps : (s : Setup) (d clock : ℕ) (f : ℕ → Station) → SetupKeeps s → (s.algorithm ≡ byte_a → d ≡ 0)
    → clock ≤ most_rounds
    → ((i : ℕ) → i < s.n → StationKeeps s clock (f i)) → Keeps (run_of s d clock f)
unfolding run_to
built_keeps s d clock f setup default most each =
    record {
      setup = setup;
      default = default;
      clock = most;
      below = λ i l. rw (built_below s d clock s.n f i (omega (arith, setup.n_to)) l) (each i l);
      above = λ i h l. built_above s d clock s.n f i l h;
    }
