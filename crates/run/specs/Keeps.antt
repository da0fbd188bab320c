-- The rules of a run, clause by clause (rules 5.2 to 5.9). That a run is sound exactly when it keeps them is proved in
-- proofs/Sound.antt.
use Rattle.std.specs.Prelude.{◌≡◌, ◌⊎◌, true, false, ℕ, ◌%◌, ◌<◌, ◌≤◌}
use Rattle.paper.specs.Setup as setup
use Rattle.limits.specs.declared.Setup.{Setup}
use Rattle.limits.specs.Setup.{byte_a, byte_u, setup_of}
use Rattle.run.specs.declared.Run.{Run}
use Rattle.run.specs.declared.Station.{Station}
use Rattle.run.specs.Run.{stations, most_rounds, nothing, station_at}

-- rules 10.1 to 10.6
pub record SetupKeeps (s : Setup) : Type 0 where
  pub algorithm : (s.algorithm ≡ byte_a) ⊎ (s.algorithm ≡ byte_u)
  pub n_from : 1 ≤ s.n
  pub n_to : s.n ≤ stations
  pub inequalities : setup.acceptable (setup_of s) ≡ true

-- what a run holds of a station below n
pub record StationKeeps (s : Setup) (clock : ℕ) (p : Station) : Type 0 where
  pub vote : p.voted ≡ true → (s.algorithm ≡ byte_u) × (clock % 2 ≡ 1)
  pub round_from : p.decided ≡ true → 1 ≤ p.round
  pub round_to : p.decided ≡ true → p.round ≤ clock
  pub round_even : p.decided ≡ true → s.algorithm ≡ byte_u → p.round % 2 ≡ 0
  pub undecided : p.decided ≡ false → p.round ≡ 0
  pub beside_no_vote : p.voted ≡ false → p.vote ≡ 0
  pub beside_undecided : p.decided ≡ false → p.decision ≡ 0

pub record Keeps (run : Run) : Type 0 where
  pub setup : SetupKeeps run.setup
  pub default : run.setup.algorithm ≡ byte_a → run.default ≡ 0
  pub clock : run.clock ≤ most_rounds
  pub below : (i : ℕ) → i < run.setup.n → StationKeeps run.setup run.clock (station_at run i)
  pub above : (i : ℕ) → run.setup.n ≤ i → i < stations → station_at run i ≡ nothing
