-- When an opening is accepted, and where its run then stands (rules 3.1 to 3.3). That the checks accept exactly these
-- openings is proved in proofs/Openings.antt.
use Rattle.std.specs.Prelude.{◌≡◌, List, ℕ, ◌+◌, ◌<◌, ◌≤◌, length}
use Rattle.limits.specs.Setup.{byte_a}
use Rattle.run.specs.declared.Run.{Run}
use Rattle.run.specs.Kinds as kind
use Rattle.run.specs.Number.{two_bytes}
use Rattle.run.specs.Record.{record_at}
use Rattle.run.specs.Run.{stations, nothing, at_start, station_at}
use Rattle.run.specs.Keeps.{SetupKeeps}
use Rattle.run.specs.Block.{plain}
use Rattle.run.specs.Opening.{setup_at, default_at, starts_from, setup_in, default_in, opening_length}

pub record Acceptable (bs : List ℕ) : Type 0 where
  -- record 0 is a setup, its bytes 6 and 7 are zero, and what it sets up is acceptable
  pub setup_kind : (record_at bs setup_at).kind ≡ kind.SETUP
  pub setup_zeros : (record_at bs setup_at).number < two_bytes
  pub setup : SetupKeeps (setup_in bs)
  -- it has the length that its n asks for
  pub whole : length bs ≡ opening_length (setup_in bs).n
  -- record 1 is a default, which under A is 0
  pub default_there : record_at bs default_at ≡ plain kind.DEFAULT 0 (default_in bs)
  pub default_zero : (setup_in bs).algorithm ≡ byte_a → default_in bs ≡ 0
  -- the others are the starts, in order
  pub starts_there : (i : ℕ) → i < (setup_in bs).n → record_at bs (starts_from + i)
      ≡ plain kind.START i (record_at bs (starts_from + i)).number

-- the run stands at its starts: clock 0, each station as it starts, and nothing in the other places
pub record AtStarts (bs : List ℕ) (run : Run) : Type 0 where
  pub setup : run.setup ≡ setup_in bs
  pub default : run.default ≡ default_in bs
  pub clock : run.clock ≡ 0
  pub starts : (i : ℕ) → i < (setup_in bs).n → station_at run i ≡ at_start (record_at bs (starts_from + i)).number
  pub ends : (i : ℕ) → (setup_in bs).n ≤ i → i < stations → station_at run i ≡ nothing
