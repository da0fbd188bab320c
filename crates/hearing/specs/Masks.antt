-- A set of stations as a number, a station to a bit (rule 7.8).
use Rattle.std.specs.Prelude.{ℕ, zero, suc, ◌+◌, ◌*◌, ◌/◌, ◌%◌, ◌^◌, leb, ◌&&◌, eqb}
use Rattle.paper.specs.Stations.{Stations, ◌∖◌, one}
use Rattle.run.specs.Run.{stations}

-- the stations of X below n: bit q is set exactly if q is in X
unfoldable pub mask : ℕ → Stations → ℕ
unfolding one
mask zero X = 0
mask (suc n) X = mask n X + one (X n) * 2 ^ n

-- those of X from this station on
abbrev pub from : ℕ → Stations → Stations
from first X q = leb first q && X q

-- the stations of a mask: those whose bit is set
unfoldable pub in_mask : ℕ → Stations
in_mask m q = eqb (m / 2 ^ q % 2) 1

-- the mask of those who are in the one mask and not in the other
unfoldable pub mask_without : ℕ → ℕ → ℕ
unfolding mask in_mask
mask_without a b = mask stations (in_mask a ∖ in_mask b)
