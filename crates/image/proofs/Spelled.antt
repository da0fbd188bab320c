-- One image byte by byte, of a run under U whose stations hold different numbers: the kinds of rule 2.4 and the places
-- of rules 6.1 and 6.2 as numbers, so that no exchange of two of them goes unseen. The checker computes it.
use mathlib.Core.Path.{◌≡◌, refl}
use mathlib.Core.Bool.{true, false}
use mathlib.Core.List.{[], ◌∷◌}
use Prim.Native.Nat.{ℕ, zero, suc}
use Rattle.run.specs.declared.Run.{Run}
use Rattle.run.specs.declared.Station.{Station}
use Rattle.run.specs.Run.{run_to, run_of}
use Rattle.run.specs.Opening.{head_bytes}
use Rattle.run.specs.Filled.{tabulate}
use Rattle.run.specs.Number.{digits}
use Rattle.run.specs.Block.{plain, record_of}
use Rattle.run.specs.Record.{bytes_of}
use Rattle.run.specs.Written.{written}
use Rattle.image.specs.Image.{image, blocks_bytes}

-- station 0 votes 21 and has decided 22 in round 2; station 1 neither
abbrev held : ℕ → Station
held zero = record { estimate = 20; voted = true; vote = 21; decided = true; decision = 22; round = 2 }
held (suc i) = record { estimate = 23; voted = false; vote = 0; decided = false; decision = 0; round = 0 }

abbrev example : Run
example = run_of (record { algorithm = 2; n = 2; t = 4; e = 5; alpha = 6 }) 7 3 held

pub image_spelled :
    image example
    ≡ 1 ∷ 2 ∷ 2 ∷ 4 ∷ 5 ∷ 6 ∷ 0 ∷ 0
    ∷ 2 ∷ 0 ∷ 0 ∷ 0 ∷ 7 ∷ 0 ∷ 0 ∷ 0
    ∷ 8 ∷ 0 ∷ 0 ∷ 0 ∷ 3 ∷ 0 ∷ 0 ∷ 0
    ∷ 9 ∷ 0 ∷ 0 ∷ 0 ∷ 20 ∷ 0 ∷ 0 ∷ 0
    ∷ 9 ∷ 1 ∷ 0 ∷ 0 ∷ 23 ∷ 0 ∷ 0 ∷ 0
    ∷ 11 ∷ 0 ∷ 0 ∷ 0 ∷ 21 ∷ 0 ∷ 0 ∷ 0
    ∷ 10 ∷ 1 ∷ 0 ∷ 0 ∷ 0 ∷ 0 ∷ 0 ∷ 0
    ∷ 13 ∷ 0 ∷ 0 ∷ 0 ∷ 22 ∷ 0 ∷ 0 ∷ 0
    ∷ 12 ∷ 1 ∷ 0 ∷ 0 ∷ 0 ∷ 0 ∷ 0 ∷ 0
    ∷ 14 ∷ 0 ∷ 0 ∷ 0 ∷ 2 ∷ 0 ∷ 0 ∷ 0
    ∷ 14 ∷ 1 ∷ 0 ∷ 0 ∷ 0 ∷ 0 ∷ 0 ∷ 0
    ∷ []
unfolding image head_bytes plain bytes_of blocks_bytes run_to written record_of tabulate digits
image_spelled = refl
