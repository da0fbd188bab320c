-- `hearing::heard::arrived` meets its contract: a cell holds something just where it isn't lost.
use Rattle.std.proofs.Common.{◌≡◌}
use mathlib.Core.Path.{refl}
use mathlib.Core.Bool.{not, false}
use Rattle.paper.specs.Heard.{arrived}
use Rattle.round.specs.Bridge.{paper_cell}
use Rattle.round.specs.declared.Cell.{Cell}
use Rattle.round.specs.declared.Cell.TheVariants.{Lost, Value, Query}
use Rattle.hearing.proofs.heard.arrived.Goals as goal
use Rattle.hearing.proofs.heard.arrived.Goals.{in-Lost, in_default}

pub returns : goal.returns
unfolding arrived
returns c = elim c.match-matches.branch [
  | in-Lost w ↦ rw (w.matches-is, w.in-Lost.is) refl
  | in_default w ↦ rw w.matches-is (there c.args.c w.in_default.not-Lost)
]
  where
    there : (x : Cell) → (x ≡ Lost → ⊥) → not false ≡ arrived (paper_cell x)
    there Lost h = absurd (h refl)
    there (Value v) h = refl
    there Query h = refl
