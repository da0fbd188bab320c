-- Cells and their records: rules 2.4, 2.6 and 4.1.
use Rattle.std.specs.Prelude.{ℕ, Bool, not, ◌&&◌, ◌||◌, cond, eqb}
use Rattle.run.specs.Reply.{Reply}
use Rattle.run.specs.Reply.{Malformed, Query}
use Rattle.run.specs.declared.record.Record.{Record}
use Rattle.run.specs.Kinds as kind
use Rattle.run.specs.Reply.{◌then◌, or_refuse}
use Rattle.round.specs.declared.Cell.{Cell}
use Rattle.round.specs.declared.Cell.TheVariants as cell

-- kind 4 for a value, 5 for "?", 6 for a lost cell; the receiver, the sender, and the value if there is one (rule 2.4)
unfoldable pub cell_record : ℕ → ℕ → Cell → Record
cell_record p q cell.Lost = record { kind = kind.LOST; first = p; second = q; third = 0; number = 0 }
cell_record p q (cell.Value v) = record { kind = kind.HEARD; first = p; second = q; third = 0; number = v }
cell_record p q cell.Query = record { kind = kind.HEARD_QUERY; first = p; second = q; third = 0; number = 0 }

-- the record is one of receiver p and sender q (rules 2.6 and 4.5)
unfoldable pub cell_fits : ℕ → ℕ → Record → Bool
cell_fits p q r =
    (eqb r.kind kind.HEARD || (eqb r.kind kind.HEARD_QUERY || eqb r.kind kind.LOST) && eqb r.number 0)
    && eqb r.first p && eqb r.second q && eqb r.third 0

-- the cell that a record of kind 4, 5 or 6 spells
unfoldable pub cell_in : Record → Cell
cell_in r = cond (eqb r.kind kind.HEARD) (cell.Value r.number)
    (cond (eqb r.kind kind.HEARD_QUERY) cell.Query cell.Lost)

-- what is said of the record of receiver p and sender q: 2 before 5 (rule 12.5). `voting`: this is a vote round
unfoldable pub check_cell : Bool → ℕ → ℕ → ℕ → Record → Reply
unfolding cell_fits
check_cell voting at p q r =
    or_refuse (cell_fits p q r) (Malformed at)
    then or_refuse (voting || not (eqb r.kind kind.HEARD_QUERY)) (Query at)
