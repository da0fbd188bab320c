-- A round read row by row, as the code does it. A row whose records are all in order has the cells that `cells` says
-- (crate hearing, proofs/Surveyed.antt).
use Rattle.std.specs.Prelude.{ℕ, Bool, List, Result}
use Rattle.run.specs.Record.{record_at}
use Rattle.run.specs.declared.reply.Refusal.{Refusal}
use Rattle.run.specs.Reply.{unless_refused}
use Rattle.run.specs.Run.{stations}
use Rattle.run.specs.Filled.{filled}
use Rattle.round.specs.declared.Cell.{Cell}
use Rattle.round.specs.declared.Cell.TheVariants.{Lost}
use Rattle.round.specs.Cells.{cell_in}
use Rattle.round.specs.Reading.{check_row}

abbrev pub cell_read : List ℕ → ℕ → Cell
cell_read row q = cell_in (record_at row q)

-- the cells that a row of n records spells, or what is said of it
unfoldable pub read_row : Bool → ℕ → ℕ → List ℕ → Result (List Cell) Refusal
unfolding check_row cell_in filled
read_row voting n p row = unless_refused (check_row voting n p row) (filled stations n (cell_read row) Lost)
