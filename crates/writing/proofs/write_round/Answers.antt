-- `writing::write_round` meets its contract: what passes its checks is written whole, and a refusal writes no byte.
use mathlib.Core.Path.{sym, ◌∙◌}
use Rattle.run.proofs.Asked.{stops}
use Rattle.round.proofs.Readings.{few_stations}
use Rattle.writing.proofs.Writings.{writing_passed, writing_refused, writing_done}
use Rattle.writing.proofs.write_round.Goals as goal

pub returns-in_err-check_writing-clause-out_after : goal.returns-in_err-check_writing-clause-out_after
returns-in_err-check_writing-clause-out_after c = writing_refused _ _ _ (stops c.in_err-check_writing.ensures)

pub invariant_of-put_cells : goal.invariant_of-put_cells
invariant_of-put_cells c =
    record { few = few_stations _ (writing_passed _ _ _ (sym c.in_ok-check_writing.ensures)).0 }

pub put_cells-requires : goal.put_cells-requires
put_cells-requires c = (writing_passed _ _ _ (sym c.in_ok-check_writing.ensures)).3

pub returns-clause-out_after : goal.returns-clause-out_after
returns-clause-out_after c =
    c.put_cells.ensures ∙ writing_done _ _ _ (sym c.in_ok-check_writing.ensures)
