-- `round::read::read_round` meets its contract: a round that passes its checks is read into the matrix, and any other is
-- refused.
use Rattle.std.proofs.Common.{sym, ◌∙◌}
use Rattle.run.proofs.Asked.{stops}
use Rattle.round.proofs.Readings.{few_stations, reading_passed, reading_refused, reading_done}
use Rattle.round.proofs.read.read_round.Goals as goal

pub invariant_of-fill : goal.invariant_of-fill
invariant_of-fill c = record { few = few_stations _ (reading_passed _ _ (sym c.in-Ok.ensures)).0 }

pub returns-in-Ok : goal.returns-in-Ok
returns-in-Ok c = let yes = c.in-Ok.ensures in reading_done _ _ yes (sym yes) c.fill.ensures

pub returns-in-Err : goal.returns-in-Err
returns-in-Err c = let no = c.in-Err.ensures in c.from.ensures ∙ reading_refused _ _ no (stops no)
