-- `lines::Pen::entry` meets its contract: the number or the sign is put behind a space.
use Rattle.lines.proofs.Putting.{put_then}
use Rattle.lines.proofs.Pen.entry.Goals as goal

pub returns-in-Some-clause-put : goal.returns-in-Some-clause-put
returns-in-Some-clause-put c = rw c.in-Some.is (put_then c.byte.ensures.put c.number.ensures.put)
