-- `lines::Pen::word` meets its contract: the number is put behind the word.
use Rattle.lines.proofs.Putting.{put_then}
use Rattle.lines.proofs.Pen.word.Goals as goal

pub returns-clause-put : goal.returns-clause-put
returns-clause-put c = put_then c.text.ensures.put c.number.ensures.put
