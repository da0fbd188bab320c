-- `lines::Pen::part` meets its contract: the entries are put behind the word.
use Rattle.lines.proofs.Putting.{put_then}
use Rattle.lines.proofs.Pen.part.Goals as goal

pub returns-clause-put : goal.returns-clause-put
returns-clause-put g c = λ f of. put_then c.text.ensures.put (c.entries.ensures.put f of)
