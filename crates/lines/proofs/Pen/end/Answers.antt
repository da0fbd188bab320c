-- `lines::Pen::end` meets its contract: the answer is put behind the count of rounds.
use Rattle.lines.specs.Text.{end_line}
use Rattle.lines.proofs.Putting.{put_then}
use Rattle.lines.proofs.Pen.end.Goals as goal

pub returns-clause-put : goal.returns-clause-put
unfolding end_line
returns-clause-put c = put_then c.word.ensures.put c.answer.ensures.put
