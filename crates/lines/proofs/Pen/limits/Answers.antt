-- `lines::Pen::limits` meets its contract: three words with their numbers are put in turn.
use Rattle.lines.specs.Text.{limits}
use Rattle.lines.proofs.Putting.{put_then}
use Rattle.lines.proofs.Pen.limits.Goals as goal

pub returns-clause-put : goal.returns-clause-put
unfolding limits
returns-clause-put c = put_then (put_then c.word.ensures.put c.word-2.ensures.put) c.word-3.ensures.put
