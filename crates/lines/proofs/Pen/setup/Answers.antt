-- `lines::Pen::setup` meets its contract: the letter, n, the limits and the line's end are put in turn.
use Rattle.lines.specs.Text.{setup_line}
use Rattle.lines.proofs.Putting.{put_then}
use Rattle.lines.proofs.Pen.setup.Goals as goal

pub returns-clause-put : goal.returns-clause-put
unfolding setup_line
returns-clause-put c = put_then (put_then (put_then (rw c.name.ensures at c.byte.ensures.put) c.word.ensures.put) c.limits.ensures.put) c.byte-2.ensures.put
