-- `lines::Pen::answer` meets its contract: the reply's number, its place and the line's end are put in turn.
use Rattle.lines.specs.Text.{answer_line}
use Rattle.lines.proofs.Putting.{put_then}
use Rattle.lines.proofs.Pen.answer.Goals as goal

pub returns-clause-put : goal.returns-clause-put
unfolding answer_line
returns-clause-put c =
    let word = rw c.number.ensures at c.word.ensures.put in
    let place = rw c.place.ensures at c.word-2.ensures.put in
    put_then (put_then word place) c.byte.ensures.put
