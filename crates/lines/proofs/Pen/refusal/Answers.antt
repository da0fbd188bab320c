-- `lines::Pen::refusal` meets its contract: it is the answer behind its word.
use Rattle.lines.specs.Text.{refusal_line}
use Rattle.lines.proofs.Pen.refusal.Goals as goal

pub returns-clause-put : goal.returns-clause-put
unfolding refusal_line
returns-clause-put c = c.answer.ensures.put
