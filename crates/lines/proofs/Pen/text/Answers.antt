-- `lines::Pen::text` meets its contract: the part of the buffer that is copied over is the text.
use Rattle.std.proofs.Common.{rules}
use Rattle.std.proofs.lemmas.Slice.{overwrites}
use Rattle.lines.proofs.Pen.text.Goals as goal

pub returns-clause-put : goal.returns-clause-put
returns-clause-put c = record { ends = search rules; stands = search (rules, overwrites); behind = search (rules, overwrites) }
