-- `lines::Pen::number` meets its contract: ten digits are enough for 32 bits, and go where the pen is.
use Rattle.std.proofs.Common.{rules, arith}
use Rattle.lines.proofs.Putting.{put_part}
use Rattle.lines.proofs.Pen.number.Goals as goal

pub returns-clause-put : goal.returns-clause-put
returns-clause-put c =
    put_part _ _ (omega arith) (search rules) (search rules) c.put_digits-end.ensures.put
