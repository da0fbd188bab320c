-- `put::records::put_each` meets its contract: each turn puts the next record.
use Rattle.std.proofs.Common.{sym, ◌∙◌, arith}
use Rattle.run.proofs.Blocks.{put_block_zero, put_block_more}
use Rattle.put.proofs.records.put_each.Goals as goal

pub loop-i-init : goal.loop-i-init
loop-i-init g c = λ f h. sym (put_block_zero _ _ f)

pub loop-i-preserved : goal.loop-i-preserved
loop-i-preserved g c = λ f h.
    c.put_record.ensures
    ∙ rw (put_block_more, ← c.loop-i.invariant f h, h c.loop-i.i c.make.result (omega arith) c.make.ensures)
