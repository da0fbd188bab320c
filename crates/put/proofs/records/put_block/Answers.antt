-- `put::records::put_block` meets its contract: record i is made of what the arrays hold at i.
use Rattle.std.proofs.Common.{rules}
use Rattle.run.specs.Block.{block_record}
use Rattle.put.proofs.records.put_block.Goals as goal

pub returns : goal.returns
returns c = c.put_each.ensures (block_record c.args.shape c.args.flags c.args.numbers) (λ i r l p. search rules)
