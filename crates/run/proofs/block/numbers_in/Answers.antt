-- `run::block::numbers_in` meets its contract: place i is filled from record i.
use Rattle.std.proofs.Common.{rules}
use Rattle.run.specs.Block.{numbers_in}
use Rattle.run.proofs.block.numbers_in.Goals as goal

pub returns : goal.returns
unfolding numbers_in
returns c = c.filled.ensures _ (λ i x l p. search rules)
