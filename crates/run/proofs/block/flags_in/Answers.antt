-- `run::block::flags_in` meets its contract: place i is filled from the kind of record i.
use Rattle.std.proofs.Common.{rules}
use Rattle.run.specs.Block.{flags_in}
use Rattle.run.proofs.block.flags_in.Goals as goal

pub returns : goal.returns
unfolding flags_in
returns c = c.filled.ensures _ (λ i x l p. search rules)
