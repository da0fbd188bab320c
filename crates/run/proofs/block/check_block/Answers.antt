-- `run::block::check_block` meets its contract: the lowest record that doesn't fit is refused.
use Rattle.std.proofs.Common.{rules, ℕ, Bool, ◌+◌, not, ◌≡◌}
use Rattle.std.specs.Prelude.{Some, None}
use Rattle.run.specs.Record.{record_at}
use Rattle.run.specs.Block.{check_block, block_fits}
use Rattle.run.specs.First.{first}
use Rattle.run.proofs.block.check_block.Goals as goal

pub returns-in-Some : goal.returns-in-Some
unfolding check_block
returns-in-Some c =
    let misfits : ℕ → Bool = λ i. not (block_fits c.args.shape i (record_at c.args.bytes.now (c.args.start + i))) in
    let e : Some c.in-Some.i ≡ first c.args.n misfits = c.in-Some.ensures.first misfits (λ i x l p. search rules) in rw (← e)

pub returns-in-None : goal.returns-in-None
unfolding check_block
returns-in-None c =
    let misfits : ℕ → Bool = λ i. not (block_fits c.args.shape i (record_at c.args.bytes.now (c.args.start + i))) in
    let e : None ≡ first c.args.n misfits = c.in-None.ensures.first misfits (λ i x l p. search rules) in rw (← e)
