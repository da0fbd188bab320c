-- `listing::main`: the first page and each next one keep what the loop goes by.
use Rattle.std.proofs.Common.{rules, arith}
use Rattle.pages.proofs.Paged.{first_keeps, next_keeps, next_clock}
use Rattle.listing.proofs.Runs.{fewer}
use Rattle.listing.proofs.main.Goals as goal

pub loop-listed-init : goal.loop-listed-init
loop-listed-init c =
    let first = c.put_first-listed.ensures in
    (search rules, search rules, omega (arith, first.room), first_keeps _ first)

pub loop-listed-smaller : goal.loop-listed-smaller
loop-listed-smaller c =
    let keeps = rw c.in-Continue.is at c.loop-listed.invariant.3 in
    rw c.in-Continue.is (fewer _ c.put_next-listed.result.next keeps (next_clock _ _ c.put_next-listed.ensures))

pub loop-listed-preserved : goal.loop-listed-preserved
loop-listed-preserved c =
    let put = c.put_next-listed.ensures in (
      search rules,
      search rules,
      omega (arith, put.room, c.next_line-from.ensures),
      next_keeps _ _ put,
    )
