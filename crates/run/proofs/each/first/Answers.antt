-- `run::each::first` meets its contract: what was passed fails the test, so the first that passes is the lowest.
use Rattle.std.proofs.Common.{◌≡◌, sym, true, false, arith}
use Rattle.run.proofs.First.{first_zero, first_on, first_here}
use Rattle.run.proofs.each.first.Goals as goal

pub loop-i-init : goal.loop-i-init
loop-i-init g c = λ f h. first_zero f

pub returns-then-test-clause-first : goal.returns-then-test-clause-first
returns-then-test-clause-first g c = λ f h.
    sym (first_here f c.args.n c.loop-i.i (c.loop-i.invariant f h) (sym (h c.loop-i.i true c.loop-i-test.true (c.if-test.ensures))) c.loop-i-test.true)

pub loop-i-preserved : goal.loop-i-preserved
loop-i-preserved g c = λ f h. first_on f c.loop-i.i (c.loop-i.invariant f h) (sym (h c.loop-i.i false c.loop-i-test.true c.if-test.ensures))

pub returns-clause-first : goal.returns-clause-first
returns-clause-first g c = λ f h.
    let done : c.loop-i.i ≡ c.args.n = omega arith in
    sym (rw done at (c.loop-i.invariant f h))
