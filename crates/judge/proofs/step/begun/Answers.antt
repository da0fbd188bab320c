-- `judge::step::begun` meets its contract: it is the idle run but for the three fields stored.
use Rattle.run.specs.Run.{idle}
use Rattle.judge.specs.Taking.{begun}
use Rattle.judge.proofs.step.begun.Goals as goal

pub returns : goal.returns
unfolding begun idle
returns c = rw c.idle-next.ensures
