-- `judge::Ready::advance`: the stations passed are stored, and what fired at them.
use mathlib.Core.Path.{◌≡◌}
use Rattle.judge.specs.Taking.{next_to, fired_to}
use Rattle.judge.proofs.Ready.advance.Given as goal

abbrev pub invariant-loop-p : goal.invariant-loop-p
invariant-loop-p l =
    (l.next ≡ next_to l.self.run.now l.self.voting l.counted l.p) × (l.fired ≡ fired_to l.self.run.now l.self.voting l.counted l.p)
