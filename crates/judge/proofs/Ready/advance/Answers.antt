-- `judge::Ready::advance` meets its contract: each turn stores the next station's outcome at its place.
use mathlib.Core.Path.{◌≡◌, ◌∙◌}
use native.Mathlib.Omega.{arith}
use Rattle.judge.proofs.Advances.{next_none, fired_none, next_more, fired_more, advanced_done}
use Rattle.judge.proofs.Ready.advance.Goals as goal

pub loop-p-preserved : goal.loop-p-preserved
loop-p-preserved c =
    let inv = c.loop-p.invariant in
    let here = rw c.station-before.ensures at c.outcome_of-o.ensures in (
      c.place.ensures ∙ next_more _ _ _ (omega (arith, c.args.self.now.few)) here inv.0,
      fired_more _ _ _ (omega (arith, c.args.self.now.few)) here inv.1,
    )

pub returns : goal.returns
returns c =
    let loop = c.loop-p in
    let done : loop.p ≡ c.args.self.now.run.now.setup.n = omega arith in
    advanced_done _ _ _ loop.invariant.0 loop.invariant.1 done

pub loop-p-init : goal.loop-p-init
loop-p-init c = (c.begun-next.ensures ∙ next_none _ _ _, fired_none _ _ _)
