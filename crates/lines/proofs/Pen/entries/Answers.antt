-- `lines::Pen::entries` meets its contract: each turn puts the entry of the next station behind the others.
use Rattle.std.proofs.Common.{◌≡◌, rules, arith}
use Rattle.lines.specs.Text.{entries}
use Rattle.lines.proofs.Putting.{put_nothing, put_station}
use Rattle.lines.proofs.Pen.entries.Goals as goal

pub loop-i-init : goal.loop-i-init
unfolding entries
loop-i-init g c = (search rules, λ f of. put_nothing _ _)

pub loop-i-preserved : goal.loop-i-preserved
loop-i-preserved g c = (
  search rules,
  λ f of.
      let here = of c.loop-i.i c.of.result c.loop-i-test.true c.of.ensures in
      put_station c.loop-i.i f c.args.sign (c.loop-i.invariant.1 f of) (rw here at c.entry.ensures.put),
)

pub returns-clause-put : goal.returns-clause-put
returns-clause-put g c = λ f of.
    let all : c.loop-i.i ≡ c.args.n = omega arith in
    rw all at (c.loop-i.invariant.1 f of)
