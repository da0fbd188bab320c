-- `run::each::filled` meets its contract: each turn fills the next place, up to the array's end if k goes past it.
use Rattle.std.proofs.Common.{◌≡◌, min, sym, ◌∙◌, arith}
use Rattle.run.specs.Run.{stations}
use Rattle.run.proofs.Filled.{filled_none, filled_more, filled_min}
use Rattle.run.proofs.each.filled.Goals as goal

pub loop-i-init : goal.loop-i-init
loop-i-init g c = λ f h. sym (filled_none stations f c.args.blank)

pub loop-i-preserved : goal.loop-i-preserved
loop-i-preserved g c = λ f h.
    rw (c.loop-i.invariant f h, h c.loop-i.i c.make.result (omega arith) c.make.ensures)
    (filled_more stations c.loop-i.i f c.args.blank (omega arith))

pub returns : goal.returns
returns g c = λ f h.
    let done : c.loop-i.i ≡ min c.args.k stations = omega arith in
    (rw done at (c.loop-i.invariant f h)) ∙ filled_min stations c.args.k f c.args.blank
