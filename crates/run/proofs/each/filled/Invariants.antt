-- `run::each::filled`: the places passed are filled, and the others still blank.
use Rattle.std.proofs.Common.{◌≡◌, ℕ, ◌<◌, min}
use Rattle.run.specs.Filled.{filled}
use Rattle.run.specs.Run.{stations}
use Rattle.run.proofs.each.filled.Given as goal

abbrev pub invariant-loop-i : goal.invariant-loop-i
invariant-loop-i g l = (f : ℕ → g.row.T.Denot) → ((i : ℕ) (x : g.row.T.Denot) → i < min l.k stations → goal.F-post g l.make i x → x ≡ f i)
    → l.all ≡ filled stations l.i f l.fn.blank
