-- `hearing::heard::mask` meets its contract: the turns done have put a bit each below the mask, so that it is that of the
-- stations passed, for whatever set the calls agree with.
use Rattle.std.proofs.Common.{◌≡◌, ℕ, Bool, ◌<◌, ◌≤◌, min, ◌-◌, ◌^◌}
use Rattle.paper.specs.Stations.{Stations}
use Rattle.run.specs.Run.{stations}
use Rattle.hearing.proofs.Downward.{mask_from}
use Rattle.hearing.proofs.heard.mask.Given as goal

abbrev pub invariant-loop-q : goal.invariant-loop-q
invariant-loop-q g l =
    (l.first ≤ l.q) × (l.set < 2 ^ (min l.n stations - l.q))
    × ((X : Stations) → ((q : ℕ) (b : Bool) → q < min l.n stations → goal.F-post g l.test q b → b ≡ X q)
    → l.set ≡ mask_from l.q (min l.n stations) X)
