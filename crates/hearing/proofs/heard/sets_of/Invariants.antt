-- `hearing::heard::sets_of`: the turns done have put a bit each below both masks.
use mathlib.Core.Path.{◌≡◌}
use Prim.Native.Nat.{min}
use Rattle.paper.specs.Heard.{HO, SHO}
use Rattle.run.specs.Run.{stations}
use Rattle.hearing.specs.Surveying.{row_of, messages_of}
use Rattle.hearing.proofs.Downward.{mask_from}
use Rattle.hearing.proofs.heard.sets_of.Given as goal

abbrev pub invariant-loop-q : goal.invariant-loop-q
invariant-loop-q l =
    (l.sets.ho ≡ mask_from l.q (min l.n stations) (HO (row_of l.cells)))
    × (l.sets.sho ≡ mask_from l.q (min l.n stations)
    (SHO (row_of l.cells) (messages_of (record { given = l.given; values = l.values }))))
