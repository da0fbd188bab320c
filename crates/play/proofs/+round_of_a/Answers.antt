-- `play::round_of_a` meets its contract: it takes a round, and the rest of the tape, which is shorter, is its own
-- again.
use Rattle.std.proofs.Common.{◌∙◌}
use Rattle.paper.specs.Rules.{update}
use Rattle.play.proofs.Tapes.{counts, first_is, none_follow, awaits_next, shorter, goes_on, room}
use Rattle.play.proofs.+round_of_a.Goals as goal

pub round_of_a-requires : goal.round_of_a-requires
round_of_a-requires t c =
    let first = first_is update c.args.run c.args.tape.now c.requires c.in-Ok.ensures.first in
    (rw (← c.decreases) (shorter first counts c.in-Ok.ensures.rest), awaits_next first counts)

pub after-requires : goal.after-requires
after-requires t c =
    let first = first_is update c.args.run c.args.tape.now c.requires c.in-Ok.ensures.first in
    room first counts c.in-Ok.ensures.rest _ c.round_of_a.ensures

pub returns-in-Ok : goal.returns-in-Ok
returns-in-Ok t c =
    let first = first_is update c.args.run c.args.tape.now c.requires c.in-Ok.ensures.first in
    c.after.ensures ∙ goes_on first counts c.in-Ok.ensures.rest _ c.round_of_a.ensures

pub returns-in-Err : goal.returns-in-Err
returns-in-Err t c =
    let first = first_is update c.args.run c.args.tape.now c.requires c.in-Err.ensures.first in
    none_follow first c.in-Err.ensures.none
