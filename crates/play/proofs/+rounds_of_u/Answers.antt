-- `play::value_round` and `play::vote_round` meet their contracts: each takes its round, and the rest of the tape,
-- which is shorter and begins with a round of the other kind, is the other's.
use Rattle.std.proofs.Common.{◌∙◌}
use Rattle.paper.specs.Rules.{value, vote}
use Rattle.play.proofs.Tapes.{counts, first_is, none_follow, awaits_next, shorter, goes_on, room}
use Rattle.play.proofs.+rounds_of_u.Goals as goal

pub value_round-vote_round-requires : goal.value_round-vote_round-requires
value_round-vote_round-requires t c =
    let first = first_is value c.args.run c.args.tape.now c.requires c.in-Ok.ensures.first in
    (rw (← c.decreases) (shorter first counts c.in-Ok.ensures.rest), awaits_next first counts)

pub value_round-after-requires : goal.value_round-after-requires
value_round-after-requires t c =
    let first = first_is value c.args.run c.args.tape.now c.requires c.in-Ok.ensures.first in
    room first counts c.in-Ok.ensures.rest _ c.vote_round.ensures

pub value_round-returns-in-Ok : goal.value_round-returns-in-Ok
value_round-returns-in-Ok t c =
    let first = first_is value c.args.run c.args.tape.now c.requires c.in-Ok.ensures.first in
    c.after.ensures ∙ goes_on first counts c.in-Ok.ensures.rest _ c.vote_round.ensures

pub value_round-returns-in-Err : goal.value_round-returns-in-Err
value_round-returns-in-Err t c =
    let first = first_is value c.args.run c.args.tape.now c.requires c.in-Err.ensures.first in
    none_follow first c.in-Err.ensures.none

pub vote_round-value_round-requires : goal.vote_round-value_round-requires
vote_round-value_round-requires t c =
    let first = first_is vote c.args.run c.args.tape.now c.requires c.in-Ok.ensures.first in
    (rw (← c.decreases) (shorter first counts c.in-Ok.ensures.rest), awaits_next first counts)

pub vote_round-after-requires : goal.vote_round-after-requires
vote_round-after-requires t c =
    let first = first_is vote c.args.run c.args.tape.now c.requires c.in-Ok.ensures.first in
    room first counts c.in-Ok.ensures.rest _ c.value_round.ensures

pub vote_round-returns-in-Ok : goal.vote_round-returns-in-Ok
vote_round-returns-in-Ok t c =
    let first = first_is vote c.args.run c.args.tape.now c.requires c.in-Ok.ensures.first in
    c.after.ensures ∙ goes_on first counts c.in-Ok.ensures.rest _ c.value_round.ensures

pub vote_round-returns-in-Err : goal.vote_round-returns-in-Err
vote_round-returns-in-Err t c =
    let first = first_is vote c.args.run c.args.tape.now c.requires c.in-Err.ensures.first in
    none_follow first c.in-Err.ensures.none
