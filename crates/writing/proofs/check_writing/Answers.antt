-- `writing::check_writing` meets its contract: the first of the checks that refuses gives the reply.
use mathlib.Core.Path.{sym, ◌∙◌}
use borrow.Author.Tests.{ne_eqb}
use Rattle.run.proofs.Asked.{fails, passes, stops, handed}
use Rattle.round.proofs.Readings.{few_stations}
use Rattle.writing.proofs.Writings.{writing_is, writing_accepted}
use Rattle.writing.proofs.check_writing.Goals as goal

pub returns-then-not-sound : goal.returns-then-not-sound
returns-then-not-sound c = rw (writing_is, fails c.sound.ensures c.if-not-sound.true)

pub invariant_of-size : goal.invariant_of-size
invariant_of-size c = record { few = few_stations _ (passes c.sound.ensures c.if-not-sound.false) }

pub returns-in_err-check_queries : goal.returns-in_err-check_queries
returns-in_err-check_queries c =
    let no = rw c.may_vote.ensures at c.in_err-check_queries.ensures in
    handed c.from_residual.ensures ∙ rw (writing_is, passes c.sound.ensures c.if-not-sound.false, stops no) no

pub returns-in_err-check_outside : goal.returns-in_err-check_outside
returns-in_err-check_outside c =
    let no = c.in_err-check_outside.ensures in
    let asked = rw c.may_vote.ensures at c.in_ok-check_queries.ensures in
    handed c.from_residual-in_err-check_outside.ensures
    ∙ rw (writing_is, passes c.sound.ensures c.if-not-sound.false, ← asked, stops no) no

pub returns-then-room-round_length : goal.returns-then-room-round_length
returns-then-room-round_length c =
    let asked = rw c.may_vote.ensures at c.in_ok-check_queries.ensures in
    let other = ne_eqb _ _ (rw c.round_length.ensures at c.if-room-round_length.true) in
    rw (
      writing_is,
      passes c.sound.ensures c.if-not-sound.false,
      ← asked,
      ← c.in_ok-check_outside.ensures,
      other,
    )

pub returns : goal.returns
returns c =
    let asked = rw c.may_vote.ensures at c.in_ok-check_queries.ensures in
    writing_accepted _ _ _ (passes c.sound.ensures c.if-not-sound.false) (sym asked) (sym c.in_ok-check_outside.ensures)
    (c.if-room-round_length.false ∙ c.round_length.ensures)
