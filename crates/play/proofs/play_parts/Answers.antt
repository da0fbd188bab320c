-- `play::play_parts` meets its contract: after each part the answer for the whole tape is the count so far and the
-- answer for the rest from the present run (Parts).
use Rattle.std.proofs.Common.{ap, sym, ◌∙◌}
use borrow.Author.Tests.{eqb-true}
use Rattle.std.specs.Prelude.{is_err}
use Rattle.play.specs.declared.Played.{Played}
use Rattle.play.proofs.Parts.{begins, ends, Part, fits, stops, goes_on}
use Rattle.play.proofs.play_parts.Goals as goal
use Rattle.play.proofs.play_parts.Goals.{After-play_part}

-- a turn's part, of PART rounds
part : (c : After-play_part)
    → Part c.args.run c.args.tape.now 16 c.loop-left.left.now c.loop-left.played c.split_at.result.1.now
    c.play_part.result
part c =
    record {
      here = c.loop-left.invariant;
      cut = rw (c.split_at.ensures.back, c.min.ensures, c.round_length-size.ensures);
      played = rw (c.play_part.ensures, c.split_at.ensures.front, c.min.ensures, c.round_length-size.ensures);
    }

pub loop-left-init : goal.loop-left-init
loop-left-init c = rw c.ended-played.ensures (begins _ _ c.requires)

pub after-played-requires : goal.after-played-requires
after-played-requires c = fits (part c)

pub returns-then-is_err : goal.returns-then-is_err
returns-then-is_err c =
    c.after-played.ensures
    ∙ stops (part (goal.at.returns-then-is_err c).After-play_part)
    (ap (λ (x : Played). is_err x.reply) (sym c.after-played.ensures) ∙ sym c.is_err.ensures.value ∙ c.if-is_err.true)

pub loop-left-preserved : goal.loop-left-preserved
loop-left-preserved c =
    rw c.after-played.ensures
    (goes_on (part (goal.at.loop-left-preserved c).After-play_part)
    (ap (λ (x : Played). is_err x.reply) (sym c.after-played.ensures) ∙ sym c.is_err.ensures.value ∙ c.if-is_err.false))

pub returns : goal.returns
returns c = ends _ _ _ _ c.loop-left.invariant (eqb-true _ _ (sym c.is_empty.ensures ∙ c.loop-left-test.false))
