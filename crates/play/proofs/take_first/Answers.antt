-- `play::take_first` meets its contract: the tape's first round is stepped, and its reply says whether it counts.
use Rattle.std.proofs.Common.{sym, ◌∙◌, eq-eqb}
use mathlib.Core.Bool.{false≢true}
use borrow.Author.Tests.{eqb-true}
use Rattle.play.proofs.Tapes.{nothing_first, Stepping, refused_alone, accepted_alone}
use Rattle.play.proofs.take_first.Goals as goal
use Rattle.play.proofs.take_first.Goals.{After-take_one-stepped}

pub returns-then-is_empty-clause-first : goal.returns-then-is_empty-clause-first
returns-then-is_empty-clause-first c =
    c.ended.ensures ∙ sym (nothing_first _ _ (eqb-true _ _ (sym c.is_empty.ensures ∙ c.if-is_empty.true)))

-- what is known once the round is stepped
stepping : (c : After-take_one-stepped)
    → Stepping c.args.run c.args.tape.now c.min-size.result c.take_one-stepped.result
stepping c =
    record {
      some = λ z. false≢true (sym c.if-is_empty.false ∙ c.is_empty.ensures ∙ eq-eqb _ _ z);
      size = rw (c.min-size.ensures, c.round_length.ensures);
      stepped = rw (← c.split_at.ensures.front) c.take_one-stepped.ensures;
    }

pub returns-in-Ok-clause-first : goal.returns-in-Ok-clause-first
returns-in-Ok-clause-first c =
    accepted_alone (stepping (goal.at.returns-in-Ok-clause-first c).After-take_one-stepped) c.in-Ok.is

pub returns-in-Err-clause-first : goal.returns-in-Err-clause-first
returns-in-Err-clause-first c =
    c.ended-in-Err.ensures
    ∙ refused_alone (stepping (goal.at.returns-in-Err-clause-first c).After-take_one-stepped) c.in-Err.is
