-- `lines::Pen::round` meets its contract: the number, the three parts and the line's end are put in turn.
use Rattle.std.proofs.Common.{rules}
use Rattle.lines.specs.Text.{round_line}
use Rattle.lines.proofs.Putting.{put_then}
use Rattle.lines.proofs.Pen.round.Goals as goal

pub returns-clause-put : goal.returns-clause-put
unfolding round_line
returns-clause-put c =
    let estimates = put_then c.number.ensures.put (c.part.ensures.put _ (λ i x l p. search rules)) in
    let votes = put_then estimates (c.part-2.ensures.put _ (λ i x l p. search rules)) in
    let all = put_then votes (c.part-3.ensures.put _ (λ i x l p. search rules)) in
    put_then all c.byte.ensures.put
