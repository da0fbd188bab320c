-- `judge::Ready::count_rows`: the rows passed were all accepted, and their sets and counts are stored.
use mathlib.Core.Path.{◌≡◌}
use Rattle.paper.specs.Setup.{vouched}
use Rattle.limits.specs.Setup.{setup_of}
use Rattle.run.specs.Reply.{Accepted}
use Rattle.round.specs.Reading.{in_turn, row_part, check_row}
use Rattle.judge.specs.Rows.{counted_to}
use Rattle.judge.proofs.Ready.count_rows.Given as goal

abbrev pub invariant-loop-receiver : goal.invariant-loop-receiver
invariant-loop-receiver l =
    (in_turn l.receiver (λ i. check_row l.self.voting l.n i (row_part l.n l.round i)) ≡ Accepted)
    × (l.counted ≡ counted_to l.n (vouched (setup_of l.setup)) l.sent l.round l.receiver)
