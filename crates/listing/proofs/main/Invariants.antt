-- `listing::main` is safe and ends: while another page follows the run keeps the rules, so that its rounds fit their
-- buffer; each page begins where a line fits; and with each page fewer may follow.
use Rattle.std.proofs.Common.{◌≡◌, ℕ, ◌≤◌, length}
use Rattle.std.specs.Prelude.{IfSome}
use Rattle.std.specs.ControlFlow.{continue_value}
use Rattle.run.specs.Keeps.{Keeps}
use Rattle.run.specs.Run.{stations}
use Rattle.round.specs.Reading.{round_length}
use Rattle.listing.proofs.Runs.{left}
use Rattle.listing.proofs.main.Given as goal

-- the bytes of the buffer for lines
abbrev room : ℕ
room = 65536

abbrev pub invariant-loop-listed : goal.invariant-loop-listed
invariant-loop-listed l =
    (length l.round ≡ round_length stations) × (length l.out ≡ room) × (l.listed.end ≤ room)
    × IfSome (continue_value l.listed.next) Keeps

abbrev pub decreases-loop-listed : goal.decreases-loop-listed
decreases-loop-listed l = left l.listed.next
