-- What the program's loop rests on: a run's rounds fit the buffer for them, and with each page fewer may follow.
use Rattle.std.proofs.Common.{◌≡◌, ℕ, suc, ◌-◌, ◌<◌, arith, ControlFlow, Continue, Break}
use Rattle.std.specs.Prelude.{IfSome}
use Rattle.std.specs.ControlFlow.{continue_value}
use Rattle.run.specs.declared.Run.{Run}
use Rattle.run.specs.Keeps.{Keeps}
use Rattle.run.specs.Run.{most_rounds}

-- the pages that may follow: a full run has one more, of the round that is refused or of the tape's end
abbrev pub left : ControlFlow Run Run → ℕ
left (Break run) = 0
left (Continue run) = suc most_rounds - run.clock

pub fewer : (run : Run) (next : ControlFlow Run Run) → Keeps run → IfSome (continue_value next) (λ r. r.clock ≡ suc run.clock)
    → left next < left (Continue run)
fewer run (Break last) keeps counts = omega (arith, keeps.clock)
fewer run (Continue r) keeps counts = omega (arith, counts, keeps.clock)
