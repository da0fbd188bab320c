-- `lines::Pen::entries` meets its contract: at the head of the loop the entries of the first i stations are put.
use Rattle.std.proofs.Common.{◌≡◌, ℕ, ◌<◌, ◌*◌}
use Rattle.std.specs.Prelude.{Option}
use Rattle.lines.specs.Text.{Writes, Within, entries, entry_room}
use Rattle.lines.proofs.Pen.entries.Given as goal

abbrev pub invariant-loop-i : goal.invariant-loop-i
invariant-loop-i g l =
    Within l.initial.self (entry_room * l.i) l.self
    × ((f : ℕ → Option ℕ) → ((i : ℕ) (x : Option ℕ) → i < l.n → goal.F-post g l.of i x → x ≡ f i)
    → Writes l.initial.self (entries l.i f l.sign) l.self)
