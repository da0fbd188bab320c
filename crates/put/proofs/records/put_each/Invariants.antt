-- `put::records::put_each`: the records passed are put, whatever function makes them.
use Rattle.std.proofs.Common.{◌≡◌, ℕ, ◌<◌}
use Rattle.run.specs.declared.record.Record.{Record}
use Rattle.run.specs.Putting.{put_block}
use Rattle.put.proofs.records.put_each.Given as goal

abbrev pub invariant-loop-i : goal.invariant-loop-i
invariant-loop-i g l = (f : ℕ → Record) → ((i : ℕ) (r : Record) → i < l.n → goal.F-post g l.make i r → r ≡ f i)
    → l.bytes ≡ put_block l.initial.bytes l.start l.i f
