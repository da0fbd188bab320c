-- A part written record by record: openings, rounds and images are records in a stated order (rule 2.1).
use Rattle.std.specs.Prelude.{ℕ, zero, suc, List, [], ◌++◌}
use Rattle.run.specs.Record.{bytes_of}
use Rattle.run.specs.declared.record.Record.{Record}

-- the bytes of the first n records, record i being f i
unfoldable pub written : ℕ → (ℕ → Record) → List ℕ
written zero f = []
written (suc n) f = written n f ++ bytes_of (f n)
