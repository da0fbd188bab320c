-- `run::record::record_at` meets its contract: where the slice has the record, each index is below 8 * i + 8, which is
-- at most the length, and what is read there is the record; where it has not, the record is blank.
use Rattle.std.proofs.Common.{sym, ◌∙◌, arith, rules}
use Rattle.run.proofs.Records.{reads_record, record_at_out}
use Rattle.run.proofs.record.record_at.Goals as goal

pub returns-then-i-bytes : goal.returns-then-i-bytes
returns-then-i-bytes c = reads_record _ _ _ (omega arith) (omega (arith, c.from_le_bytes.ensures))

pub returns-else-i-bytes : goal.returns-else-i-bytes
returns-else-i-bytes c = (search rules) ∙ sym (record_at_out _ _ (omega arith))
