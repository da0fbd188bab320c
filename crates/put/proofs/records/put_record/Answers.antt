-- `put::records::put_record` meets its contract: where the slice has the record, eight stores, none of which changes the
-- length, put its eight bytes in place; where it has not, nothing is stored.
use Rattle.std.proofs.Common.{◌≡◌, sym, ℕ, ◌/◌, ◌%◌, [], ◌∷◌, arith}
use Rattle.run.specs.Number.{digits}
use Rattle.run.proofs.Records.{stores_record, put_at_out}
use Rattle.put.proofs.records.put_record.Goals as goal

-- the number's four bytes, the lowest first
four : (n : ℕ) → n % 256 ∷ n / 256 % 256 ∷ n / 65536 % 256 ∷ n / 16777216 % 256 ∷ [] ≡ digits 4 n
unfolding digits
four n =
    let third : n / 65536 ≡ n / 256 / 256 = omega arith in
    let fourth : n / 16777216 ≡ n / 256 / 256 / 256 = omega arith in
    rw (third, fourth)

pub returns-then-i-bytes : goal.returns-then-i-bytes
returns-then-i-bytes c = sym (put_at_out _ _ _ (omega arith))

pub returns : goal.returns
returns c =
    rw c.to_le_bytes.ensures
    (stores_record c.args.bytes.now c.args.i c.args.r _ _ _ _ (omega arith) (four c.args.r.number))
