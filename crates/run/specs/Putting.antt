-- Records put into bytes one by one, as far as the bytes have them: how the code writes. That a whole part put so is
-- the part that is written is proved in proofs/Blocks.antt, Heads.antt and Openings.antt.
use Rattle.std.specs.Prelude.{ℕ, zero, suc, ◌+◌, List}
use Rattle.limits.specs.declared.Setup.{Setup}
use Rattle.run.specs.declared.record.Record.{Record}
use Rattle.run.specs.Kinds as kind
use Rattle.run.specs.Record.{put_at}
use Rattle.run.specs.Block.{plain}
use Rattle.run.specs.Opening.{setup_at, default_at, setup_record}

-- n records from a place on
unfoldable pub put_block : List ℕ → ℕ → ℕ → (ℕ → Record) → List ℕ
put_block bs start zero f = bs
put_block bs start (suc n) f = put_at (put_block bs start n f) (start + n) (f n)

-- the two records that openings and images begin with
unfoldable pub put_head : List ℕ → Setup → ℕ → List ℕ
put_head bs s d = put_at (put_at bs setup_at (setup_record s)) default_at (plain kind.DEFAULT 0 d)
