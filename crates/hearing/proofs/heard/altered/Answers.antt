-- `hearing::heard::altered` meets its contract: what two masks have in common is a part of the first, and taking it
-- away leaves the difference of the sets.
use native.Mathlib.Omega.{arith}
use lib.Bits.{and_le_l}
use Rattle.hearing.proofs.Masks.{without_is}
use Rattle.hearing.proofs.heard.altered.Goals as goal

pub overflow_sub-result : goal.overflow_sub-result
overflow_sub-result c = and_le_l _ _

pub returns : goal.returns
returns c = without_is _ _ (omega arith)
