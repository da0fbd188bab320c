-- What it is for a relation between what is handed in and a reply to settle the reply.
use Rattle.std.specs.Prelude.{◌≡◌}
use Rattle.run.specs.Reply.{Reply}

-- it holds of this reply, and of no other
pub record Only (R : Reply → Type 0) (r : Reply) : Type 0 where
  pub holds : R r
  pub alone : (s : Reply) → R s → s ≡ r
