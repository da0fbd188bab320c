-- `hearing::heard::holds` meets its contract: it goes by the cell's cases and the flag, as the definition does.
use mathlib.Core.Path.{◌≡◌, refl}
use mathlib.Core.Bool.{Bool, true, false, not}
use Prim.Native.Nat.{ℕ}
use Rattle.paper.specs.Heard.{heard, query, holds}
use Rattle.round.specs.Bridge.{message}
use Rattle.hearing.proofs.heard.holds.Goals as goal

-- "?" is what was to be sent just where no value is given
query-sent : (given : Bool) (v : ℕ) → not given ≡ holds (heard query) (message given v)
unfolding holds
query-sent true v = refl
query-sent false v = refl

pub returns-in-Lost : goal.returns-in-Lost
unfolding holds
returns-in-Lost c = rw c.in-Lost.is

pub returns-then-given : goal.returns-then-given
unfolding holds
returns-then-given c = rw (c.in-Value.is, c.if-given.true)

pub returns-else-given : goal.returns-else-given
unfolding holds
returns-else-given c = rw (c.in-Value.is, c.if-given.false)

pub returns-in-Query : goal.returns-in-Query
returns-in-Query c =
    rw c.in-Query.is (query-sent c.args.given c.args.value)
