-- The kind of the round that a run waits for (rule 13.10): what the code's two tests tell of it, and the kind that
-- follows once a round is accepted, since that raises the clock by one and leaves the setup (rule 9.11).
use mathlib.Core.Path.{◌≡◌, ap, ap₂, ◌∙◌}
use mathlib.Core.Bool.{true, false}
use Prim.Native.Nat.{ℕ, ◌+◌}
use native.Mathlib.Numerals.{add-one}
use Rattle.paper.specs.Rules.{update, value, vote, kind_of}
use Rattle.paper.proofs.OneRound.{follows}
use Rattle.paper.proofs.Safety.{kind_follows}
use Rattle.limits.specs.declared.Setup.{Setup}
use Rattle.run.specs.declared.Run.{Run}
use Rattle.limits.specs.Setup.{is_u, algorithm_of}
use Rattle.round.specs.Reading.{votes_next}
use Rattle.round.specs.Bridge.{kind_next}
use Rattle.hearing.proofs.Hearing.{kind_votes}

pub under_a : (run : Run) → is_u run.setup ≡ false → kind_next run ≡ update
unfolding kind_next kind_of
under_a run a = rw a

pub votes_first : (run : Run) → votes_next run ≡ true → kind_next run ≡ vote
votes_first run e = rw (kind_votes run, e)

pub values_first : (run : Run) → is_u run.setup ≡ true → votes_next run ≡ false → kind_next run ≡ value
values_first run u e = rw (kind_votes run, e, u)

pub kind_on : (run next : Run) → next.setup ≡ run.setup → next.clock ≡ run.clock + 1
    → kind_next next ≡ follows (kind_next run)
unfolding kind_next
kind_on run next same on =
    ap₂ (λ (s : Setup) (r : ℕ). kind_of (algorithm_of s) (r + 1)) same on
    ∙ ap (kind_of (algorithm_of run.setup)) (add-one (run.clock + 1))
    ∙ kind_follows (algorithm_of run.setup) (run.clock + 1)
