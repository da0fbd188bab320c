-- The rows of a round as they are read, each once: the records in turn, and of each row its sets and its count. In a
-- round whose records are all in order these are the sets and the count of the paper's row (proofs/Countings.antt).
use Rattle.std.specs.Prelude.{ℕ, min, Bool, None, Result, List}
use Rattle.paper.specs.Setup as setup
use Rattle.limits.specs.Setup.{setup_of}
use Rattle.run.specs.declared.reply.Refusal.{Refusal}
use Rattle.run.specs.declared.Run.{Run}
use Rattle.run.specs.Reply.{unless_refused}
use Rattle.run.specs.Run.{stations}
use Rattle.run.specs.Filled.{filled}
use Rattle.hearing.specs.declared.Sent.{Sent}
use Rattle.hearing.specs.declared.Tally.{Tally}
use Rattle.round.specs.Reading.{check_cells}
use Rattle.hearing.specs.Surveying.{prescribed, row_of, row_in, row_sets}
use Rattle.hearing.specs.Tally.{tally}
use Rattle.judge.specs.declared.Counted.{Counted}

-- the count of a row that has no values
abbrev pub no_value : Tally
no_value = record { value = 0; senders = 0; least = None }

-- the count of receiver p's row as it is read
unfoldable pub row_tally : ℕ → (ℕ → Bool) → List ℕ → ℕ → Tally
unfolding row_in tally
row_tally n enough bs p = tally (min n stations) (row_of (row_in n bs p)) enough

-- the sets and counts of the first m rows, of n senders who ought to send these, with the smallest value that came
-- often enough
unfoldable pub counted_to : ℕ → (ℕ → Bool) → Sent → List ℕ → ℕ → Counted
unfolding filled row_sets row_tally
counted_to n enough sent bs m =
    record {
      ho = filled stations m (λ p. (row_sets n sent bs p).ho) 0;
      sho = filled stations m (λ p. (row_sets n sent bs p).sho) 0;
      tallies = filled stations m (row_tally n enough bs) no_value;
    }

-- those of all rows
unfoldable pub all_counted : Bool → Run → List ℕ → Counted
unfolding counted_to prescribed
all_counted votes run bs =
    counted_to run.setup.n (setup.vouched (setup_of run.setup)) (prescribed votes run) bs run.setup.n

-- or the first record at fault
unfoldable pub rows_counted : Bool → Run → List ℕ → Result Counted Refusal
unfolding check_cells all_counted
rows_counted votes run bs = unless_refused (check_cells votes run.setup.n bs) (all_counted votes run bs)
