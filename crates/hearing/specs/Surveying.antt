-- The survey as the code works it out: what was to be sent as two arrays, a row's two sets, and the sets of rows. That
-- they are the survey's is proved in proofs/Hearing.antt and proofs/Surveyed.antt.
use Rattle.std.specs.Prelude.{ℕ, min, Bool, true, false, List, get_or, replicate}
use Rattle.paper.specs.Heard as heard
use Rattle.run.specs.Reply.{Accepted}
use Rattle.run.specs.declared.Run.{Run}
use Rattle.run.specs.Run.{stations}
use Rattle.run.specs.Filled.{filled}
use Rattle.round.specs.declared.Cell.{Cell}
use Rattle.round.specs.declared.Cell.TheVariants.{Lost}
use Rattle.round.specs.declared.Matrix.{Matrix}
use Rattle.round.specs.ByRow.{cell_read}
use Rattle.round.specs.Bridge.{paper_cell, message}
use Rattle.round.specs.Reading.{row_part, cells_of_row}
use Rattle.hearing.specs.declared.Sent.{Sent}
use Rattle.hearing.specs.declared.Sets.{Sets}
use Rattle.hearing.specs.declared.Survey.{Survey}
use Rattle.hearing.specs.Masks.{mask}

-- what each station ought to send, as two arrays: in a vote round the votes, else the estimates
unfoldable pub prescribed : Bool → Run → Sent
prescribed true run = record { given = run.voted; values = run.votes }
prescribed false run = record { given = replicate stations true; values = run.estimates }

-- the message of each station
abbrev pub messages_of : Sent → ℕ → heard.Message
messages_of sent q = message (get_or sent.given q false) (get_or sent.values q 0)

-- a row of cells as the paper's
abbrev pub row_of : List Cell → heard.Row
row_of cells q = paper_cell (get_or cells q Lost)

-- the two sets of a row
unfoldable pub sets_of : ℕ → heard.Row → (ℕ → heard.Message) → Sets
unfolding mask
sets_of n row sent = record { ho = mask n (heard.HO row); sho = mask n (heard.SHO row sent) }

-- the row of receiver p as it is read from the round's bytes
unfoldable pub row_in : ℕ → List ℕ → ℕ → List Cell
unfolding row_part filled
row_in n bs p = filled stations n (cell_read (row_part n bs p)) Lost

-- its sets, and those of its row in a matrix; and the survey of a matrix
unfoldable pub row_sets : ℕ → Sent → List ℕ → ℕ → Sets
unfolding row_in sets_of
row_sets n sent bs p = sets_of (min n stations) (row_of (row_in n bs p)) (messages_of sent)

unfoldable pub matrix_sets : ℕ → Sent → Matrix → ℕ → Sets
unfolding cells_of_row sets_of
matrix_sets n sent m p = sets_of (min n stations) (row_of (cells_of_row m p)) (messages_of sent)

unfoldable pub rows_surveyed : ℕ → Sent → Matrix → Survey
unfolding filled matrix_sets
rows_surveyed n sent m =
    record {
      reply = Accepted;
      ho = filled stations n (λ p. (matrix_sets n sent m p).ho) 0;
      sho = filled stations n (λ p. (matrix_sets n sent m p).sho) 0;
    }
