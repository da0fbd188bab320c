-- The calls in one buffer, each behind the other with room for a line: by what they promise, what then stands in the
-- buffer is the listing.
use mathlib.Core.Path.{◌≡◌, sym, ◌∙◌}
use mathlib.Core.Bool.{true}
use mathlib.Core.List.{List, [], ◌∷◌, flatten, append-nil}
use Prim.Native.Nat.{ℕ}
use lib.ListN.{length}
use Rattle.std.proofs.Common.{Continue, Break}
use Rattle.run.specs.declared.Run.{Run}
use Rattle.run.specs.Tape.{opening_part, rounds_part}
use Rattle.play.specs.Play.{rounds_of}
use Rattle.lines.specs.Text.{Put, has_room}
use Rattle.lines.proofs.Putting.{put_then}
use Rattle.pages.specs.declared.Listed.{Listed}
use Rattle.pages.specs.Listing.{listing}
use Rattle.pages.specs.Pages.{Page, Puts, first_page, next_page, pages_on, pages_from, pages}
use Rattle.pages.proofs.Whole.{pages_joined}

-- a call for this page where a line fits: the buffer before and after it, and its answer
pub record Call (page : Page) (before : List ℕ) (at : ℕ) (r : Listed) (after : List ℕ) : Type 0 where
  pub fits : has_room at (length before) ≡ true
  pub puts : Puts page before at r after

-- calls for these rounds and then for the tape's end, from a run, until no page follows
pub data Calls : Run → List (List ℕ) → List ℕ → ℕ → ℕ → List ℕ → Type 0 where
  at_end : {run : Run} {before : List ℕ} {at : ℕ} {r : Listed} {after : List ℕ} → Call (next_page run []) before at r after
      → Calls run [] before at r.end after
  stops : {run last : Run} {round : List ℕ} {rounds : List (List ℕ)} {before : List ℕ} {at : ℕ} {r : Listed}
      {after : List ℕ} → Call (next_page run round) before at r after → r.next ≡ Break last
      → Calls run (round ∷ rounds) before at r.end after
  goes_on : {run next : Run} {round : List ℕ} {rounds : List (List ℕ)} {before : List ℕ} {at : ℕ} {r : Listed}
      {middle : List ℕ} {end : ℕ} {after : List ℕ} → Call (next_page run round) before at r middle → r.next ≡ Continue next
      → Calls next rounds middle r.end end after → Calls run (round ∷ rounds) before at end after

module _ {page : Page} {before : List ℕ} {at : ℕ} {r : Listed} {after : List ℕ} where
  put : Call page before at r after → Put before at page.text r.end after
  put c = rw c.fits at c.puts.text

calls_put : {run : Run} {rounds : List (List ℕ)} {before : List ℕ} {at end : ℕ} {after : List ℕ}
    → Calls run rounds before at end after → Put before at (flatten (pages_on run rounds)) end after
unfolding pages_on flatten
calls_put (at_end {run = run} c) = rw (append-nil (next_page run []).text) (put c)
calls_put (stops {run = run} {round = round} c e) =
    rw (sym c.puts.next ∙ e, append-nil (next_page run round).text) (put c)
calls_put (goes_on {run = run} {round = round} {rounds = rounds} c e rest) =
    rw (sym c.puts.next ∙ e) (put_then (put c) (calls_put rest))

-- ---- a tape: a first call, and others if its opening is accepted
module _ {page : Page} {before : List ℕ} {at : ℕ} {r : Listed} {middle : List ℕ} (bs : List ℕ)
    (first : Call page before at r middle) where
  first_only : {last : Run} → r.next ≡ Break last → Put before at (flatten (pages_from page bs)) r.end middle
  unfolding flatten
  first_only e = rw (sym first.puts.next ∙ e, append-nil page.text) (put first)

  first_then : {run : Run} {end : ℕ} {after : List ℕ} → r.next ≡ Continue run
      → Calls run (rounds_of run bs) middle r.end end after
      → Put before at (flatten (pages_from page bs)) end after
  unfolding flatten
  first_then e rest = rw (sym first.puts.next ∙ e) (put_then (put first) (calls_put rest))

module _ (tape : List ℕ) {before : List ℕ} {at : ℕ} {r : Listed} {middle : List ℕ}
    (first : Call (first_page (opening_part tape)) before at r middle) where
  pub refusal_stands : {last : Run} → r.next ≡ Break last → Put before at (listing tape) r.end middle
  unfolding pages
  refusal_stands e = rw (← pages_joined tape) (first_only (rounds_part tape) first e)

  pub listing_stands : {run : Run} {end : ℕ} {after : List ℕ} → r.next ≡ Continue run
      → Calls run (rounds_of run (rounds_part tape)) middle r.end end after
      → Put before at (listing tape) end after
  unfolding pages
  listing_stands e rest =
      rw (← pages_joined tape) (first_then (rounds_part tape) first e rest)
