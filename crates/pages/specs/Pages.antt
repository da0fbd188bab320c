-- The listing page by page, as the calls put it: a page is a line, the first of the opening's bytes, each other of the
-- next round's bytes, or of none where the tape has ended. That a tape's pages are the lines of its listing is proved
-- in proofs/Whole.antt.
use Rattle.std.specs.Prelude.{◌≡◌, cond, List, [], ◌∷◌, ℕ, ◌+◌, ◌≤◌, length}
use Rattle.std.specs.Option.{option_map_or}
use Rattle.std.specs.ControlFlow.{continue_value}
use Rattle.std.specs.declared.ops.ControlFlow.{ControlFlow}
use Rattle.std.specs.declared.ops.ControlFlow.TheVariants.{Continue, Break}
use Rattle.run.specs.declared.Opened.{Opened}
use Rattle.run.specs.Reply.{Reply, Accepted, is_accepted}
use Rattle.run.specs.declared.Run.{Run}
use Rattle.run.specs.Opening.{read_opening}
use Rattle.run.specs.Tape.{opening_part, rounds_part}
use Rattle.judge.specs.declared.Stepped.{Stepped}
use Rattle.judge.specs.Step.{step_of}
use Rattle.play.specs.Play.{rounds_of}
use Rattle.lines.specs.Text.{setup_line, end_line, refusal_line, longest, has_room, PutIf}
use Rattle.pages.specs.declared.Listed.{Listed}
use Rattle.pages.specs.Listing.{stepped_line}

-- its text, and the run: to go on with where another page follows, or else that the listing ends at
pub record Page : Type 0 where
  pub text : List ℕ
  pub next : ControlFlow Run Run

-- another page follows where nothing was refused
abbrev pub next_if : Reply → Run → ControlFlow Run Run
next_if r run = cond (is_accepted r) (Continue run) (Break run)

-- ---- the first page
-- by what reading the opening answers
abbrev pub opened_page : Opened → Page
opened_page o =
    record {
      text = cond (is_accepted o.reply) (setup_line o.run.setup) (refusal_line o.reply);
      next = next_if o.reply o.run;
    }

abbrev pub first_page : List ℕ → Page
first_page bs = opened_page (read_opening bs)

-- ---- the others
-- where the tape has ended: the clock has counted the accepted rounds
abbrev pub ended_page : Run → Page
ended_page run = record { text = end_line run.clock Accepted; next = Break run }

-- by what the step answers: a refused round ends the listing
abbrev pub stepped_page : Run → Stepped → Page
stepped_page run s =
    record {
      text = cond (is_accepted s.reply) (stepped_line s) (end_line run.clock s.reply);
      next = next_if s.reply s.run;
    }

-- of the next round's bytes: no bytes say that the tape has ended
unfoldable pub next_page : Run → List ℕ → Page
next_page run [] = ended_page run
next_page run (b ∷ bs) = stepped_page run (step_of run (b ∷ bs))

-- ---- what the calls put, one after the other
-- a page, and those that follow on its run
abbrev pub page_then : Page → (Run → List (List ℕ)) → List (List ℕ)
page_then page others = page.text ∷ option_map_or others (continue_value page.next) []

-- for rounds that are cut already, each page with the run of the one before
unfoldable pub pages_on : Run → List (List ℕ) → List (List ℕ)
pages_on run [] = (next_page run []).text ∷ []
pages_on run (r ∷ rs) = page_then (next_page run r) (λ next. pages_on next rs)

abbrev pub pages_from : Page → List ℕ → List (List ℕ)
pages_from page bs = page_then page (λ run. pages_on run (rounds_of run bs))

-- for a tape
unfoldable pub pages : List ℕ → List (List ℕ)
pages tape = pages_from (first_page (opening_part tape)) (rounds_part tape)

-- ---- what a call promises
-- the page's run, whether another follows or none, and the text behind `at`, or nothing where no line fits there
pub record Puts (page : Page) (before : List ℕ) (at : ℕ) (r : Listed) (after : List ℕ) : Type 0 where
  pub next : r.next ≡ page.next
  pub text : PutIf (has_room at (length before)) before at page.text r.end after
  pub room : r.end ≤ at + longest
