-- A tape's pages, as the calls put them one after the other, are the lines of its listing: by induction on the rounds,
-- with play's answer for the rounds that are left. The clock of an opened run is 0, so at the end it is play's count.
use mathlib.Core.Path.{◌≡◌, refl, sym, ap, ap₂, ◌∙◌}
use mathlib.Core.Bool.{Bool, true, false}
use mathlib.Core.List.{List, [], ◌∷◌, ◌++◌, flatten}
use Prim.Native.Nat.{ℕ, ◌+◌}
use native.Mathlib.Omega.{arith}
use lib.ListN.{length}
use Rattle.run.specs.Reply.{Accepted}
use Rattle.run.specs.declared.Run.{Run}
use Rattle.run.specs.Opening.{read_opening, check_opening}
use Rattle.run.specs.Reply.{is_accepted}
use Rattle.run.specs.Tape.{opening_part, rounds_part}
use Rattle.run.proofs.Openings.{opened_reply, opened_at_starts, opened_sound}
use Rattle.run.proofs.Replies.{accepted_is}
use Rattle.judge.specs.Step.{step_of}
use Rattle.judge.proofs.Steps.{passed, clock_next}
use Rattle.play.specs.declared.Played.{Played}
use Rattle.play.specs.Play.{take_rounds, rounds_of, take_tape, play_of}
use Rattle.play.proofs.Folds.{rounds_none, rounds_on, rounds_stop}
use Rattle.play.proofs.Plays.{play_good}
use Rattle.play.proofs.Tapes.{size_of, length_some}
use Rattle.lines.specs.Text.{setup_line, end_line}
use Rattle.pages.specs.Listing.{
  stepped_line,
  round_lines,
  last_line,
  run_lines,
  lines_of,
  listing_lines,
  listing,
}
use Rattle.pages.specs.Pages.{next_page, first_page, pages_on, pages_from, pages}
use Rattle.pages.proofs.Cutting.{NoneEmpty, cut_some}
use Rattle.pages.proofs.Paged.{some_left, opened_keeps}

-- ---- the lines of the rounds: none, one more, and a refused one
pub lines_none : (run : Run) → round_lines run [] ≡ []
unfolding round_lines
lines_none run = refl

module _ (run : Run) (r : List ℕ) (rs : List (List ℕ)) where
  pub lines_on : is_accepted (step_of run r).reply ≡ true
      → round_lines run (r ∷ rs) ≡ stepped_line (step_of run r) ∷ round_lines (step_of run r).run rs
  unfolding round_lines
  lines_on e = rw e

  pub lines_stop : is_accepted (step_of run r).reply ≡ false → round_lines run (r ∷ rs) ≡ []
  unfolding round_lines
  lines_stop e = rw e

-- ---- and the pages
paged_none : (run : Run) → pages_on run [] ≡ end_line run.clock Accepted ∷ []
unfolding pages_on next_page
paged_none run = refl

module _ (run : Run) (r : List ℕ) (rs : List (List ℕ)) (some : length r ≡ 0 → ⊥) where
  paged_on : is_accepted (step_of run r).reply ≡ true
      → pages_on run (r ∷ rs) ≡ stepped_line (step_of run r) ∷ pages_on (step_of run r).run rs
  unfolding pages_on
  paged_on e = rw (some_left run r some, e)

  paged_stop : is_accepted (step_of run r).reply ≡ false
      → pages_on run (r ∷ rs) ≡ end_line run.clock (step_of run r).reply ∷ []
  unfolding pages_on
  paged_stop e = rw (some_left run r some, e)

-- ---- rounds that are cut already
-- the lines of the rounds, and the last line by an answer a for the rounds that are left
abbrev ending : Run → List (List ℕ) → Played → List (List ℕ)
ending run ls a = ls ++ (end_line (a.rounds + run.clock) a.reply ∷ [])

rounds_paged : (rs : List (List ℕ)) (run : Run) → NoneEmpty rs
    → pages_on run rs ≡ ending run (round_lines run rs) (take_rounds run rs)
rounds_paged [] run none =
    let k : run.clock ≡ 0 + run.clock = omega arith in
    paged_none run ∙ ap (λ (i : ℕ). end_line i Accepted ∷ []) k
    ∙ sym (ap₂ (ending run) (lines_none run) (rounds_none run))
rounds_paged (r ∷ rs) run some =
    go (is_accepted (step_of run r).reply) refl (rounds_paged rs (step_of run r).run some.1)
  where
    next : Run
    next = (step_of run r).run

    a : Played
    a = take_rounds next rs

    go : (t : Bool) → is_accepted (step_of run r).reply ≡ t → pages_on next rs ≡ ending next (round_lines next rs) a
        → pages_on run (r ∷ rs) ≡ ending run (round_lines run (r ∷ rs)) (take_rounds run (r ∷ rs))
    go true e below =
        let k : a.rounds + next.clock ≡ a.rounds + 1 + run.clock =
        omega (arith, clock_next run r (passed run r e)) in
        paged_on run r rs some.0 e
        ∙ ap (λ (l : List (List ℕ)). stepped_line (step_of run r) ∷ l)
        (below ∙ ap (λ (i : ℕ). round_lines next rs ++ (end_line i a.reply ∷ [])) k)
        ∙ sym (ap₂ (ending run) (lines_on run r rs e) (rounds_on run r rs e))
    go false e below =
        let k : run.clock ≡ 0 + run.clock = omega arith in
        paged_stop run r rs some.0 e ∙ ap (λ (i : ℕ). end_line i (step_of run r).reply ∷ []) k
        ∙ sym (ap₂ (ending run) (lines_stop run r rs e) (rounds_stop run r rs e))

-- ---- an opened run
-- its clock counts from 0, and play takes its rounds
module _ (bs rest : List ℕ) (e : is_accepted (read_opening bs).reply ≡ true) where
  abbrev run : Run
  run = (read_opening bs).run

  good : check_opening bs ≡ Accepted
  good = sym (opened_reply bs) ∙ accepted_is (read_opening bs).reply e

  pub opened_plays : play_of run rest ≡ take_tape run rest
  opened_plays = play_good run rest (opened_sound bs good)

  last_is : (a : Played) → a.rounds + run.clock ≡ a.rounds
  last_is a = omega (arith, (opened_at_starts bs good).clock)

  run_paged : setup_line run.setup ∷ pages_on run (rounds_of run rest) ≡ run_lines run rest
  unfolding run_lines
  run_paged =
      let keeps = opened_keeps bs e in
      let some = cut_some (size_of run) (length_some run.setup.n keeps.setup.n_from) rest in
      let a : Played = take_tape run rest in
      let ls : List (List ℕ) = round_lines run (rounds_of run rest) in
      ap (λ (l : List (List ℕ)). setup_line run.setup ∷ l)
      (rounds_paged (rounds_of run rest) run some
      ∙ ap (λ (i : ℕ). ls ++ (end_line i a.reply ∷ [])) (last_is a)
      ∙ ap (λ (p : Played). ls ++ (last_line p ∷ [])) (sym opened_plays))

opened_paged : (bs rest : List ℕ) → pages_from (first_page bs) rest ≡ lines_of (read_opening bs) rest
opened_paged bs rest = go (is_accepted (read_opening bs).reply) refl
  where
    go : (t : Bool) → is_accepted (read_opening bs).reply ≡ t
        → pages_from (first_page bs) rest ≡ lines_of (read_opening bs) rest
    go true e = rw e (run_paged bs rest e)
    go false e = rw e

-- ---- a tape
pub pages_are_lines : (tape : List ℕ) → pages tape ≡ listing_lines tape
unfolding pages listing_lines
pages_are_lines tape = opened_paged (opening_part tape) (rounds_part tape)

-- what the calls put, joined, is what is to be printed
pub pages_joined : (tape : List ℕ) → flatten (pages tape) ≡ listing tape
unfolding listing
pages_joined tape = ap flatten (pages_are_lines tape)
