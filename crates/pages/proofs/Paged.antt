-- A page, by what the code tells of it: the reply, the bytes left, the text put. And what the pages hand on:
-- while another follows, the run keeps the rules, and its clock has counted one round more; where none does, it is the
-- idle run or the one handed in.
use mathlib.Core.Path.{◌≡◌, refl, sym, ap, ap₂, ◌∙◌}
use mathlib.Core.Bool.{Bool, true, false, ◌&&◌, cond}
use mathlib.Core.List.{List, [], ◌∷◌}
use Prim.Native.Nat.{ℕ, suc, ◌+◌, ◌≤◌}
use native.Mathlib.Omega.{arith}
use borrow.Author.Tests.{le-leb}
use lib.Dec.{leb}
use lib.ListN.{length}
use Rattle.run.specs.declared.Opened.{Opened}
use Rattle.std.specs.Prelude.{IfSome, is_err}
use Rattle.std.specs.ControlFlow.{continue_value, break_value}
use Rattle.std.proofs.Common.{ControlFlow, Continue, Break}
use Rattle.run.specs.Reply.{Reply, Accepted, is_accepted}
use Rattle.run.specs.declared.Run.{Run}
use Rattle.run.specs.Keeps.{Keeps}
use Rattle.run.specs.Opening.{read_opening, check_opening, unopened}
use Rattle.run.specs.Run.{stations, idle}
use Rattle.run.proofs.Asked.{refuses, accepts}
use Rattle.run.proofs.Openings.{opened_reply, opened_sound, refused_idle}
use Rattle.run.proofs.Replies.{accepted_is}
use Rattle.run.proofs.Sound.{sound_iff}
use Rattle.judge.specs.declared.Stepped.{Stepped}
use Rattle.judge.specs.Step.{step_of}
use Rattle.judge.proofs.Steps.{passed, keeps_next, clock_next, refused_same}
use Rattle.lines.specs.Text.{setup_line, end_line, refusal_line, longest, has_room, PutIf}
use Rattle.lines.proofs.Putting.{put_if_once}
use Rattle.pages.specs.declared.Listed.{Listed}
use Rattle.pages.specs.Listing.{stepped_line}
use Rattle.pages.specs.Pages.{Page, Puts, next_if, opened_page, first_page, ended_page, stepped_page, next_page}

-- ---- the next page, by the bytes left
pub none_left : (run : Run) (bs : List ℕ) → length bs ≡ 0 → next_page run bs ≡ ended_page run
unfolding next_page
none_left run [] none = refl
none_left run (b ∷ bs) none = absurd (omega arith)

pub some_left : (run : Run) (bs : List ℕ) → (length bs ≡ 0 → ⊥) → next_page run bs ≡ stepped_page run (step_of run bs)
unfolding next_page
some_left run [] some = absurd (some refl)
some_left run (b ∷ bs) some = refl

-- ---- a page that was put, by the reply
module _ {before : List ℕ} {at end : ℕ} {after : List ℕ} (room : end ≤ at + longest) where
  pub refusal_put : (o : Opened) → is_err o.reply ≡ true
      → PutIf (has_room at (length before)) before at (refusal_line o.reply) end after
      → Puts (opened_page o) before at (record { next = Break o.run; end = end }) after
  refusal_put o told put =
      let no : is_accepted o.reply ≡ false = refuses o.reply told in
      record { next = rw no; text = rw no put; room = room }

  pub setup_put : (o : Opened) → is_err o.reply ≡ false
      → PutIf (has_room at (length before)) before at (setup_line o.run.setup) end after
      → Puts (opened_page o) before at (record { next = Continue o.run; end = end }) after
  setup_put o told put =
      let yes : is_accepted o.reply ≡ true = ap is_accepted (accepts o.reply told) in
      record { next = rw yes; text = rw yes put; room = room }

  pub end_put : (run : Run) (s : Stepped) → is_err s.reply ≡ true
      → PutIf (has_room at (length before)) before at (end_line run.clock s.reply) end after
      → Puts (stepped_page run s) before at (record { next = Break s.run; end = end }) after
  end_put run s told put =
      let no : is_accepted s.reply ≡ false = refuses s.reply told in
      record { next = rw no; text = rw no put; room = room }

  -- the run after an accepted round has no more stations than a run may have, so that its line is put
  pub round_put : (run : Run) (bs : List ℕ) (s : Stepped) → s ≡ step_of run bs → is_err s.reply ≡ false
      → PutIf (leb s.run.setup.n stations && has_room at (length before)) before at
      (stepped_line s) end after
      → Puts (stepped_page run s) before at (record { next = Continue s.run; end = end }) after
  round_put run bs s is told put =
      let yes : is_accepted s.reply ≡ true = ap is_accepted (accepts s.reply told) in
      let keeps : Keeps s.run = rw is (keeps_next run bs (passed run bs (rw is at yes))) in
      let few : leb s.run.setup.n stations ≡ true = le-leb s.run.setup.n stations keeps.setup.n_to in
      record { next = rw yes; text = rw yes (rw few at put); room = room }

-- ---- the run that goes on
pub opened_keeps : (bs : List ℕ) → is_accepted (read_opening bs).reply ≡ true → Keeps (read_opening bs).run
opened_keeps bs e =
    let good : check_opening bs ≡ Accepted = sym (opened_reply bs) ∙ accepted_is (read_opening bs).reply e in
    (sound_iff (read_opening bs).run).0 (opened_sound bs good)

opened_idle : (bs : List ℕ) → is_accepted (read_opening bs).reply ≡ false → (read_opening bs).run ≡ idle
unfolding unopened
opened_idle bs f =
    ap (λ (o : Opened). o.run) (refused_idle bs (sym (ap is_accepted (opened_reply bs)) ∙ f))

-- what holds of a run where nothing was refused holds of the one that goes on, and where something was, of the last
module _ (P : Run → Type 0) (r : Reply) (run : Run) where
  goes_on : (is_accepted r ≡ true → P run) → IfSome (continue_value (next_if r run)) P
  goes_on holds = go (is_accepted r) refl
    where
      go : (b : Bool) → is_accepted r ≡ b → IfSome (continue_value (cond b (Continue run) (Break run))) P
      go true e = holds e
      go false e = tt

  ends_at : (is_accepted r ≡ false → P run) → IfSome (break_value (next_if r run)) P
  ends_at holds = go (is_accepted r) refl
    where
      go : (b : Bool) → is_accepted r ≡ b → IfSome (break_value (cond b (Continue run) (Break run))) P
      go true e = tt
      go false e = holds e

module _ {before : List ℕ} {at : ℕ} {r : Listed} {after : List ℕ} where
  pub first_keeps : (bs : List ℕ) → Puts (first_page bs) before at r after → IfSome (continue_value r.next) Keeps
  first_keeps bs p = rw p.next (goes_on Keeps (read_opening bs).reply (read_opening bs).run (opened_keeps bs))

  pub first_last : (bs : List ℕ) → Puts (first_page bs) before at r after
      → IfSome (break_value r.next) (λ last. last ≡ idle)
  first_last bs p =
      rw p.next (ends_at (λ last. last ≡ idle) (read_opening bs).reply (read_opening bs).run (opened_idle bs))

  module _ (run : Run) (bs : List ℕ) (p : Puts (next_page run bs) before at r after) where
    round_on : (P : Run → Type 0) → ((l : List ℕ) → is_accepted (step_of run l).reply ≡ true → P (step_of run l).run)
        → (l : List ℕ) → IfSome (continue_value (next_page run l).next) P
    unfolding next_page
    round_on P holds [] = tt
    round_on P holds (b ∷ l) = goes_on P (step_of run (b ∷ l)).reply (step_of run (b ∷ l)).run (holds (b ∷ l))

    pub next_keeps : IfSome (continue_value r.next) Keeps
    next_keeps = rw p.next (round_on Keeps (λ l e. keeps_next run l (passed run l e)) bs)

    pub next_clock : IfSome (continue_value r.next) (λ next. next.clock ≡ suc run.clock)
    next_clock = rw p.next (round_on (λ next. next.clock ≡ suc run.clock) (λ l e. clock_next run l (passed run l e)) bs)

    last_on : (l : List ℕ) → IfSome (break_value (next_page run l).next) (λ last. last ≡ run)
    unfolding next_page
    last_on [] = refl
    last_on (b ∷ l) =
        ends_at (λ last. last ≡ run) (step_of run (b ∷ l)).reply (step_of run (b ∷ l)).run (refused_same run (b ∷ l))

    pub next_last : IfSome (break_value r.next) (λ last. last ≡ run)
    next_last = rw p.next (last_on bs)

-- ---- the promise leaves one answer and one buffer
pub puts_once : {page : Page} {before : List ℕ} {at : ℕ} {r r' : Listed} {after after' : List ℕ}
    → Puts page before at r after → Puts page before at r' after' → (r ≡ r') × (after ≡ after')
puts_once {page} {before} {at} {r} {r'} {after} {after'} p q =
    let (ends, same) =
    put_if_once (has_room at (length before)) before at page.text r.end r'.end after after' p.text q.text
    in (
      ap₂ (λ (x : ControlFlow Run Run) (y : ℕ). record { next = x; end = y }) (p.next ∙ sym q.next) ends,
      same,
    )
