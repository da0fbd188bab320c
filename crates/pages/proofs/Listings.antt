-- What the listing says, seen from outside: of a refused opening its one line, of an opening alone two lines, and
-- otherwise as many lines between the first and the last as play accepts rounds.
use mathlib.Core.Path.{◌≡◌, refl, sym, ap, ◌∙◌}
use mathlib.Core.Bool.{Bool, true, false}
use mathlib.Core.List.{List, [], ◌∷◌, ◌++◌, flatten, append-nil}
use Prim.Native.Nat.{ℕ, suc}
use native.Mathlib.Numerals.{add-one}
use native.Mathlib.Omega.{arith}
use lib.ListN.{length}
use Rattle.run.specs.Reply.{Accepted}
use Rattle.run.specs.declared.Run.{Run}
use Rattle.run.specs.Opening.{read_opening, check_opening, setup_in}
use Rattle.run.specs.Reply.{is_accepted}
use Rattle.run.specs.Tape.{opening_part, rounds_part}
use Rattle.run.proofs.Openings.{opened_reply, opened_at_starts, opened_sound}
use Rattle.run.proofs.Tapes.{accepted_size, opening_whole, rounds_none as none_behind}
use Rattle.judge.specs.Step.{step_of}
use Rattle.play.specs.declared.Played.{Played}
use Rattle.play.specs.Play.{take_rounds, rounds_of, play_of}
use Rattle.play.proofs.Folds.{rounds_none, rounds_on, rounds_stop}
use Rattle.play.proofs.Plays.{play_none}
use Rattle.play.proofs.Tapes.{no_rounds}
use Rattle.lines.specs.Text.{setup_line, end_line, refusal_line}
use Rattle.pages.specs.Listing.{round_lines, run_lines, listing_lines, listing}
use Rattle.pages.proofs.Whole.{lines_none, lines_on, lines_stop, opened_plays}

-- ---- a line for each accepted round (rules 14.4 and 14.6)
lines_counted : (rs : List (List ℕ)) (run : Run) → length (round_lines run rs) ≡ (take_rounds run rs).rounds
lines_counted [] run =
    ap length (lines_none run) ∙ sym (ap (λ (a : Played). a.rounds) (rounds_none run))
lines_counted (r ∷ rs) run =
    go (is_accepted (step_of run r).reply) refl (lines_counted rs (step_of run r).run)
  where
    next : Run
    next = (step_of run r).run

    go : (t : Bool) → is_accepted (step_of run r).reply ≡ t
        → length (round_lines next rs) ≡ (take_rounds next rs).rounds
        → length (round_lines run (r ∷ rs)) ≡ (take_rounds run (r ∷ rs)).rounds
    go true e below =
        ap length (lines_on run r rs e) ∙ ap suc below ∙ sym (add-one (take_rounds next rs).rounds)
        ∙ sym (ap (λ (a : Played). a.rounds) (rounds_on run r rs e))
    go false e below =
        ap length (lines_stop run r rs e) ∙ sym (ap (λ (a : Played). a.rounds) (rounds_stop run r rs e))

pub count_printed : (bs rest : List ℕ) → is_accepted (read_opening bs).reply ≡ true
    → length (round_lines (read_opening bs).run (rounds_of (read_opening bs).run rest))
    ≡ (play_of (read_opening bs).run rest).rounds
count_printed bs rest e =
    let run = (read_opening bs).run in
    lines_counted (rounds_of run rest) run ∙ sym (ap (λ (a : Played). a.rounds) (opened_plays bs rest e))

-- ---- a refused opening (rule 14.2)
pub listing_refused : (tape : List ℕ) → is_accepted (check_opening (opening_part tape)) ≡ false
    → listing tape ≡ refusal_line (check_opening (opening_part tape))
unfolding listing listing_lines flatten
listing_refused tape e =
    let head = opening_part tape in
    let no : is_accepted (read_opening head).reply ≡ false = ap is_accepted (opened_reply head) ∙ e in
    rw no (append-nil (refusal_line (read_opening head).reply) ∙ ap refusal_line (opened_reply head))

-- ---- an accepted opening and no rounds (rule 14.8)
module _ (bs : List ℕ) (e : check_opening bs ≡ Accepted) where
  all_opening : opening_part bs ≡ bs
  all_opening = opening_whole bs (omega (arith, accepted_size bs e))

  no_rest : rounds_part bs ≡ []
  no_rest = none_behind bs (omega (arith, accepted_size bs e))

  abbrev run : Run
  run = (read_opening bs).run

  two_lines : run_lines run [] ≡ setup_line (setup_in bs) ∷ end_line 0 Accepted ∷ []
  unfolding run_lines
  two_lines =
      rw (
        no_rounds run [] refl,
        lines_none run,
        play_none run (opened_sound bs e),
        (opened_at_starts bs e).setup,
      )

  pub listing_empty : listing bs ≡ setup_line (setup_in bs) ++ end_line 0 Accepted
  unfolding listing listing_lines flatten
  listing_empty =
      let yes : is_accepted (read_opening bs).reply ≡ true = ap is_accepted (opened_reply bs ∙ e) in
      rw (all_opening, no_rest, yes, two_lines, append-nil)
