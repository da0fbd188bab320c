-- A whole tape, read and written again, is the same bytes: the opening is written from the run that it gave, whose
-- estimates are the starts; each accepted round is readable and so is written as it was, and the run goes on from round
-- to round. By induction on the rounds.
use mathlib.Core.Path.{◌≡◌, refl, ap, ap₂, sym, ◌∙◌}
use mathlib.Core.Bool.{true}
use mathlib.Core.List.{List, [], ◌∷◌, ◌++◌, flatten}
use Prim.Native.Nat.{ℕ}
use lib.ListN.{length, length-replicate}
use Rattle.run.specs.declared.Run.{Run}
use Rattle.run.specs.declared.Opened.{Opened}
use Rattle.run.specs.Reply.{Accepted}
use Rattle.run.specs.Bytes.{IsBytes}
use Rattle.run.specs.Opening.{starts_from, setup_in, default_in, starts_in, check_opening, run_from, read_opening}
use Rattle.run.specs.Opening.{write_opening}
use Rattle.run.specs.Reply.{is_accepted}
use Rattle.run.specs.Run.{stations}
use Rattle.run.proofs.Blocks.{numbers_in_ends}
use Rattle.run.proofs.Openings.{opened, opened_reply, run_from_is, starts_in_end, read_write}
use Rattle.run.proofs.Replies.{accepted_is}
use Rattle.round.specs.Reading.{check_reading}
use Rattle.writing.proofs.Rounds.{read_written_into}
use Rattle.judge.specs.Step.{step_of}
use Rattle.judge.proofs.Steps.{reply_is}
use Rattle.consensus.specs.Judge.{ours}
use Rattle.consensus.specs.RoundReplies.{ReadReply}
use Rattle.consensus.specs.Tape.{AcceptedInTurn, blank_for, rounds_again, tape_again}
use Rattle.consensus.proofs.RoundReplies.{step_replies, read_replies, accepted_case}

-- a round that is accepted can be read
readable : (run : Run) (bs : List ℕ) → is_accepted (step_of run bs).reply ≡ true → check_reading run bs ≡ Accepted
readable run bs e =
    let taken = sym (reply_is run bs) ∙ accepted_is (step_of run bs).reply e in
    let (ready, formed, safe) = accepted_case _ (step_replies run bs).holds taken in
    sym ((read_replies run bs).alone Accepted (ReadReply.accepted ready.keeps formed))

rounds_same : (rs : List (List ℕ)) (run : Run) → AcceptedInTurn ours run rs → rounds_again ours run rs ≡ flatten rs
unfolding AcceptedInTurn rounds_again ours flatten
rounds_same [] run ok = refl
rounds_same (r ∷ rs) run ok =
    ap₂ (λ (x y : List ℕ). x ++ y)
    (read_written_into run r (readable run r ok.1) ok.0 (blank_for r) (length-replicate (length r) 0))
    (rounds_same rs (step_of run r).run ok.2)

-- the estimates of an opened run are its starts
module _ (opening : List ℕ) (ok : check_opening opening ≡ Accepted) where
  started : (read_opening opening).run ≡ run_from (setup_in opening) (default_in opening) (starts_in opening)
  started = ap (λ (o : Opened). o.run) (opened opening ok)

  opening_same : IsBytes opening
      → write_opening (read_opening opening).run.setup (read_opening opening).run.default
      (read_opening opening).run.estimates (blank_for opening)
      ≡ opening
  opening_same bytes =
      rw (started, run_from_is (setup_in opening) (default_in opening) (starts_in opening) long (starts_in_end opening))
      (read_write opening bytes ok (blank_for opening) (length-replicate (length opening) 0))
    where
      long : length (starts_in opening) ≡ stations
      long = (numbers_in_ends opening starts_from (setup_in opening).n).long

-- an accepted opening and then rounds that are accepted in turn
pub tape_same : (opening : List ℕ) (rs : List (List ℕ)) → IsBytes opening
    → is_accepted (read_opening opening).reply ≡ true
    → AcceptedInTurn ours (read_opening opening).run rs → tape_again ours opening rs ≡ opening ++ flatten rs
unfolding tape_again ours
tape_same opening rs bytes taken rounds =
    let ok : check_opening opening ≡ Accepted
    = sym (opened_reply opening) ∙ accepted_is (read_opening opening).reply taken in
    ap₂ (λ (x y : List ℕ). x ++ y) (opening_same opening ok bytes) (rounds_same rs (read_opening opening).run rounds)
