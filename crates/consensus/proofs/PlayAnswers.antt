-- What playing answers is what specs/PlayAnswers says and no more: a part is cut into a first piece and what is behind
-- it, and each piece is a step. By induction on the pieces.
use mathlib.Core.Path.{◌≡◌, refl, ap, sym, ◌∙◌, subst}
use mathlib.Core.Bool.{Bool, true, false, false≢true}
use mathlib.Core.List.{List, [], ◌∷◌}
use Prim.Native.Nat.{ℕ, zero, suc, ◌≤◌, ◌<◌}
use native.Mathlib.Nat.{le_refl}
use native.Mathlib.Numerals.{add-one}
use native.Mathlib.Omega.{arith}
use lib.ListN.{length, length-drop}
use Rattle.limits.specs.declared.Setup.{Setup}
use Rattle.run.specs.declared.Run.{Run}
use Rattle.run.specs.Reply.{Reply}
use Rattle.run.specs.Reply.{Accepted}
use Rattle.run.specs.Keeps.{Keeps}
use Rattle.run.specs.Reply.{is_accepted}
use Rattle.run.specs.Run.{sound}
use Rattle.run.proofs.Replies.{accepted_is, refused_isn't}
use Rattle.run.proofs.Sound.{sound_iff}
use Rattle.round.specs.Reading.{round_length}
use Rattle.judge.specs.Step.{step_of}
use Rattle.judge.proofs.Steps.{passed, reply_is, keeps_next, setup_same}
use Rattle.play.specs.declared.Played.{Played}
use Rattle.play.specs.Play.{cut, ended, more, take_rounds, rounds_of, play_of}
use Rattle.play.proofs.Cuts.{cut_none, cut_on}
use Rattle.play.proofs.Folds.{rounds_none, rounds_on, rounds_stop}
use Rattle.play.proofs.Plays.{play_bad, play_good, play_none}
use Rattle.play.proofs.Tapes.{length_some}
use Rattle.consensus.specs.RoundReplies.{StepReply}
use Rattle.consensus.specs.PlayAnswers.{first_piece, behind_it, Plays}
use Rattle.consensus.proofs.Asking.{unless}
use Rattle.consensus.proofs.RoundReplies.{step_replies}

some_bytes : (run : Run) → Keeps run → 0 < round_length run.setup.n
some_bytes run keeps = length_some run.setup.n keeps.setup.n_from

module _ (run : Run) (bs : List ℕ) (keeps : Keeps run) (some : 0 < length bs) where
  abbrev piece : List ℕ
  piece = first_piece run bs

  abbrev rest : List ℕ
  rest = behind_it run bs

  -- the first piece is taken, and then what is behind it
  one_piece : take_rounds run (rounds_of run bs)
      ≡ take_rounds run (piece ∷ cut (round_length run.setup.n) rest)
  one_piece = ap (take_rounds run) (cut_on (round_length run.setup.n) (some_bytes run keeps) bs some)

  stopped : is_accepted (step_of run piece).reply ≡ false
      → take_rounds run (rounds_of run bs) ≡ ended run (step_of run piece).reply
  stopped f = one_piece ∙ rounds_stop run piece (cut (round_length run.setup.n) rest) f

  -- which the next run cuts alike
  went_on : is_accepted (step_of run piece).reply ≡ true
      → take_rounds run (rounds_of run bs)
      ≡ more 1 (take_rounds (step_of run piece).run (rounds_of (step_of run piece).run rest))
  went_on e =
      one_piece ∙ rounds_on run piece (cut (round_length run.setup.n) rest) e
      ∙ ap (λ (s : Setup). more 1 (take_rounds (step_of run piece).run (cut (round_length s.n) rest)))
      (sym (setup_same run piece (passed run piece e)))

  says : StepReply run piece (step_of run piece).reply
  says = subst (StepReply run piece) (sym (reply_is run piece)) (step_replies run piece).holds

  is_said : (r : Reply) → StepReply run piece r → r ≡ (step_of run piece).reply
  is_said r x = (step_replies run piece).alone r x ∙ sym (reply_is run piece)

-- ---- what is answered
abbrev Answers : Run → List ℕ → Played → Type 0
Answers run bs a = Plays step_of run bs a.run a.reply a.rounds

-- of bytes of this length at most
abbrev HoldsTo : ℕ → Type 0
HoldsTo most =
    (run : Run) (bs : List ℕ) → length bs ≤ most → Keeps run → Answers run bs (take_rounds run (rounds_of run bs))

nothing_left : (run : Run) → Keeps run → Answers run [] (take_rounds run (rounds_of run []))
nothing_left run keeps =
    subst (Answers run []) (sym (ap (take_rounds run) (cut_none (round_length run.setup.n)) ∙ rounds_none run))
    (Plays.over keeps)

one_piece_more : (most : ℕ) → HoldsTo most → HoldsTo (suc most)
one_piece_more most shorter_hold run [] l keeps = nothing_left run keeps
one_piece_more most shorter_hold run (b ∷ bs) l keeps =
    go (is_accepted (step_of run (first_piece run (b ∷ bs))).reply) refl
    (shorter_hold (step_of run (first_piece run (b ∷ bs))).run (behind_it run (b ∷ bs)))
  where
    all : List ℕ
    all = b ∷ bs

    some : 0 < length all
    some = omega arith

    next : Run
    next = (step_of run (first_piece run all)).run

    go : (t : Bool) → is_accepted (step_of run (first_piece run all)).reply ≡ t
        → (length (behind_it run all) ≤ most → Keeps next
        → Answers next (behind_it run all) (take_rounds next (rounds_of next (behind_it run all))))
        → Answers run all (take_rounds run (rounds_of run all))
    go true e below =
        let ok = passed run (first_piece run all) e in
        let shorter = length-drop (round_length run.setup.n) all in
        let on = below (omega (arith, shorter, some_bytes run keeps, l)) (keeps_next run (first_piece run all) ok) in
        let a : Played = take_rounds next (rounds_of next (behind_it run all)) in
        subst (Answers run all) (sym (went_on run all keeps some e))
        (subst (λ (k : ℕ). Plays step_of run all a.run a.reply k) (sym (add-one a.rounds))
        (Plays.on keeps some
        (subst (StepReply run (first_piece run all)) (accepted_is _ e) (says run all keeps some)) on))
    go false e below =
        subst (Answers run all) (sym (stopped run all keeps some e))
        (Plays.refused keeps some (says run all keeps some) (λ a. refused_isn't _ e a))

none_at_most : HoldsTo 0
none_at_most run [] l keeps = nothing_left run keeps
none_at_most run (b ∷ bs) l keeps = absurd (omega (arith, l))

rounds_hold : (most : ℕ) → HoldsTo most
rounds_hold zero = none_at_most
rounds_hold (suc most) = one_piece_more most (rounds_hold most)

pub play_holds : (run : Run) (bs : List ℕ) → Answers run bs (play_of run bs)
play_holds run bs = go (sound run) refl
  where
    go : (t : Bool) → sound run ≡ t → Answers run bs (play_of run bs)
    go true e =
        subst (Answers run bs) (sym (play_good run bs e)) (rounds_hold (length bs) run bs (le_refl (length bs))
        ((sound_iff run).0 e))
    go false e =
        subst (Answers run bs) (sym (play_bad run bs e))
        (Plays.not_good (λ keeps. false≢true (sym e ∙ (sound_iff run).1 keeps)))

-- ---- and nothing else is
abbrev told : Run → Reply → ℕ → Played
told next r k = record { run = next; reply = r; rounds = k }

pub play_alone : (run : Run) (bs : List ℕ) (next : Run) (r : Reply) (k : ℕ) → Plays step_of run bs next r k
    → told next r k ≡ play_of run bs
play_alone run bs next r k (Plays.not_good bad) =
    sym (play_bad run bs (unless (sound run) (λ e. bad ((sound_iff run).0 e))))
play_alone run bs next r k (Plays.over keeps) = sym (play_none run ((sound_iff run).1 keeps))
play_alone run bs next r k (Plays.refused keeps some says refusal) =
    let is = is_said run bs keeps some r says in
    let f : is_accepted (step_of run (first_piece run bs)).reply ≡ false
    = unless (is_accepted (step_of run (first_piece run bs)).reply) (λ e. refusal (is ∙ accepted_is _ e)) in
    ap (ended run) is ∙ sym (play_good run bs ((sound_iff run).1 keeps) ∙ stopped run bs keeps some f)
play_alone run bs next r k (Plays.on {k = j} keeps some says rest) =
    let is = is_said run bs keeps some Accepted says in
    let e : is_accepted (step_of run (first_piece run bs)).reply ≡ true = ap is_accepted (sym is) in
    let after : Run = (step_of run (first_piece run bs)).run in
    let keeps_after = keeps_next run (first_piece run bs) (passed run (first_piece run bs) e) in
    let below = play_alone after (behind_it run bs) next r j rest in
    ap (told next r) (sym (add-one j)) ∙ ap (more 1) below
    ∙ sym
    (play_good run bs ((sound_iff run).1 keeps) ∙ went_on run bs keeps some e
    ∙ ap (more 1) (sym (play_good after (behind_it run bs) ((sound_iff after).1 keeps_after))))
