-- What a host holds: the image of an accepted opening loads to the opened run, and each call of `judge_step` leaves an
-- image of the run that the round leaves, since a refused call writes nothing and an accepted one writes the next run's
-- image. By induction on the calls.
use mathlib.Core.Path.{◌≡◌, refl, ap, sym, ◌∙◌, subst}
use mathlib.Core.Bool.{false}
use mathlib.Core.List.{List, [], ◌∷◌, ◌++◌}
use Prim.Native.Nat.{ℕ, suc}
use native.Mathlib.Omega.{arith}
use Rattle.run.specs.declared.Run.{Run}
use Rattle.run.specs.declared.Opened.{Opened}
use Rattle.run.specs.Reply.{Reply}
use Rattle.run.specs.Reply.{Accepted}
use Rattle.run.specs.Bytes.{IsBytes}
use Rattle.run.specs.Keeps.{Keeps}
use Rattle.run.specs.Machine.{Machine}
use Rattle.run.specs.Opening.{check_opening, read_opening}
use Rattle.run.specs.Reply.{is_accepted}
use Rattle.run.proofs.Machines.{opened_machine}
use Rattle.run.proofs.Openings.{opened_sound, opened_at_starts}
use Rattle.run.proofs.Replies.{accepted_is}
use Rattle.run.proofs.Sound.{sound_iff}
use Rattle.image.specs.Image.{image, run_in, check_image, loaded}
use Rattle.image.proofs.Images.{loaded_reply}
use Rattle.image.proofs.Saved.{image_again}
use Rattle.judge.specs.Step.{check_step, step_of}
use Rattle.judge.proofs.Machines.{machine_after}
use Rattle.judge.proofs.Steps.{passed, reply_is, clock_next, keeps_next, refused_same}
use Rattle.switch.proofs.Calls.{loaded_in}
use Rattle.consensus.specs.RoundReplies.{StepReply}
use Rattle.consensus.specs.EntryAnswers.{OpenAnswer, StepAnswer}
use Rattle.consensus.specs.Offered.{to_step, run_then, run_after_all}
use Rattle.consensus.specs.Hosted.{Holds, to_steps, HostDemand}
use Rattle.consensus.proofs.Asking.{unless}
use Rattle.consensus.proofs.OpeningReplies.{opening_replies}
use Rattle.consensus.proofs.ImageReplies.{image_replies}
use Rattle.consensus.proofs.RoundReplies.{step_replies}
use Rattle.consensus.proofs.Demand3.{demand_3_checked}

-- ---- an image that stands for a run
record StandsFor (bytes : List ℕ) (run : Run) : Type 0 where
  loads : loaded bytes ≡ record { reply = Accepted; run = run }
  keeps : Keeps run
  machine : Machine run

image_stands : (run : Run) → Keeps run → Machine run → StandsFor (image run) run
image_stands run keeps machine =
    record { loads = image_again run ((sound_iff run).1 keeps) machine; keeps = keeps; machine = machine }

-- ---- an accepted opening
open_case : (opening buffer : List ℕ) (r : Reply) (out : List ℕ) → OpenAnswer read_opening opening buffer r out → r ≡ Accepted
    → (check_opening opening ≡ Accepted) × (out ≡ image (read_opening opening).run)
open_case opening buffer r out (OpenAnswer.refused says refusal) e = absurd (refusal e)
open_case opening buffer r out (OpenAnswer.no_room says h) e = let z : ◌≡◌ {A = ℕ} 0 1 = cc in absurd (omega arith)
open_case opening buffer r out (OpenAnswer.accepted says h) e =
    (sym ((opening_replies opening).alone Accepted says), refl)

opened_stands : (opening : List ℕ) → IsBytes opening → check_opening opening ≡ Accepted
    → StandsFor (image (read_opening opening).run) (read_opening opening).run
opened_stands opening bytes ok =
    image_stands (read_opening opening).run ((sound_iff (read_opening opening).run).0 (opened_sound opening ok))
    (opened_machine opening bytes)

-- ---- a call of `judge_step`
module _ (bytes round : List ℕ) (run : Run) (stands : StandsFor bytes run) (in_bytes : IsBytes round) where
  accepted_image : check_image bytes ≡ Accepted
  accepted_image = sym (loaded_reply bytes) ∙ ap (λ (o : Opened). o.reply) stands.loads

  same_run : run_in bytes ≡ run
  same_run = sym (loaded_in bytes accepted_image) ∙ ap (λ (o : Opened). o.run) stands.loads

  says_of : (r : Reply) → StepReply (run_in bytes) round r → (step_of run round).reply ≡ r
  says_of r says =
      reply_is run round ∙ ap (λ (x : Run). check_step x round) (sym same_run)
      ∙ sym ((step_replies (run_in bytes) round).alone r says)

  step_stands : (r : Reply) (next : List ℕ) → StepAnswer step_of bytes round r next → StandsFor next (step_of run round).run
  step_stands r next (StepAnswer.image_refused says refusal) =
      absurd (refusal ((image_replies bytes).alone r says ∙ accepted_image))
  step_stands r next (StepAnswer.round_refused ok says refusal) =
      let is = says_of r says in
      let f : is_accepted (step_of run round).reply ≡ false
      = unless (is_accepted (step_of run round).reply) (λ e. refusal (sym is ∙ accepted_is _ e)) in
      subst (StandsFor bytes) (sym (refused_same run round f)) stands
  step_stands r next (StepAnswer.accepted ok says) =
      let taken = passed run round (ap is_accepted (says_of Accepted says)) in
      let machine = machine_after run round stands.machine taken.room in_bytes in
      subst (λ (x : Run). StandsFor (image (step_of x round).run) (step_of run round).run) (sym same_run)
      (image_stands (step_of run round).run (keeps_next run round taken)
      (subst Machine (sym taken.next) machine))

-- ---- all calls
one_more : (rounds : List (List ℕ)) (run : Run) (round : List ℕ)
    → run_after_all run (to_steps (rounds ++ (round ∷ []))) ≡ (step_of (run_after_all run (to_steps rounds)) round).run
unfolding run_after_all
one_more [] run round = refl
one_more (r ∷ rs) run round = one_more rs (run_then run (to_step r)) round

-- a round that got 0 was accepted, and another was not
module _ (bytes round : List ℕ) (run : Run) (stands : StandsFor bytes run) (in_bytes : IsBytes round) where
  answered : (r : Reply) (next : List ℕ) → StepAnswer step_of bytes round r next → (step_of run round).reply ≡ r
  answered r next (StepAnswer.image_refused says refusal) =
      absurd (refusal ((image_replies bytes).alone r says ∙ accepted_image bytes round run stands in_bytes))
  answered r next (StepAnswer.round_refused ok says refusal) = says_of bytes round run stands in_bytes r says
  answered r next (StepAnswer.accepted ok says) = says_of bytes round run stands in_bytes Accepted says

-- the image stands for a run whose clock is k
record HoldsAt (bytes : List ℕ) (run : Run) (k : ℕ) : Type 0 where
  stands : StandsFor bytes run
  clock : run.clock ≡ k

module _ (opening : List ℕ) where
  opened_first : (rounds : List (List ℕ)) (k : ℕ) (bytes : List ℕ) → Holds opening rounds k bytes
      → check_opening opening ≡ Accepted
  opened_first rounds k bytes (Holds.opened {buffer = buffer} {image = out} answer) =
      (open_case opening buffer Accepted out answer refl).0
  opened_first rounds k bytes (Holds.taken {rounds = before} {k = j} {image = held} holds in_bytes answer) =
      opened_first before j held holds
  opened_first rounds k bytes (Holds.refused {rounds = before} {k = j} {image = held} holds in_bytes answer refusal) =
      opened_first before j held holds

  held_at : IsBytes opening → (rounds : List (List ℕ)) (k : ℕ) (bytes : List ℕ) → Holds opening rounds k bytes
      → HoldsAt bytes (run_after_all (read_opening opening).run (to_steps rounds)) k
  unfolding run_after_all
  held_at in_bytes rounds k bytes (Holds.opened {buffer = buffer} {image = out} answer) =
      let (ok, is) = open_case opening buffer Accepted out answer refl in
      record {
        stands = subst (λ (x : List ℕ). StandsFor x (read_opening opening).run) (sym is)
            (opened_stands opening in_bytes ok);
        clock = (opened_at_starts opening ok).clock;
      }
  held_at in_bytes rounds k bytes
      (Holds.taken {rounds = before} {k = j} {image = held} {round = round} {next = next} holds round_bytes answer) =
      let run : Run = run_after_all (read_opening opening).run (to_steps before) in
      let x = held_at in_bytes before j held holds in
      let same = sym (one_more before (read_opening opening).run round) in
      let is = answered held round run x.stands round_bytes Accepted next answer in
      let ok = passed run round (ap is_accepted is) in
      record {
        stands = subst (StandsFor next) same (step_stands held round run x.stands round_bytes Accepted next answer);
        clock = ap (λ (r : Run). r.clock) (sym same) ∙ clock_next run round ok ∙ ap suc x.clock;
      }
  held_at in_bytes rounds k bytes
      (Holds.refused {rounds = before} {k = j} {image = held} {round = round} {next = next} {r = r} holds round_bytes answer
      refusal) =
      let run : Run = run_after_all (read_opening opening).run (to_steps before) in
      let x = held_at in_bytes before j held holds in
      let same = sym (one_more before (read_opening opening).run round) in
      let is = answered held round run x.stands round_bytes r next answer in
      let f : is_accepted (step_of run round).reply ≡ false
      = unless (is_accepted (step_of run round).reply) (λ e. refusal (sym is ∙ accepted_is _ e)) in
      record {
        stands = subst (StandsFor next) same (step_stands held round run x.stands round_bytes r next answer);
        clock = ap (λ (r : Run). r.clock) (sym same ∙ refused_same run round f) ∙ x.clock;
      }

-- what a host holds after an accepted opening and any calls, refused ones among them
pub host_holds : HostDemand
host_holds opening in_bytes rounds k bytes holds =
    let at = held_at opening in_bytes rounds k bytes holds in
    let demand = demand_3_checked opening (opened_first opening rounds k bytes holds) (to_steps rounds) in
    record {
      loads = at.stands.loads;
      count = sym demand.in_hand.clock ∙ at.clock;
      demand = demand;
    }
