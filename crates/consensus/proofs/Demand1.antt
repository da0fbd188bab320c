-- This judge meets demand 1: each call's reply is its checks', which answer their relation and nothing else, and what is
-- refused is built of nothing or left alone.
use mathlib.Core.Path.{◌≡◌, refl, ap, sym, ◌∙◌, subst}
use mathlib.Core.Bool.{Bool, true, false, cond, false≢true}
use mathlib.Core.List.{List}
use Prim.Native.Nat.{ℕ}
use lib.ListN.{length, replicate}
use Rattle.run.specs.declared.Run.{Run}
use Rattle.run.specs.Reply.{Reply}
use Rattle.run.specs.declared.Opened.{Opened}
use Rattle.run.specs.Opening.{check_opening, unopened, read_opening}
use Rattle.run.specs.Reply.{is_accepted}
use Rattle.run.specs.Run.{stations, idle}
use Rattle.run.proofs.Openings.{opened_reply, refused_idle, wrote_nothing}
use Rattle.image.specs.Image.{check_save, saved, check_image, loaded}
use Rattle.image.proofs.Images.{saved_is, loaded_reply}
use Rattle.image.proofs.Saved as images
use Rattle.round.specs.declared.Reading.{Reading}
use Rattle.round.specs.Reading.{check_reading, all_lost, read_round}
use Rattle.round.proofs.Readings.{reading_reply, reading_refused}
use Rattle.writing.proofs.Writings.{writing_refused}
use Rattle.hearing.specs.Survey.{survey_of}
use Rattle.judge.specs.Step.{check_step, stepped, unstepped, step_of}
use Rattle.judge.proofs.Steps.{reply_is}
use Rattle.consensus.specs.Judge.{ours}
use Rattle.consensus.specs.RoundReplies.{StepReply, ReadReply}
use Rattle.consensus.specs.OpeningReplies.{OpeningReply}
use Rattle.consensus.specs.ImageReplies.{ImageReply}
use Rattle.consensus.specs.Demand1.{Leaves, Demand1}
use Rattle.consensus.proofs.RoundReplies.{step_replies, read_replies}
use Rattle.consensus.proofs.OpeningReplies.{opening_replies, write_opening_replies}
use Rattle.consensus.proofs.ImageReplies.{image_replies, save_replies}
use Rattle.consensus.proofs.WritingReplies.{write_round_replies}
use Rattle.consensus.proofs.PlayAnswers.{play_holds}
use Rattle.consensus.proofs.EntryAnswers.{open_holds, step_holds}

-- ---- a refused round: the run and arrays of nothing
step_leaves : (run : Run) (bs : List ℕ) → is_accepted (step_of run bs).reply ≡ false → Leaves run (step_of run bs)
unfolding step_of stepped
step_leaves run bs = go (is_accepted (check_step run bs))
  where
    nothing : (r : Reply) → Leaves run (unstepped r run)
    nothing r =
        record {
          same_run = refl;
          fired = refl;
          ho = refl;
          sho = refl;
        }

    go : (b : Bool) → is_accepted (cond b (stepped run bs) (unstepped (check_step run bs) run)).reply ≡ false
        → Leaves run (cond b (stepped run bs) (unstepped (check_step run bs) run))
    go true e = absurd (false≢true (sym e))
    go false e = nothing (check_step run bs)

-- ---- a refused opening and a refused image: the idle run
unopened_idle : (r : Reply) → (unopened r).run ≡ idle
unfolding unopened
unopened_idle r = refl

open_idles : (bs : List ℕ) → is_accepted (read_opening bs).reply ≡ false → (read_opening bs).run ≡ idle
open_idles bs f =
    ap (λ (o : Opened). o.run) (refused_idle bs (sym (ap is_accepted (opened_reply bs)) ∙ f))
    ∙ unopened_idle (check_opening bs)

load_idles : (bs : List ℕ) → is_accepted (loaded bs).reply ≡ false → (loaded bs).run ≡ idle
load_idles bs f =
    ap (λ (o : Opened). o.run) (images.refused_idle bs (sym (ap is_accepted (loaded_reply bs)) ∙ f))
    ∙ unopened_idle (check_image bs)

-- ---- a refused reading, and a refused survey
read_says : (run : Run) (bs : List ℕ) → (read_round run bs).reply ≡ check_reading run bs
read_says run bs = reading_reply run bs refl

read_loses : (run : Run) (bs : List ℕ) → is_accepted (read_round run bs).reply ≡ false
    → (read_round run bs).matrix ≡ all_lost
read_loses run bs f =
    ap (λ (r : Reading). r.matrix)
    (sym (reading_refused run bs refl (sym (ap is_accepted (read_says run bs)) ∙ f)))

survey_says : (run : Run) (bs : List ℕ) → (survey_of run bs).reply ≡ check_reading run bs
unfolding survey_of
survey_says run bs = refl

survey_empties : (run : Run) (bs : List ℕ) → is_accepted (survey_of run bs).reply ≡ false
    → ((survey_of run bs).ho ≡ replicate stations 0) × ((survey_of run bs).sho ≡ replicate stations 0)
unfolding survey_of
survey_empties run bs f = (rw f, rw f)

-- ---- a buffer that is left alone
save_leaves : (run : Run) (buffer : List ℕ) → is_accepted (check_save run (length buffer)) ≡ false
    → saved run buffer ≡ buffer
save_leaves run buffer f = saved_is run buffer ∙ rw f

-- demand 1, of this judge
pub demand_1 : Demand1 ours
unfolding ours
demand_1 =
    record {
      open_says = λ bs. subst (OpeningReply bs) (sym (opened_reply bs)) (opening_replies bs).holds;
      write_opening_says = λ s d starts buffer. (write_opening_replies s d starts (length buffer)).holds;
      load_says = λ bs. subst (ImageReply bs) (sym (loaded_reply bs)) (image_replies bs).holds;
      save_says = λ run buffer. (save_replies run (length buffer)).holds;
      read_says = λ run bs. subst (ReadReply run bs) (sym (read_says run bs)) (read_replies run bs).holds;
      survey_says = λ run bs. subst (ReadReply run bs) (sym (survey_says run bs)) (read_replies run bs).holds;
      write_round_says = λ run m buffer. (write_round_replies run m (length buffer)).holds;
      step_says = λ run bs. subst (StepReply run bs) (sym (reply_is run bs)) (step_replies run bs).holds;
      play_says = play_holds;
      judge_open_says = open_holds;
      judge_step_says = step_holds;
      step_leaves = step_leaves;
      open_idles = open_idles;
      load_idles = load_idles;
      read_loses = read_loses;
      survey_empties = survey_empties;
      write_opening_leaves = λ s d starts buffer f. sym (wrote_nothing s d starts buffer f);
      save_leaves = save_leaves;
      write_round_leaves = λ run m buffer f. sym (writing_refused run m buffer f);
    }
