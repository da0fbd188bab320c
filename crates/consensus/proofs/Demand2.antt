-- This judge meets demand 2: a round is accepted in one case of the relation of replies, and the answer is then made of
-- the paper's stations, firings and sets.
use mathlib.Core.Path.{◌≡◌, refl, ap, sym, ◌∙◌, subst}
use mathlib.Core.Bool.{true, false, false≢true}
use mathlib.Core.List.{List}
use Rattle.std.specs.Prelude.{Option, None, Some}
use mathlib.Core.Logic.{◌↔◌}
use Prim.Native.Nat.{ℕ, ◌≤◌}
use native.Mathlib.Numerals.{add-one}
use native.Mathlib.Omega.{arith}
use lib.ListN.{length, get_or}
use Rattle.paper.specs.Stations.{one}
use Rattle.paper.specs.Heard as heard
use Rattle.paper.specs.Setup as setup
use Rattle.paper.specs.Rules as rules
use Rattle.paper.specs.Run as paper
use Rattle.paper.proofs.Pins.{fired_iff}
use Rattle.run.specs.declared.Run.{Run}
use Rattle.run.specs.Reply.{Accepted}
use Rattle.run.specs.Keeps.{Keeps}
use Rattle.run.specs.Machine.{Machine}
use Rattle.run.specs.Opening.{check_opening, read_opening}
use Rattle.run.specs.Opens.{Acceptable, AtStarts}
use Rattle.run.specs.Reply.{is_accepted}
use Rattle.run.specs.Run.{stations}
use Rattle.run.proofs.Filled.{length_filled}
use Rattle.run.proofs.Machines.{opened_machine}
use Rattle.run.proofs.Openings.{opening_accepted, opened_reply, opened_at_starts, opened_sound}
use Rattle.run.proofs.Replies.{accepted_is}
use Rattle.run.proofs.Sound.{sound_iff}
use Rattle.image.specs.Image.{image_length, saved, loaded}
use Rattle.image.proofs.Images.{saving_accepted}
use Rattle.image.proofs.Saved.{save_load}
use Rattle.round.specs.Bridge.{heard_in, station, kind_next, sent_next, paper_setup}
use Rattle.round.specs.Reading.{check_reading}
use Rattle.round.proofs.Readings.{few_stations, reading_accepted}
use Rattle.hearing.specs.Masks.{mask}
use Rattle.hearing.specs.Survey.{ho_sets, sho_sets, survey_of}
use Rattle.hearing.specs.Tally.{is_there, value_or_0}
use Rattle.judge.specs.declared.Stepped.{Stepped}
use Rattle.judge.specs.Step.{stepped, step_of, station_after, fired_at}
use Rattle.judge.proofs.Machines.{machine_after}
use Rattle.judge.proofs.Stations.{station_next}
use Rattle.judge.proofs.Steps.{
  reply_is,
  step_checked,
  step_accepted,
  Passed,
  passed,
  setup_same,
  default_same,
  clock_next,
  keeps_next,
}
use Rattle.consensus.specs.Judge.{ours}
use Rattle.consensus.specs.Round.{round_by_paper, Ready, WellFormed}
use Rattle.consensus.specs.RoundReplies.{StepReply}
use Rattle.consensus.specs.Demand2.{SetsOf, Follows, Demand2}
use Rattle.consensus.proofs.RoundReplies.{kind_is, sent_is, step_replies, accepted_case}
use Rattle.consensus.proofs.Spelled.{opening_spelled, opening_written, image_loaded, image_saved}
use Rattle.consensus.proofs.Spelled.{round_read, round_written_as}
use Rattle.consensus.proofs.Tape.{tape_same}
use Rattle.consensus.proofs.Outside.{
  filled_everywhere,
  masks_everywhere,
  lost_fired,
  no_receiver,
  no_sender,
  lost_ho,
  lost_sho,
}

-- a firing, as the arrays tell it
there_iff : (o : Option ℕ) (v : ℕ) → ((is_there o ≡ true) × (value_or_0 o ≡ v)) ↔ (o ≡ Some v)
there_iff None v = (λ h. absurd (false≢true h.0), λ e. let z : ◌≡◌ {A = ℕ} 0 1 = cc in absurd (omega arith))
there_iff (Some w) v = (λ h. ap Some h.1, λ e. (refl, cc))

nothing_there : (o : Option ℕ) → is_there o ≡ false → value_or_0 o ≡ 0
nothing_there None e = refl
nothing_there (Some w) e = absurd (false≢true (sym e))

module _ (run : Run) (bs : List ℕ) where
  abbrev n : ℕ
  n = run.setup.n

  abbrev S : setup.Setup
  S = paper_setup run

  abbrev turn : paper.Turn
  turn = round_by_paper run bs

  abbrev row : ℕ → heard.Row
  row = heard_in n bs

  -- the code counts the next round by + 1, the paper by suc
  after_is : (p : ℕ) → station_after run bs p ≡ turn.after p
  unfolding station_after round_by_paper
  after_is p = ap (λ (r : ℕ). rules.after S run.default r (station run p) (row p)) (add-one run.clock)

  -- ---- when a round is accepted
  said : StepReply run bs (step_of run bs).reply
  said = subst (StepReply run bs) (sym (reply_is run bs)) (step_replies run bs).holds

  step_accepts : Ready run
      → (is_accepted (step_of run bs).reply ≡ true) ↔ (WellFormed run bs × paper.Safe S turn)
  step_accepts ready = (
    λ e.
        let (ready, formed, safe) = accepted_case (step_of run bs).reply said (accepted_is (step_of run bs).reply e) in
        (formed, safe),
    λ want.
        ap is_accepted
        (reply_is run bs ∙ sym ((step_replies run bs).alone Accepted (StepReply.accepted ready want.0 want.1))),
  )

  -- ---- the sets of a round
  sets_of_round : n ≤ stations → SetsOf run bs (ho_sets n bs) (sho_sets run n bs)
  unfolding ho_sets sho_sets round_by_paper
  sets_of_round few =
      record {
        heard_of =
            masks_everywhere n (λ r. heard.HO (row r)) few
            (λ r h j. lost_ho (row r) j (no_receiver n bs r h j)) (λ r j h. lost_ho (row r) j (no_sender n bs r j h));
        safely =
            λ p q.
            masks_everywhere n (λ r. heard.SHO (row r) (sent_next run)) few
            (λ r h j. lost_sho (row r) j (no_receiver n bs r h j) (sent_next run))
            (λ r j h. lost_sho (row r) j (no_sender n bs r j h) (sent_next run)) p q
            ∙ ap (λ (sent : ℕ → heard.Message). one (heard.SHO (row p) sent q)) (sent_is run bs);
        places = (
          length_filled stations n (λ p. mask n (heard.HO (row p))) 0,
          length_filled stations n (λ p. mask n (heard.SHO (row p) (sent_next run))) 0,
        );
      }

  survey_sets : is_accepted (survey_of run bs).reply ≡ true
      → SetsOf run bs (survey_of run bs).ho (survey_of run bs).sho
  unfolding survey_of
  survey_sets e =
      let good = ((reading_accepted run bs).0 (accepted_is (check_reading run bs) e)).0 in
      rw e (sets_of_round (few_stations run good))

  -- ---- an accepted round
  module _ (e : is_accepted (step_of run bs).reply ≡ true) where
    ok : Passed run bs
    ok = passed run bs e

    answer_is : step_of run bs ≡ stepped run bs
    answer_is = step_accepted run bs (step_checked run bs e)

    few_enough : n ≤ stations
    few_enough = ok.keeps.setup.n_to

    -- what is in place p of the answer's arrays: below n from the row's own, and from n up a row with nothing in it
    unfired_above : (p : ℕ) → n ≤ p → fired_at run bs p ≡ None
    unfolding fired_at
    unfired_above p h = lost_fired S (kind_next run) (row p) (no_receiver n bs p h)

    fired_there : (p : ℕ) → get_or (step_of run bs).fired p None ≡ fired_at run bs p
    unfolding stepped
    fired_there p =
        ap (λ (s : Stepped). get_or s.fired p None) answer_is
        ∙ filled_everywhere n (fired_at run bs) None few_enough unfired_above p

    array_whole : length (step_of run bs).fired ≡ stations
    unfolding stepped
    array_whole = ap (λ (s : Stepped). length s.fired) answer_is ∙ length_filled stations n (fired_at run bs) None

    sets_as : SetsOf run bs (step_of run bs).ho (step_of run bs).sho
    unfolding stepped
    sets_as =
        subst (λ (s : Stepped). SetsOf run bs s.ho s.sho) (sym answer_is) (sets_of_round few_enough)

    -- what the law about the one value that fires asks of the setup
    one_fires : setup.acceptable S ≡ true
    one_fires = ok.keeps.setup.inequalities

    fired_names : (p v : ℕ) → (fired_at run bs p ≡ Some v) ↔ paper.FiresAt S turn p v
    unfolding fired_at paper.FiresAt round_by_paper
    fired_names p v =
        subst (λ (k : rules.Kind). (fired_at run bs p ≡ Some v) ↔ rules.Fires S k (row p) v) (kind_is run bs)
        (fired_iff S one_fires (kind_next run) (row p) v)

    fires_iff_rule : (p v : ℕ) → (get_or (step_of run bs).fired p None ≡ Some v) ↔ paper.FiresAt S turn p v
    fires_iff_rule p v = (
      λ f. (fired_names p v).0 (sym (fired_there p) ∙ f),
      λ f. fired_there p ∙ (fired_names p v).1 f,
    )

    step_follows : Follows run bs (step_of run bs)
    unfolding round_by_paper
    step_follows =
        record {
          each_station =
              λ p h. ap (λ (r : Run). station r p) ok.next ∙ station_next run bs p few_enough h ∙ after_is p;
          setup = setup_same run bs ok;
          default = default_same run bs ok;
          clock = clock_next run bs ok;
          keeps_still = keeps_next run bs ok;
          machine_still =
              λ machine bytes.
              subst Machine (sym ok.next) (machine_after run bs machine ok.room bytes);
          fires = fires_iff_rule;
          places = array_whole;
          sets = sets_as;
        }

-- ---- openings
module _ (bs : List ℕ) where
  opening_checked : is_accepted (read_opening bs).reply ≡ true → check_opening bs ≡ Accepted
  opening_checked e = sym (opened_reply bs) ∙ accepted_is (read_opening bs).reply e

  opens : (is_accepted (read_opening bs).reply ≡ true) ↔ Acceptable bs
  opens = (
    λ e. (opening_accepted bs).0 (opening_checked e),
    λ a. ap is_accepted (opened_reply bs ∙ (opening_accepted bs).1 a),
  )

  at_starts : is_accepted (read_opening bs).reply ≡ true
      → AtStarts bs (read_opening bs).run × Keeps (read_opening bs).run
  at_starts e =
      let ok = opening_checked e in
      (opened_at_starts bs ok, (sound_iff (read_opening bs).run).0 (opened_sound bs ok))

-- ---- a run, saved and loaded
saves : (run : Run) (buffer : List ℕ) → Keeps run → Machine run → length buffer ≡ image_length run.setup.n
    → loaded (saved run buffer) ≡ record { reply = Accepted; run = run }
saves run buffer keeps machine long =
    save_load run buffer machine ((saving_accepted run (length buffer)).1 ((sound_iff run).1 keeps, long))

-- demand 2, of this judge
pub demand_2 : Demand2 ours
unfolding ours
demand_2 =
    record {
      opens = opens;
      at_starts = at_starts;
      opening_of = λ bs bytes e. (opening_spelled bs bytes e, opened_machine bs bytes);
      accepts = step_accepts;
      follows = step_follows;
      round_of = round_read;
      surveys = survey_sets;
      image_of = image_loaded;
      writes_opening =
          λ s d starts buffer fits words e. opening_written s d starts buffer fits words (accepted_is _ e);
      writes_round = λ run m buffer holds e. round_written_as run m buffer holds (accepted_is _ e);
      writes_image = λ run buffer machine e. image_saved run buffer machine (accepted_is _ e);
      tapes = tape_same;
      saves = saves;
    }
