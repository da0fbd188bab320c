-- An accepted image: its run is sound, since what the checks asked is what the rules ask; and saved again it gives the
-- same bytes, since each part of the image is the records that were read from there.
use mathlib.Core.Path.{◌≡◌, refl, ap, sym, ◌∙◌}
use mathlib.Core.Logic.{◌↔◌}
use mathlib.Core.Bool.{Bool, true, false, not}
use mathlib.Core.List.{List, [], ◌∷◌}
use Prim.Native.Nat.{ℕ, ◌+◌, ◌<◌, ◌≤◌}
use native.Mathlib.Omega.{arith}
use borrow.Author.Tests.{eqb-true, leb-true, eq-eqb, le-leb, not-false}
use lib.ListN.{length}
use lib.Dec.{eqb, leb}
use Rattle.run.specs.declared.Run.{Run}
use Rattle.run.specs.declared.Station.{Station}
use Rattle.run.specs.declared.record.Record.{Record}
use Rattle.run.specs.declared.block.Shape.{Shape}
use Rattle.run.specs.declared.block.Shape.TheVariants.{Maybe}
use Rattle.run.specs.Reply.{Accepted, Length, Malformed, Rules}
use Rattle.run.specs.Kinds as kind
use Rattle.run.specs.Bytes.{IsBytes}
use Rattle.run.specs.Record.{record_at, bytes_of}
use Rattle.run.specs.First.{first}
use Rattle.run.specs.Reply.{or_refuse}
use Rattle.run.specs.Run.{stations, most_rounds, station_at, vote_fits, decision_fits, station_fits, sound}
use Rattle.run.specs.Keeps.{StationKeeps}
use Rattle.run.specs.Machine.{Machine}
use Rattle.run.specs.Block.{plain, is_plain, record_of, check_block}
use Rattle.run.specs.Opening.{default_at, setup_in, default_in, check_head, check_default}
use Rattle.run.proofs.Records.{record_at_fits}
use Rattle.run.proofs.First.{first_none}
use Rattle.run.proofs.Replies.{then_accepted, or_refuse_accepted, refuse_at_accepted}
use Rattle.run.proofs.Heads.{
  check_setup_accepted,
  check_head_accepted,
  check_default_accepted,
  default_fits_iff,
  head_again,
}
use Rattle.run.proofs.Blocks.{plain_is, fits_at, check_block_accepted, number_record, maybe_record}
use Rattle.run.proofs.Written.{written_more, written_record_at}
use Rattle.run.proofs.Built.{built_below, built_machine, built_keeps}
use Rattle.run.proofs.Sound.{setup_iff, sound_iff, station_keeps, keeps_beside}
use Rattle.image.specs.Image.{
  clock_at,
  estimates_from,
  votes_from,
  decisions_from,
  rounds_from,
  image_length,
  clock_record,
  Block,
  estimates_block,
  votes_block,
  decisions_block,
  rounds_block,
  blocks,
  image,
  saved,
  station_in,
  clock_in,
  run_in,
  check_blocks,
  check_form,
  check_votes,
  check_decisions,
  check_rules,
  check_image,
}
use Rattle.image.proofs.Blocks.{Each, Holds, blocks_checked, hold_written}
use Rattle.image.proofs.Images.{
  check_records_is,
  check_form_is,
  check_rules_is,
  image_is,
  saved_image,
  form_stations,
}

-- ---- what is accepted passed each check
pub record Checked (bs : List ℕ) : Type 0 where
  pub headed : check_head bs ≡ Accepted
  pub whole : length bs ≡ image_length (setup_in bs).n
  pub default : check_default bs ≡ Accepted
  pub clock : is_plain kind.CLOCK 0 (record_at bs clock_at) ≡ true
  pub blocks_fit : check_blocks bs estimates_from (setup_in bs).n blocks ≡ Accepted

pub form_checked : (bs : List ℕ) → (check_form bs ≡ Accepted) ↔ Checked bs
form_checked bs = (there, back)
  where
    there : check_form bs ≡ Accepted → Checked bs
    there e =
        let fits = eqb (length bs) (image_length (setup_in bs).n) in
        let (headed, sized) = then_accepted (check_head bs) _ (rw check_form_is at e) in
        let (whole, defaulted) = then_accepted (or_refuse fits Length) _ sized in
        let (default, records) = then_accepted (check_default bs) _ defaulted in
        let clocked = or_refuse (is_plain kind.CLOCK 0 (record_at bs clock_at)) (Malformed clock_at) in
        let (clock, blocks_fit) = then_accepted clocked _ (rw check_records_is at records) in
        record {
          headed = headed;
          whole = eqb-true _ _ (or_refuse_accepted _ Length refl whole);
          default = default;
          clock = or_refuse_accepted _ (Malformed clock_at) refl clock;
          blocks_fit = blocks_fit;
        }

    back : Checked bs → check_form bs ≡ Accepted
    back h =
        let whole = eq-eqb _ _ h.whole in
        rw (check_form_is, h.headed, whole, h.default, check_records_is, h.clock) h.blocks_fit

-- the rules that the records alone don't give
pub record Ruled (run : Run) : Type 0 where
  pub clock : run.clock ≤ most_rounds
  pub votes : (i : ℕ) → i < run.setup.n → vote_fits run.setup run.clock (station_at run i).voted ≡ true
  pub decisions : (i : ℕ) → i < run.setup.n
      → decision_fits run.setup run.clock (station_at run i).decided (station_at run i).round ≡ true

module _ (run : Run) where
  abbrev vote_fails : ℕ → Bool
  vote_fails i = not (vote_fits run.setup run.clock (station_at run i).voted)

  abbrev decision_fails : ℕ → Bool
  decision_fails i = not (decision_fits run.setup run.clock (station_at run i).decided (station_at run i).round)

  accepted_ruled : check_rules run ≡ Accepted → Ruled run
  unfolding check_votes check_decisions
  accepted_ruled e =
      let n = run.setup.n in
      let timely = or_refuse (leb run.clock most_rounds) (Rules clock_at) in
      let (clock, rest) = then_accepted timely _ (rw check_rules_is at e) in
      let (votes, decisions) = then_accepted (check_votes run.setup run.clock run.voted) _ rest in
      let no_vote = refuse_at_accepted (first n vote_fails) (λ i. Rules (votes_from n + i)) (λ i. refl) votes in
      let no_decision
      = refuse_at_accepted (first n decision_fails) (λ i. Rules (rounds_from n + i)) (λ i. refl) decisions in
      record {
        clock = leb-true _ _ (or_refuse_accepted _ (Rules clock_at) refl clock);
        votes = λ i l. not-false _ ((first_none vote_fails n).0 no_vote i l);
        decisions = λ i l. not-false _ ((first_none decision_fails n).0 no_decision i l);
      }

  ruled_accepted : Ruled run → check_rules run ≡ Accepted
  unfolding check_votes check_decisions
  ruled_accepted h =
      let n = run.setup.n in
      rw (
        check_rules_is,
        le-leb _ _ h.clock,
        (first_none vote_fails n).1 (λ i l. ap not (h.votes i l)),
        (first_none decision_fails n).1 (λ i l. ap not (h.decisions i l)),
      )

  pub rules_checked : (check_rules run ≡ Accepted) ↔ Ruled run
  rules_checked = (accepted_ruled, ruled_accepted)

-- a record without a number has none
number_beside : (without given i : ℕ) (r : Record)
    → r ≡ record_of (Maybe without given) i (eqb r.kind given) r.number → eqb r.kind given ≡ false
    → r.number ≡ 0
unfolding record_of plain
number_beside without given i r is none =
    ap (λ (s : Record). s.number) is ∙ ap (λ (b : Bool). (record_of (Maybe without given) i b r.number).number) none

-- ---- the run of an accepted image
module _ (bs : List ℕ) (e : check_image bs ≡ Accepted) where
  abbrev n : ℕ
  n = (setup_in bs).n

  checked : Checked bs
  unfolding check_image
  checked = (form_checked bs).0 (then_accepted (check_form bs) _ e).0

  ruled : Ruled (run_in bs)
  unfolding check_image
  ruled = (rules_checked (run_in bs)).0 (then_accepted (check_form bs) _ e).1

  most : n ≤ stations
  most = form_stations bs ((form_checked bs).1 checked)

  pub spelt : (i : ℕ) → i < n → station_at (run_in bs) i ≡ station_in bs i
  unfolding run_in
  spelt i l = built_below (setup_in bs) (default_in bs) (clock_in bs) n (station_in bs) i (omega (arith, most)) l

  -- each record is the one that is written of what it tells of its station
  abbrev pub TellsStation : ℕ → Block → Type 0
  TellsStation start b =
      (i : ℕ) → i < n
      → record_at bs (start + i) ≡ record_of b.shape i (b.there (station_in bs i)) (b.number (station_in bs i))

  fit : (start : ℕ) (shape : Shape) → check_block bs start n shape ≡ Accepted
      → (i : ℕ) → i < n → fits_at bs start shape i ≡ true
  fit start shape = (check_block_accepted bs start n shape).0

  pub spells : Each TellsStation n estimates_from blocks
  spells =
      let all = (blocks_checked bs n estimates_from blocks).0 checked.blocks_fit in
      let (estimates, (votes, (decisions, (rounds, _)))) = all in
      let estimate : TellsStation estimates_from estimates_block
      = λ i l. number_record kind.ESTIMATE i false _ (fit estimates_from _ estimates i l) in
      let vote : TellsStation (votes_from n) votes_block
      = λ i l. maybe_record kind.NO_VOTE kind.VOTE i _ (fit (votes_from n) _ votes i l) in
      let decision : TellsStation (decisions_from n) decisions_block
      = λ i l. maybe_record kind.UNDECIDED kind.DECIDED i _ (fit (decisions_from n) _ decisions i l) in
      let round : TellsStation (rounds_from n) rounds_block
      = λ i l. number_record kind.DECISION_ROUND i false _ (fit (rounds_from n) _ rounds i l) in
      (estimate, (vote, (decision, (round, tt))))

  -- a station's entries keep the rules
  station : (i : ℕ) → i < n → StationKeeps (setup_in bs) (clock_in bs) (station_in bs i)
  unfolding run_in station_fits
  station i l =
      let s = setup_in bs in
      let clock : ℕ = clock_in bs in
      let p : Station = station_in bs i in
      let vote : vote_fits s clock p.voted ≡ true
      = ap (λ (q : Station). vote_fits s clock q.voted) (sym (spelt i l)) ∙ ruled.votes i l in
      let decision : decision_fits s clock p.decided p.round ≡ true
      = ap (λ (q : Station). decision_fits s clock q.decided q.round) (sym (spelt i l)) ∙ ruled.decisions i l in
      station_keeps s clock p
      (rw (
        vote,
        decision,
        keeps_beside (number_beside kind.NO_VOTE kind.VOTE i _ (spells.1.0 i l)),
        keeps_beside (number_beside kind.UNDECIDED kind.DECIDED i _ (spells.1.1.0 i l)),
      ))

  pub loaded_sound : sound (run_in bs) ≡ true
  unfolding run_in
  loaded_sound =
      let tests = (check_setup_accepted (setup_in bs)).0 ((check_head_accepted bs).0 checked.headed).2 in
      let (_, fits) = (check_default_accepted bs).0 checked.default in
      let setup = (setup_iff (setup_in bs)).0 tests in
      let default = (default_fits_iff (setup_in bs) (default_in bs) tests.0).0 fits in
      (sound_iff (run_in bs)).1
      (built_keeps (setup_in bs) (default_in bs) (clock_in bs) (station_in bs) setup default ruled.clock station)

  -- its bytes are those of the run's image
  hold : (start : ℕ) (rest : List Block) → Each TellsStation n start rest → Each (Holds (run_in bs) bs) n start rest
  unfolding run_in
  hold start [] h = tt
  hold start (b ∷ rest) h = (λ i l. rw (spelt i l) (h.0 i l), hold (start + n) rest h.1)

  pub loaded_image : IsBytes bs → image (run_in bs) ≡ bs
  unfolding run_in
  loaded_image bytes =
      let is = ((check_head_accepted bs).0 checked.headed).1 in
      let there = ((check_default_accepted bs).0 checked.default).0 in
      let clock : bytes_of (clock_record (clock_in bs)) ≡ bytes_of (record_at bs clock_at)
      = ap bytes_of (sym (plain_is kind.CLOCK 0 (record_at bs clock_at) checked.clock)) in
      rw (image_is (run_in bs), head_again bs is there, clock, ← written_more clock_at (record_at bs))
      (hold_written (run_in bs) bs estimates_from blocks (hold estimates_from blocks spells)
      ∙ written_record_at (rounds_from n + n) bytes (checked.whole ∙ omega arith))

  -- and saved into a buffer of that length it gives them again
  pub load_save : IsBytes bs → (buffer : List ℕ) → length buffer ≡ length bs → saved (run_in bs) buffer ≡ bs
  unfolding run_in
  load_save bytes buffer long = saved_image (run_in bs) buffer loaded_sound (long ∙ checked.whole) ∙ loaded_image bytes

  -- what the code holds of it fits
  pub loaded_machine : IsBytes bs → Machine (run_in bs)
  unfolding run_in
  loaded_machine bytes =
      built_machine (setup_in bs) (default_in bs) (clock_in bs) n (station_in bs)
      (record_at_fits default_at bytes).number
      (λ i l.
      record {
        estimate = (record_at_fits (estimates_from + i) bytes).number;
        vote = (record_at_fits (votes_from n + i) bytes).number;
        decision = (record_at_fits (decisions_from n + i) bytes).number;
        round = (record_at_fits (rounds_from n + i) bytes).number;
      })
