-- A sound run's image is accepted and spells that run: each of its records is read where it was written, and what the
-- checks ask is what the rules ask.
use mathlib.Core.Path.{◌≡◌, ap, sym, ◌∙◌}
use mathlib.Core.Logic.{◌↔◌}
use mathlib.Core.Bool.{true, false}
use mathlib.Core.List.{List, ◌++◌, append_assoc}
use Prim.Native.Nat.{ℕ, ◌<◌, ◌≤◌}
use native.Mathlib.Omega.{arith}
use lib.ListN.{length}
use Rattle.run.specs.declared.Run.{Run}
use Rattle.run.specs.declared.Station.{Station}
use Rattle.run.specs.declared.Opened.{Opened}
use Rattle.run.specs.declared.record.Record.{Record}
use Rattle.run.specs.Reply.{Reply}
use Rattle.run.specs.Reply.{Accepted}
use Rattle.run.specs.Kinds as kind
use Rattle.run.specs.Bytes.{IsBytes}
use Rattle.run.specs.Number.{base}
use Rattle.run.specs.Record.{record_at, bytes_of}
use Rattle.run.specs.Reply.{is_accepted}
use Rattle.run.specs.Run.{run_of, station_at, sound}
use Rattle.run.specs.Keeps.{Keeps}
use Rattle.run.specs.Machine.{Machine}
use Rattle.run.specs.Block.{plain, record_of}
use Rattle.run.specs.Opening.{setup_in, default_in, check_setup, unopened, head_bytes}
use Rattle.run.proofs.Records.{record_at_front, record_at_back, record_at_bytes_of, length_bytes_of}
use Rattle.run.proofs.Heads.{
  check_setup_accepted,
  default_fits_iff,
  length_head_bytes,
  setup_in_head,
  default_in_head,
  check_head_head,
  check_default_head,
}
use Rattle.run.proofs.Blocks.{is_plain_plain, plain_fits, maybe_flag, maybe_number}
use Rattle.run.proofs.Built.{built_same, built_whole}
use Rattle.run.proofs.Sound.{setup_iff, sound_iff, keeps_vote, keeps_decision}
use Rattle.run.proofs.Unique.{one_answer}
use Rattle.image.specs.Image.{
  clock_at,
  estimates_from,
  votes_from,
  decisions_from,
  rounds_from,
  clock_record,
  estimates_block,
  votes_block,
  decisions_block,
  rounds_block,
  blocks,
  blocks_bytes,
  image,
  check_save,
  saved,
  station_in,
  clock_in,
  run_in,
  check_rules,
  check_image,
  loaded,
}
use Rattle.image.proofs.Blocks.{Each, Holds, FitsBytes, blocks_hold, hold_checked}
use Rattle.image.proofs.Images.{
  upto_clock,
  image_is,
  length_clock,
  length_image,
  loaded_reply,
  load_kept,
  saving_accepted,
  saved_image,
}
use Rattle.image.proofs.Loaded.{
  Checked,
  form_checked,
  Ruled,
  rules_checked,
  loaded_sound,
  loaded_image,
  loaded_machine,
}

module _ (run : Run) (keeps : Keeps run) (machine : Machine run) where
  abbrev n : ℕ
  n = run.setup.n

  abbrev head : List ℕ
  head = head_bytes run.setup run.default

  abbrev after_head : List ℕ
  after_head = bytes_of (clock_record run.clock) ++ blocks_bytes blocks run

  split_head : image run ≡ head ++ after_head
  split_head = image_is run ∙ append_assoc head (bytes_of (clock_record run.clock)) (blocks_bytes blocks run)

  -- ---- each record is read where it was written
  set_up : check_setup run.setup ≡ Accepted
  set_up = (check_setup_accepted run.setup).1 ((setup_iff run.setup).1 keeps.setup)

  same_setup : setup_in (image run) ≡ run.setup
  same_setup = rw split_head (setup_in_head run.setup run.default after_head set_up machine.default)

  same_default : default_in (image run) ≡ run.default
  same_default = rw split_head (default_in_head run.setup run.default after_head set_up machine.default)

  clock_there : record_at (image run) clock_at ≡ clock_record run.clock
  clock_there =
      let there = clock_record run.clock in
      rw split_head
      (record_at_back head after_head clock_at 0 (length_head_bytes run.setup run.default)
      ∙ record_at_front (bytes_of there) (blocks_bytes blocks run) 0 (omega (arith, length_bytes_of there))
      ∙ record_at_bytes_of there
      (plain_fits kind.CLOCK 0 run.clock (omega arith) (omega arith) (omega (arith, keeps.clock))))

  same_clock : clock_in (image run) ≡ run.clock
  unfolding plain
  same_clock = ap (λ (r : Record). r.number) clock_there

  hold : Each (Holds run (image run)) n estimates_from blocks
  hold =
      let estimates : FitsBytes run estimates_from estimates_block = (omega arith, machine.estimates.below) in
      let votes : FitsBytes run (votes_from n) votes_block = (omega arith, machine.votes.below) in
      let decisions : FitsBytes run (decisions_from n) decisions_block = (omega arith, machine.decisions.below) in
      let rounds : FitsBytes run (rounds_from n) rounds_block = (omega arith, machine.rounds.below) in
      let most : n ≤ base = omega (arith, keeps.setup.n_to) in
      blocks_hold run most blocks (image run) (upto_clock run) estimates_from (image_is run) (length_clock run)
      (estimates, (votes, (decisions, (rounds, tt))))

  -- ---- the run is the one that the image spells
  same_station : (i : ℕ) → i < n → station_in (image run) i ≡ station_at run i
  unfolding record_of plain
  same_station i l =
      let (estimates, (votes, (decisions, (rounds, _)))) = hold in
      let p : Station = station_at run i in
      let kept = keeps.below i l in
      rw (
        same_setup,
        estimates i l,
        votes i l,
        decisions i l,
        rounds i l,
        maybe_flag kind.NO_VOTE kind.VOTE i p.voted p.vote (omega arith),
        maybe_number kind.NO_VOTE kind.VOTE i p.voted p.vote kept.beside_no_vote,
        maybe_flag kind.UNDECIDED kind.DECIDED i p.decided p.decision (omega arith),
        maybe_number kind.UNDECIDED kind.DECIDED i p.decided p.decision kept.beside_undecided,
      )

  rebuilt : run_of (setup_in (image run)) (default_in (image run)) (clock_in (image run)) (station_at run) ≡ run
  rebuilt = rw (same_setup, same_default, same_clock) (sym (built_whole run machine keeps.above))

  same_run : run_in (image run) ≡ run
  unfolding run_in
  same_run =
      let bs = image run in
      built_same (setup_in bs) (default_in bs) (clock_in bs) (setup_in bs).n (station_in bs) (station_at run)
      (λ i l. same_station i (rw same_setup at l))
      ∙ rebuilt

  -- ---- and the image is accepted
  checked : Checked (image run)
  checked =
      let tests = (setup_iff run.setup).1 keeps.setup in
      let fits = (default_fits_iff run.setup run.default tests.0).1 keeps.default in
      record {
        headed = rw split_head (check_head_head run.setup run.default after_head set_up machine.default);
        whole = rw same_setup (length_image run);
        default =
            rw split_head (check_default_head run.setup run.default after_head set_up machine.default fits);
        clock = rw clock_there (is_plain_plain kind.CLOCK 0 run.clock);
        blocks_fit = rw same_setup (hold_checked run (image run) estimates_from blocks hold);
      }

  ruled : Ruled run
  ruled =
      record {
        clock = keeps.clock;
        votes = λ i l. keeps_vote run.setup run.clock (station_at run i) (keeps.below i l);
        decisions = λ i l. keeps_decision run.setup run.clock (station_at run i) (keeps.below i l);
      }

  again : loaded (image run) ≡ record { reply = Accepted; run = run }
  again =
      let form = (form_checked (image run)).1 checked in
      let rules : check_rules (run_in (image run)) ≡ Accepted = rw same_run ((rules_checked run).1 ruled) in
      sym (load_kept (image run) form rules) ∙ rw same_run

-- ---- a good run that is saved loads as itself
pub image_again : (run : Run) → sound run ≡ true → Machine run
    → loaded (image run) ≡ record { reply = Accepted; run = run }
image_again run e machine = again run ((sound_iff run).0 e) machine

pub save_load : (run : Run) (buffer : List ℕ) → Machine run → check_save run (length buffer) ≡ Accepted
    → loaded (saved run buffer) ≡ record { reply = Accepted; run = run }
save_load run buffer machine e =
    let (keeps, fits) = (saving_accepted run (length buffer)).0 e in
    rw (saved_image run buffer keeps fits) (image_again run keeps machine)

-- bytes are accepted exactly if they are a sound run's image
pub loading_accepted : (bs : List ℕ) → IsBytes bs
    → (check_image bs ≡ Accepted) ↔ ((run : Run) × (sound run ≡ true) × Machine run × (bs ≡ image run))
loading_accepted bs bytes = (
  λ e. (run_in bs, loaded_sound bs e, loaded_machine bs e bytes, sym (loaded_image bs e bytes)),
  λ h. rw h.3 (sym (loaded_reply (image h.0)) ∙ ap (λ (o : Opened). o.reply) (image_again h.0 h.1 h.2)),
)

-- a refused image gives the idle run
pub refused_idle : (bs : List ℕ) → is_accepted (check_image bs) ≡ false → loaded bs ≡ unopened (check_image bs)
unfolding loaded
refused_idle bs e = rw e

-- ---- the promises leave one answer: loading
pub load_unique : (bs : List ℕ) (r r' : Opened) → r ≡ loaded bs → r' ≡ loaded bs → r ≡ r'
load_unique bs r r' p q = one_answer p q

-- and saving: the reply and the bytes
pub save_unique : (run : Run) (buffer : List ℕ) (r r' : Reply) (out out' : List ℕ)
    → (r ≡ check_save run (length buffer)) × (out ≡ saved run buffer)
    → (r' ≡ check_save run (length buffer)) × (out' ≡ saved run buffer) → (r ≡ r') × (out ≡ out')
save_unique run buffer r r' out out' p q = (one_answer p.0 q.0, one_answer p.1 q.1)
