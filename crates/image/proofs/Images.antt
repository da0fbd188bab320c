-- Saving and loading, step by step as the code goes: a buffer of the image's length is the image once every part is put
-- in place, and the first check that refuses gives the answer.
use mathlib.Core.Path.{◌≡◌, refl, sym, ◌∙◌}
use mathlib.Core.Logic.{◌↔◌}
use mathlib.Core.Bool.{true, false, cond}
use mathlib.Core.List.{List, ◌++◌}
use Prim.Native.Nat.{ℕ, ◌*◌, ◌≤◌}
use native.Mathlib.Omega.{arith}
use borrow.Author.Tests.{eq-eqb, ne_eqb, eqb-true}
use lib.ListN.{length, drop, length-append, length-drop}
use lib.Dec.{eqb, leb}
use Rattle.run.specs.declared.Run.{Run}
use Rattle.run.specs.Reply.{Accepted, Length, Malformed, Buffer, Rules}
use Rattle.run.specs.Kinds as kind
use Rattle.run.specs.Record.{record_bytes, record_at, bytes_of}
use Rattle.run.specs.Reply.{is_accepted, ◌then◌, or_refuse}
use Rattle.run.specs.Run.{stations, most_rounds, run_to, sound}
use Rattle.run.specs.Block.{is_plain, check_block, numbers_in, flags_in}
use Rattle.run.specs.Opening.{setup_in, default_in, check_head, check_default, unopened, answer, head_bytes}
use Rattle.run.proofs.Openings.{answer_reply}
use Rattle.run.proofs.Records.{length_bytes_of, put_at_back}
use Rattle.run.proofs.Replies.{then_accepted, or_refuse_accepted, then_end}
use Rattle.run.proofs.Heads.{length_head_bytes, put_head_is, check_setup_accepted, check_head_accepted, in_range_iff}
use Rattle.image.specs.Image.{
  clock_at,
  estimates_from,
  votes_from,
  decisions_from,
  rounds_from,
  image_length,
  clock_record,
  estimates_shape,
  votes_shape,
  decisions_shape,
  rounds_shape,
  blocks,
  blocks_bytes,
  image,
  check_save,
  saved,
  clock_in,
  run_in,
  check_blocks,
  check_records,
  check_form,
  check_votes,
  check_decisions,
  check_rules,
  check_image,
  loaded,
}
use Rattle.image.specs.Putting.{put_image}
use Rattle.image.proofs.Blocks.{length_blocks, put_blocks_back}

-- ---- the definitions' own text, to rewrite with while what it cites stays shut
pub check_save_is : (run : Run) (room : ℕ) → check_save run room
    ≡ (or_refuse (sound run) (Rules 0) then or_refuse (eqb room (image_length run.setup.n)) Buffer)
unfolding check_save
check_save_is run room = refl

pub saved_is : (run : Run) (buffer : List ℕ) → saved run buffer
    ≡ cond (is_accepted (check_save run (length buffer))) (image run) buffer
unfolding saved
saved_is run buffer = refl

pub check_records_is : (bs : List ℕ) (n : ℕ) → check_records bs n
    ≡ (or_refuse (is_plain kind.CLOCK 0 (record_at bs clock_at)) (Malformed clock_at)
    then check_blocks bs estimates_from n blocks)
unfolding check_records
check_records_is bs n = refl

pub check_form_is : (bs : List ℕ) → check_form bs
    ≡ (check_head bs then or_refuse (eqb (length bs) (image_length (setup_in bs).n)) Length then check_default bs
    then check_records bs (setup_in bs).n)
unfolding check_form
check_form_is bs = refl

pub check_rules_is : (run : Run) → check_rules run
    ≡ (or_refuse (leb run.clock most_rounds) (Rules clock_at) then check_votes run.setup run.clock run.voted
    then check_decisions run.setup run.clock run.decided run.rounds)
unfolding check_rules
check_rules_is run = refl

pub loaded_is : (bs : List ℕ) → loaded bs ≡ answer (check_form bs then check_rules (run_in bs)) (run_in bs)
unfolding loaded check_image
loaded_is bs = refl

-- ---- as the code goes: block by block
pub check_blocks_is : (bs : List ℕ) (n : ℕ) → check_blocks bs estimates_from n blocks
    ≡ (check_block bs estimates_from n estimates_shape then check_block bs (votes_from n) n votes_shape
    then check_block bs (decisions_from n) n decisions_shape then check_block bs (rounds_from n) n rounds_shape)
unfolding check_blocks
check_blocks_is bs n = rw (then_end (check_block bs (rounds_from n) n rounds_shape))

-- and array by array
pub run_in_is : (bs : List ℕ) → run_in bs
    ≡ record {
      setup = setup_in bs;
      default = default_in bs;
      clock = clock_in bs;
      estimates = numbers_in bs estimates_from (setup_in bs).n;
      voted = flags_in bs (votes_from (setup_in bs).n) (setup_in bs).n kind.VOTE;
      votes = numbers_in bs (votes_from (setup_in bs).n) (setup_in bs).n;
      decided = flags_in bs (decisions_from (setup_in bs).n) (setup_in bs).n kind.DECIDED;
      decisions = numbers_in bs (decisions_from (setup_in bs).n) (setup_in bs).n;
      rounds = numbers_in bs (rounds_from (setup_in bs).n) (setup_in bs).n;
    }
unfolding run_in run_to numbers_in flags_in
run_in_is bs = refl

-- ---- an image's parts
module _ (run : Run) where
  abbrev pub upto_clock : List ℕ
  upto_clock = head_bytes run.setup run.default ++ bytes_of (clock_record run.clock)

  pub image_is : image run ≡ upto_clock ++ blocks_bytes blocks run
  unfolding image
  image_is = refl

  pub length_clock : length upto_clock ≡ record_bytes * estimates_from
  length_clock =
      rw length-append
      (omega (arith, length_head_bytes run.setup run.default, length_bytes_of (clock_record run.clock)))

  pub length_image : length (image run) ≡ image_length run.setup.n
  length_image = rw image_is (omega (arith, length_blocks run blocks upto_clock estimates_from length_clock))

  -- put into bytes of its length it is what they are then
  pub put_whole : (bs : List ℕ) → length bs ≡ image_length run.setup.n → put_image bs run ≡ image run
  unfolding put_image
  put_whole bs e =
      let head = head_bytes run.setup run.default in
      let long = length_head_bytes run.setup run.default in
      let behind : List ℕ = drop (record_bytes * clock_at) bs in
      rw (
        put_head_is bs run.setup run.default (omega arith),
        put_at_back head behind clock_at (clock_record run.clock) long (rw length-drop (omega arith)),
        image_is,
      )
      (put_blocks_back run blocks upto_clock (drop record_bytes behind) estimates_from length_clock
      (rw length_clock (simp length-drop (omega arith))))

  -- ---- saving: what the code answers and writes
  module _ (buffer : List ℕ) where
    pub save_unsound : sound run ≡ false → (Rules 0 ≡ check_save run (length buffer)) × (buffer ≡ saved run buffer)
    save_unsound e =
        let refused : check_save run (length buffer) ≡ Rules 0 = rw (check_save_is, e) in
        (sym refused, rw (saved_is, refused))

    pub save_misfit : sound run ≡ true → (length buffer ≡ image_length run.setup.n → ⊥)
        → (Buffer ≡ check_save run (length buffer)) × (buffer ≡ saved run buffer)
    save_misfit e h =
        let refused : check_save run (length buffer) ≡ Buffer = rw (check_save_is, e, ne_eqb _ _ h) in
        (sym refused, rw (saved_is, refused))

    module _ (keeps : sound run ≡ true) (fits : length buffer ≡ image_length run.setup.n) where
      pub save_accepted : check_save run (length buffer) ≡ Accepted
      save_accepted = rw (check_save_is, keeps, eq-eqb _ _ fits)

      pub saved_image : saved run buffer ≡ image run
      saved_image = rw (saved_is, save_accepted)

      pub save_fit : (Accepted ≡ check_save run (length buffer)) × (put_image buffer run ≡ saved run buffer)
      save_fit = (sym save_accepted, put_whole buffer fits ∙ sym saved_image)

-- saving is accepted exactly if the run is sound and the buffer has its image's length
pub saving_accepted : (run : Run) (room : ℕ)
    → (check_save run room ≡ Accepted) ↔ ((sound run ≡ true) × (room ≡ image_length run.setup.n))
saving_accepted run room = (there, λ h. rw (check_save_is, h.0, eq-eqb _ _ h.1))
  where
    there : check_save run room ≡ Accepted → (sound run ≡ true) × (room ≡ image_length run.setup.n)
    there e =
        let (keeps, fits) = then_accepted (or_refuse (sound run) (Rules 0)) _ (rw check_save_is at e) in
        (or_refuse_accepted _ (Rules 0) refl keeps, eqb-true _ _ (or_refuse_accepted _ Buffer refl fits))

-- ---- loading: a form that is accepted has no more stations than a run may have
pub form_stations : (bs : List ℕ) → check_form bs ≡ Accepted → (setup_in bs).n ≤ stations
form_stations bs e =
    let (head, _) = then_accepted (check_head bs) _ (rw check_form_is at e) in
    let (_, _, setup) = (check_head_accepted bs).0 head in
    ((in_range_iff (setup_in bs)).0 ((check_setup_accepted (setup_in bs)).0 setup).0).3

-- the reply is the check's, be it accepted or not
pub loaded_reply : (bs : List ℕ) → (loaded bs).reply ≡ check_image bs
unfolding loaded
loaded_reply bs = answer_reply (check_image bs) (run_in bs)

-- what the code answers
module _ (bs : List ℕ) where
  pub load_malformed : is_accepted (check_form bs) ≡ false → unopened (check_form bs) ≡ loaded bs
  load_malformed e = rw (loaded_is, e, e)

  module _ (form : check_form bs ≡ Accepted) where
    pub load_broken : is_accepted (check_rules (run_in bs)) ≡ false → unopened (check_rules (run_in bs)) ≡ loaded bs
    load_broken e = rw (loaded_is, form, e)

    pub load_kept : check_rules (run_in bs) ≡ Accepted → record { reply = Accepted; run = run_in bs } ≡ loaded bs
    load_kept e = rw (loaded_is, form, e)
