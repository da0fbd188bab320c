-- What is read is spelled by the bytes that were read: a record that is in order is the one that is written of what it
-- tells. What is written is bytes, since its records fit, and is read again, so that it spells what it was written from.
use mathlib.Core.Path.{◌≡◌, refl, ap, sym, ◌∙◌, subst}
use mathlib.Core.Bool.{Bool, true, false}
use mathlib.Core.List.{List, []}
use Prim.Native.Nat.{ℕ, ◌+◌, ◌*◌, ◌/◌, ◌%◌, ◌^◌, ◌≤◌, ◌<◌}
use native.Mathlib.Omega.{arith}
use lib.ListN.{length, get_or}
use Rattle.limits.specs.declared.Setup.{Setup}
use Rattle.run.specs.declared.Run.{Run}
use Rattle.run.specs.declared.Station.{Station}
use Rattle.run.specs.declared.Opened.{Opened}
use Rattle.run.specs.Reply.{Accepted}
use Rattle.run.specs.declared.record.Record.{Record}
use Rattle.run.specs.Bytes.{IsBytes}
use Rattle.run.specs.Kinds as kind
use Rattle.run.specs.Keeps.{Keeps}
use Rattle.run.specs.Machine.{Words, Machine}
use Rattle.run.specs.Number.{two_bytes}
use Rattle.run.specs.Record.{record_bytes, record_at, record_from, Fits}
use Rattle.run.specs.Reply.{is_accepted}
use Rattle.run.specs.Run.{stations, station_at}
use Rattle.run.specs.Block.{plain, record_of, block_record}
use Rattle.run.specs.Written.{written}
use Rattle.run.specs.Opening.{
  setup_record,
  read_setup,
  setup_in,
  starts_shape,
  head_bytes,
  check_opening,
  run_from,
  read_opening,
  check_write,
  write_opening,
}
use Rattle.run.proofs.Blocks.{KindsFit, plain_is, plain_fits, record_of_fits}
use Rattle.run.proofs.Bytes.{bytes_append, bytes_nil}
use Rattle.run.proofs.Filled.{length_tabulate}
use Rattle.run.proofs.Heads.{accepted_fits, check_setup_accepted, head_bytes_is, in_range_iff}
use Rattle.run.proofs.Number.{number_four}
use Rattle.run.proofs.Openings.{
  opening_accepted,
  opened_reply,
  opened_at_starts,
  opening_is,
  write_opening_is,
  writing_accepted,
  write_read,
  run_from_is,
}
use Rattle.run.proofs.Records.{record_at_in, bytes_of_bytes}
use Rattle.run.proofs.Replies.{accepted_is}
use Rattle.run.proofs.Sound.{setup_iff, sound_iff}
use Rattle.run.proofs.Written.{written_bytes}
use Rattle.image.specs.Image.{
  votes_from,
  decisions_from,
  rounds_from,
  votes_shape,
  decisions_shape,
  Block,
  estimates_block,
  votes_block,
  decisions_block,
  rounds_block,
  station_record,
  blocks_bytes,
  image,
  check_save,
  saved,
  station_in,
  run_in,
  check_image,
  loaded,
}
use Rattle.image.proofs.Images.{saving_accepted, saved_image, loaded_reply}
use Rattle.image.proofs.Loaded.{spelt, spells, loaded_sound, loaded_machine}
use Rattle.image.proofs.Saved.{save_load}
use Rattle.round.specs.declared.Matrix.{Matrix}
use Rattle.round.specs.declared.Reading.{Reading}
use Rattle.round.specs.Cells.{cell_record}
use Rattle.round.specs.Reading.{check_reading, cells, matrix_of, cell_of, read_round}
use Rattle.round.proofs.Matrices.{cell_of_matrix, cell_inside, cell_outside}
use Rattle.round.proofs.Places.{receiver_below, sender_below}
use Rattle.round.proofs.Readings.{few_stations, reading_reply, reading_matrix, reading_accepted}
use Rattle.round.proofs.Spelling.{cell_in_record, cell_record_bytes}
use Rattle.writing.specs.Writing.{IsMatrix, check_writing, write_round}
use Rattle.writing.proofs.Rounds.{written_read}
use Rattle.writing.proofs.Writings.{record_number, round_written, writing_iff, writing_done}
use Rattle.switch.proofs.Calls.{loaded_in}
use Rattle.consensus.specs.ImageReplies.{ImageForm}
use Rattle.consensus.specs.Spelled.{SetupOf, OpeningOf, ImageOf, RoundOf}
use Rattle.consensus.proofs.ImageReplies.{image_replies, accepted_form, default_placed, clock_placed}

-- ---- the setup, by its bytes
module _ (bs : List ℕ) (bytes : IsBytes bs) (long : record_bytes ≤ length bs)
    (is : (record_at bs 0).kind ≡ kind.SETUP) (zeros : (record_at bs 0).number < two_bytes) where
  first_record : record_at bs 0 ≡ record_from bs 0
  first_record = record_at_in bs 0 (omega (arith, long))

  setup_spelled : SetupOf (setup_in bs) bs
  unfolding read_setup record_from
  setup_spelled =
      let number = ap (λ (r : Record). r.number) first_record ∙ number_four bs 4 in
      let four = bytes.below 4 in
      let five = bytes.below 5 in
      record {
        kind_byte = sym (ap (λ (r : Record). r.kind) first_record) ∙ is;
        algorithm = sym (ap (λ (r : Record). r.first) first_record);
        n = sym (ap (λ (r : Record). r.second) first_record);
        T = sym (ap (λ (r : Record). r.third) first_record);
        E = omega (arith, number, four);
        alpha = omega (arith, number, four, five);
        byte_6 = omega (arith, number, zeros);
        byte_7 = omega (arith, number, zeros);
      }

head_is_bytes : (s : Setup) (d : ℕ) → Fits (setup_record s) → d < 2 ^ 32 → IsBytes (head_bytes s d)
head_is_bytes s d fits small =
    rw head_bytes_is
    (bytes_append (bytes_of_bytes (setup_record s) fits)
    (bytes_of_bytes (plain kind.DEFAULT 0 d) (plain_fits kind.DEFAULT 0 d (omega arith) (omega arith) small)))

-- a plain record has its own number
own_number : (k i x : ℕ) (r : Record) → r ≡ plain k i x → r ≡ plain k i r.number
unfolding plain
own_number k i x r e = e ∙ ap (plain k i) (sym (ap (λ (y : Record). y.number) e))

-- ---- an opening that is read
module _ (bs : List ℕ) (bytes : IsBytes bs) (taken : is_accepted (read_opening bs).reply ≡ true) where
  read_ok : check_opening bs ≡ Accepted
  read_ok = sym (opened_reply bs) ∙ accepted_is (read_opening bs).reply taken

  abbrev opened_as : Run
  opened_as = (read_opening bs).run

  pub opening_spelled : OpeningOf opened_as.setup opened_as.default opened_as.estimates bs
  opening_spelled =
      let a = (opening_accepted bs).0 read_ok in
      let at = opened_at_starts bs read_ok in
      let enough : record_bytes ≤ length bs = omega (arith, a.whole) in
      rw (at.setup, at.default)
      (record {
        long = a.whole;
        setup = setup_spelled bs bytes enough a.setup_kind a.setup_zeros;
        default = a.default_there;
        start = λ p l. a.starts_there p l ∙ ap (plain kind.START p) (sym (ap (λ (s : Station). s.estimate) (at.starts p l)));
      })

-- ---- an opening that is written
module _ (s : Setup) (d : ℕ) (starts buffer : List ℕ) (fits : d < 2 ^ 32) (words : Words starts)
    (e : check_write s d starts (length buffer) ≡ Accepted) where
  setup_fits : Fits (setup_record s)
  setup_fits = (accepted_fits s ((writing_accepted s d starts (length buffer)).0 e).set_up).2

  opening_bytes : IsBytes (write_opening s d starts buffer)
  opening_bytes =
      let w = (writing_accepted s d starts (length buffer)).0 e in
      let (range, meets) = (check_setup_accepted s).0 w.set_up in
      let (_, _, _, most) = (in_range_iff s).0 range in
      rw (write_opening_is, e, opening_is)
      (bytes_append (head_is_bytes s d setup_fits fits)
      (written_bytes s.n (block_record starts_shape [] starts)
      (λ i l. record_of_fits starts_shape i false (get_or starts i 0) (omega arith) (omega (arith, l, most))
      (words.below i))))

  pub opening_written : OpeningOf s d starts (write_opening s d starts buffer) × IsBytes (write_opening s d starts buffer)
  opening_written =
      let w = (writing_accepted s d starts (length buffer)).0 e in
      let back : read_opening (write_opening s d starts buffer) ≡ record { reply = Accepted; run = run_from s d starts }
      = write_read s d starts buffer
      (record { default_fits = fits; starts_fit = words.below; long = words.long }) e in
      let spelled = opening_spelled (write_opening s d starts buffer) opening_bytes
      (ap (λ (o : Opened). is_accepted o.reply) back) in (
        subst
            (λ (r : Run). OpeningOf r.setup r.default r.estimates (write_opening s d starts buffer))
            (ap (λ (o : Opened). o.run) back ∙ run_from_is s d starts words.long w.ends) spelled,
        opening_bytes,
      )

-- ---- an image that is loaded
module _ (bs : List ℕ) (bytes : IsBytes bs) (taken : is_accepted (loaded bs).reply ≡ true) where
  load_ok : check_image bs ≡ Accepted
  load_ok = sym (loaded_reply bs) ∙ accepted_is (loaded bs).reply taken

  run_is : (loaded bs).run ≡ run_in bs
  run_is = loaded_in bs load_ok

  abbrev m : ℕ
  m = (setup_in bs).n

  form : ImageForm bs
  form = accepted_form bs (check_image bs) (image_replies bs).holds load_ok

  -- a record of station p, and what the run holds of it
  held : (p : ℕ) → p < m → station_at (run_in bs) p ≡ station_in bs p
  held p l = spelt bs load_ok p l

  vote_told : (p : ℕ) → p < m → (b : Bool) → (station_at (run_in bs) p).voted ≡ b
      → record_at bs (votes_from m + p) ≡ record_of votes_shape p b (station_at (run_in bs) p).vote
  vote_told p l b e =
      let (_, (votes, _)) = spells bs load_ok in
      votes p l
      ∙ ap (λ (x : Station). record_of votes_shape p x.voted x.vote) (sym (held p l))
      ∙ ap (λ (c : Bool). record_of votes_shape p c (station_at (run_in bs) p).vote) e

  decision_told : (p : ℕ) → p < m → (b : Bool) → (station_at (run_in bs) p).decided ≡ b
      → record_at bs (decisions_from m + p) ≡ record_of decisions_shape p b (station_at (run_in bs) p).decision
  decision_told p l b e =
      let (_, (_, (decisions, _))) = spells bs load_ok in
      decisions p l
      ∙ ap (λ (x : Station). record_of decisions_shape p x.decided x.decision) (sym (held p l))
      ∙ ap (λ (c : Bool). record_of decisions_shape p c (station_at (run_in bs) p).decision) e

  -- the places of the page
  two_n : (p : ℕ) → 3 + 2 * m + p ≡ decisions_from m + p
  two_n p = omega arith

  three_n : (p : ℕ) → 3 + 3 * m + p ≡ rounds_from m + p
  three_n p = omega arith

  image_spelled : ImageOf (run_in bs) bs
  unfolding record_of run_in
  image_spelled =
      let head = form.headed.there in
      let (estimates, (_, (_, (rounds, _)))) = spells bs load_ok in
      let first = default_placed (setup_in bs) (record_at bs 1) (form.in_place 1 (omega arith) (omega arith)) in
      record {
        long = form.long;
        setup = setup_spelled bs bytes head.enough head.is_setup head.zeros;
        default = own_number kind.DEFAULT 0 first.0 (record_at bs 1) first.1;
        clock = plain_is kind.CLOCK 0 (record_at bs 2)
            (clock_placed (setup_in bs) (record_at bs 2) (form.in_place 2 (omega arith) (omega arith)));
        estimate = λ p l. estimates p l
            ∙ ap (λ (x : Station). plain kind.ESTIMATE p x.estimate) (sym (held p l));
        vote = λ p l e. vote_told p l true e;
        no_vote = λ p l e. vote_told p l false e;
        decided = λ p l e. rw (two_n p) (decision_told p l true e);
        undecided = λ p l e. rw (two_n p) (decision_told p l false e);
        round = λ p l. rw (three_n p) (rounds p l
            ∙ ap (λ (x : Station). plain kind.DECISION_ROUND p x.round) (sym (held p l)));
      }

  pub image_loaded : ImageOf (loaded bs).run bs × Keeps (loaded bs).run × Machine (loaded bs).run
  image_loaded =
      rw run_is
      (image_spelled, (sound_iff (run_in bs)).0 (loaded_sound bs load_ok), loaded_machine bs load_ok bytes)

-- ---- an image that is saved
module _ (run : Run) (buffer : List ℕ) (machine : Machine run) (e : check_save run (length buffer) ≡ Accepted) where
  image_bytes : IsBytes (image run)
  unfolding image blocks_bytes
  image_bytes =
      let (good, _) = (saving_accepted run (length buffer)).0 e in
      let keeps = (sound_iff run).0 good in
      let most = keeps.setup.n_to in
      let set_up = (check_setup_accepted run.setup).1 ((setup_iff run.setup).1 keeps.setup) in
      let block : (b : Block) → KindsFit b.shape → ((i : ℕ) → b.number (station_at run i) < 2 ^ 32)
      → IsBytes (written run.setup.n (station_record b run))
      = λ b k small. written_bytes run.setup.n (station_record b run)
      (λ i l. record_of_fits b.shape i (b.there (station_at run i)) (b.number (station_at run i)) k
      (omega (arith, l, most)) (small i)) in
      bytes_append
      (bytes_append
      (head_is_bytes run.setup run.default (accepted_fits run.setup set_up).2 machine.default)
      (bytes_of_bytes (plain kind.CLOCK 0 run.clock)
      (plain_fits kind.CLOCK 0 run.clock (omega arith) (omega arith) (omega (arith, keeps.clock)))))
      (bytes_append (block estimates_block (omega arith) machine.estimates.below)
      (bytes_append (block votes_block (omega arith) machine.votes.below)
      (bytes_append (block decisions_block (omega arith) machine.decisions.below)
      (bytes_append (block rounds_block (omega arith) machine.rounds.below) bytes_nil))))

  pub image_saved : ImageOf run (saved run buffer) × IsBytes (saved run buffer)
  image_saved =
      let (good, fits) = (saving_accepted run (length buffer)).0 e in
      let is = saved_image run buffer good fits in
      let back = save_load run buffer machine e in
      let whole : IsBytes (saved run buffer) = rw is image_bytes in
      let spelled = (image_loaded (saved run buffer) whole (ap (λ (o : Opened). is_accepted o.reply) back)).0 in
      (subst (λ (x : Run). ImageOf x (saved run buffer)) (ap (λ (o : Opened). o.run) back) spelled, whole)

-- ---- a round that is read
module _ (run : Run) (bs : List ℕ) (taken : is_accepted (read_round run bs).reply ≡ true) where
  pub round_read : RoundOf run (read_round run bs).matrix bs
  unfolding matrix_of
  round_read =
      let n = run.setup.n in
      let e : check_reading run bs ≡ Accepted
      = sym (reading_reply run bs refl) ∙ accepted_is (read_round run bs).reply taken in
      let (good, long, spells) = (reading_accepted run bs).0 e in
      let small = few_stations run good in
      rw (reading_matrix run bs refl e)
      (record {
        long = long;
        cells =
            λ p q lp lq.
            sym (cell_in_record p q (record_at bs (n * p + q)) (spells p q lp lq).0)
            ∙ ap (cell_record p q)
            (sym
            (cell_of_matrix (cells n bs) p q (omega (arith, lp, small)) (omega (arith, lq, small))
            ∙ cell_inside n bs p q lp lq));
        outside =
            λ p q lp lq out.
            cell_of_matrix (cells n bs) p q lp lq ∙ cell_outside n bs p q (λ x y. out (x, y));
        places = length_tabulate (stations * stations) (λ k. cells n bs (k / stations) (k % stations));
      })

-- ---- a round that is written
module _ (run : Run) (matrix : Matrix) (buffer : List ℕ) (holds : IsMatrix matrix)
    (e : check_writing run matrix (length buffer) ≡ Accepted) where
  pub round_written_as : RoundOf run matrix (write_round run matrix buffer) × IsBytes (write_round run matrix buffer)
  round_written_as =
      let n = run.setup.n in
      let (good, _, _, _) = (writing_iff run matrix (length buffer)).0 e in
      let small = few_stations run good in
      let back = written_read run matrix buffer holds e in
      let whole : IsBytes (write_round run matrix buffer)
      = rw (← writing_done run matrix buffer e, ← round_written n matrix)
      (written_bytes (n * n) (record_number n matrix)
      (λ k l. cell_record_bytes (k / n) (k % n) (cell_of matrix (k / n) (k % n))
      (omega (arith, receiver_below n k l, small)) (omega (arith, sender_below n k l, small))
      (λ v is. holds.values (stations * (k / n) + k % n) v is))) in
      let spelled = round_read run (write_round run matrix buffer) (ap (λ (r : Reading). is_accepted r.reply) back) in
      (subst (λ (x : Matrix). RoundOf run x (write_round run matrix buffer)) (ap (λ (r : Reading). r.matrix) back) spelled, whole)
