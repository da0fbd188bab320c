-- Demands 1 and 2 leave one judge. The relations fix every reply. A run is told by its places, and bytes by their
-- records; so what is read and written, which is spelled record by record, is one run, one matrix and one row of bytes.
-- Playing and the two entries are made of these.
use mathlib.Core.Path.{◌≡◌, refl, ap, ap₂, sym, ◌∙◌, subst}
use mathlib.Core.Bool.{Bool, true, false}
use mathlib.Core.List.{List}
use Prim.Native.Nat.{ℕ, ◌+◌, ◌-◌, ◌*◌, ◌/◌, ◌%◌, ◌^◌, ◌≤◌, ◌<◌}
use native.Mathlib.Decide.{dec_le}
use native.Mathlib.Nat.{mul_assoc}
use native.Mathlib.Omega.{arith}
use lib.ListN.{length, get_or}
use Rattle.limits.specs.declared.Setup.{Setup}
use Rattle.run.specs.declared.Run.{Run}
use Rattle.run.specs.declared.Station.{Station}
use Rattle.run.specs.declared.Opened.{Opened}
use Rattle.run.specs.Reply.{Reply}
use Rattle.run.specs.Reply.{Accepted}
use Rattle.run.specs.Bytes.{IsBytes}
use Rattle.run.specs.Keeps.{Keeps}
use Rattle.run.specs.Machine.{Words, Machine}
use Rattle.run.specs.Opening.{setup_in, read_opening, check_write}
use Rattle.run.specs.Record.{record_bytes, record_at, record_from}
use Rattle.run.specs.Reply.{is_accepted}
use Rattle.run.specs.Run.{stations, run_of, station_at}
use Rattle.run.proofs.Built.{built_same, built_whole}
use Rattle.run.proofs.Bytes.{bytes_take, bytes_drop}
use Rattle.run.proofs.Number.{number_four}
use Rattle.run.proofs.Openings.{opened_reply}
use Rattle.run.proofs.Records.{record_at_in}
use Rattle.run.proofs.Sound.{sound_iff}
use Rattle.run.proofs.Written.{written_same, written_record_at}
use Rattle.image.specs.Image.{image, run_in, check_save, loaded}
use Rattle.image.proofs.Images.{length_image, saving_accepted, saved_image, loaded_reply}
use Rattle.image.proofs.Loaded.{loaded_machine}
use Rattle.image.proofs.Saved.{image_again}
use Rattle.round.specs.declared.Matrix.{Matrix}
use Rattle.round.specs.Cells.{cell_in}
use Rattle.round.specs.Reading.{cell_of}
use Rattle.round.proofs.Matrices.{matrix_again, matrix_same}
use Rattle.round.proofs.Places.{number_of, receiver_below, sender_below}
use Rattle.round.proofs.Spelling.{cell_record_in}
use Rattle.writing.specs.Writing.{IsMatrix, check_writing}
use Rattle.judge.specs.Step.{step_of}
use Rattle.play.specs.Play.{play_of}
use Rattle.consensus.specs.Judge.{Wrote, Judge, ours}
use Rattle.consensus.specs.OneReply.{Only}
use Rattle.consensus.specs.OpeningReplies.{WriteOpeningReply}
use Rattle.consensus.specs.ImageReplies.{SaveReply}
use Rattle.consensus.specs.WritingReplies.{WriteRoundReply}
use Rattle.consensus.specs.PlayAnswers.{first_piece, behind_it, Plays}
use Rattle.consensus.specs.EntryAnswers.{OpenAnswer, StepAnswer}
use Rattle.consensus.specs.Spelled.{SetupOf, OpeningOf, ImageOf, RoundOf}
use Rattle.consensus.specs.SameAnswer.{SameAnswer, SameJudge}
use Rattle.consensus.specs.Demand1.{Demand1}
use Rattle.consensus.specs.Demand2.{Demand2}
use Rattle.consensus.proofs.OpeningReplies.{opening_replies, write_opening_replies}
use Rattle.consensus.proofs.ImageReplies.{image_replies, save_replies}
use Rattle.consensus.proofs.WritingReplies.{write_round_replies}
use Rattle.consensus.proofs.RoundReplies.{step_replies, read_replies}
use Rattle.consensus.proofs.PlayAnswers.{play_alone}
use Rattle.consensus.proofs.EntryAnswers.{open_alone, step_alone}
use Rattle.consensus.proofs.Spelled.{image_saved}
use Rattle.consensus.proofs.Demand1.{demand_1}
use Rattle.consensus.proofs.Demand2.{demand_2}
use Rattle.consensus.proofs.OneJudge.{bits_tell, one_judge}

-- ---- bytes are told by their records
same_bytes : (k : ℕ) (xs ys : List ℕ) → IsBytes xs → IsBytes ys → length xs ≡ record_bytes * k
    → length ys ≡ record_bytes * k → ((i : ℕ) → i < k → record_at xs i ≡ record_at ys i) → xs ≡ ys
same_bytes k xs ys hx hy lx ly same =
    sym (written_record_at k hx lx) ∙ written_same k (record_at xs) (record_at ys) same ∙ written_record_at k hy ly

-- and a setup's record by its bytes
same_first : (s : Setup) (xs ys : List ℕ) → record_bytes ≤ length xs → record_bytes ≤ length ys → SetupOf s xs
    → SetupOf s ys → record_at xs 0 ≡ record_at ys 0
unfolding record_from
same_first s xs ys lx ly a b =
    record_at_in xs 0 (omega (arith, lx)) ∙ bytewise ∙ sym (record_at_in ys 0 (omega (arith, ly)))
  where
    bytewise : record_from xs 0 ≡ record_from ys 0
    bytewise =
        rw (
          number_four xs 4,
          number_four ys 4,
          a.kind_byte,
          a.algorithm,
          a.n,
          a.T,
          a.E,
          a.alpha,
          a.byte_6,
          a.byte_7,
          b.kind_byte,
          b.algorithm,
          b.n,
          b.T,
          b.E,
          b.alpha,
          b.byte_6,
          b.byte_7,
        )

opening_once : (s : Setup) (d : ℕ) (starts xs ys : List ℕ) → IsBytes xs → IsBytes ys → OpeningOf s d starts xs
    → OpeningOf s d starts ys → xs ≡ ys
opening_once s d starts xs ys hx hy a b = same_bytes (2 + s.n) xs ys hx hy a.long b.long at
  where
    start : (i : ℕ) → 2 ≤ i → i < 2 + s.n → record_at xs i ≡ record_at ys i
    start i low high =
        let p : ℕ = i - 2 in
        let same : 2 + p ≡ i = omega (arith, low) in
        let l : p < s.n = omega (arith, low, high) in
        subst (λ (j : ℕ). record_at xs j ≡ record_at ys j) same (a.start p l ∙ sym (b.start p l))

    at : (i : ℕ) → i < 2 + s.n → record_at xs i ≡ record_at ys i
    at i l = go (dec_le 1 i) (dec_le 2 i)
      where
        go : Dec (1 ≤ i) → Dec (2 ≤ i) → record_at xs i ≡ record_at ys i
        go one (yes h) = start i h l
        go (yes g) (no h) =
            let same : 1 ≡ i = omega (arith, g, h) in
            subst (λ (j : ℕ). record_at xs j ≡ record_at ys j) same (a.default ∙ sym b.default)
        go (no g) (no h) =
            let same : 0 ≡ i = omega (arith, g) in
            subst (λ (j : ℕ). record_at xs j ≡ record_at ys j) same
            (same_first s xs ys (omega (arith, a.long)) (omega (arith, b.long)) a.setup b.setup)

image_once : (run : Run) (xs ys : List ℕ) → IsBytes xs → IsBytes ys → ImageOf run xs → ImageOf run ys → xs ≡ ys
image_once run xs ys hx hy a b = same_bytes (3 + 4 * n) xs ys hx hy a.long b.long at
  where
    n : ℕ
    n = run.setup.n

    Same : ℕ → Type 0
    Same i = record_at xs i ≡ record_at ys i

    vote : (p : ℕ) → p < n → (b : Bool) → (station_at run p).voted ≡ b → Same (3 + n + p)
    vote p l true e = a.vote p l e ∙ sym (b.vote p l e)
    vote p l false e = a.no_vote p l e ∙ sym (b.no_vote p l e)

    decision : (p : ℕ) → p < n → (b : Bool) → (station_at run p).decided ≡ b → Same (3 + 2 * n + p)
    decision p l true e = a.decided p l e ∙ sym (b.decided p l e)
    decision p l false e = a.undecided p l e ∙ sym (b.undecided p l e)

    -- the block that begins at a record
    block : (start : ℕ) → ((p : ℕ) → p < n → Same (start + p)) → (i : ℕ) → start ≤ i → i < start + n → Same i
    block start same i low high =
        let is : start + (i - start) ≡ i = omega (arith, low) in
        subst Same is (same (i - start) (omega (arith, low, high)))

    head : (i : ℕ) → i < 3 → Same i
    head i l = go (dec_le 1 i) (dec_le 2 i)
      where
        go : Dec (1 ≤ i) → Dec (2 ≤ i) → Same i
        go one (yes h) = let same : 2 ≡ i = omega (arith, h, l) in subst Same same (a.clock ∙ sym b.clock)
        go (yes g) (no h) = let same : 1 ≡ i = omega (arith, g, h) in subst Same same (a.default ∙ sym b.default)
        go (no g) (no h) =
            let same : 0 ≡ i = omega (arith, g) in
            subst Same same
            (same_first run.setup xs ys (omega (arith, a.long)) (omega (arith, b.long)) a.setup b.setup)

    at : (i : ℕ) → i < 3 + 4 * n → Same i
    at i l = go (dec_le 3 i) (dec_le (3 + n) i) (dec_le (3 + 2 * n) i) (dec_le (3 + 3 * n) i)
      where
        go : Dec (3 ≤ i) → Dec (3 + n ≤ i) → Dec (3 + 2 * n ≤ i) → Dec (3 + 3 * n ≤ i) → Same i
        go (no g) d2 d3 d4 = head i (omega (arith, g))
        go (yes g) (no h) d3 d4 = block 3 (λ p lp. a.estimate p lp ∙ sym (b.estimate p lp)) i g (omega (arith, h))
        go (yes g) (yes h) (no j) d4 =
            block (3 + n) (λ p lp. vote p lp (station_at run p).voted refl) i h (omega (arith, j))
        go (yes g) (yes h) (yes j) (no k) =
            block (3 + 2 * n) (λ p lp. decision p lp (station_at run p).decided refl) i j (omega (arith, k))
        go (yes g) (yes h) (yes j) (yes k) =
            block (3 + 3 * n) (λ p lp. a.round p lp ∙ sym (b.round p lp)) i k (omega (arith, l))

module _ (run : Run) where
  abbrev n : ℕ
  n = run.setup.n

  round_once : (m : Matrix) (xs ys : List ℕ) → IsBytes xs → IsBytes ys → RoundOf run m xs → RoundOf run m ys → xs ≡ ys
  round_once m xs ys hx hy a b =
      same_bytes (n * n) xs ys hx hy (a.long ∙ mul_assoc record_bytes n n) (b.long ∙ mul_assoc record_bytes n n)
      (λ k l.
      let here = a.cells (k / n) (k % n) (receiver_below n k l) (sender_below n k l)
      ∙ sym (b.cells (k / n) (k % n) (receiver_below n k l) (sender_below n k l)) in
      subst (λ (j : ℕ). record_at xs j ≡ record_at ys j) (number_of n k) here)

  -- and a matrix by the cells that are spelled
  matrix_once : (m o : Matrix) (bs : List ℕ) → RoundOf run m bs → RoundOf run o bs → m ≡ o
  matrix_once m o bs a b =
      matrix_again m a.places ∙ matrix_same (cell_of m) (cell_of o) cells ∙ sym (matrix_again o b.places)
    where
      inside : (p q : ℕ) → p < n → q < n → cell_of m p q ≡ cell_of o p q
      inside p q lp lq =
          sym (cell_record_in p q (cell_of m p q))
          ∙ ap cell_in (sym (a.cells p q lp lq) ∙ b.cells p q lp lq) ∙ cell_record_in p q (cell_of o p q)

      cells : (p q : ℕ) → p < stations → q < stations → cell_of m p q ≡ cell_of o p q
      cells p q lp lq = go (dec_le n p) (dec_le n q)
        where
          outside : ¬ ((p < n) × (q < n)) → cell_of m p q ≡ cell_of o p q
          outside out = a.outside p q lp lq out ∙ sym (b.outside p q lp lq out)

          go : Dec (n ≤ p) → Dec (n ≤ q) → cell_of m p q ≡ cell_of o p q
          go (yes h) d = outside (λ x. omega (arith, h, x.0))
          go (no h) (yes g) = outside (λ x. omega (arith, g, x.1))
          go (no h) (no g) = inside p q (omega (arith, h)) (omega (arith, g))

-- ---- a run is told by its places
rebuilt : (s t : Setup) (d e c k : ℕ) (f g : ℕ → Station) → s ≡ t → d ≡ e → c ≡ k → ((i : ℕ) → i < s.n → f i ≡ g i)
    → run_of s d c f ≡ run_of t e k g
rebuilt s t d e c k f g hs hd hc same = rw (← hs, ← hd, ← hc) (built_same s d c s.n f g same)

same_run : (x y : Run) → Machine x → Machine y → Keeps x → Keeps y → x.setup ≡ y.setup → x.default ≡ y.default
    → x.clock ≡ y.clock → ((i : ℕ) → i < stations → station_at x i ≡ station_at y i) → x ≡ y
same_run x y mx my kx ky setup default clock same =
    built_whole x mx kx.above
    ∙ rebuilt x.setup y.setup x.default y.default x.clock y.clock (station_at x) (station_at y) setup
    default clock (λ i l. same i (omega (arith, l, kx.setup.n_to)))
    ∙ sym (built_whole y my ky.above)

-- ---- a judge that meets both demands, beside ours
module _ (J : Judge) (one : Demand1 J) (two : Demand2 J) where
  -- ---- an opening
  module _ (bs : List ℕ) (bytes : IsBytes bs) where
    opened_reply_same : (J.read_opening bs).reply ≡ (read_opening bs).reply
    opened_reply_same = (opening_replies bs).alone _ (one.open_says bs) ∙ sym (opened_reply bs)

    opened_run_same : (b : Bool) → is_accepted (J.read_opening bs).reply ≡ b
        → (J.read_opening bs).run ≡ (read_opening bs).run
    unfolding ours
    opened_run_same true e =
        let mine = sym (ap is_accepted opened_reply_same) ∙ e in
        let (at, keeps) = two.at_starts bs e in
        let (own, own_keeps) = demand_2.at_starts bs mine in
        same_run (J.read_opening bs).run (read_opening bs).run (two.opening_of bs bytes e).1
        (demand_2.opening_of bs bytes mine).1 keeps own_keeps (at.setup ∙ sym own.setup)
        (at.default ∙ sym own.default) (at.clock ∙ sym own.clock)
        (λ i l.
        cases_of (dec_le (setup_in bs).n i) (λ h. at.ends i h l ∙ sym (own.ends i h l))
        (λ h. at.starts i h ∙ sym (own.starts i h)))
      where
        cases_of : {i m : ℕ} {A : Type 0} → Dec (m ≤ i) → (m ≤ i → A) → (i < m → A) → A
        cases_of (yes h) above below = above h
        cases_of (no h) above below = below (omega (arith, h))
    opened_run_same false e =
        one.open_idles bs e ∙ sym (demand_1.open_idles bs (sym (ap is_accepted opened_reply_same) ∙ e))

    opened_same : J.read_opening bs ≡ read_opening bs
    opened_same =
        ap₂ (λ (r : Reply) (x : Run). record { reply = r; run = x }) opened_reply_same
        (opened_run_same (is_accepted (J.read_opening bs).reply) refl)

  -- ---- an image
  module _ (bs : List ℕ) (bytes : IsBytes bs) where
    loaded_reply_same : (J.load bs).reply ≡ (loaded bs).reply
    loaded_reply_same = (image_replies bs).alone _ (one.load_says bs) ∙ sym (loaded_reply bs)

    -- a good run that these bytes spell is the one that loads from them
    loads_as : (x : Run) → ImageOf x bs → Keeps x → Machine x → x ≡ (loaded bs).run
    loads_as x spelled keeps machine =
        let good = (sound_iff x).1 keeps in
        let room = length_image x in
        let (own, own_bytes) = image_saved x (image x) machine ((saving_accepted x (length (image x))).1 (good, room)) in
        let is = saved_image x (image x) good room in
        let whole : image x ≡ bs
        = image_once x (image x) bs (rw is at own_bytes) bytes (rw is at own) spelled in
        sym (ap (λ (o : Opened). o.run) (ap loaded (sym whole) ∙ image_again x good machine))

    loaded_run_same : (b : Bool) → is_accepted (J.load bs).reply ≡ b → (J.load bs).run ≡ (loaded bs).run
    unfolding ours
    loaded_run_same true e =
        let (spelled, keeps, machine) = two.image_of bs bytes e in loads_as (J.load bs).run spelled keeps machine
    loaded_run_same false e =
        one.load_idles bs e ∙ sym (demand_1.load_idles bs (sym (ap is_accepted loaded_reply_same) ∙ e))

    loaded_same : J.load bs ≡ loaded bs
    loaded_same =
        ap₂ (λ (r : Reply) (x : Run). record { reply = r; run = x }) loaded_reply_same
        (loaded_run_same (is_accepted (J.load bs).reply) refl)

  -- ---- what is written: one reply, and one content of the buffer
  wrote_same : (a b : Wrote) (buffer : List ℕ) → a.reply ≡ b.reply
      → (is_accepted a.reply ≡ false → a.bytes ≡ buffer) → (is_accepted b.reply ≡ false → b.bytes ≡ buffer)
      → (is_accepted a.reply ≡ true → is_accepted b.reply ≡ true → a.bytes ≡ b.bytes) → a ≡ b
  wrote_same a b buffer reply left left' spelled =
      ap₂ (λ (r : Reply) (bs : List ℕ). record { reply = r; bytes = bs }) reply (go (is_accepted a.reply) refl)
    where
      go : (t : Bool) → is_accepted a.reply ≡ t → a.bytes ≡ b.bytes
      go true e = spelled e (sym (ap is_accepted reply) ∙ e)
      go false e = left e ∙ sym (left' (sym (ap is_accepted reply) ∙ e))

  write_opening_same : (s : Setup) (d : ℕ) (starts buffer : List ℕ) → d < 2 ^ 32 → Words starts
      → J.write_opening s d starts buffer ≡ ours.write_opening s d starts buffer
  write_opening_same s d starts buffer fits words =
      wrote_same (J.write_opening s d starts buffer) (ours.write_opening s d starts buffer) buffer
      (only.alone _ (one.write_opening_says s d starts buffer)
      ∙ sym (only.alone _ (demand_1.write_opening_says s d starts buffer)))
      (one.write_opening_leaves s d starts buffer) (demand_1.write_opening_leaves s d starts buffer)
      (λ e e'.
      let (x, hx) = two.writes_opening s d starts buffer fits words e in
      let (y, hy) = demand_2.writes_opening s d starts buffer fits words e' in
      opening_once s d starts _ _ hx hy x y)
    where
      only : Only (WriteOpeningReply s d starts (length buffer)) (check_write s d starts (length buffer))
      only = write_opening_replies s d starts (length buffer)

  save_same : (run : Run) (buffer : List ℕ) → Machine run → J.save run buffer ≡ ours.save run buffer
  save_same run buffer machine =
      wrote_same (J.save run buffer) (ours.save run buffer) buffer
      (only.alone _ (one.save_says run buffer) ∙ sym (only.alone _ (demand_1.save_says run buffer)))
      (one.save_leaves run buffer) (demand_1.save_leaves run buffer)
      (λ e e'.
      let (x, hx) = two.writes_image run buffer machine e in
      let (y, hy) = demand_2.writes_image run buffer machine e' in
      image_once run _ _ hx hy x y)
    where
      only : Only (SaveReply run (length buffer)) (check_save run (length buffer))
      only = save_replies run (length buffer)

  write_round_same : (run : Run) (m : Matrix) (buffer : List ℕ) → IsMatrix m
      → J.write_round run m buffer ≡ ours.write_round run m buffer
  write_round_same run m buffer holds =
      wrote_same (J.write_round run m buffer) (ours.write_round run m buffer) buffer
      (only.alone _ (one.write_round_says run m buffer)
      ∙ sym (only.alone _ (demand_1.write_round_says run m buffer)))
      (one.write_round_leaves run m buffer) (demand_1.write_round_leaves run m buffer)
      (λ e e'.
      let (x, hx) = two.writes_round run m buffer holds e in
      let (y, hy) = demand_2.writes_round run m buffer holds e' in
      round_once run m _ _ hx hy x y)
    where
      only : Only (WriteRoundReply run m (length buffer)) (check_writing run m (length buffer))
      only = write_round_replies run m (length buffer)

  -- ---- a round read, and surveyed
  module _ (run : Run) (bs : List ℕ) where
    read_reply_same : (J.read_round run bs).reply ≡ (ours.read_round run bs).reply
    read_reply_same =
        (read_replies run bs).alone _ (one.read_says run bs)
        ∙ sym ((read_replies run bs).alone _ (demand_1.read_says run bs))

    read_same : J.read_round run bs ≡ ours.read_round run bs
    read_same =
        ap₂ (λ (r : Reply) (m : Matrix). record { reply = r; matrix = m }) read_reply_same
        (go (is_accepted (J.read_round run bs).reply) refl)
      where
        go : (b : Bool) → is_accepted (J.read_round run bs).reply ≡ b
            → (J.read_round run bs).matrix ≡ (ours.read_round run bs).matrix
        go true e =
            matrix_once run _ _ bs (two.round_of run bs e)
            (demand_2.round_of run bs (sym (ap is_accepted read_reply_same) ∙ e))
        go false e =
            one.read_loses run bs e ∙ sym (demand_1.read_loses run bs (sym (ap is_accepted read_reply_same) ∙ e))

    survey_reply_same : (J.survey run bs).reply ≡ (ours.survey run bs).reply
    survey_reply_same =
        (read_replies run bs).alone _ (one.survey_says run bs)
        ∙ sym ((read_replies run bs).alone _ (demand_1.survey_says run bs))

    survey_at : (p : ℕ) → (get_or (J.survey run bs).ho p 0 ≡ get_or (ours.survey run bs).ho p 0)
        × (get_or (J.survey run bs).sho p 0 ≡ get_or (ours.survey run bs).sho p 0)
    survey_at p = go (is_accepted (J.survey run bs).reply) refl
      where
        go : (b : Bool) → is_accepted (J.survey run bs).reply ≡ b
            → (get_or (J.survey run bs).ho p 0 ≡ get_or (ours.survey run bs).ho p 0)
            × (get_or (J.survey run bs).sho p 0 ≡ get_or (ours.survey run bs).sho p 0)
        go true e =
            let x = two.surveys run bs e in
            let y = demand_2.surveys run bs (sym (ap is_accepted survey_reply_same) ∙ e) in (
              bits_tell _ _ (λ q. x.heard_of p q ∙ sym (y.heard_of p q)),
              bits_tell _ _ (λ q. x.safely p q ∙ sym (y.safely p q)),
            )
        go false e =
            let x = one.survey_empties run bs e in
            let y = demand_1.survey_empties run bs (sym (ap is_accepted survey_reply_same) ∙ e) in
            (ap (λ (l : List ℕ). get_or l p 0) (x.0 ∙ sym y.0), ap (λ (l : List ℕ). get_or l p 0) (x.1 ∙ sym y.1))

    -- ---- a round taken
    step_same : SameAnswer (J.step run bs) (ours.step run bs)
    step_same = one_judge J ours one demand_1 two demand_2 run bs

    step_run_same : Machine run → IsBytes bs → (J.step run bs).run ≡ (ours.step run bs).run
    step_run_same machine bytes = go (is_accepted (J.step run bs).reply) refl
      where
        go : (b : Bool) → is_accepted (J.step run bs).reply ≡ b → (J.step run bs).run ≡ (ours.step run bs).run
        go true e =
            let x = two.follows run bs e in
            let y = demand_2.follows run bs (sym (ap is_accepted step_same.reply) ∙ e) in
            same_run (J.step run bs).run (ours.step run bs).run (x.machine_still machine bytes)
            (y.machine_still machine bytes) x.keeps_still y.keeps_still step_same.setup step_same.default
            step_same.clock step_same.each_station
        go false e =
            (one.step_leaves run bs e).same_run
            ∙ sym (demand_1.step_leaves run bs (sym (ap is_accepted step_same.reply) ∙ e)).same_run

  -- ---- a part played: it is played by our steps too
  play_told : {run next : Run} {bs : List ℕ} {r : Reply} {k : ℕ} → Machine run → IsBytes bs
      → Plays J.step run bs next r k → Plays step_of run bs next r k
  unfolding ours
  play_told machine bytes (Plays.not_good bad) = Plays.not_good bad
  play_told machine bytes (Plays.over keeps) = Plays.over keeps
  play_told machine bytes (Plays.refused keeps some says refusal) = Plays.refused keeps some says refusal
  play_told machine bytes (Plays.on {run = run} {next = next} {bs = bs} {r = r} {k = k} keeps some says rest) =
      let piece : List ℕ = first_piece run bs in
      let in_piece : IsBytes piece = bytes_take (record_bytes * run.setup.n * run.setup.n) bytes in
      let same : (J.step run piece).run ≡ (step_of run piece).run = step_run_same run piece machine in_piece in
      let taken : is_accepted (J.step run piece).reply ≡ true
      = ap is_accepted ((step_replies run piece).alone _ (one.step_says run piece)
      ∙ sym ((step_replies run piece).alone Accepted says)) in
      let machine_on = (two.follows run piece taken).machine_still machine in_piece in
      let on = play_told machine_on (bytes_drop (record_bytes * run.setup.n * run.setup.n) bytes) rest in
      Plays.on keeps some says (subst (λ (x : Run). Plays step_of x (behind_it run bs) next r k) same on)

  play_same : (run : Run) (bs : List ℕ) → Machine run → IsBytes bs → J.play run bs ≡ play_of run bs
  play_same run bs machine bytes = play_alone run bs _ _ _ (play_told machine bytes (one.play_says run bs))

  -- ---- the two entries
  open_told : (opening buffer : List ℕ) (r : Reply) (out : List ℕ) → IsBytes opening
      → OpenAnswer J.read_opening opening buffer r out → OpenAnswer read_opening opening buffer r out
  open_told opening buffer r out bytes (OpenAnswer.refused says refusal) = OpenAnswer.refused says refusal
  open_told opening buffer r out bytes (OpenAnswer.no_room says h) = OpenAnswer.no_room says h
  open_told opening buffer r out bytes (OpenAnswer.accepted says h) =
      subst (λ (o : Opened). OpenAnswer read_opening opening buffer Accepted (image o.run))
      (sym (opened_same opening bytes)) (OpenAnswer.accepted says h)

  step_told : (bytes round : List ℕ) (r : Reply) (out : List ℕ) → IsBytes bytes → IsBytes round
      → StepAnswer J.step bytes round r out → StepAnswer step_of bytes round r out
  unfolding ours
  step_told bytes round r out in_bytes in_round (StepAnswer.image_refused says refusal) =
      StepAnswer.image_refused says refusal
  step_told bytes round r out in_bytes in_round (StepAnswer.round_refused ok says refusal) =
      StepAnswer.round_refused ok says refusal
  step_told bytes round r out in_bytes in_round (StepAnswer.accepted ok says) =
      let loads = sym ((image_replies bytes).alone Accepted ok) in
      subst (λ (x : Run). StepAnswer step_of bytes round Accepted (image x))
      (sym (step_run_same (run_in bytes) round (loaded_machine bytes loads in_bytes) in_round))
      (StepAnswer.accepted ok says)

  -- ---- so in every call
  same_judge : SameJudge J ours
  unfolding ours
  same_judge =
      record {
        read_opening = opened_same;
        write_opening = write_opening_same;
        load = loaded_same;
        save = save_same;
        read_round = read_same;
        write_round = write_round_same;
        survey = λ run bs. (survey_reply_same run bs, λ p. (survey_at run bs p).0, λ p. (survey_at run bs p).1);
        step = step_same;
        step_run = step_run_same;
        play = play_same;
        judge_open =
            λ opening buffer bytes.
            let told = open_alone opening buffer _ _ (open_told opening buffer _ _ bytes (one.judge_open_says opening buffer)) in
            ap₂ (λ (r : Reply) (bs : List ℕ). record { reply = r; bytes = bs }) told.0 told.1;
        judge_step =
            λ bytes round in_bytes in_round.
            let told = step_alone bytes round _ _
            (step_told bytes round _ _ in_bytes in_round (one.judge_step_says bytes round)) in
            ap₂ (λ (r : Reply) (bs : List ℕ). record { reply = r; bytes = bs }) told.0 told.1;
      }

-- whoever meets both demands answers as this judge does, in every call
pub one_judge_in_all : (J : Judge) → Demand1 J → Demand2 J → SameJudge J ours
one_judge_in_all = same_judge
