-- The checks of an image, and of a run to be saved, answer the replies of specs/ImageReplies and no others: each record
-- is in its place exactly if its block's test says so, and the rules are asked in the order of the records at which
-- they are told.
use mathlib.Core.Path.{◌≡◌, refl, ap, sym, ◌∙◌, subst}
use mathlib.Core.Bool.{Bool, true, false, not, false≢true, true≢false}
use mathlib.Core.List.{List}
use mathlib.Core.Logic.{◌↔◌, ◌⊎◌, inl, inr, ⊎_elim}
use Prim.Native.Nat.{ℕ, zero, suc, ◌+◌, ◌-◌, ◌*◌, ◌/◌, ◌%◌, ◌≤◌, ◌<◌}
use native.Mathlib.Decide.{dec_le}
use native.Mathlib.Omega.{arith}
use lib.ListN.{length}
use lib.Dec.{eqb, leb}
use borrow.Author.Tests.{eqb-true, eqb-false, eq-eqb, ne_eqb, leb-true, leb-false, not-true}
use Rattle.paper.proofs.Counting.{both}
use Rattle.limits.specs.declared.Setup.{Setup}
use Rattle.limits.specs.Setup.{byte_a, byte_u}
use Rattle.run.specs.declared.Run.{Run}
use Rattle.run.specs.Reply.{Reply}
use Rattle.run.specs.Reply.{Accepted, Length, Malformed, Range, Inequality, Buffer, Rules}
use Rattle.run.specs.declared.block.Shape.{Shape}
use Rattle.run.specs.declared.record.Record.{Record}
use Rattle.run.specs.Kinds as kind
use Rattle.run.specs.First.{first}
use Rattle.run.specs.Record.{record_at}
use Rattle.run.specs.Reply.{is_accepted, ◌then◌, or_refuse, refuse_at}
use Rattle.run.specs.Run.{most_rounds, station_at, may_vote, vote_fits, decision_fits, sound}
use Rattle.run.specs.Block.{plain, is_plain, record_of, block_fits, check_block}
use Rattle.run.specs.Opening.{setup_in, check_head, check_default}
use Rattle.run.proofs.First.{first_none, first_some}
use Rattle.run.proofs.Replies.{then_stop, refused_isn't, then_end}
use Rattle.run.proofs.Blocks.{
  is_plain_plain,
  plain_is,
  block_fits_record_of,
  number_record,
  maybe_record,
  fits_at,
  check_block_accepted,
}
use Rattle.run.proofs.Sound.{may_decide_keeps, keeps_may_decide, sound_iff}
use Rattle.image.specs.Image.{
  votes_from,
  decisions_from,
  rounds_from,
  image_length,
  estimates_shape,
  votes_shape,
  decisions_shape,
  rounds_shape,
  blocks,
  check_save,
  run_in,
  check_blocks,
  check_records,
  check_form,
  check_votes,
  check_decisions,
  check_rules,
  check_image,
}
use Rattle.image.proofs.Images.{check_save_is, check_records_is, check_form_is, check_blocks_is}
use Rattle.round.proofs.Places.{receiver_of, sender_of}
use Rattle.consensus.specs.OneReply.{Only}
use Rattle.consensus.specs.OpeningReplies.{Headed, DefaultThere}
use Rattle.consensus.specs.ImageReplies.{
  InPlace,
  ImageWhole,
  InPlaceUpTo,
  Breaks,
  ImageForm,
  ImageReply,
  SaveReply,
}
use Rattle.consensus.proofs.Asking.{then_by, test_by, test_then, search_by, search_then, unless}
use Rattle.consensus.proofs.OpeningReplies.{
  headed_iff,
  head_by,
  head_1,
  head_2,
  head_3,
  head_4,
  default_iff,
  default_by,
  default_2,
  block_by,
  block_2,
}

-- ---- a record in its place
-- the four blocks of an image, each n records behind the one before
abbrev shape_of : ℕ → Shape
shape_of zero = estimates_shape
shape_of (suc zero) = votes_shape
shape_of (suc (suc zero)) = decisions_shape
shape_of (suc (suc (suc b))) = rounds_shape

-- it is one of the first three, or that of a station p in a block b
abbrev InBlock : Setup → ℕ → Record → Type 0
InBlock s k r = (b : ℕ) × (p : ℕ) × (p < s.n) × (k ≡ 3 + (s.n * b + p)) × (block_fits (shape_of b) p r ≡ true)

placed : (s : Setup) (k : ℕ) (r : Record) → InPlace s k r → (k ≤ 2) ⊎ InBlock s k r
unfolding record_of
placed s k r (InPlace.default d e is z) = inl (omega (arith, e))
placed s k r (InPlace.clock c e is) = inl (omega (arith, e))
placed s k r (InPlace.estimate p x l e is) =
    inr (0, p, l, omega (arith, e), ap (block_fits estimates_shape p) is ∙ block_fits_record_of estimates_shape p false x)
placed s k r (InPlace.no_vote p l e is) =
    inr (1, p, l, omega (arith, e), ap (block_fits votes_shape p) is ∙ block_fits_record_of votes_shape p false 0)
placed s k r (InPlace.vote p x l e is) =
    inr (1, p, l, omega (arith, e), ap (block_fits votes_shape p) is ∙ block_fits_record_of votes_shape p true x)
placed s k r (InPlace.undecided p l e is) =
    inr (2, p, l, omega (arith, e), ap (block_fits decisions_shape p) is ∙ block_fits_record_of decisions_shape p false 0)
placed s k r (InPlace.decided p x l e is) =
    inr (2, p, l, omega (arith, e), ap (block_fits decisions_shape p) is ∙ block_fits_record_of decisions_shape p true x)
placed s k r (InPlace.round p x l e is) =
    inr (3, p, l, omega (arith, e), ap (block_fits rounds_shape p) is ∙ block_fits_record_of rounds_shape p false x)

-- and which station and which block is told by its number
placed_at : (s : Setup) (b i k : ℕ) (r : Record) → i < s.n → k ≡ 3 + (s.n * b + i) → InPlace s k r
    → block_fits (shape_of b) i r ≡ true
placed_at s b i k r l e x = ⊎_elim (λ low. absurd (omega (arith, low, e))) in_block (placed s k r x)
  where
    in_block : InBlock s k r → block_fits (shape_of b) i r ≡ true
    in_block (c, p, lp, f, fits) =
        let whole : s.n * c + p ≡ s.n * b + i = omega (arith, e, f) in
        let block : c ≡ b
        = sym (receiver_of s.n c p lp) ∙ ap (λ (z : ℕ). z / s.n) whole ∙ receiver_of s.n b i l in
        let station : p ≡ i
        = sym (sender_of s.n c p lp) ∙ ap (λ (z : ℕ). z % s.n) whole ∙ sender_of s.n b i l in
        rw (block, station) at fits

module _ (s : Setup) (k i : ℕ) (r : Record) where
  -- and back, block by block
  estimate_placed : block_fits estimates_shape i r ≡ true → i < s.n → k ≡ 3 + i → InPlace s k r
  unfolding record_of
  estimate_placed h l e = InPlace.estimate i r.number l e (number_record kind.ESTIMATE i false r h)

  vote_placed : block_fits votes_shape i r ≡ true → i < s.n → k ≡ 3 + s.n + i → InPlace s k r
  unfolding record_of
  vote_placed h l e = go (eqb r.kind kind.VOTE) (maybe_record kind.NO_VOTE kind.VOTE i r h)
    where
      go : (b : Bool) → r ≡ record_of votes_shape i b r.number → InPlace s k r
      go true is = InPlace.vote i r.number l e is
      go false is = InPlace.no_vote i l e is

  decision_placed : block_fits decisions_shape i r ≡ true → i < s.n → k ≡ 3 + 2 * s.n + i → InPlace s k r
  unfolding record_of
  decision_placed h l e = go (eqb r.kind kind.DECIDED) (maybe_record kind.UNDECIDED kind.DECIDED i r h)
    where
      go : (b : Bool) → r ≡ record_of decisions_shape i b r.number → InPlace s k r
      go true is = InPlace.decided i r.number l e is
      go false is = InPlace.undecided i l e is

  round_placed : block_fits rounds_shape i r ≡ true → i < s.n → k ≡ 3 + 3 * s.n + i → InPlace s k r
  unfolding record_of
  round_placed h l e = InPlace.round i r.number l e (number_record kind.DECISION_ROUND i false r h)

-- record 1, and record 2
module _ (s : Setup) (r : Record) where
  pub default_placed : InPlace s 1 r → (d : ℕ) × (r ≡ plain kind.DEFAULT 0 d) × (s.algorithm ≡ byte_a → d ≡ 0)
  default_placed x = go 1 refl x
    where
      go : (k : ℕ) → k ≡ 1 → InPlace s k r
          → (d : ℕ) × (r ≡ plain kind.DEFAULT 0 d) × (s.algorithm ≡ byte_a → d ≡ 0)
      go k f (InPlace.default d e is z) = (d, is, z)
      go k f (InPlace.clock c e is) = absurd (omega (arith, e, f))
      go k f (InPlace.estimate p x lp e is) = absurd (omega (arith, e, f))
      go k f (InPlace.no_vote p lp e is) = absurd (omega (arith, e, f))
      go k f (InPlace.vote p x lp e is) = absurd (omega (arith, e, f))
      go k f (InPlace.undecided p lp e is) = absurd (omega (arith, e, f))
      go k f (InPlace.decided p x lp e is) = absurd (omega (arith, e, f))
      go k f (InPlace.round p x lp e is) = absurd (omega (arith, e, f))

  pub clock_placed : InPlace s 2 r → is_plain kind.CLOCK 0 r ≡ true
  clock_placed x = go 2 refl x
    where
      go : (k : ℕ) → k ≡ 2 → InPlace s k r → is_plain kind.CLOCK 0 r ≡ true
      go k f (InPlace.default d e is z) = absurd (omega (arith, e, f))
      go k f (InPlace.clock c e is) = ap (is_plain kind.CLOCK 0) is ∙ is_plain_plain kind.CLOCK 0 c
      go k f (InPlace.estimate p x lp e is) = absurd (omega (arith, e, f))
      go k f (InPlace.no_vote p lp e is) = absurd (omega (arith, e, f))
      go k f (InPlace.vote p x lp e is) = absurd (omega (arith, e, f))
      go k f (InPlace.undecided p lp e is) = absurd (omega (arith, e, f))
      go k f (InPlace.decided p x lp e is) = absurd (omega (arith, e, f))
      go k f (InPlace.round p x lp e is) = absurd (omega (arith, e, f))

-- ---- a rule and its test
vote_iff : (s : Setup) (clock : ℕ) (voted : Bool)
    → (vote_fits s clock voted ≡ true) ↔ (voted ≡ true → (s.algorithm ≡ byte_u) × (clock % 2 ≡ 1))
unfolding vote_fits may_vote
vote_iff s clock true = (
  λ e h. let (u, odd) = both _ _ e in (eqb-true _ _ u, eqb-true _ _ odd),
  λ h. let (u, odd) = h refl in rw (eq-eqb _ _ u, eq-eqb _ _ odd),
)
vote_iff s clock false = (λ e h. absurd (false≢true h), λ h. refl)

decided_iff : (s : Setup) (clock round : ℕ)
    → (decision_fits s clock true round ≡ true)
    ↔ ((1 ≤ round) × (round ≤ clock) × (s.algorithm ≡ byte_u → round % 2 ≡ 0))
unfolding decision_fits
decided_iff s clock round =
    (may_decide_keeps s clock round, λ h. keeps_may_decide s clock round h.0 h.1 h.2)

undecided_iff : (s : Setup) (clock round : ℕ) → (decision_fits s clock false round ≡ true) ↔ (round ≡ 0)
unfolding decision_fits
undecided_iff s clock round = (eqb-true round 0, eq-eqb round 0)

module _ (run : Run) where
  abbrev m : ℕ
  m = run.setup.n

  abbrev vote_fails : ℕ → Bool
  vote_fails i = not (vote_fits run.setup run.clock (station_at run i).voted)

  abbrev decision_fails : ℕ → Bool
  decision_fails i = not (decision_fits run.setup run.clock (station_at run i).decided (station_at run i).round)

  vote_broken : (i : ℕ) → i < m → vote_fails i ≡ true → Breaks run (3 + m + i)
  vote_broken i l e = go (station_at run i).voted refl
    where
      fails : vote_fits run.setup run.clock (station_at run i).voted ≡ false
      fails = not-true _ e

      go : (b : Bool) → (station_at run i).voted ≡ b → Breaks run (3 + m + i)
      go true v =
          Breaks.vote i l refl v
          (λ h. false≢true (sym fails ∙ (vote_iff run.setup run.clock (station_at run i).voted).1 (λ _. h)))
      go false v =
          absurd
          (false≢true
          (sym fails
          ∙ (vote_iff run.setup run.clock (station_at run i).voted).1 (λ h. absurd (false≢true (sym v ∙ h)))))

  decision_broken : (i : ℕ) → i < m → decision_fails i ≡ true → Breaks run (3 + 3 * m + i)
  decision_broken i l e = go (station_at run i).decided refl
    where
      fails : decision_fits run.setup run.clock (station_at run i).decided (station_at run i).round ≡ false
      fails = not-true _ e

      fails_for : (b : Bool) → (station_at run i).decided ≡ b
          → decision_fits run.setup run.clock b (station_at run i).round ≡ false
      fails_for b d =
          ap (λ (x : Bool). decision_fits run.setup run.clock x (station_at run i).round) (sym d) ∙ fails

      go : (b : Bool) → (station_at run i).decided ≡ b → Breaks run (3 + 3 * m + i)
      go true d =
          Breaks.decided i l refl d
          (λ h.
          false≢true (sym (fails_for true d) ∙ (decided_iff run.setup run.clock (station_at run i).round).1 h))
      go false d =
          Breaks.undecided i l refl d
          (λ h.
          false≢true (sym (fails_for false d) ∙ (undecided_iff run.setup run.clock (station_at run i).round).1 h))

  -- and back
  broken_vote : (p : ℕ) → (station_at run p).voted ≡ true
      → ¬ ((run.setup.algorithm ≡ byte_u) × (run.clock % 2 ≡ 1)) → vote_fails p ≡ true
  broken_vote p v bad =
      ap not
      (unless (vote_fits run.setup run.clock (station_at run p).voted)
      (λ e. bad ((vote_iff run.setup run.clock (station_at run p).voted).0 e v)))

  broken_undecided : (p : ℕ) → (station_at run p).decided ≡ false → ¬ ((station_at run p).round ≡ 0)
      → decision_fails p ≡ true
  broken_undecided p d bad =
      rw d
      (ap not
      (unless (decision_fits run.setup run.clock false (station_at run p).round)
      (λ e. bad ((undecided_iff run.setup run.clock (station_at run p).round).0 e))))

  broken_decided : (p : ℕ) → (station_at run p).decided ≡ true
      → ¬ ((1 ≤ (station_at run p).round) × ((station_at run p).round ≤ run.clock)
      × (run.setup.algorithm ≡ byte_u → (station_at run p).round % 2 ≡ 0))
      → decision_fails p ≡ true
  broken_decided p d bad =
      rw d
      (ap not
      (unless (decision_fits run.setup run.clock true (station_at run p).round)
      (λ e. bad ((decided_iff run.setup run.clock (station_at run p).round).0 e))))

  -- ---- the rules, in the order of their records
  abbrev timely : Bool
  timely = leb run.clock most_rounds

  abbrev votes_said : Reply
  votes_said = refuse_at (first m vote_fails) (λ i. Rules (3 + m + i))

  abbrev decisions_said : Reply
  decisions_said = refuse_at (first m decision_fails) (λ i. Rules (3 + m + m + m + i))

  rules_asked : check_rules run ≡ (or_refuse timely (Rules 2) then votes_said then decisions_said)
  unfolding check_rules check_votes check_decisions
  rules_asked = refl

  NoneBefore : ℕ → Type 0
  NoneBefore k = (j : ℕ) → j < k → ¬ Breaks run j

  -- what breaks, breaks at the clock's record, a vote's, or that of a decision's round
  none_before : (k : ℕ) → timely ≡ true
      → ((i : ℕ) → i < m → 3 + m + i < k → vote_fails i ≡ false)
      → ((i : ℕ) → i < m → 3 + 3 * m + i < k → decision_fails i ≡ false) → (j : ℕ) → j < k → ¬ Breaks run j
  none_before k time votes decisions j l (Breaks.clock e late) =
      omega (arith, leb-true run.clock most_rounds time, late)
  none_before k time votes decisions j l (Breaks.vote p lp e v bad) =
      true≢false (sym (broken_vote p v bad) ∙ votes p lp (omega (arith, e, l)))
  none_before k time votes decisions j l (Breaks.undecided p lp e d bad) =
      true≢false (sym (broken_undecided p d bad) ∙ decisions p lp (omega (arith, e, l)))
  none_before k time votes decisions j l (Breaks.decided p lp e d bad) =
      true≢false (sym (broken_decided p d bad) ∙ decisions p lp (omega (arith, e, l)))

  early : (k : ℕ) → k ≤ 2 → (j : ℕ) → j < k → ¬ Breaks run j
  early k h j l (Breaks.clock e late) = omega (arith, e, l, h)
  early k h j l (Breaks.vote p lp e v bad) = omega (arith, e, l, h)
  early k h j l (Breaks.undecided p lp e d bad) = omega (arith, e, l, h)
  early k h j l (Breaks.decided p lp e d bad) = omega (arith, e, l, h)

  module _ (P : Reply → Type 0)
      (ten : (k : ℕ) → Breaks run k → ((j : ℕ) → j < k → ¬ Breaks run j) → P (Rules k))
      (none_broken : ((k : ℕ) → ¬ Breaks run k) → P Accepted) where
    rules_by : P (check_rules run)
    rules_by =
        subst P (sym rules_asked)
        (test_then P timely (Rules 2) (votes_said then decisions_said) refl
        (λ e. ten 2 (Breaks.clock refl (leb-false run.clock most_rounds e)) (early 2 (omega arith)))
        (λ time.
        search_then P m vote_fails (λ i. Rules (3 + m + i)) decisions_said (λ i. refl)
        (λ i l here before.
        ten (3 + m + i) (vote_broken i l here)
        (none_before (3 + m + i) time (λ j lj h. before j (omega arith)) (λ j lj h. absurd (omega (arith, h, l)))))
        (λ votes.
        search_by P m decision_fails (λ i. Rules (3 + m + m + m + i))
        (λ i l here before.
        let same : 3 + 3 * m + i ≡ 3 + m + m + m + i = omega arith in
        subst (λ (k : ℕ). P (Rules k)) same
        (ten (3 + 3 * m + i) (decision_broken i l here)
        (none_before (3 + 3 * m + i) time (λ j lj h. votes j lj) (λ j lj h. before j (omega arith)))))
        (λ decisions.
        none_broken
        (λ k b.
        none_before (k + 1) time (λ j lj h. votes j lj) (λ j lj h. decisions j lj) k (omega arith) b)))))

  -- a broken rule, none broken before it
  module _ (k : ℕ) (none : (j : ℕ) → j < k → ¬ Breaks run j) where
    on_time : 2 < k → timely ≡ true
    on_time l =
        go timely refl
      where
        go : (b : Bool) → timely ≡ b → b ≡ true
        go true e = refl
        go false e = absurd (none 2 l (Breaks.clock refl (leb-false run.clock most_rounds e)))

    votes_fit : (i : ℕ) → i < m → 3 + m + i < k → vote_fails i ≡ false
    votes_fit i l h = unless (vote_fails i) (λ e. none (3 + m + i) h (vote_broken i l e))

    decisions_fit : (i : ℕ) → i < m → 3 + 3 * m + i < k → decision_fails i ≡ false
    decisions_fit i l h = unless (decision_fails i) (λ e. none (3 + 3 * m + i) h (decision_broken i l e))

    broken_round : (p : ℕ) → p < m → k ≡ 3 + 3 * m + p → decision_fails p ≡ true → check_rules run ≡ Rules k
    broken_round p l e bad =
        let place : 3 + m + m + m + p ≡ k = omega (arith, e) in
        rules_asked
        ∙ rw (
          on_time (omega (arith, e)),
          (first_none vote_fails m).1 (λ i li. votes_fit i li (omega (arith, e, li))),
          (first_some decision_fails m p).1 (l, bad, λ i li. decisions_fit i (omega (arith, li, l)) (omega (arith, e, li))),
          place,
        )

    rules_10 : Breaks run k → check_rules run ≡ Rules k
    rules_10 (Breaks.clock e late) =
        rules_asked
        ∙ rw (unless timely (λ t. omega (arith, leb-true run.clock most_rounds t, late)), e)
    rules_10 (Breaks.vote p l e v bad) =
        rules_asked
        ∙ rw (
          on_time (omega (arith, e)),
          (first_some vote_fails m p).1 (
            l,
            broken_vote p v bad,
            λ i li. votes_fit i (omega (arith, li, l))
                (omega (arith, e, li)),
          ),
          e,
        )
    rules_10 (Breaks.undecided p l e d bad) = broken_round p l e (broken_undecided p d bad)
    rules_10 (Breaks.decided p l e d bad) = broken_round p l e (broken_decided p d bad)

  rules_0 : ((k : ℕ) → ¬ Breaks run k) → check_rules run ≡ Accepted
  rules_0 none =
      rules_asked
      ∙ rw (
        on_time 3 (λ j l. none j) (omega arith),
        (first_none vote_fails m).1 (λ i l. votes_fit (3 + m + i + 1) (λ j h. none j) i l (omega arith)),
        (first_none decision_fails m).1 (λ i l. decisions_fit (3 + 3 * m + i + 1) (λ j h. none j) i l (omega arith)),
      )

-- ---- the form of an image
module _ (bs : List ℕ) where
  abbrev s : Setup
  s = setup_in bs

  abbrev n : ℕ
  n = s.n

  abbrev Placed : ℕ → Type 0
  Placed k = InPlace s k (record_at bs k)

  -- a block: the record at which it begins, its shape, and that its test says whether a record is in place
  pub record Told (start : ℕ) (shape : Shape) : Type 0 where
    pub there : (i : ℕ) → i < n → fits_at bs start shape i ≡ true → Placed (start + i)
    pub back : (i : ℕ) → i < n → Placed (start + i) → fits_at bs start shape i ≡ true

  estimates_told : Told 3 estimates_shape
  estimates_told =
      record {
        there = λ i l h. estimate_placed s (3 + i) i (record_at bs (3 + i)) h l refl;
        back = λ i l x. placed_at s 0 i (3 + i) (record_at bs (3 + i)) l (omega arith) x;
      }

  votes_told : Told (votes_from n) votes_shape
  votes_told =
      record {
        there = λ i l h. vote_placed s (votes_from n + i) i (record_at bs (votes_from n + i)) h l refl;
        back = λ i l x. placed_at s 1 i (votes_from n + i) (record_at bs (votes_from n + i)) l (omega arith) x;
      }

  decisions_told : Told (decisions_from n) decisions_shape
  decisions_told =
      record {
        there =
            λ i l h. decision_placed s (decisions_from n + i) i (record_at bs (decisions_from n + i)) h l (omega arith);
        back = λ i l x. placed_at s 2 i (decisions_from n + i) (record_at bs (decisions_from n + i)) l (omega arith) x;
      }

  rounds_told : Told (rounds_from n) rounds_shape
  rounds_told =
      record {
        there = λ i l h. round_placed s (rounds_from n + i) i (record_at bs (rounds_from n + i)) h l (omega arith);
        back = λ i l x. placed_at s 3 i (rounds_from n + i) (record_at bs (rounds_from n + i)) l (omega arith) x;
      }

  -- one record more, and a block's more
  up_to_next : (k : ℕ) → InPlaceUpTo bs k → Placed k → InPlaceUpTo bs (k + 1)
  up_to_next k before here j from l = go (dec_le k j)
    where
      go : Dec (k ≤ j) → Placed j
      go (yes h) = let same : k ≡ j = omega (arith, h, l) in subst Placed same here
      go (no h) = before j from (omega (arith, h))

  up_to : (start : ℕ) → InPlaceUpTo bs start → (i : ℕ) → ((j : ℕ) → j < i → Placed (start + j))
      → InPlaceUpTo bs (start + i)
  up_to start before i block j from l = go (dec_le start j)
    where
      go : Dec (start ≤ j) → Placed j
      go (yes h) =
          let same : start + (j - start) ≡ j = omega (arith, h) in
          subst Placed same (block (j - start) (omega (arith, h, l)))
      go (no h) = before j from (omega (arith, h))

  -- what is so of the refusals of the form
  module _ (P : Reply → Type 0)
      (two : (k : ℕ) → 1 ≤ k → k < 3 + 4 * n → InPlaceUpTo bs k → ¬ Placed k → P (Malformed k)) where
    block_on : (start : ℕ) (shape : Shape) → Told start shape → 1 ≤ start → start + n ≤ 3 + 4 * n
        → InPlaceUpTo bs start → (rest : Reply) → (InPlaceUpTo bs (start + n) → P rest)
        → P (check_block bs start n shape then rest)
    block_on start shape told from fits before rest on =
        block_by bs start n shape P
        (λ i l here ok.
        two (start + i) (omega (arith, from)) (omega (arith, fits, l))
        (up_to start before i (λ j h. told.there j (omega (arith, h, l)) (ok j h)))
        (λ x. false≢true (sym here ∙ told.back i l x)))
        rest (λ all. on (up_to start before n (λ j h. told.there j h (all j h))))

    records_by : InPlaceUpTo bs 2 → (InPlaceUpTo bs (3 + 4 * n) → P Accepted) → P (check_records bs n)
    records_by before on =
        subst P (sym (check_records_is bs n))
        (test_then P (is_plain kind.CLOCK 0 (record_at bs 2)) (Malformed 2) (check_blocks bs 3 n blocks) refl
        (λ e. two 2 (omega arith) (omega arith) before (λ x. false≢true (sym e ∙ clock_placed s (record_at bs 2) x)))
        (λ e.
        let clock : Placed 2
        = InPlace.clock (record_at bs 2).number refl (plain_is kind.CLOCK 0 (record_at bs 2) e) in
        subst P (sym (check_blocks_is bs n))
        (block_on 3 estimates_shape estimates_told (omega arith) (omega arith) (up_to_next 2 before clock)
        (check_block bs (votes_from n) n votes_shape then check_block bs (decisions_from n) n decisions_shape
        then check_block bs (rounds_from n) n rounds_shape)
        (λ estimates.
        block_on (votes_from n) votes_shape votes_told (omega arith) (omega arith) estimates
        (check_block bs (decisions_from n) n decisions_shape then check_block bs (rounds_from n) n rounds_shape)
        (λ votes.
        block_on (decisions_from n) decisions_shape decisions_told (omega arith) (omega arith) votes
        (check_block bs (rounds_from n) n rounds_shape)
        (λ decisions.
        subst P (then_end (check_block bs (rounds_from n) n rounds_shape))
        (block_on (rounds_from n) rounds_shape rounds_told (omega arith) (omega arith) decisions Accepted
        (λ rounds.
        let all : rounds_from n + n ≡ 3 + 4 * n = omega arith in
        on (subst (InPlaceUpTo bs) all rounds)))))))))

  -- a record that is not in place, all before it being so
  module _ (k : ℕ) (before : InPlaceUpTo bs k) where
    passes : (start : ℕ) (shape : Shape) → Told start shape → 1 ≤ start → start + n ≤ k
        → check_block bs start n shape ≡ Accepted
    passes start shape told from l =
        (check_block_accepted bs start n shape).1
        (λ i h. told.back i h (before (start + i) (omega (arith, from)) (omega (arith, h, l))))

    stops : ¬ Placed k → (start : ℕ) (shape : Shape) → Told start shape → 1 ≤ start → start ≤ k → k < start + n
        → check_block bs start n shape ≡ Malformed k
    stops bad start shape told from low high =
        let i : ℕ = k - start in
        let same : start + i ≡ k = omega (arith, low) in
        block_2 bs start n shape i (omega (arith, low, high))
        (unless (fits_at bs start shape i)
        (λ e. bad (subst Placed same (told.there i (omega (arith, low, high)) e))))
        (λ j h. told.back j (omega (arith, h, low, high)) (before (start + j) (omega (arith, from)) (omega (arith, h, low))))
        ∙ ap Malformed same

    clock_passes : 2 < k → is_plain kind.CLOCK 0 (record_at bs 2) ≡ true
    clock_passes l = clock_placed s (record_at bs 2) (before 2 (omega arith) l)

    records_2 : ¬ Placed k → 2 ≤ k → k < 3 + 4 * n → check_records bs n ≡ Malformed k
    records_2 bad low high = go (dec_le 3 k)
      where
        asked : 2 < k → check_records bs n
            ≡ (check_block bs 3 n estimates_shape then check_block bs (votes_from n) n votes_shape
            then check_block bs (decisions_from n) n decisions_shape then check_block bs (rounds_from n) n rounds_shape)
        asked l = check_records_is bs n ∙ rw (clock_passes l) (check_blocks_is bs n)

        in_rounds : rounds_from n ≤ k → check_records bs n ≡ Malformed k
        in_rounds h =
            asked (omega (arith, h))
            ∙ rw (
              passes 3 estimates_shape estimates_told (omega arith) (omega (arith, h)),
              passes (votes_from n) votes_shape votes_told (omega arith) (omega (arith, h)),
              passes (decisions_from n) decisions_shape decisions_told (omega arith) (omega (arith, h)),
              stops bad (rounds_from n) rounds_shape rounds_told (omega arith) h (omega (arith, high)),
            )

        in_decisions : decisions_from n ≤ k → Dec (rounds_from n ≤ k) → check_records bs n ≡ Malformed k
        in_decisions h (yes g) = in_rounds g
        in_decisions h (no g) =
            asked (omega (arith, h))
            ∙ rw (
              passes 3 estimates_shape estimates_told (omega arith) (omega (arith, h)),
              passes (votes_from n) votes_shape votes_told (omega arith) (omega (arith, h)),
              stops bad (decisions_from n) decisions_shape decisions_told (omega arith) h (omega (arith, g)),
            )

        in_votes : votes_from n ≤ k → Dec (decisions_from n ≤ k) → check_records bs n ≡ Malformed k
        in_votes h (yes g) = in_decisions g (dec_le (rounds_from n) k)
        in_votes h (no g) =
            asked (omega (arith, h))
            ∙ rw (
              passes 3 estimates_shape estimates_told (omega arith) (omega (arith, h)),
              stops bad (votes_from n) votes_shape votes_told (omega arith) h (omega (arith, g)),
            )

        in_estimates : 3 ≤ k → Dec (votes_from n ≤ k) → check_records bs n ≡ Malformed k
        in_estimates h (yes g) = in_votes g (dec_le (decisions_from n) k)
        in_estimates h (no g) =
            asked (omega (arith, h))
            ∙ rw (stops bad 3 estimates_shape estimates_told (omega arith) h (omega (arith, g)))

        go : Dec (3 ≤ k) → check_records bs n ≡ Malformed k
        go (yes h) = in_estimates h (dec_le (votes_from n) k)
        go (no h) =
            let two : 2 ≡ k = omega (arith, low, h) in
            check_records_is bs n
            ∙ rw (unless (is_plain kind.CLOCK 0 (record_at bs 2))
            (λ e. bad (subst Placed two
            (InPlace.clock (record_at bs 2).number refl (plain_is kind.CLOCK 0 (record_at bs 2) e)))))
            (ap Malformed two)

  abbrev whole : Bool
  whole = eqb (length bs) (image_length n)

  default_of : DefaultThere bs → Placed 1
  default_of (d, is, fits) = InPlace.default d refl is fits

  upto_2 : Placed 1 → InPlaceUpTo bs 2
  upto_2 x j from l = let same : 1 ≡ j = omega (arith, from, l) in subst Placed same x

  image_asked : check_image bs ≡ (check_form bs then check_rules (run_in bs))
  unfolding check_image
  image_asked = refl

  abbrev R : Reply → Type 0
  R = ImageReply bs

  -- the form's refusals are the image's
  abbrev Refused : Reply → Type 0
  Refused r = is_accepted r ≡ false → R r

  form_refused : Refused (check_form bs)
  form_refused =
      subst Refused (sym (check_form_is bs))
      (head_by bs Refused (λ h _. ImageReply.too_short h) (λ h t _. ImageReply.no_setup h t)
      (λ t r _. ImageReply.out_of_range t r) (λ t r u _. ImageReply.unmet t r u)
      (or_refuse whole Length then check_default bs then check_records bs n)
      (λ head.
      test_then Refused whole Length (check_default bs then check_records bs n) refl
      (λ e _. ImageReply.misfit head (eqb-false (length bs) (image_length n) e))
      (λ e.
      let long : ImageWhole bs = eqb-true (length bs) (image_length n) e in
      default_by bs Refused head.range
      (λ none _.
      ImageReply.malformed 1 head long (omega arith) (omega arith) (λ j from l. absurd (omega (arith, from, l)))
      (λ x. none (default_placed s (record_at bs 1) x)))
      (check_records bs n)
      (λ default.
      records_by Refused (λ k from to before bad _. ImageReply.malformed k head long from to before bad)
      (upto_2 (default_of default)) (λ all f. absurd (true≢false f))))))

  form_kept : check_form bs ≡ Accepted → ImageForm bs
  form_kept ok =
      subst (λ (r : Reply). r ≡ Accepted → ImageForm bs) (sym (check_form_is bs))
      (head_by bs (λ (r : Reply). r ≡ Accepted → ImageForm bs) (λ h e. absurd (refused_isn't Length refl e))
      (λ h t e. absurd (refused_isn't (Malformed 0) refl e))
      (λ t r e. absurd (refused_isn't Range refl e)) (λ t r u e. absurd (refused_isn't Inequality refl e))
      (or_refuse whole Length then check_default bs then check_records bs n)
      (λ head.
      test_then (λ (r : Reply). r ≡ Accepted → ImageForm bs) whole Length (check_default bs then check_records bs n) refl
      (λ f e. absurd (refused_isn't Length refl e))
      (λ f.
      default_by bs (λ (r : Reply). r ≡ Accepted → ImageForm bs) head.range
      (λ none e. absurd (refused_isn't (Malformed 1) refl e)) (check_records bs n)
      (λ default.
      records_by (λ (r : Reply). r ≡ Accepted → ImageForm bs)
      (λ k from to before bad e. absurd (refused_isn't (Malformed k) refl e)) (upto_2 (default_of default))
      (λ all e.
      record { headed = head; long = eqb-true (length bs) (image_length n) f; in_place = all })))))
      ok

  image_holds : R (check_image bs)
  image_holds =
      subst R (sym image_asked)
      (then_by R (check_form bs) (check_rules (run_in bs)) form_refused
      (λ e.
      let form = form_kept e in
      rules_by (run_in bs) R (λ k b none. ImageReply.broken k form b none) (λ none. ImageReply.accepted form none)))

  -- past each check
  past_head : Headed bs
      → check_form bs ≡ (or_refuse whole Length then check_default bs then check_records bs n)
  past_head head = check_form_is bs ∙ rw ((headed_iff bs).1 head)

  past_whole : Headed bs → ImageWhole bs → check_form bs ≡ (check_default bs then check_records bs n)
  past_whole head long = past_head head ∙ rw (eq-eqb (length bs) (image_length n) long)

  past_default : Headed bs → ImageWhole bs → Placed 1 → check_form bs ≡ check_records bs n
  past_default head long one =
      past_whole head long ∙ rw ((default_iff bs head.range).1 (default_placed s (record_at bs 1) one))

  form_accepted : ImageForm bs → check_form bs ≡ Accepted
  form_accepted form =
      let k : ℕ = 3 + 4 * n in
      let upto = form.in_place in
      past_default form.headed form.long (upto 1 (omega arith) (omega arith))
      ∙ check_records_is bs n
      ∙ rw (clock_passes k upto (omega arith), check_blocks_is bs n)
      (rw (
        passes k upto 3 estimates_shape estimates_told (omega arith) (omega arith),
        passes k upto (votes_from n) votes_shape votes_told (omega arith) (omega arith),
        passes k upto (decisions_from n) decisions_shape decisions_told (omega arith) (omega arith),
        passes k upto (rounds_from n) rounds_shape rounds_told (omega arith) (omega arith),
      ))

  form_2 : (k : ℕ) → Headed bs → ImageWhole bs → 1 ≤ k → k < 3 + 4 * n → InPlaceUpTo bs k → ¬ Placed k
      → check_form bs ≡ Malformed k
  form_2 k head long from to before bad = go (dec_le 2 k)
    where
      go : Dec (2 ≤ k) → check_form bs ≡ Malformed k
      go (yes h) =
          past_default head long (before 1 (omega arith) (omega (arith, h))) ∙ records_2 k before bad h to
      go (no h) =
          let one : 1 ≡ k = omega (arith, from, h) in
          past_whole head long
          ∙ rw (default_2 bs head.range (λ d. bad (subst Placed one (default_of d)))) (ap Malformed one)

  -- a refusal of the form is the image's reply
  form_stops : (r : Reply) → is_accepted r ≡ false → check_form bs ≡ r → r ≡ check_image bs
  form_stops r f e =
      sym (image_asked ∙ then_stop (check_form bs) (check_rules (run_in bs)) (ap is_accepted e ∙ f) ∙ e)

  form_of_head : (r : Reply) → is_accepted r ≡ false → check_head bs ≡ r → check_form bs ≡ r
  form_of_head r f e =
      check_form_is bs
      ∙ then_stop (check_head bs) (or_refuse whole Length then check_default bs then check_records bs n)
      (ap is_accepted e ∙ f)
      ∙ e

  image_alone : (r : Reply) → R r → r ≡ check_image bs
  image_alone r (ImageReply.too_short short) = form_stops Length refl (form_of_head Length refl (head_1 bs short))
  image_alone r (ImageReply.no_setup long none) =
      form_stops (Malformed 0) refl (form_of_head (Malformed 0) refl (head_2 bs long none))
  image_alone r (ImageReply.out_of_range there out) =
      form_stops Range refl (form_of_head Range refl (head_3 bs there out))
  image_alone r (ImageReply.unmet there range not_met) =
      form_stops Inequality refl (form_of_head Inequality refl (head_4 bs there range not_met))
  image_alone r (ImageReply.misfit head other) =
      form_stops Length refl (past_head head ∙ rw (ne_eqb (length bs) (image_length n) other))
  image_alone r (ImageReply.malformed k head long from to before bad) =
      form_stops (Malformed k) refl (form_2 k head long from to before bad)
  image_alone r (ImageReply.broken k form b none) =
      sym (image_asked ∙ rw (form_accepted form) (rules_10 (run_in bs) k none b))
  image_alone r (ImageReply.accepted form none) =
      sym (image_asked ∙ rw (form_accepted form) (rules_0 (run_in bs) none))

-- an image that is loaded is answered what the relation says, and this says nothing else
pub image_replies : (bs : List ℕ) → Only (ImageReply bs) (check_image bs)
image_replies bs = record { holds = image_holds bs; alone = image_alone bs }

-- an image that is accepted has its form
pub accepted_form : (bs : List ℕ) (r : Reply) → ImageReply bs r → r ≡ Accepted → ImageForm bs
accepted_form bs r (ImageReply.too_short short) e = absurd (refused_isn't Length refl e)
accepted_form bs r (ImageReply.no_setup long none) e = absurd (refused_isn't (Malformed 0) refl e)
accepted_form bs r (ImageReply.out_of_range there out) e = absurd (refused_isn't Range refl e)
accepted_form bs r (ImageReply.unmet there range not_met) e = absurd (refused_isn't Inequality refl e)
accepted_form bs r (ImageReply.misfit head other) e = absurd (refused_isn't Length refl e)
accepted_form bs r (ImageReply.malformed k head long from to before bad) e = absurd (refused_isn't (Malformed k) refl e)
accepted_form bs r (ImageReply.broken k form b none) e = absurd (refused_isn't (Rules k) refl e)
accepted_form bs r (ImageReply.accepted form none) e = form

-- ---- a run that is to be saved
module _ (run : Run) (room : ℕ) where
  abbrev fits_room : Bool
  fits_room = eqb room (image_length run.setup.n)

  save_holds : SaveReply run room (check_save run room)
  save_holds =
      let Said : Reply → Type 0 = SaveReply run room in
      subst Said (sym (check_save_is run room))
      (test_then Said (sound run) (Rules 0) (or_refuse fits_room Buffer) refl
      (λ e. SaveReply.not_good (λ keeps. false≢true (sym e ∙ (sound_iff run).1 keeps)))
      (λ e.
      let keeps = (sound_iff run).0 e in
      test_by Said fits_room Buffer
      (λ f. SaveReply.no_room keeps (eqb-false room (image_length run.setup.n) f))
      (λ f. SaveReply.accepted keeps (eqb-true room (image_length run.setup.n) f))))

  save_alone : (r : Reply) → SaveReply run room r → r ≡ check_save run room
  save_alone r (SaveReply.not_good bad) =
      sym (check_save_is run room ∙ rw (unless (sound run) (λ e. bad ((sound_iff run).0 e))))
  save_alone r (SaveReply.no_room keeps other) =
      sym
      (check_save_is run room
      ∙ rw ((sound_iff run).1 keeps, ne_eqb room (image_length run.setup.n) other))
  save_alone r (SaveReply.accepted keeps same) =
      sym
      (check_save_is run room
      ∙ rw ((sound_iff run).1 keeps, eq-eqb room (image_length run.setup.n) same))

-- and so is a run that is to be saved
pub save_replies : (run : Run) (room : ℕ) → Only (SaveReply run room) (check_save run room)
save_replies run room = record { holds = save_holds run room; alone = save_alone run room }
