-- The checks of an opening, read and to be written, answer the replies of specs/OpeningReplies and no others: each test
-- is the fact that its case names, and the first that fails is the first case whose premises hold.
use mathlib.Core.Path.{◌≡◌, refl, ap, sym, ◌∙◌, subst}
use mathlib.Core.Bool.{Bool, true, false, not, ◌&&◌, false≢true}
use mathlib.Core.List.{List}
use mathlib.Core.Logic.{◌↔◌, ◌⊎◌, inl, inr, ⊎_elim}
use Prim.Native.Nat.{ℕ, ◌+◌, ◌≤◌, ◌<◌}
use native.Mathlib.Omega.{arith}
use lib.ListN.{length}
use lib.Dec.{eqb, leb}
use borrow.Author.Tests.{eqb-true, eqb-false, eq-eqb, ne_eqb, le-leb, leb-true, leb-false}
use Rattle.paper.specs.Setup as setup
use Rattle.limits.specs.declared.Setup.{Setup}
use Rattle.limits.specs.Setup.{byte_a, byte_u, setup_of}
use Rattle.run.specs.Reply.{Reply}
use Rattle.run.specs.Reply.{Accepted, Length, Malformed, Range, Inequality, Buffer}
use Rattle.run.specs.declared.block.Shape.{Shape}
use Rattle.run.specs.declared.record.Record.{Record}
use Rattle.run.specs.Kinds as kind
use Rattle.run.specs.Record.{record_bytes, record_at}
use Rattle.run.specs.Reply.{is_accepted, ◌then◌, or_refuse}
use Rattle.run.specs.Run.{in_range, default_fits}
use Rattle.run.specs.Block.{plain, is_plain, block_fits, check_block}
use Rattle.run.specs.Opening.{
  is_setup,
  setup_in,
  default_in,
  check_setup,
  check_head,
  check_default,
  starts_shape,
  check_starts,
  opening_length,
  check_opening,
  starts_end,
  check_write,
}
use Rattle.run.proofs.First.{first_some}
use Rattle.run.proofs.Replies.{refused_isn't, then_end}
use Rattle.run.proofs.Blocks.{is_plain_plain, plain_is, fits_at, check_block_accepted, check_block_refused}
use Rattle.run.proofs.Heads.{
  check_setup_is,
  check_head_is,
  check_setup_accepted,
  check_head_accepted,
  check_default_is,
  check_default_accepted,
  is_setup_iff,
  in_range_iff,
  default_fits_iff,
}
use Rattle.run.proofs.Openings.{check_opening_is, check_write_is}
use Rattle.run.proofs.Sound.{either_is}
use Rattle.run.proofs.Starts.{starts_end_iff}
use Rattle.consensus.specs.OneReply.{Only}
use Rattle.consensus.specs.OpeningReplies.{
  SetupThere,
  InRange,
  Meets,
  Headed,
  DefaultThere,
  StartThere,
  OpeningWhole,
  OpeningReply,
  StartsEnd,
  WriteOpeningReply,
}
use Rattle.consensus.proofs.Asking.{then_by, test_by, test_then, unless}

-- ---- a setup
range_iff : (s : Setup) → (in_range s ≡ true) ↔ InRange s
range_iff s = (there, back)
  where
    there : in_range s ≡ true → InRange s
    there e =
        let (low, high, from, to) = (in_range_iff s).0 e in
        record { algorithm = either_is s low high; n_from = from; n_to = to }

    bounds : (s.algorithm ≡ byte_a) ⊎ (s.algorithm ≡ byte_u) → (byte_a ≤ s.algorithm) × (s.algorithm ≤ byte_u)
    bounds (inl a) = (omega (arith, a), omega (arith, a))
    bounds (inr u) = (omega (arith, u), omega (arith, u))

    back : InRange s → in_range s ≡ true
    back r = let (low, high) = bounds r.algorithm in (in_range_iff s).1 (low, high, r.n_from, r.n_to)

-- a setup is refused with 3 or 4
module _ (s : Setup) (P : Reply → Type 0) where
  setup_by : (¬ InRange s → P Range) → (InRange s → ¬ Meets s → P Inequality)
      → (rest : Reply) → (InRange s → Meets s → P rest) → P (check_setup s then rest)
  setup_by three four rest on =
      then_by P (check_setup s) rest
      (λ refused.
      subst P (sym (check_setup_is s))
      (test_then P (in_range s) Range (or_refuse (setup.acceptable (setup_of s)) Inequality) refl
      (λ e. three (λ r. false≢true (sym e ∙ (range_iff s).1 r)))
      (λ range.
      test_by P (setup.acceptable (setup_of s)) Inequality
      (λ e. four ((range_iff s).0 range) (λ m. false≢true (sym e ∙ m)))
      (λ meets. absurd (refused_isn't (check_setup s) refused ((check_setup_accepted s).1 (range, meets)))))))
      (λ ok. let (range, meets) = (check_setup_accepted s).0 ok in on ((range_iff s).0 range) meets)

module _ (s : Setup) where
  setup_3 : ¬ InRange s → check_setup s ≡ Range
  setup_3 out = check_setup_is s ∙ rw (unless (in_range s) (λ e. out ((range_iff s).0 e)))

  setup_4 : InRange s → ¬ Meets s → check_setup s ≡ Inequality
  setup_4 range unmet =
      check_setup_is s ∙ rw ((range_iff s).1 range, unless (setup.acceptable (setup_of s)) unmet)

  setup_0 : InRange s → Meets s → check_setup s ≡ Accepted
  setup_0 range meets = (check_setup_accepted s).1 ((range_iff s).1 range, meets)

-- ---- what openings and images begin with
module _ (bs : List ℕ) where
  abbrev s : Setup
  s = setup_in bs

  there_iff : record_bytes ≤ length bs → (is_setup (record_at bs 0) ≡ true) ↔ SetupThere bs
  there_iff long = (
    λ e.
        let (is, zeros) = (is_setup_iff (record_at bs 0)).0 e in
        record { enough = long; is_setup = is; zeros = zeros },
    λ t. (is_setup_iff (record_at bs 0)).1 (t.is_setup, t.zeros),
  )

  pub headed_iff : (check_head bs ≡ Accepted) ↔ Headed bs
  headed_iff = (
    λ e.
        let (long, is, setup) = (check_head_accepted bs).0 e in
        let (range, meets) = (check_setup_accepted s).0 setup in
        record { there = (there_iff long).0 is; range = (range_iff s).0 range; meets = meets },
    λ h.
        (check_head_accepted bs).1 (
          h.there.enough,
          (there_iff h.there.enough).1 h.there,
          setup_0 s h.range h.meets,
        ),
  )

  -- 1, 2, 3, 4
  module _ (P : Reply → Type 0) (one : length bs < record_bytes → P Length)
      (two : record_bytes ≤ length bs → ¬ SetupThere bs → P (Malformed 0)) (three : SetupThere bs → ¬ InRange s → P Range)
      (four : SetupThere bs → InRange s → ¬ Meets s → P Inequality) where
    head_refused : is_accepted (check_head bs) ≡ false → P (check_head bs)
    head_refused refused =
        subst P (sym (check_head_is bs))
        (test_then P (leb record_bytes (length bs)) Length (or_refuse (is_setup (record_at bs 0)) (Malformed 0)
        then check_setup s) refl
        (λ e. one (leb-false record_bytes (length bs) e))
        (λ enough.
        let long = leb-true record_bytes (length bs) enough in
        test_then P (is_setup (record_at bs 0)) (Malformed 0) (check_setup s) refl
        (λ e. two long (λ t. false≢true (sym e ∙ (there_iff long).1 t)))
        (λ is.
        let there = (there_iff long).0 is in
        subst P (then_end (check_setup s))
        (setup_by s P (three there) (four there) Accepted
        (λ range meets.
        absurd
        (refused_isn't (check_head bs) refused
        (headed_iff.1 (record { there = there; range = range; meets = meets }))))))))

    pub head_by : (rest : Reply) → (Headed bs → P rest) → P (check_head bs then rest)
    head_by rest on = then_by P (check_head bs) rest head_refused (λ e. on (headed_iff.0 e))

  pub head_1 : length bs < record_bytes → check_head bs ≡ Length
  head_1 short =
      check_head_is bs
      ∙ rw (unless (leb record_bytes (length bs)) (λ e. omega (arith, leb-true record_bytes (length bs) e, short)))

  pub head_2 : record_bytes ≤ length bs → ¬ SetupThere bs → check_head bs ≡ Malformed 0
  head_2 long none =
      check_head_is bs
      ∙ rw (
        le-leb record_bytes (length bs) long,
        unless (is_setup (record_at bs 0)) (λ e. none ((there_iff long).0 e)),
      )

  past_there : SetupThere bs → check_head bs ≡ check_setup s
  past_there t =
      check_head_is bs ∙ rw (le-leb record_bytes (length bs) t.enough, (there_iff t.enough).1 t)

  pub head_3 : SetupThere bs → ¬ InRange s → check_head bs ≡ Range
  head_3 t out = past_there t ∙ setup_3 s out

  pub head_4 : SetupThere bs → InRange s → ¬ Meets s → check_head bs ≡ Inequality
  head_4 t range unmet = past_there t ∙ setup_4 s range unmet

  -- ---- the default
  pub default_iff : InRange s → (check_default bs ≡ Accepted) ↔ DefaultThere bs
  unfolding plain
  default_iff range =
      let fits_iff = default_fits_iff s (default_in bs) ((range_iff s).1 range) in (
        λ e.
            let (is, fits) = (check_default_accepted bs).0 e in
            (default_in bs, plain_is kind.DEFAULT 0 (record_at bs 1) is, fits_iff.0 fits),
        λ d.
            let (x, is, zero) = d in
            let same : default_in bs ≡ x = ap (λ (r : Record). r.number) is in
            (check_default_accepted bs).1 (
              ap (is_plain kind.DEFAULT 0) is ∙ is_plain_plain kind.DEFAULT 0 x,
              fits_iff.1 (λ a. same ∙ zero a),
            ),
      )

  pub default_2 : InRange s → ¬ DefaultThere bs → check_default bs ≡ Malformed 1
  default_2 range none =
      check_default_is bs
      ∙ rw (unless (is_plain kind.DEFAULT 0 (record_at bs 1) && default_fits s (default_in bs))
      (λ e. none ((default_iff range).0 (check_default_is bs ∙ rw e))))

  pub default_by : (P : Reply → Type 0) → InRange s → (¬ DefaultThere bs → P (Malformed 1)) → (rest : Reply)
      → (DefaultThere bs → P rest) → P (check_default bs then rest)
  default_by P range two rest on =
      then_by P (check_default bs) rest
      (λ refused.
      let none : ¬ DefaultThere bs = λ d. refused_isn't (check_default bs) refused ((default_iff range).1 d) in
      subst P (sym (default_2 range none)) (two none))
      (λ e. on ((default_iff range).0 e))

  -- ---- a block
  module _ (start n : ℕ) (shape : Shape) where
    pub block_by : (P : Reply → Type 0)
        → ((i : ℕ) → i < n → fits_at bs start shape i ≡ false → ((j : ℕ) → j < i → fits_at bs start shape j ≡ true)
        → P (Malformed (start + i)))
        → (rest : Reply) → (((i : ℕ) → i < n → fits_at bs start shape i ≡ true) → P rest)
        → P (check_block bs start n shape then rest)
    block_by P two rest on =
        then_by P (check_block bs start n shape) rest
        (λ refused.
        let (i, l, here, before, is) = check_block_refused bs start n shape refused in
        subst P (sym is) (two i l here before))
        (λ e. on ((check_block_accepted bs start n shape).0 e))

    pub block_2 : (i : ℕ) → i < n → fits_at bs start shape i ≡ false
        → ((j : ℕ) → j < i → fits_at bs start shape j ≡ true) → check_block bs start n shape ≡ Malformed (start + i)
    unfolding check_block
    block_2 i l here before =
        let fails : ℕ → Bool = λ j. not (fits_at bs start shape j) in
        rw ((first_some fails n i).1 (l, ap not here, λ j h. ap not (before j h)))

  -- ---- the starts
  start_iff : (i : ℕ) → (fits_at bs 2 starts_shape i ≡ true) ↔ StartThere bs i
  unfolding block_fits
  start_iff i = (
    λ e. ((record_at bs (2 + i)).number, plain_is kind.START i (record_at bs (2 + i)) e),
    λ t. ap (is_plain kind.START i) t.1 ∙ is_plain_plain kind.START i t.0,
  )

  abbrev whole : Bool
  whole = eqb (length bs) (opening_length s.n)

  abbrev R : Reply → Type 0
  R = OpeningReply bs

  opening_holds : R (check_opening bs)
  opening_holds =
      subst R (sym (check_opening_is bs))
      (head_by R OpeningReply.too_short OpeningReply.no_setup OpeningReply.out_of_range OpeningReply.unmet
      (or_refuse whole Length then check_default bs then check_starts bs)
      (λ head.
      test_then R whole Length (check_default bs then check_starts bs) refl
      (λ e. OpeningReply.misfit head (eqb-false (length bs) (opening_length s.n) e))
      (λ e.
      let long : OpeningWhole bs = eqb-true (length bs) (opening_length s.n) e in
      default_by R head.range (OpeningReply.no_default head long) (check_starts bs)
      (λ default.
      subst R (then_end (check_starts bs))
      (block_by 2 s.n starts_shape R
      (λ p l here before.
      OpeningReply.no_start p head long default l (λ q h. (start_iff q).0 (before q h))
      (λ t. false≢true (sym here ∙ (start_iff p).1 t)))
      Accepted (λ all. OpeningReply.accepted head long default (λ p l. (start_iff p).0 (all p l))))))))

  past_head : Headed bs → check_opening bs ≡ (or_refuse whole Length then check_default bs then check_starts bs)
  past_head head = check_opening_is bs ∙ rw (headed_iff.1 head)

  past_whole : Headed bs → OpeningWhole bs → check_opening bs ≡ (check_default bs then check_starts bs)
  past_whole head long = past_head head ∙ rw (eq-eqb (length bs) (opening_length s.n) long)

  past_default : Headed bs → OpeningWhole bs → DefaultThere bs → check_opening bs ≡ check_starts bs
  past_default head long default = past_whole head long ∙ rw ((default_iff head.range).1 default)

  opening_alone : (r : Reply) → R r → r ≡ check_opening bs
  opening_alone r (OpeningReply.too_short short) = sym (check_opening_is bs ∙ rw (head_1 short))
  opening_alone r (OpeningReply.no_setup long none) = sym (check_opening_is bs ∙ rw (head_2 long none))
  opening_alone r (OpeningReply.out_of_range there out) = sym (check_opening_is bs ∙ rw (head_3 there out))
  opening_alone r (OpeningReply.unmet there range not_met) =
      sym (check_opening_is bs ∙ rw (head_4 there range not_met))
  opening_alone r (OpeningReply.misfit head other) =
      sym (past_head head ∙ rw (ne_eqb (length bs) (opening_length s.n) other))
  opening_alone r (OpeningReply.no_default head long none) =
      sym (past_whole head long ∙ rw (default_2 head.range none))
  opening_alone r (OpeningReply.no_start p head long default l before none) =
      sym
      (past_default head long default
      ∙ block_2 2 s.n starts_shape p l
      (unless (fits_at bs 2 starts_shape p) (λ e. none ((start_iff p).0 e))) (λ q h. (start_iff q).1 (before q h)))
  opening_alone r (OpeningReply.accepted head long default all) =
      sym
      (past_default head long default
      ∙ (check_block_accepted bs 2 s.n starts_shape).1 (λ p l. (start_iff p).1 (all p l)))

-- an opening that is read is answered what the relation says, and this says nothing else
pub opening_replies : (bs : List ℕ) → Only (OpeningReply bs) (check_opening bs)
opening_replies bs = record { holds = opening_holds bs; alone = opening_alone bs }

-- ---- an opening that is to be written
module _ (s : Setup) (d : ℕ) (starts : List ℕ) (room : ℕ) where
  abbrev W : Reply → Type 0
  W = WriteOpeningReply s d starts room

  abbrev fits_room : Bool
  fits_room = eqb room (opening_length s.n)

  abbrev ends_on : Reply
  ends_on = or_refuse (starts_end s starts) (Malformed (2 + s.n)) then or_refuse fits_room Buffer

  abbrev default_on : Reply
  default_on = or_refuse (default_fits s d) (Malformed 1) then ends_on

  ends_iff : (starts_end s starts ≡ true) ↔ StartsEnd s starts
  ends_iff = (
    λ e p h l. (starts_end_iff s starts).0 e p l h,
    λ all. (starts_end_iff s starts).1 (λ p l h. all p h l),
  )

  fits : InRange s → (default_fits s d ≡ true) ↔ (s.algorithm ≡ byte_a → d ≡ 0)
  fits range = default_fits_iff s d ((range_iff s).1 range)

  -- a default that does not fit is one of A, and not 0
  misfit : InRange s → default_fits s d ≡ false → (s.algorithm ≡ byte_a) × ¬ (d ≡ 0)
  misfit range e = (
    ⊎_elim (λ a. a)
        (λ u. absurd (false≢true (sym e ∙ (fits range).1 (λ a. absurd (omega (arith, a, u))))))
        range.algorithm,
    λ z. false≢true (sym e ∙ (fits range).1 (λ a. z)),
  )

  write_holds : W (check_write s d starts room)
  write_holds =
      subst W (sym (check_write_is s d starts room))
      (setup_by s W WriteOpeningReply.out_of_range WriteOpeningReply.unmet default_on
      (λ range meets.
      test_then W (default_fits s d) (Malformed 1) ends_on refl
      (λ e. let (a, z) = misfit range e in WriteOpeningReply.no_default range meets a z)
      (λ e.
      let default = (fits range).0 e in
      test_then W (starts_end s starts) (Malformed (2 + s.n)) (or_refuse fits_room Buffer) refl
      (λ f. WriteOpeningReply.no_end range meets default (λ all. false≢true (sym f ∙ ends_iff.1 all)))
      (λ f.
      let ends = ends_iff.0 f in
      test_by W fits_room Buffer
      (λ g. WriteOpeningReply.no_room range meets default ends (eqb-false room (opening_length s.n) g))
      (λ g. WriteOpeningReply.accepted range meets default ends (eqb-true room (opening_length s.n) g))))))

  past_setup : InRange s → Meets s → check_write s d starts room ≡ default_on
  past_setup range meets = check_write_is s d starts room ∙ rw (setup_0 s range meets)

  past_fits : InRange s → Meets s → (s.algorithm ≡ byte_a → d ≡ 0) → check_write s d starts room ≡ ends_on
  past_fits range meets default = past_setup range meets ∙ rw ((fits range).1 default)

  write_alone : (r : Reply) → W r → r ≡ check_write s d starts room
  write_alone r (WriteOpeningReply.out_of_range out) = sym (check_write_is s d starts room ∙ rw (setup_3 s out))
  write_alone r (WriteOpeningReply.unmet range not_met) =
      sym (check_write_is s d starts room ∙ rw (setup_4 s range not_met))
  write_alone r (WriteOpeningReply.no_default range meets a z) =
      sym (past_setup range meets ∙ rw (unless (default_fits s d) (λ e. z ((fits range).0 e a))))
  write_alone r (WriteOpeningReply.no_end range meets default none) =
      sym (past_fits range meets default ∙ rw (unless (starts_end s starts) (λ e. none (ends_iff.0 e))))
  write_alone r (WriteOpeningReply.no_room range meets default ends other) =
      sym
      (past_fits range meets default
      ∙ rw (ends_iff.1 ends, ne_eqb room (opening_length s.n) other))
  write_alone r (WriteOpeningReply.accepted range meets default ends same) =
      sym (past_fits range meets default ∙ rw (ends_iff.1 ends, eq-eqb room (opening_length s.n) same))

-- and so is one that is to be written
pub write_opening_replies : (s : Setup) (d : ℕ) (starts : List ℕ) (room : ℕ)
    → Only (WriteOpeningReply s d starts room) (check_write s d starts room)
write_opening_replies s d starts room =
    record { holds = write_holds s d starts room; alone = write_alone s d starts room }
