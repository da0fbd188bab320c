-- The two records that openings and images begin with. The first laws are the definitions' own text, to rewrite with
-- while what it cites stays shut.
use mathlib.Core.Path.{◌≡◌, refl, ap, ◌∙◌}
use mathlib.Core.Logic.{◌↔◌}
use mathlib.Core.Bool.{true, ◌&&◌, and-eq-true_iff}
use mathlib.Core.List.{List, [], ◌++◌}
use Prim.Native.Nat.{ℕ, ◌+◌, ◌*◌, ◌/◌, ◌%◌, ◌^◌, ◌<◌, ◌≤◌}
use native.Mathlib.Omega.{arith}
use native.Mathlib.Decide.{ℕ_discrete}
use borrow.Author.Tests.{eq-eqb, eqb-true, lt-ltb, ltb-true, le-leb, leb-true}
use lib.Dec.{leb}
use lib.ListN.{length, drop, length-append, length-drop}
use lib.Seq.{drop-drop}
use Rattle.paper.specs.Setup as setup
use Rattle.limits.specs.declared.Setup.{Setup}
use Rattle.run.specs.declared.record.Record.{Record}
use Rattle.run.specs.Reply.{Accepted, Length, Malformed, Range, Inequality}
use Rattle.run.specs.Record.{record_bytes, record_at, bytes_of, put_at, Fits}
use Rattle.run.specs.Written.{written}
use Rattle.run.specs.Kinds as kind
use Rattle.run.specs.Number.{base, two_bytes}
use Rattle.run.specs.Reply.{◌then◌, or_refuse}
use Rattle.limits.specs.Setup.{byte_a, byte_u, setup_of}
use Rattle.run.specs.Run.{stations, in_range, default_fits}
use Rattle.run.specs.Block.{plain, is_plain}
use Rattle.run.specs.Opening.{
  setup_at,
  default_at,
  starts_from,
  setup_record,
  is_setup,
  read_setup,
  check_setup,
  check_head,
  setup_in,
  default_in,
  check_default,
  head_bytes,
}
use Rattle.run.specs.Putting.{put_head}
use Rattle.run.proofs.Records.{
  length_bytes_of,
  put_at_back,
  record_at_front,
  record_at_back,
  record_at_bytes_of,
}
use Rattle.run.proofs.Replies.{then_accepted, or_refuse_accepted}
use Rattle.run.proofs.Blocks.{is_plain_plain, plain_is, plain_fits}
use Rattle.limits.proofs.Parts.{parts_below}

pub check_setup_is : (s : Setup) → check_setup s
    ≡ (or_refuse (in_range s) Range then or_refuse (setup.acceptable (setup_of s)) Inequality)
unfolding check_setup
check_setup_is s = refl

pub check_head_is : (bs : List ℕ) → check_head bs
    ≡ (or_refuse (leb record_bytes (length bs)) Length then or_refuse (is_setup (record_at bs setup_at))
    (Malformed setup_at) then check_setup
    (setup_in bs))
unfolding check_head
check_head_is bs = refl

pub check_default_is : (bs : List ℕ) → check_default bs
    ≡ or_refuse (is_plain kind.DEFAULT 0 (record_at bs default_at) && default_fits (setup_in bs) (default_in bs))
    (Malformed default_at)
unfolding check_default
check_default_is bs = refl

pub head_bytes_is : (s : Setup) (d : ℕ) → head_bytes s d
    ≡ bytes_of (setup_record s) ++ bytes_of (plain kind.DEFAULT 0 d)
unfolding head_bytes
head_bytes_is s d = refl

-- ---- the two records written
pub length_head_bytes : (s : Setup) (d : ℕ) → length (head_bytes s d) ≡ (record_bytes * starts_from)
length_head_bytes s d =
    rw (head_bytes_is, length-append) (omega (
      arith,
      length_bytes_of (setup_record s),
      length_bytes_of
          (plain kind.DEFAULT 0 d),
    ))

-- a list that has them begins with them then, and the rest stays
pub put_head_is : (bs : List ℕ) (s : Setup) (d : ℕ) → (record_bytes * starts_from) ≤ length bs → put_head bs s d
    ≡ head_bytes s d ++ drop (record_bytes * starts_from) bs
unfolding put_head
put_head_is bs s d l =
    let first : put_at bs 0 (setup_record s) ≡ bytes_of (setup_record s) ++ drop record_bytes bs = put_at_back [] bs 0
    (setup_record s) refl (omega arith) in
    rw (first, head_bytes_is)
    (put_at_back (bytes_of (setup_record s)) (drop record_bytes bs) 1 (plain kind.DEFAULT 0 d)
    (length_bytes_of (setup_record s)) (rw length-drop (omega arith))
    ∙ rw (drop-drop record_bytes record_bytes bs))

-- ---- what is accepted passed each check
pub check_setup_accepted : (s : Setup) → (check_setup s ≡ Accepted)
    ↔ ((in_range s ≡ true) × (setup.acceptable (setup_of s) ≡ true))
check_setup_accepted s = (there, λ h. rw (check_setup_is, h.0, h.1))
  where
    there : check_setup s ≡ Accepted → (in_range s ≡ true) × (setup.acceptable (setup_of s) ≡ true)
    there e =
        let (range, rest) = then_accepted (or_refuse (in_range s) Range) _ (rw check_setup_is at e) in
        (or_refuse_accepted _ Range refl range, or_refuse_accepted _ Inequality refl rest)

pub check_head_accepted : (bs : List ℕ)
    → (check_head bs ≡ Accepted) ↔ ((record_bytes ≤ length bs) × (is_setup (record_at bs setup_at) ≡ true)
    × (check_setup (setup_in bs)
    ≡ Accepted))
check_head_accepted bs = (there, λ h. rw (check_head_is, le-leb _ _ h.0, h.1, h.2))
  where
    there : check_head bs ≡ Accepted → (record_bytes ≤ length bs) × (is_setup (record_at bs setup_at) ≡ true)
        × (check_setup (setup_in bs)
        ≡ Accepted)
    there e =
        let (long, rest) = then_accepted (or_refuse (leb record_bytes (length bs)) Length) _ (rw check_head_is at e) in
        let (is, setup) = then_accepted (or_refuse (is_setup (record_at bs setup_at)) (Malformed setup_at)) _ rest in
        (leb-true _ _ (or_refuse_accepted _ Length refl long), or_refuse_accepted _ (Malformed setup_at) refl is, setup)

pub check_default_accepted : (bs : List ℕ)
    → (check_default bs ≡ Accepted) ↔ ((is_plain kind.DEFAULT 0 (record_at bs default_at) ≡ true)
    × (default_fits (setup_in bs) (default_in bs) ≡ true))
check_default_accepted bs = (
  λ e. (and-eq-true_iff _ _).0 (or_refuse_accepted _ (Malformed default_at) refl (rw check_default_is at e)),
  λ h. rw (check_default_is, h.0, h.1),
)

-- the tests, as facts
pub is_setup_iff : (r : Record) → (is_setup r ≡ true) ↔ ((r.kind ≡ kind.SETUP) × (r.number < two_bytes))
unfolding is_setup
is_setup_iff r = (
  λ e. let (k, l) = (and-eq-true_iff _ _).0 e in (eqb-true _ _ k, ltb-true _ _ l),
  λ h. rw (eq-eqb _ _ h.0, lt-ltb _ _ h.1),
)

pub in_range_iff : (s : Setup) → (in_range s ≡ true) ↔ ((byte_a ≤ s.algorithm) × (s.algorithm ≤ byte_u) × (1 ≤ s.n)
    × (s.n ≤ stations))
unfolding in_range
in_range_iff s = (
  λ e.
      let (upto_low, high) = (and-eq-true_iff _ _).0 e in
      let (both, low) = (and-eq-true_iff _ _).0 upto_low in
      let (one, two) = (and-eq-true_iff _ _).0 both in
      (leb-true _ _ one, leb-true _ _ two, leb-true _ _ low, leb-true _ _ high),
  λ h. rw (le-leb _ _ h.0, le-leb _ _ h.1, le-leb _ _ h.2, le-leb _ _ h.3),
)

-- under A the default is 0, and under U it is free
pub default_fits_iff : (s : Setup) (d : ℕ) → in_range s ≡ true → (default_fits s d ≡ true) ↔ (s.algorithm ≡ byte_a → d
    ≡ 0)
unfolding default_fits
default_fits_iff s d range = (there, back)
  where
    there : default_fits s d ≡ true → s.algorithm ≡ 1 → d ≡ 0
    there e a = eqb-true d 0 (rw a at e)

    back : (s.algorithm ≡ byte_a → d ≡ 0) → default_fits s d ≡ true
    back z = go (ℕ_discrete s.algorithm 1)
      where
        go : Dec (s.algorithm ≡ 1) → default_fits s d ≡ true
        go (yes a) = rw (a, z a)
        go (no n) =
            let (low, high, _, _) = (in_range_iff s).0 range in
            let two : s.algorithm ≡ 2 = omega arith in
            rw two

-- ---- the setup's record, read and written
pub setup_record_again : (r : Record) → is_setup r ≡ true → setup_record (read_setup r) ≡ r
unfolding setup_record read_setup
setup_record_again r is =
    let (kind, zeros) = (is_setup_iff r).0 is in
    let number : r.number % base + base * (r.number / base % base) ≡ r.number = omega arith in
    let same : ◌≡◌ {A = Record}
    (record {
      kind = 1;
      first = r.first;
      second = r.second;
      third = r.third;
      number = r.number % base + base * (r.number / base % base);
    })
    (record { kind = r.kind; first = r.first; second = r.second; third = r.third; number = r.number })
    = rw (kind, number) in
    same

pub read_setup_again : (s : Setup) → s.e < base → s.alpha < base → read_setup (setup_record s) ≡ s
unfolding setup_record read_setup
read_setup_again s e a =
    let low : (s.e + base * s.alpha) % base ≡ s.e = omega arith in
    let high : (s.e + base * s.alpha) / base ≡ s.alpha = omega arith in
    let byte : s.alpha % base ≡ s.alpha = omega arith in
    let same : ◌≡◌ {A = Setup}
    (record {
      algorithm = s.algorithm;
      n = s.n;
      t = s.t;
      e = (s.e + base * s.alpha) % base;
      alpha = (s.e + base * s.alpha) / base % base;
    })
    (record { algorithm = s.algorithm; n = s.n; t = s.t; e = s.e; alpha = s.alpha })
    = rw (low, high, byte) in
    same

-- the record of an accepted setup can be written
pub accepted_fits : (s : Setup) → check_setup s ≡ Accepted → (s.e < base) × (s.alpha < base) × Fits (setup_record s)
unfolding setup_record
accepted_fits s e =
    let (range, inequalities) = (check_setup_accepted s).0 e in
    let bounds = (in_range_iff s).0 range in
    let parts = parts_below s inequalities in
    omega arith

-- ---- the head read and written again
pub head_again : (bs : List ℕ) → is_setup (record_at bs setup_at) ≡ true
    → is_plain kind.DEFAULT 0 (record_at bs default_at) ≡ true
    → head_bytes (setup_in bs) (default_in bs) ≡ written 2 (record_at bs)
unfolding written
head_again bs is there = rw (
  head_bytes_is,
  setup_record_again (record_at bs setup_at) is,
  ← plain_is 2 0
      (record_at bs default_at) there,
)

module _ (s : Setup) (d : ℕ) (ys : List ℕ) (setup : check_setup s ≡ Accepted) (fits : d < 2 ^ 32) where
  first_record : record_at (head_bytes s d ++ ys) 0 ≡ setup_record s
  first_record =
      record_at_front (head_bytes s d) ys 0 (omega (arith, length_head_bytes s d))
      ∙ rw head_bytes_is
      (record_at_front (bytes_of (setup_record s)) (bytes_of (plain kind.DEFAULT 0 d)) 0
      (omega (arith, length_bytes_of (setup_record s)))
      ∙ record_at_bytes_of (setup_record s) (accepted_fits s setup).2)

  second_record : record_at (head_bytes s d ++ ys) 1 ≡ plain kind.DEFAULT 0 d
  second_record =
      record_at_front (head_bytes s d) ys 1 (omega (arith, length_head_bytes s d))
      ∙ rw head_bytes_is
      (record_at_back (bytes_of (setup_record s)) (bytes_of (plain kind.DEFAULT 0 d)) 1 0
      (length_bytes_of (setup_record s))
      ∙ record_at_bytes_of (plain kind.DEFAULT 0 d) (plain_fits 2 0 d (omega arith) (omega arith) fits))

  pub setup_in_head : setup_in (head_bytes s d ++ ys) ≡ s
  setup_in_head = let (e, alpha, _) = accepted_fits s setup in rw first_record (read_setup_again s e alpha)

  pub default_in_head : default_in (head_bytes s d ++ ys) ≡ d
  unfolding plain
  default_in_head = ap (λ (r : Record). r.number) second_record

  pub check_head_head : check_head (head_bytes s d ++ ys) ≡ Accepted
  unfolding setup_record
  check_head_head =
      let (e, alpha, _) = accepted_fits s setup in
      (check_head_accepted (head_bytes s d ++ ys)).1 (
        rw length-append (omega (arith, length_head_bytes s d)),
        rw first_record ((is_setup_iff (setup_record s)).1 (refl, omega arith)),
        rw setup_in_head setup,
      )

  pub check_default_head : default_fits s d ≡ true → check_default (head_bytes s d ++ ys) ≡ Accepted
  check_default_head ok = (check_default_accepted (head_bytes s d ++ ys)).1
      (rw second_record (is_plain_plain kind.DEFAULT 0 d), rw (setup_in_head, default_in_head) ok)
