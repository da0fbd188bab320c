-- Openings. What is accepted passed each check, and the checks are the rules. Its run stands at the starts and keeps a
-- run's rules. Reading and writing undo each other, record by record: the head's two records by their fields, the
-- starts as a block.
use mathlib.Core.Path.{◌≡◌, refl, sym, ap, ◌∙◌}
use mathlib.Core.Logic.{◌↔◌}
use mathlib.Core.Bool.{Bool, true, false, cond, false≢true}
use mathlib.Core.List.{List, [], ◌++◌, append-nil}
use Prim.Native.Nat.{ℕ, ◌+◌, ◌*◌, ◌^◌, ◌<◌, ◌≤◌}
use native.Mathlib.Omega.{arith}
use borrow.Author.Tests.{eq-eqb, eqb-true}
use lib.Dec.{eqb}
use lib.ListN.{length, get_or, drop, replicate, length-append, length-drop, drop_of_length-le}
use Rattle.limits.specs.declared.Setup.{Setup}
use Rattle.run.specs.declared.Run.{Run}
use Rattle.run.specs.declared.Station.{Station}
use Rattle.run.specs.declared.Opened.{Opened}
use Rattle.run.specs.declared.record.Record.{Record}
use Rattle.run.specs.Reply.{Reply}
use Rattle.run.specs.Reply.{Accepted, Length, Malformed, Buffer}
use Rattle.run.specs.Bytes.{IsBytes}
use Rattle.run.specs.Kinds as kind
use Rattle.run.specs.Record.{record_bytes, record_at}
use Rattle.run.specs.Written.{written}
use Rattle.run.specs.Run.{stations, at_start, run_to, default_fits, sound}
use Rattle.run.specs.Reply.{is_accepted, ◌then◌, or_refuse}
use Rattle.run.specs.Block.{plain, is_plain, record_of, block_fits, block_record}
use Rattle.run.specs.Opening.{
  setup_at,
  default_at,
  starts_from,
  check_setup,
  check_head,
  setup_in,
  default_in,
  check_default,
  starts_shape,
  check_starts,
  opening_length,
  check_opening,
  run_from,
  starts_in,
  answer,
  unopened,
  read_opening,
  head_bytes,
  opening,
  starts_end,
  check_write,
  write_opening,
}
use Rattle.run.specs.Putting.{put_block, put_head}
use Rattle.run.specs.Keeps.{StationKeeps}
use Rattle.run.specs.Opens.{Acceptable, AtStarts}
use Rattle.run.proofs.Records.{record_at_back}
use Rattle.run.proofs.Written.{length_written, written_same, written_add, written_record_at, record_at_written}
use Rattle.run.proofs.Replies.{then_accepted, or_refuse_accepted}
use Rattle.run.proofs.Blocks.{
  put_block_back,
  plain_is,
  is_plain_plain,
  record_of_fits,
  check_block_accepted,
  numbers_in_below,
  numbers_in_ends,
  numbers_hold,
  numbers_again,
  holds_accepted,
}
use Rattle.run.proofs.Built.{built_below, built_above, built_keeps}
use Rattle.run.proofs.Filled.{filled_self, filled_plain}
use Rattle.run.proofs.Heads.{
  check_setup_accepted,
  check_head_accepted,
  check_default_accepted,
  is_setup_iff,
  in_range_iff,
  default_fits_iff,
  length_head_bytes,
  put_head_is,
  head_again,
  setup_in_head,
  default_in_head,
  check_head_head,
  check_default_head,
}
use Rattle.run.proofs.Starts.{starts_end_iff}
use Rattle.run.proofs.Sound.{setup_iff, sound_iff}

-- ---- the definitions' own text, to rewrite with while what it cites stays shut
pub check_opening_is : (bs : List ℕ) → check_opening bs
    ≡ (check_head bs then or_refuse (eqb (length bs) (opening_length (setup_in bs).n)) Length then check_default bs
    then check_starts bs)
unfolding check_opening
check_opening_is bs = refl

pub read_opening_is : (bs : List ℕ) → read_opening bs
    ≡ answer (check_opening bs) (run_from (setup_in bs) (default_in bs) (starts_in bs))
unfolding read_opening
read_opening_is bs = refl

-- an answer's reply is the one of the checks
pub answer_reply : (r : Reply) (run : Run) → (answer r run).reply ≡ r
unfolding unopened
answer_reply r run = go (is_accepted r)
  where
    go : (b : Bool) → (cond b (record { reply = r; run = run }) (unopened r)).reply ≡ r
    go true = refl
    go false = refl

pub opened_reply : (bs : List ℕ) → (read_opening bs).reply ≡ check_opening bs
unfolding read_opening
opened_reply bs = answer_reply (check_opening bs) (run_from (setup_in bs) (default_in bs) (starts_in bs))

pub check_write_is : (s : Setup) (d : ℕ) (starts : List ℕ) (room : ℕ) → check_write s d starts room
    ≡ (check_setup s then or_refuse (default_fits s d) (Malformed default_at) then or_refuse (starts_end s starts)
    (Malformed (starts_from + s.n))
    then or_refuse (eqb room (opening_length s.n)) Buffer)
unfolding check_write
check_write_is s d starts room = refl

pub write_opening_is : (s : Setup) (d : ℕ) (starts buffer : List ℕ) → write_opening s d starts buffer
    ≡ cond (is_accepted (check_write s d starts (length buffer))) (opening s d starts) buffer
unfolding write_opening
write_opening_is s d starts buffer = refl

pub opening_is : (s : Setup) (d : ℕ) (starts : List ℕ) → opening s d starts
    ≡ head_bytes s d ++ written s.n (block_record starts_shape [] starts)
unfolding opening
opening_is s d starts = refl

-- ---- what is accepted
-- a check of an opening is passed exactly if each of its parts is
record Checked (bs : List ℕ) : Type 0 where
  headed : check_head bs ≡ Accepted
  whole : length bs ≡ opening_length (setup_in bs).n
  default : check_default bs ≡ Accepted
  starts : check_starts bs ≡ Accepted

checked : (bs : List ℕ) → check_opening bs ≡ Accepted → Checked bs
checked bs e =
    let (headed, rest) = then_accepted (check_head bs) _ (rw check_opening_is at e) in
    let (whole, more) = then_accepted (or_refuse (eqb (length bs) (opening_length (setup_in bs).n)) Length) _ rest in
    let (default, starts) = then_accepted (check_default bs) _ more in
    record {
      headed = headed;
      whole = eqb-true _ _ (or_refuse_accepted _ Length refl whole);
      default = default;
      starts =
          starts;
    }

accepted : (bs : List ℕ) → Checked bs → check_opening bs ≡ Accepted
accepted bs h = rw (check_opening_is, h.headed, eq-eqb _ _ h.whole, h.default, h.starts)

is_plain_iff : (kind i : ℕ) (r : Record) → (is_plain kind i r ≡ true) ↔ (r ≡ plain kind i r.number)
is_plain_iff kind i r = (plain_is kind i r, λ e. ap (is_plain kind i) e ∙ is_plain_plain kind i r.number)

module _ (bs : List ℕ) where
  accepted_acceptable : check_opening bs ≡ Accepted → Acceptable bs
  unfolding block_fits
  accepted_acceptable e =
      let h = checked bs e in
      let (long, is, setup) = (check_head_accepted bs).0 h.headed in
      let (is_kind, zeros) = (is_setup_iff (record_at bs setup_at)).0 is in
      let tests = (check_setup_accepted (setup_in bs)).0 setup in
      let (there, fits) = (check_default_accepted bs).0 h.default in
      record {
        setup_kind = is_kind;
        setup_zeros = zeros;
        setup = (setup_iff (setup_in bs)).0 tests;
        whole = h.whole;
        default_there = (is_plain_iff kind.DEFAULT 0 (record_at bs default_at)).0 there;
        default_zero = (default_fits_iff (setup_in bs) (default_in bs) tests.0).0 fits;
        starts_there = λ i l. (is_plain_iff kind.START i (record_at bs (starts_from + i))).0
            ((check_block_accepted bs starts_from (setup_in bs).n starts_shape).0 h.starts i l);
      }

  acceptable_accepted : Acceptable bs → check_opening bs ≡ Accepted
  unfolding block_fits
  acceptable_accepted a =
      let tests = (setup_iff (setup_in bs)).1 a.setup in
      let is = (is_setup_iff (record_at bs setup_at)).1 (a.setup_kind, a.setup_zeros) in
      let fits = (default_fits_iff (setup_in bs) (default_in bs) tests.0).1 a.default_zero in
      accepted bs
      (record {
        headed = (check_head_accepted bs).1 (omega arith, is, (check_setup_accepted (setup_in bs)).1 tests);
        whole = a.whole;
        default = (check_default_accepted bs).1 (
          (is_plain_iff kind.DEFAULT 0 (record_at bs default_at)).1
              a.default_there,
          fits,
        );
        starts = (check_block_accepted bs starts_from (setup_in bs).n starts_shape).1 (λ i l. (is_plain_iff kind.START i
            (record_at bs (starts_from + i))).1 (a.starts_there i l));
      })

  -- an opening is accepted exactly if no rule refuses it
  pub opening_accepted : (check_opening bs ≡ Accepted) ↔ Acceptable bs
  opening_accepted = (accepted_acceptable, acceptable_accepted)

-- a refused one gives the idle run
pub refused_idle : (bs : List ℕ) → is_accepted (check_opening bs) ≡ false → read_opening bs
    ≡ unopened (check_opening bs)
refused_idle bs e = rw (read_opening_is, e)

-- ---- its run
module _ (s : Setup) (d : ℕ) (starts : List ℕ) where
  start_keeps : (x : ℕ) → StationKeeps s 0 (at_start x)
  start_keeps x =
      record {
        vote = λ v. absurd (false≢true v);
        round_from = λ v. absurd (false≢true v);
        round_to = λ v. absurd (false≢true v);
        round_even = λ v. absurd (false≢true v);
        undecided = λ _. refl;
        beside_no_vote = λ _. refl;
        beside_undecided = λ _. refl;
      }

  -- a run at its starts keeps the rules of a run
  pub start_sound : check_setup s ≡ Accepted → default_fits s d ≡ true → sound (run_from s d starts) ≡ true
  unfolding run_from
  start_sound set_up fits =
      let tests = (check_setup_accepted s).0 set_up in
      (sound_iff (run_from s d starts)).1
      (built_keeps s d 0 (λ i. at_start (get_or starts i 0)) ((setup_iff s).0 tests)
      ((default_fits_iff s d tests.0).0 fits)
      (omega arith) (λ i l. start_keeps (get_or starts i 0)))

  -- what the code makes of an array of starts that ends at n
  pub run_from_is : length starts ≡ stations → starts_end s starts ≡ true → run_from s d starts
      ≡ record {
        setup = s;
        default = d;
        clock = 0;
        estimates = starts;
        voted = replicate stations false;
        votes = replicate stations 0;
        decided = replicate stations false;
        decisions = replicate stations 0;
        rounds = replicate stations 0;
      }
  unfolding run_from run_to
  run_from_is long ends =
      rw (
        ← filled_self 0 stations s.n 0 starts long ((starts_end_iff s starts).0 ends),
        filled_plain {A = Bool} stations s.n false,
        filled_plain {A = ℕ} stations s.n 0,
      )

pub starts_in_end : (bs : List ℕ) → starts_end (setup_in bs) (starts_in bs) ≡ true
starts_in_end bs =
    (starts_end_iff (setup_in bs) (starts_in bs)).1 (λ i l h. (numbers_in_ends bs starts_from
    (setup_in bs).n).above i l h)

module _ (bs : List ℕ) (e : check_opening bs ≡ Accepted) where
  pub opened : read_opening bs
      ≡ record { reply = Accepted; run = run_from (setup_in bs) (default_in bs) (starts_in bs) }
  opened = rw (read_opening_is, e)

  run_starts : AtStarts bs (run_from (setup_in bs) (default_in bs) (starts_in bs))
  unfolding run_from run_to
  run_starts =
      let s = setup_in bs in
      let f : ℕ → Station = λ i. at_start (get_or (starts_in bs) i 0) in
      let most = (accepted_acceptable bs e).setup.n_to in
      record {
        setup = refl;
        default = refl;
        clock = refl;
        starts =
            λ i l.
            built_below s (default_in bs) 0 s.n f i (omega arith) l
            ∙ ap at_start (numbers_in_below bs starts_from s.n i (omega arith) l);
        ends = λ i h l. built_above s (default_in bs) 0 s.n f i l h;
      }

  -- the run of an accepted opening stands at its starts
  pub opened_at_starts : AtStarts bs (read_opening bs).run
  opened_at_starts = rw opened run_starts

  -- and keeps the rules of a run
  pub opened_sound : sound (read_opening bs).run ≡ true
  opened_sound =
      let (long, is, set_up) = (check_head_accepted bs).0 (checked bs e).headed in
      rw opened
      (start_sound (setup_in bs) (default_in bs) (starts_in bs) set_up ((check_default_accepted bs).0
      (checked bs e).default).1)

-- ---- writing
-- what writing asks for
pub record Writable (s : Setup) (d : ℕ) (starts : List ℕ) (room : ℕ) : Type 0 where
  pub set_up : check_setup s ≡ Accepted
  pub fits : default_fits s d ≡ true
  pub ends : starts_end s starts ≡ true
  pub exact : room ≡ opening_length s.n

module _ (s : Setup) (d : ℕ) (starts : List ℕ) (room : ℕ) where
  write_accepted : check_write s d starts room ≡ Accepted → Writable s d starts room
  write_accepted e =
      let (setup, rest) = then_accepted (check_setup s) _ (rw check_write_is at e) in
      let (default, more) = then_accepted (or_refuse (default_fits s d) (Malformed default_at)) _ rest in
      let (ends, exact) = then_accepted (or_refuse (starts_end s starts) (Malformed (starts_from + s.n))) _ more in
      record {
        set_up = setup;
        fits = or_refuse_accepted _ (Malformed default_at) refl default;
        ends = or_refuse_accepted _ (Malformed (starts_from + s.n)) refl ends;
        exact = eqb-true _ _ (or_refuse_accepted _ Buffer refl exact);
      }

  accepted_write : Writable s d starts room → check_write s d starts room ≡ Accepted
  accepted_write w = rw (check_write_is, w.set_up, w.fits, w.ends, eq-eqb _ _ w.exact)

  -- writing is accepted exactly if no rule refuses it
  pub writing_accepted : (check_write s d starts room ≡ Accepted) ↔ Writable s d starts room
  writing_accepted = (write_accepted, accepted_write)

pub length_opening : (s : Setup) (d : ℕ) (starts : List ℕ) → length (opening s d starts) ≡ opening_length s.n
length_opening s d starts =
    rw (opening_is, length-append) (omega (
      arith,
      length_head_bytes s d,
      length_written s.n
          (block_record starts_shape [] starts),
    ))

-- the head and the starts put into a buffer of the right length are the opening
put_opening : (s : Setup) (d : ℕ) (starts : List ℕ) (flags : List Bool) (buffer : List ℕ) → length buffer
    ≡ opening_length s.n
    → put_block (put_head buffer s d) 2 s.n (block_record starts_shape flags starts) ≡ opening s d starts
unfolding record_of
put_opening s d starts flags buffer e =
    let over : length (drop (record_bytes * starts_from) buffer) ≤ record_bytes * s.n = rw length-drop (omega arith) in
    rw (put_head_is buffer s d (omega arith), opening_is)
    (put_block_back (head_bytes s d) (drop (record_bytes * starts_from) buffer) 2 s.n
    (block_record starts_shape flags starts)
    (length_head_bytes s d) (rw length-drop (omega arith))
    ∙ rw (drop_of_length-le (drop (record_bytes * starts_from) buffer) over, append-nil))

module _ (s : Setup) (d : ℕ) (starts : List ℕ) where
  -- what the code writes, and where it writes nothing
  pub wrote_opening : (flags : List Bool) (buffer : List ℕ) → check_write s d starts (length buffer) ≡ Accepted
      → put_block (put_head buffer s d) 2 s.n (block_record starts_shape flags starts)
      ≡ write_opening s d starts buffer
  wrote_opening flags buffer e =
      rw (write_opening_is, e) (put_opening s d starts flags buffer (write_accepted s d starts
      (length buffer) e).exact)

  pub wrote_nothing : (buffer : List ℕ) → is_accepted (check_write s d starts (length buffer)) ≡ false → buffer
      ≡ write_opening s d starts buffer
  wrote_nothing buffer e = rw (write_opening_is, e)

-- ---- an accepted opening, read and written again
module _ (bs : List ℕ) (bytes : IsBytes bs) (e : check_opening bs ≡ Accepted) where
  opening_again : opening (setup_in bs) (default_in bs) (starts_in bs) ≡ bs
  opening_again =
      let n = (setup_in bs).n in
      let a = accepted_acceptable bs e in
      let starts : written n (block_record starts_shape [] (starts_in bs))
      ≡ written n (λ i. record_at bs (starts_from + i))
      = written_same n _ _ (λ i l. sym (numbers_hold bs starts_from n kind.START [] a.setup.n_to
      (checked bs e).starts i l)) in
      let is = ((check_head_accepted bs).0 (checked bs e).headed).1 in
      let there = ((check_default_accepted bs).0 (checked bs e).default).0 in
      rw (opening_is, head_again bs is there, starts)
      (sym (written_add 2 n (record_at bs)) ∙ written_record_at (2 + n) bytes a.whole)

  -- what is read of an accepted opening may be written into a buffer of its length, and gives its bytes again
  pub read_write_accepted : (buffer : List ℕ) → length buffer ≡ length bs
      → check_write (setup_in bs) (default_in bs) (starts_in bs) (length buffer) ≡ Accepted
  read_write_accepted buffer long =
      let h = checked bs e in
      accepted_write (setup_in bs) (default_in bs) (starts_in bs) (length buffer)
      (record {
        set_up = ((check_head_accepted bs).0 h.headed).2;
        fits = ((check_default_accepted bs).0 h.default).1;
        ends = starts_in_end bs;
        exact = long ∙ h.whole;
      })

  pub read_write : (buffer : List ℕ) → length buffer ≡ length bs
      → write_opening (setup_in bs) (default_in bs) (starts_in bs) buffer ≡ bs
  read_write buffer long = rw (write_opening_is, read_write_accepted buffer long) opening_again

-- ---- what is written, read again
-- the numbers are ones that four bytes hold, and there is a start for each place of a run's arrays
pub record NumbersFit (d : ℕ) (starts : List ℕ) : Type 0 where
  pub default_fits : d < 2 ^ 32
  pub starts_fit : (i : ℕ) → get_or starts i 0 < 2 ^ 32
  pub long : length starts ≡ stations

module _ (s : Setup) (d : ℕ) (starts : List ℕ) (room : ℕ) (numbers : NumbersFit d starts)
    (e : check_write s d starts room ≡ Accepted) where
  abbrev written_starts : List ℕ
  written_starts = written s.n (block_record starts_shape [] starts)

  start_records : (i : ℕ) → i < s.n → record_at (opening s d starts) (starts_from + i)
      ≡ block_record starts_shape [] starts i
  start_records i l =
      let (range, _) = (check_setup_accepted s).0 (write_accepted s d starts room e).set_up in
      let (_, _, _, high) = (in_range_iff s).0 range in
      rw opening_is
      (record_at_back (head_bytes s d) written_starts 2 i (length_head_bytes s d)
      ∙ record_at_written s.n (block_record starts_shape [] starts) i l
      (record_of_fits starts_shape i false (get_or starts i 0) (omega arith) (omega arith) (numbers.starts_fit i)))

  same_setup : setup_in (opening s d starts) ≡ s
  same_setup = rw opening_is (setup_in_head s d written_starts (write_accepted s d starts room e).set_up
      numbers.default_fits)

  same_default : default_in (opening s d starts) ≡ d
  same_default = rw opening_is (default_in_head s d written_starts (write_accepted s d starts room e).set_up
      numbers.default_fits)

  same_starts : starts_in (opening s d starts) ≡ starts
  same_starts =
      let w = write_accepted s d starts room e in
      rw (same_setup)
      (numbers_again (opening s d starts) 2 s.n 3 [] starts
      (record { long = numbers.long; above = (starts_end_iff s starts).0 w.ends })
      start_records)

  pub opening_is_accepted : check_opening (opening s d starts) ≡ Accepted
  opening_is_accepted =
      let w = write_accepted s d starts room e in
      accepted (opening s d starts)
      (record {
        headed = rw opening_is (check_head_head s d written_starts w.set_up numbers.default_fits);
        whole = rw same_setup (length_opening s d starts);
        default = rw opening_is (check_default_head s d written_starts w.set_up numbers.default_fits w.fits);
        starts = rw same_setup (holds_accepted (opening s d starts) 2 s.n starts_shape [] starts start_records);
      })

  pub opening_read : read_opening (opening s d starts) ≡ record { reply = Accepted; run = run_from s d starts }
  opening_read = opened (opening s d starts) opening_is_accepted ∙ rw (same_starts, same_default, same_setup)

-- what was written is read again, and gives the run that stands at the starts
pub write_read : (s : Setup) (d : ℕ) (starts buffer : List ℕ) → NumbersFit d starts
    → check_write s d starts (length buffer) ≡ Accepted
    → read_opening (write_opening s d starts buffer) ≡ record { reply = Accepted; run = run_from s d starts }
write_read s d starts buffer numbers e = rw (write_opening_is, e) (opening_read s d starts (length buffer) numbers e)

-- ---- answers
-- the promises leave one answer: reading
pub read_unique : (bs : List ℕ) (r r' : Opened) → r ≡ read_opening bs → r' ≡ read_opening bs → r ≡ r'
read_unique bs r r' p q = p ∙ sym q

-- and writing: the reply and the bytes
pub write_unique : (s : Setup) (d : ℕ) (starts buffer : List ℕ) (r r' : Reply) (out out' : List ℕ)
    → (r ≡ check_write s d starts (length buffer)) × (out ≡ write_opening s d starts buffer)
    → (r' ≡ check_write s d starts (length buffer)) × (out' ≡ write_opening s d starts buffer) → (r ≡ r') × (out ≡ out')
write_unique s d starts buffer r r' out out' p q = (p.0 ∙ sym q.0, p.1 ∙ sym q.1)
