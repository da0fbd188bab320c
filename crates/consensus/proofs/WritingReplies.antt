-- The checks of a round that is to be written answer the replies of specs/WritingReplies and no others: 5 is asked of
-- the cells within n by n in the order of their records, 2 of all that are outside.
use mathlib.Core.Path.{◌≡◌, refl, ap, sym, ◌∙◌, subst}
use mathlib.Core.Bool.{Bool, true, false, ◌&&◌, ◌||◌, false≢true, true≢false}
use mathlib.Core.Logic.{◌↔◌}
use Prim.Native.Nat.{ℕ, ◌+◌, ◌*◌, ◌/◌, ◌%◌, ◌<◌}
use native.Mathlib.Omega.{arith}
use lib.Dec.{eqb, ltb}
use borrow.Author.Tests.{eqb-true, eqb-false, eq-eqb, ne_eqb}
use Rattle.run.specs.declared.Run.{Run}
use Rattle.run.specs.Reply.{Reply}
use Rattle.run.specs.Reply.{Accepted, Malformed, Query, Buffer, Rules}
use Rattle.run.specs.Keeps.{Keeps}
use Rattle.run.specs.Reply.{is_accepted, ◌then◌, or_refuse}
use Rattle.run.specs.Run.{stations, sound}
use Rattle.run.proofs.Replies.{accepted_is, refused_isn't}
use Rattle.run.proofs.Sound.{sound_iff}
use Rattle.round.specs.declared.Cell.{Cell}
use Rattle.round.specs.declared.Cell.TheVariants as cell
use Rattle.round.specs.declared.Matrix.{Matrix}
use Rattle.round.specs.Reading.{votes_next, numbered, cell_of, round_length}
use Rattle.round.proofs.Places.{receiver_of, sender_of, number_of, number_below, receiver_below, sender_below}
use Rattle.round.proofs.Turns.{turn_accepted, turn_stop}
use Rattle.writing.specs.Writing.{is_query, is_lost, check_queries, check_outside, check_writing}
use Rattle.writing.proofs.Writings.{
  query_said,
  queries_voted,
  queries_asked,
  place_said,
  outside_asked,
  outside_accepted,
}
use Rattle.consensus.specs.OneReply.{Only}
use Rattle.consensus.specs.WritingReplies.{QueryAt, NoQuery, LostOutside, WriteRoundReply}
use Rattle.consensus.proofs.Asking.{then_by, test_by, test_then, turn_then, first_refusal, unless, test_false}
use Rattle.consensus.proofs.RoundReplies.{next_votes}

-- a cell that is "?", by its test
query_iff : (c : Cell) → (is_query c ≡ true) ↔ (c ≡ cell.Query)
query_iff cell.Lost = (λ e. absurd (false≢true e), λ e. let z : ◌≡◌ {A = ℕ} 0 1 = cc in absurd (omega arith))
query_iff (cell.Value v) = (λ e. absurd (false≢true e), λ e. let z : ◌≡◌ {A = ℕ} 0 1 = cc in absurd (omega arith))
query_iff cell.Query = (λ e. refl, λ e. refl)

module _ (run : Run) (m : Matrix) (room : ℕ) where
  abbrev n : ℕ
  n = run.setup.n

  abbrev voting : Bool
  voting = votes_next run

  abbrev fits : Bool
  fits = eqb room (round_length n)

  abbrev outside_on : Reply
  outside_on = check_outside n m then or_refuse fits Buffer

  checks : check_writing run m room ≡ (or_refuse (sound run) (Rules 0) then check_queries voting n m then outside_on)
  unfolding check_writing
  checks = refl

  abbrev R : Reply → Type 0
  R = WriteRoundReply run m room

  -- ---- 5
  -- in a vote round no "?" is out of place
  none_in_vote : voting ≡ true → (p q : ℕ) → ¬ QueryAt run m p q
  none_in_vote v p q x = x.no_vote ((next_votes run).1 v)

  module _ (plain : voting ≡ false) where
    at_iff : (p q : ℕ) → (is_query (cell_of m p q) ≡ true) ↔ QueryAt run m p q
    at_iff p q = (
      λ e.
          record {
            there = (query_iff (cell_of m p q)).0 e;
            no_vote = λ k. true≢false (sym ((next_votes run).0 k) ∙ plain);
          },
      λ x. (query_iff (cell_of m p q)).1 x.there,
    )

    said_0 : (k : ℕ) → ¬ QueryAt run m (k / n) (k % n) → query_said n m k ≡ Accepted
    said_0 k none = rw (unless (is_query (cell_of m (k / n) (k % n))) (λ e. none ((at_iff (k / n) (k % n)).0 e)))

    said_5 : (k : ℕ) → QueryAt run m (k / n) (k % n) → query_said n m k ≡ Query k
    said_5 k x = rw ((at_iff (k / n) (k % n)).1 x)

    none_of : (k : ℕ) → query_said n m k ≡ Accepted → ¬ QueryAt run m (k / n) (k % n)
    none_of k e x = refused_isn't (Query k) refl (sym (said_5 k x) ∙ e)

    none_at : (p q : ℕ) → q < n → query_said n m (n * p + q) ≡ Accepted → ¬ QueryAt run m p q
    none_at p q l e = rw (receiver_of n p q l, sender_of n p q l) at (none_of (n * p + q) e)

    some_of : (k : ℕ) → is_accepted (query_said n m k) ≡ false → QueryAt run m (k / n) (k % n)
    some_of k f = go (is_query (cell_of m (k / n) (k % n))) refl
      where
        go : (b : Bool) → is_query (cell_of m (k / n) (k % n)) ≡ b → QueryAt run m (k / n) (k % n)
        go true e = (at_iff (k / n) (k % n)).0 e
        go false e =
            absurd
            (refused_isn't (query_said n m k) f
            (said_0 k (λ x. true≢false (sym ((at_iff (k / n) (k % n)).1 x) ∙ e))))

    queries_by : (P : Reply → Type 0)
        → ((p q : ℕ) → p < n → q < n → QueryAt run m p q
        → ((i j : ℕ) → i < n → j < n → n * i + j < n * p + q → ¬ QueryAt run m i j) → P (Query (n * p + q)))
        → (rest : Reply) → (NoQuery run m → P rest) → P (check_queries voting n m then rest)
    queries_by P five rest on =
        subst (λ (r : Reply). P (r then rest)) (queries_asked n m plain)
        (turn_then P (n * n) (query_said n m) rest
        (λ k l before f.
        let x = some_of k f in
        subst P (sym (said_5 k x))
        (subst (λ (j : ℕ). P (Query j)) (number_of n k)
        (five (k / n) (k % n) (receiver_below n k l) (sender_below n k l) x
        (λ i j li lj lower.
        none_at i j lj (before (n * i + j) (rw (number_of n k) at lower))))))
        (λ all. on (λ p q lp lq. none_at p q lq (all (n * p + q) (number_below n p q lp lq)))))

    queries_5 : (p q : ℕ) → p < n → q < n → QueryAt run m p q
        → ((i j : ℕ) → i < n → j < n → n * i + j < n * p + q → ¬ QueryAt run m i j)
        → check_queries voting n m ≡ Query (n * p + q)
    queries_5 p q lp lq x before =
        let k = n * p + q in
        let here : query_said n m k ≡ Query k
        = said_5 k (rw (receiver_of n p q lq, sender_of n p q lq) x) in
        sym (queries_asked n m plain)
        ∙ turn_stop (query_said n m) (n * n) k
        ((turn_accepted (query_said n m) k).1
        (λ j l.
        let below : j < n * n = omega (arith, l, number_below n p q lp lq) in
        said_0 j (before (j / n) (j % n) (receiver_below n j below) (sender_below n j below) (rw (number_of n j) l))))
        (ap is_accepted here) (number_below n p q lp lq)
        ∙ here

    queries_0 : NoQuery run m → check_queries voting n m ≡ Accepted
    queries_0 none =
        sym (queries_asked n m plain)
        ∙ (turn_accepted (query_said n m) (n * n)).1
        (λ k l. said_0 k (none (k / n) (k % n) (receiver_below n k l) (sender_below n k l)))

  no_query : NoQuery run m → check_queries voting n m ≡ Accepted
  no_query none = go voting refl
    where
      go : (b : Bool) → voting ≡ b → check_queries voting n m ≡ Accepted
      go true v = sym (queries_voted n m v)
      go false v = queries_0 v none

  -- ---- 2
  outside_iff : (check_outside n m ≡ Accepted) ↔ LostOutside run m
  outside_iff = (
    λ e p q lp lq out. (outside_accepted n m).0 e p q lp lq (λ x y. out (x, y)),
    λ lost. (outside_accepted n m).1 (λ p q lp lq out. lost p q lp lq (λ x. out x.0 x.1)),
  )

  outside_2 : is_accepted (check_outside n m) ≡ false → check_outside n m ≡ Malformed (n * n)
  outside_2 f =
      let x = first_refusal (stations * stations) (place_said n m) (ap is_accepted (outside_asked n m) ∙ f) in
      let k : ℕ = x.place in
      sym (outside_asked n m) ∙ x.reply
      ∙ (test_false (ltb (k / stations) n && ltb (k % stations) n || is_lost (numbered m k)) (Malformed (n * n))
      x.refuses).1

  module _ (keeps : Keeps run) (none : NoQuery run m) where
    outside_holds : R outside_on
    outside_holds =
        then_by R (check_outside n m) (or_refuse fits Buffer)
        (λ f.
        subst R (sym (outside_2 f))
        (WriteRoundReply.outside keeps none (λ lost. refused_isn't (check_outside n m) f (outside_iff.1 lost))))
        (λ e.
        let lost = outside_iff.0 e in
        test_by R fits Buffer (λ g. WriteRoundReply.no_room keeps none lost (eqb-false room (round_length n) g))
        (λ g. WriteRoundReply.accepted keeps none lost (eqb-true room (round_length n) g)))

    past_queries : check_writing run m room ≡ outside_on
    past_queries = checks ∙ rw ((sound_iff run).1 keeps, no_query none)

  write_holds : R (check_writing run m room)
  write_holds =
      subst R (sym checks)
      (test_then R (sound run) (Rules 0) (check_queries voting n m then outside_on) refl
      (λ e. WriteRoundReply.not_good (λ keeps. false≢true (sym e ∙ (sound_iff run).1 keeps)))
      (λ good. go ((sound_iff run).0 good) voting refl))
    where
      go : Keeps run → (b : Bool) → voting ≡ b → R (check_queries voting n m then outside_on)
      go keeps true v =
          subst (λ (r : Reply). R (r then outside_on)) (queries_voted n m v)
          (outside_holds keeps (λ p q lp lq. none_in_vote v p q))
      go keeps false v =
          queries_by v R (λ p q lp lq x before. WriteRoundReply.query p q keeps lp lq x before) outside_on
          (outside_holds keeps)

  write_alone : (r : Reply) → R r → r ≡ check_writing run m room
  write_alone r (WriteRoundReply.not_good bad) =
      sym (checks ∙ rw (unless (sound run) (λ e. bad ((sound_iff run).0 e))))
  write_alone r (WriteRoundReply.query p q keeps lp lq x before) =
      let plain : voting ≡ false = unless voting (λ v. none_in_vote v p q x) in
      sym (checks ∙ rw ((sound_iff run).1 keeps, queries_5 plain p q lp lq x before))
  write_alone r (WriteRoundReply.outside keeps none bad) =
      let f : is_accepted (check_outside n m) ≡ false
      = unless (is_accepted (check_outside n m)) (λ e. bad (outside_iff.0 (accepted_is (check_outside n m) e))) in
      sym (past_queries keeps none ∙ rw (outside_2 f))
  write_alone r (WriteRoundReply.no_room keeps none lost other) =
      sym (past_queries keeps none ∙ rw (outside_iff.1 lost, ne_eqb room (round_length n) other))
  write_alone r (WriteRoundReply.accepted keeps none lost same) =
      sym (past_queries keeps none ∙ rw (outside_iff.1 lost, eq-eqb room (round_length n) same))

-- a round that is to be written is answered what the relation says, and this says nothing else
pub write_round_replies : (run : Run) (m : Matrix) (room : ℕ)
    → Only (WriteRoundReply run m room) (check_writing run m room)
write_round_replies run m room = record { holds = write_holds run m room; alone = write_alone run m room }
