-- A round written: the checks in their order, each as a loop over the records or the places makes it, and the bytes as
-- one record after another.
use mathlib.Core.Path.{◌≡◌, refl, ap, sym, ◌∙◌}
use mathlib.Core.Logic.{◌↔◌}
use mathlib.Core.Bool.{Bool, true, false, not, not-not, ◌&&◌, ◌||◌, false≢true}
use mathlib.Core.List.{List, ◌++◌}
use Prim.Native.Nat.{ℕ, zero, suc, ◌+◌, ◌*◌, ◌/◌, ◌%◌, ◌<◌, ◌≤◌}
use native.Mathlib.Nat.{mul-zero, mul-suc}
use native.Mathlib.Omega.{arith}
use borrow.Author.Tests.{eq-eqb, eqb-true, ltb-true, ltb-false}
use lib.Dec.{eqb, ltb}
use lib.ListN.{length}
use Rattle.run.specs.Reply.{Reply}
use Rattle.run.specs.Reply.{Accepted, Malformed, Query, Buffer, Rules}
use Rattle.run.specs.declared.Run.{Run}
use Rattle.run.specs.declared.record.Record.{Record}
use Rattle.run.specs.First.{first}
use Rattle.run.specs.Reply.{is_accepted, ◌then◌, or_refuse, refuse_at}
use Rattle.run.specs.Run.{stations, sound}
use Rattle.run.specs.Written.{written}
use Rattle.run.proofs.Replies.{then_accepted, or_refuse_accepted, accepted_or_refuse}
use Rattle.run.proofs.Written.{written_zero, written_add, written_same}
use Rattle.round.specs.declared.Cell.{Cell}
use Rattle.round.specs.declared.Cell.TheVariants as cell
use Rattle.round.specs.declared.Matrix.{Matrix}
use Rattle.round.specs.Cells.{cell_record}
use Rattle.round.specs.Reading.{in_turn, votes_next, numbered, cell_of, cell_number, round_length}
use Rattle.writing.specs.Writing.{is_query, is_lost, check_queries, check_outside, check_writing, rows_bytes}
use Rattle.writing.specs.Writing.{write_round}
use Rattle.round.proofs.Places.{receiver_of, sender_of, number_of}
use Rattle.round.proofs.Turns.{turn_accepted, turn_same, turn_first, turn_rows}

-- ---- tests on a cell
query_is : (c : Cell) → is_query c ≡ true → c ≡ cell.Query
query_is cell.Lost e = absurd (false≢true e)
query_is (cell.Value v) e = absurd (false≢true e)
query_is cell.Query e = refl

lost_is : (c : Cell) → is_lost c ≡ true → c ≡ cell.Lost
lost_is cell.Lost e = refl
lost_is (cell.Value v) e = absurd (false≢true e)
lost_is cell.Query e = absurd (false≢true e)

may_be_query : (voting : Bool) (c : Cell) → ((voting || not (is_query c)) ≡ true) ↔ (c ≡ cell.Query → voting ≡ true)
may_be_query true c = (λ e h. refl, λ h. refl)
may_be_query false c =
    (λ e h. absurd (false≢true (sym (ap (λ (d : Cell). not (is_query d)) h) ∙ e)), λ h. go (is_query c) refl h)
  where
    go : (b : Bool) → is_query c ≡ b → (c ≡ cell.Query → false ≡ true) → not (is_query c) ≡ true
    go true e h = absurd (false≢true (h (query_is c e)))
    go false e h = rw e

lost_outside : (n p q : ℕ) (c : Cell) → ((ltb p n && ltb q n || is_lost c) ≡ true)
    ↔ ((p < n → q < n → ⊥) → c ≡ cell.Lost)
lost_outside n p q c = (λ e out. there (ltb p n) (ltb q n) refl refl e out, λ h. back (ltb p n) (ltb q n) refl refl h)
  where
    there : (s t : Bool) → ltb p n ≡ s → ltb q n ≡ t → (ltb p n && ltb q n || is_lost c) ≡ true → (p < n → q < n → ⊥)
        → c ≡ cell.Lost
    there true true f g e out = absurd (out (ltb-true p n f) (ltb-true q n g))
    there true false f g e out = lost_is c (rw (f, g) at e)
    there false t f g e out = lost_is c (rw f at e)

    back : (s t : Bool) → ltb p n ≡ s → ltb q n ≡ t → ((p < n → q < n → ⊥) → c ≡ cell.Lost)
        → (ltb p n && ltb q n || is_lost c) ≡ true
    back true true f g h = rw (f, g)
    back true false f g h = let above : n ≤ q = ltb-false q n g in rw (f, g, h (λ lp lq. omega arith))
    back false t f g h = let above : n ≤ p = ltb-false p n f in rw (f, h (λ lp lq. omega arith))

module _ (n : ℕ) (m : Matrix) where
  -- ---- 5, record by record
  abbrev pub query_at : ℕ → Bool
  query_at k = is_query (cell_of m (k / n) (k % n))

  abbrev pub query_said : ℕ → Reply
  query_said k = or_refuse (not (query_at k)) (Query k)

  queries_rows : (voting : Bool) → check_queries voting n m
      ≡ in_turn (n * n) (λ k. or_refuse (voting || not (is_query (cell_of m (k / n) (k % n))))
      (Query (cell_number n (k / n) (k % n))))
  unfolding check_queries
  queries_rows voting =
      turn_rows n n (λ p q. or_refuse (voting || not (is_query (cell_of m p q))) (Query (cell_number n p q)))

  pub queries_voted : {voting : Bool} → voting ≡ true → Accepted ≡ check_queries voting n m
  queries_voted e = rw (queries_rows, e) (sym ((turn_accepted (λ k. Accepted) (n * n)).1 (λ k l. refl)))

  pub queries_asked : {voting : Bool} → voting ≡ false → in_turn (n * n) query_said ≡ check_queries voting n m
  queries_asked e = rw (queries_rows, e) (turn_same (n * n) query_said _ (λ k l. rw (number_of n k)))

  pub queries_first : {voting : Bool} → voting ≡ false
      → check_queries voting n m ≡ refuse_at (first (n * n) query_at) Query
  queries_first e =
      sym (queries_asked e) ∙ turn_first (n * n) query_said Query query_at (λ k. refl) (λ k. refl)

  -- so a "?" stands within n by n only in a vote round
  pub queries_accepted : (voting : Bool) → (check_queries voting n m ≡ Accepted)
      ↔ ((p q : ℕ) → p < n → q < n → cell_of m p q ≡ cell.Query → voting ≡ true)
  unfolding check_queries
  queries_accepted voting = (
    λ e p q lp lq. (may_be_query voting _).0
        (or_refuse_accepted _ (Query (cell_number n p q)) refl
        ((turn_accepted _ n).0 ((turn_accepted _ n).0 e p lp) q lq)),
    λ h.
        (turn_accepted _ n).1
        (λ p lp. (turn_accepted _ n).1 (λ q lq. accepted_or_refuse _ (Query (cell_number n p q))
        ((may_be_query voting (cell_of m p q)).1 (h p q lp lq)))),
  )

  -- ---- 2, place by place
  abbrev pub place_fits : ℕ → Bool
  place_fits k = ltb (k / stations) n && ltb (k % stations) n || is_lost (numbered m k)

  abbrev pub place_said : ℕ → Reply
  place_said k = or_refuse (place_fits k) (Malformed (n * n))

  pub outside_asked : in_turn (stations * stations) place_said ≡ check_outside n m
  unfolding check_outside
  outside_asked = refl

  pub outside_first : check_outside n m
      ≡ refuse_at (first (stations * stations) (λ k. not (place_fits k))) (λ k. Malformed (n * n))
  outside_first =
      sym outside_asked
      ∙ turn_first (stations * stations) place_said (λ k. Malformed (n * n)) (λ k. not (place_fits k))
      (λ k. rw not-not) (λ k. refl)

  -- so every cell outside n by n is lost
  pub outside_accepted : (check_outside n m ≡ Accepted)
      ↔ ((p q : ℕ) → p < stations → q < stations → (p < n → q < n → ⊥) → cell_of m p q ≡ cell.Lost)
  outside_accepted = (there, back)
    where
      there : check_outside n m ≡ Accepted → (p q : ℕ) → p < stations → q < stations → (p < n → q < n → ⊥)
          → cell_of m p q ≡ cell.Lost
      there e p q lp lq out =
          let row : (stations * p + q) / stations ≡ p = omega arith in
          let column : (stations * p + q) % stations ≡ q = omega arith in
          let k = stations * p + q in
          let said = (turn_accepted place_said (stations * stations)).0 (outside_asked ∙ e) k (omega arith) in
          let holds =
          or_refuse_accepted (ltb (k / stations) n && ltb (k % stations) n || is_lost (numbered m k))
          (Malformed (n * n)) refl said in
          (lost_outside n p q (cell_of m p q)).0 (rw (row, column) at holds) out

      back : ((p q : ℕ) → p < stations → q < stations → (p < n → q < n → ⊥) → cell_of m p q ≡ cell.Lost)
          → check_outside n m ≡ Accepted
      back h =
          sym outside_asked ∙ (turn_accepted place_said (stations * stations)).1
          (λ k l.
          let whole : stations * (k / stations) + k % stations ≡ k = omega arith in
          accepted_or_refuse _ (Malformed (n * n))
          ((lost_outside n (k / stations) (k % stations) _).1
          (λ out. (rw whole at (h (k / stations) (k % stations) (omega arith) (omega arith) out)))))

  -- ---- the bytes, record by record
  abbrev pub record_number : ℕ → Record
  record_number k = cell_record (k / n) (k % n) (cell_of m (k / n) (k % n))

  pub record_made : (k : ℕ) {place : ℕ} {r : Record} → place ≡ stations * (k / n) + k % n
      → r ≡ cell_record (k / n) (k % n) (numbered m place)
      → r ≡ record_number k
  record_made k e h = rw (← e) h

  rows_written : (k : ℕ) → rows_bytes k n m ≡ written (n * k) record_number
  unfolding rows_bytes
  rows_written zero = rw mul-zero (sym (written_zero record_number))
  rows_written (suc k) =
      rw (mul-suc n k, written_add, rows_written k)
      (ap (λ (l : List ℕ). written (n * k) record_number ++ l)
      (written_same n (λ q. cell_record k q (cell_of m k q)) (λ i. record_number (n * k + i))
      (λ i l. rw (receiver_of n k i l, sender_of n k i l))))

  pub round_written : written (n * n) record_number ≡ rows_bytes n n m
  round_written = sym (rows_written n)

-- ---- the checks in their order
module _ (run : Run) (m : Matrix) (room : ℕ) where
  pub writing_is : check_writing run m room
      ≡ (or_refuse (sound run) (Rules 0) then check_queries (votes_next run) run.setup.n m
      then check_outside run.setup.n m
      then or_refuse (eqb room (round_length run.setup.n)) Buffer)
  unfolding check_writing
  writing_is = refl

  pub writing_accepted : sound run ≡ true → check_queries (votes_next run) run.setup.n m ≡ Accepted
      → check_outside run.setup.n m ≡ Accepted → room ≡ round_length run.setup.n → Accepted ≡ check_writing run m room
  writing_accepted good asked outside fits = rw (writing_is, good, asked, outside, eq-eqb _ _ fits)

  -- what is accepted passed each check
  pub writing_passed : check_writing run m room ≡ Accepted
      → (sound run ≡ true) × (check_queries (votes_next run) run.setup.n m ≡ Accepted)
      × (check_outside run.setup.n m ≡ Accepted)
      × (room ≡ round_length run.setup.n)
  writing_passed e =
      let (good, rest) = then_accepted _ _ (sym writing_is ∙ e) in
      let (asked, more) = then_accepted _ _ rest in
      let (outside, fits) = then_accepted _ _ more in
      (or_refuse_accepted _ (Rules 0) refl good, asked, outside, eqb-true _ _ (or_refuse_accepted _ Buffer refl fits))

-- a matrix can be written exactly if the run is sound, a "?" stands within n by n only in a vote round, all outside it
-- is lost, and the room is right
pub writing_iff : (run : Run) (m : Matrix) (room : ℕ) → (check_writing run m room ≡ Accepted)
    ↔ ((sound run ≡ true) × ((p q : ℕ) → p < run.setup.n → q < run.setup.n → cell_of m p q ≡ cell.Query
    → votes_next run ≡ true)
    × ((p q : ℕ) → p < stations → q < stations → (p < run.setup.n → q < run.setup.n → ⊥)
    → cell_of m p q ≡ cell.Lost)
    × (room ≡ round_length run.setup.n))
writing_iff run m room = (
  λ e.
      let passed = writing_passed run m room e in
      (passed.0, (queries_accepted _ m (votes_next run)).0 passed.1, (outside_accepted _ m).0 passed.2, passed.3),
  λ h. sym (writing_accepted run m room h.0 ((queries_accepted _ m (votes_next run)).1 h.1)
      ((outside_accepted _ m).1 h.2) h.3),
)

-- a refusal writes no byte
module _ (run : Run) (m : Matrix) (buffer : List ℕ) where
  pub writing_refused : is_accepted (check_writing run m (length buffer)) ≡ false → buffer ≡ write_round run m buffer
  unfolding write_round
  writing_refused f = rw f

  pub writing_done : check_writing run m (length buffer) ≡ Accepted
      → rows_bytes run.setup.n run.setup.n m ≡ write_round run m buffer
  unfolding write_round
  writing_done e = rw e
