-- The checks of a step, and of a reading, answer the replies of specs/RoundReplies and no others: record by record the
-- check of a cell is that it spells one and is no "?" out of place; 6 and 7 ask for the sizes of the paper's sets; and
-- the first check that refuses is the first case whose premises hold.
use mathlib.Core.Path.{◌≡◌, refl, ap, sym, ◌∙◌, subst}
use mathlib.Core.Bool.{Bool, true, false, not, ◌||◌, cond, false≢true, true≢false}
use mathlib.Core.List.{List}
use mathlib.Core.Logic.{◌↔◌}
use Prim.Native.Nat.{ℕ, suc, ◌+◌, ◌*◌, ◌/◌, ◌%◌, ◌≤◌, ◌<◌}
use native.Mathlib.Numerals.{add-one}
use native.Mathlib.Omega.{arith}
use lib.ListN.{length}
use lib.Dec.{eqb, ltb}
use borrow.Author.Tests.{eqb-true, eqb-false, eq-eqb, ne_eqb, lt-ltb, ltb-true, ltb-false, le-ltb}
use Rattle.paper.specs.Stations.{All, size}
use Rattle.paper.specs.Heard as heard
use Rattle.paper.specs.Setup as setup
use Rattle.paper.specs.Rules as rules
use Rattle.paper.specs.Run as paper
use Rattle.paper.proofs.Setups.{a_not_u}
use Rattle.paper.proofs.Thresholds.{tolerated_iff}
use Rattle.run.specs.declared.Run.{Run}
use Rattle.run.specs.Reply.{Reply}
use Rattle.run.specs.Reply.{
  Accepted,
  Length,
  Malformed,
  Query,
  Altered,
  Unsafe,
  Full,
  Rules,
}
use Rattle.run.specs.declared.record.Record.{Record}
use Rattle.run.specs.Kinds as kind
use Rattle.run.specs.Keeps.{Keeps}
use Rattle.run.specs.Record.{record_at}
use Rattle.run.specs.Reply.{is_accepted, ◌then◌, or_refuse}
use Rattle.run.specs.Run.{most_rounds, sound}
use Rattle.run.proofs.Replies.{or_refuse_accepted, refused_isn't, then_end}
use Rattle.run.proofs.Sound.{sound_iff}
use Rattle.limits.specs.Setup.{is_u, setup_of}
use Rattle.round.specs.declared.Cell.TheVariants as cell
use Rattle.round.specs.Cells.{cell_record, cell_fits, check_cell}
use Rattle.round.specs.Reading.{in_turn, votes_next, round_length, row_part, check_row, check_cells, check_reading}
use Rattle.round.specs.Bridge.{heard_in, station, kind_next, sent_next, paper_setup}
use Rattle.round.proofs.Places.{receiver_of, sender_of, number_of, number_below, receiver_below, sender_below}
use Rattle.round.proofs.Matrices.{record_in_row}
use Rattle.round.proofs.Spelling.{cell_fits_iff, query_record, check_cell_accepted}
use Rattle.round.proofs.Turns.{turn_accepted, turn_stop, turn_same, turn_rows}
use Rattle.hearing.proofs.Hearing.{kind_votes}
use Rattle.judge.specs.Step.{altered, safe, check_altered, check_safe, check_step}
use Rattle.judge.proofs.Steps.{sets_on, cells_on, length_on, room_on}
use Rattle.consensus.specs.OneReply.{Only}
use Rattle.consensus.specs.Round.{
  round_by_paper,
  Ready,
  VoteNext,
  cell_at,
  Spells,
  Misplaced,
  InOrder,
  InOrderUpTo,
  Whole,
  WellFormed,
  altered_at,
  safe_at,
}
use Rattle.consensus.specs.RoundReplies.{StepReply, ReadReply}
use Rattle.consensus.proofs.Asking.{test_by, test_then, turn_then, turn_by, unless, test_false}

-- ---- the kind of the next round
vote_by : (b u : Bool) → (cond b rules.vote (cond u rules.value rules.update) ≡ rules.vote) ↔ (b ≡ true)
vote_by true u = (λ e. refl, λ e. refl)
vote_by false true = (λ e. let z : ◌≡◌ {A = ℕ} 0 1 = cc in absurd (omega arith), λ e. absurd (false≢true e))
vote_by false false = (λ e. let z : ◌≡◌ {A = ℕ} 0 1 = cc in absurd (omega arith), λ e. absurd (false≢true e))

pub next_votes : (run : Run) → VoteNext run ↔ (votes_next run ≡ true)
unfolding kind_next setup_of
next_votes run =
    let iff = vote_by (votes_next run) (is_u run.setup) in
    let told : rules.kind_of (paper_setup run).algorithm (suc run.clock)
    ≡ cond (votes_next run) rules.vote (cond (is_u run.setup) rules.value rules.update)
    = sym (ap (rules.kind_of (paper_setup run).algorithm) (add-one run.clock)) ∙ kind_votes run in
    (λ e. iff.0 (sym told ∙ e), λ e. told ∙ iff.1 e)

-- ---- a predicate that is asked under U alone
pub under_u : (b : Bool) → cond b setup.U setup.A ≡ setup.U → b ≡ true
under_u true e = refl
under_u false e = absurd (a_not_u e)

module _ (run : Run) (bs : List ℕ) where
  abbrev n : ℕ
  n = run.setup.n

  abbrev S : setup.Setup
  S = paper_setup run

  abbrev turn : paper.Turn
  turn = round_by_paper run bs

  abbrev voting : Bool
  voting = votes_next run

  -- the round that the run waits for is the paper's next: the code counts it by + 1, the paper by suc
  pub kind_is : kind_next run ≡ paper.kind S turn
  unfolding kind_next paper.kind round_by_paper setup_of
  kind_is = ap (rules.kind_of S.algorithm) (add-one run.clock)

  pub sent_is : sent_next run ≡ paper.sent S turn
  unfolding sent_next paper.sent round_by_paper
  sent_is = ap {B = ℕ → heard.Message} (λ (k : rules.Kind). λ (q : ℕ). rules.sends k (station run q)) kind_is

  vote_iff : VoteNext run ↔ (voting ≡ true)
  vote_iff = next_votes run

  -- ---- the records
  -- what is said of record k
  abbrev said : ℕ → Reply
  said k = check_cell voting k (k / n) (k % n) (record_at bs k)

  cells_in_turn : check_cells voting n bs ≡ in_turn (n * n) said
  unfolding check_cells check_row
  cells_in_turn =
      turn_rows n n (λ p q. check_cell voting (n * p + q) p q (record_at (row_part n bs p) q))
      ∙ turn_same (n * n) _ said
      (λ k l. rw (record_in_row n bs (k / n) (k % n) (sender_below n k l), number_of n k))

  module _ (at p q : ℕ) where
    abbrev said_of : Reply
    said_of = check_cell voting at p q (cell_at run bs p q)

    abbrev fits : Bool
    fits = cell_fits p q (cell_at run bs p q)

    fits_iff : (fits ≡ true) ↔ Spells run bs p q
    fits_iff =
        let iff = cell_fits_iff p q (cell_at run bs p q) in
        (λ e. let (c, is) = iff.0 e in (c, sym is), λ s. iff.1 (s.0, sym s.1))

    -- a well-formed record of kind 5 spells "?"
    query_spelled : Spells run bs p q → (cell_at run bs p q).kind ≡ kind.HEARD_QUERY
        → cell_at run bs p q ≡ cell_record p q cell.Query
    query_spelled (c, is) e =
        is ∙ ap (cell_record p q) (query_record p q c (sym (ap (λ (r : Record). r.kind) is) ∙ e))

    query_kind : cell_at run bs p q ≡ cell_record p q cell.Query → (cell_at run bs p q).kind ≡ kind.HEARD_QUERY
    unfolding cell_record
    query_kind e = ap (λ (r : Record). r.kind) e

    in_order_iff : (said_of ≡ Accepted) ↔ InOrder run bs p q
    in_order_iff = (there, back)
      where
        there : said_of ≡ Accepted → InOrder run bs p q
        there e =
            let told = (check_cell_accepted voting at p q (cell_at run bs p q)).0 e in
            record {
              spells = fits_iff.0 told.0;
              in_place = λ m. m.no_vote (vote_iff.1 (told.1 (query_kind m.spells)));
            }

        allowed : InOrder run bs p q → (b : Bool) → voting ≡ b → (cell_at run bs p q).kind ≡ kind.HEARD_QUERY
            → voting ≡ true
        allowed o true v e = v
        allowed o false v e =
            absurd
            (o.in_place
            (record {
              spells = query_spelled o.spells e;
              no_vote = λ k. true≢false (sym (vote_iff.0 k) ∙ v);
            }))

        back : InOrder run bs p q → said_of ≡ Accepted
        back o =
            (check_cell_accepted voting at p q (cell_at run bs p q)).1 (fits_iff.1 o.spells, allowed o voting refl)

    -- "?" may stand here
    abbrev may : Bool
    may = voting || not (eqb (cell_at run bs p q).kind kind.HEARD_QUERY)

    told : said_of ≡ (or_refuse fits (Malformed at) then or_refuse may (Query at))
    unfolding check_cell
    told = refl

    -- 2, and 5
    said_2 : ¬ Spells run bs p q → said_of ≡ Malformed at
    said_2 bad = told ∙ rw (unless fits (λ e. bad (fits_iff.0 e)))

    said_5 : Misplaced run bs p q → said_of ≡ Query at
    said_5 m =
        told
        ∙ rw (
          fits_iff.1 (cell.Query, m.spells),
          unless voting (λ e. m.no_vote (vote_iff.1 e)),
          eq-eqb (cell_at run bs p q).kind kind.HEARD_QUERY (query_kind m.spells),
        )

    misplaced : Spells run bs p q → may ≡ false → Misplaced run bs p q
    misplaced s m = go voting refl (eqb (cell_at run bs p q).kind kind.HEARD_QUERY) refl
      where
        go : (b : Bool) → voting ≡ b → (c : Bool) → eqb (cell_at run bs p q).kind kind.HEARD_QUERY ≡ c
            → Misplaced run bs p q
        go true v c k = absurd (true≢false (rw v at m))
        go false v false k = absurd (true≢false (rw (v, k) at m))
        go false v true k =
            record {
              spells = query_spelled s (eqb-true (cell_at run bs p q).kind kind.HEARD_QUERY k);
              no_vote = λ e. true≢false (sym (vote_iff.0 e) ∙ v);
            }

    -- and what is said where it is refused, by one and the other
    said_by : (P : Reply → Type 0) → (¬ Spells run bs p q → P (Malformed at)) → (Misplaced run bs p q → P (Query at))
        → is_accepted said_of ≡ false → P said_of
    said_by P two five refused =
        subst P (sym told)
        (test_then P fits (Malformed at) (or_refuse may (Query at)) refl
        (λ e. two (λ s. false≢true (sym e ∙ fits_iff.1 s)))
        (λ e.
        test_by P may (Query at) (λ m. five (misplaced (fits_iff.0 e) m))
        (λ m. absurd (refused_isn't said_of refused (told ∙ rw (e, m))))))

  -- record np + q is said to be what is said of receiver p and sender q
  said_at : (p q : ℕ) → q < n → said (n * p + q) ≡ said_of (n * p + q) p q
  said_at p q l = rw (receiver_of n p q l, sender_of n p q l)

  all_in_order : check_cells voting n bs ≡ Accepted → (p q : ℕ) → p < n → q < n → InOrder run bs p q
  all_in_order e p q lp lq =
      (in_order_iff (n * p + q) p q).0
      (sym (said_at p q lq) ∙ (turn_accepted said (n * n)).0 (sym cells_in_turn ∙ e) (n * p + q)
      (number_below n p q lp lq))

  in_order_all : ((p q : ℕ) → p < n → q < n → InOrder run bs p q) → check_cells voting n bs ≡ Accepted
  in_order_all all =
      cells_in_turn
      ∙ (turn_accepted said (n * n)).1
      (λ k l.
      let o = all (k / n) (k % n) (receiver_below n k l) (sender_below n k l) in
      subst (λ (j : ℕ). check_cell voting k (k / n) (k % n) (record_at bs j) ≡ Accepted) (number_of n k)
      ((in_order_iff k (k / n) (k % n)).1 o))

  pub cells_iff : (check_cells voting n bs ≡ Accepted) ↔ ((p q : ℕ) → p < n → q < n → InOrder run bs p q)
  cells_iff = (all_in_order, in_order_all)

  -- the first record at fault gives the reply
  module _ (P : Reply → Type 0) (two : (p q : ℕ) → InOrderUpTo run bs p q → ¬ Spells run bs p q
      → P (Malformed (n * p + q)))
      (five : (p q : ℕ) → InOrderUpTo run bs p q → Misplaced run bs p q → P (Query (n * p + q))) where
    up_to : (k : ℕ) → k < n * n → ((j : ℕ) → j < k → said j ≡ Accepted) → InOrderUpTo run bs (k / n) (k % n)
    up_to k l before =
        record {
          receiver = receiver_below n k l;
          sender = sender_below n k l;
          before =
              λ i j li lj lower.
              (in_order_iff (n * i + j) i j).0
              (sym (said_at i j lj) ∙ before (n * i + j) (rw (number_of n k) at lower));
        }

    at_fault : (k : ℕ) → k < n * n → ((j : ℕ) → j < k → said j ≡ Accepted) → is_accepted (said k) ≡ false → P (said k)
    at_fault k l before refused =
        let here : said_of k (k / n) (k % n) ≡ said k
        = ap (λ (j : ℕ). check_cell voting k (k / n) (k % n) (record_at bs j)) (number_of n k) in
        subst P here
        (said_by k (k / n) (k % n) P
        (λ bad. subst (λ (j : ℕ). P (Malformed j)) (number_of n k) (two (k / n) (k % n) (up_to k l before) bad))
        (λ m. subst (λ (j : ℕ). P (Query j)) (number_of n k) (five (k / n) (k % n) (up_to k l before) m))
        (ap is_accepted here ∙ refused))

    pub cells_by : (s : Reply) → (((p q : ℕ) → p < n → q < n → InOrder run bs p q) → P s)
        → P (check_cells voting n bs then s)
    cells_by s on =
        subst (λ (r : Reply). P (r then s)) (sym cells_in_turn)
        (turn_then P (n * n) said s at_fault
        (λ all. on (all_in_order (cells_in_turn ∙ (turn_accepted said (n * n)).1 all))))

  cells_stop : (p q : ℕ) (r : Reply) → InOrderUpTo run bs p q → said_of (n * p + q) p q ≡ r → is_accepted r ≡ false
      → check_cells voting n bs ≡ r
  cells_stop p q r first here refuses =
      let k = n * p + q in
      let is : said k ≡ r = said_at p q first.sender ∙ here in
      cells_in_turn
      ∙ turn_stop said (n * n) k
      ((turn_accepted said k).1
      (λ j l.
      let below : j < n * n = omega (arith, number_below n p q first.receiver first.sender) in
      let o = first.before (j / n) (j % n) (receiver_below n j below) (sender_below n j below)
      (rw (number_of n j) l) in
      subst (λ (i : ℕ). check_cell voting j (j / n) (j % n) (record_at bs i) ≡ Accepted) (number_of n j)
      ((in_order_iff j (j / n) (j % n)).1 o)))
      (ap is_accepted is ∙ refuses) (number_below n p q first.receiver first.sender)
      ∙ is

  pub cells_2 : (p q : ℕ) → InOrderUpTo run bs p q → ¬ Spells run bs p q
      → check_cells voting n bs ≡ Malformed (n * p + q)
  cells_2 p q first bad = cells_stop p q (Malformed (n * p + q)) first (said_2 (n * p + q) p q bad) refl

  pub cells_5 : (p q : ℕ) → InOrderUpTo run bs p q → Misplaced run bs p q
      → check_cells voting n bs ≡ Query (n * p + q)
  cells_5 p q first m = cells_stop p q (Query (n * p + q)) first (said_5 (n * p + q) p q m) refl

  -- ---- the sets
  altered_is : (p : ℕ) → altered run bs p ≡ altered_at run bs p
  unfolding round_by_paper
  altered_is p = ap (λ (sent : ℕ → heard.Message). size n (heard.AHO (heard_in n bs p) sent)) sent_is

  safe_is : (p : ℕ) → safe run bs p ≡ safe_at run bs p
  unfolding round_by_paper
  safe_is p = ap (λ (sent : ℕ → heard.Message). size n (heard.SHO (heard_in n bs p) sent)) sent_is

  abbrev few : ℕ → Bool
  few p = setup.tolerated S (altered run bs p)

  abbrev enough : ℕ → Bool
  enough p = setup.passes_bound S (safe run bs p)

  few_iff : (p : ℕ) → (few p ≡ true) ↔ (altered_at run bs p ≤ S.alpha)
  few_iff p =
      subst (λ (k : ℕ). (few p ≡ true) ↔ (k ≤ S.alpha)) (altered_is p) (tolerated_iff S (altered run bs p))

  many : (p : ℕ) → few p ≡ false → S.alpha < altered_at run bs p
  many p e = go (ltb S.alpha (altered_at run bs p)) refl
    where
      go : (b : Bool) → ltb S.alpha (altered_at run bs p) ≡ b → S.alpha < altered_at run bs p
      go true q = ltb-true _ _ q
      go false q = absurd (false≢true (sym e ∙ (few_iff p).1 (ltb-false _ _ q)))

  enough_is : (p : ℕ) → enough p ≡ setup.passes_bound S (safe_at run bs p)
  enough_is p = ap (setup.passes_bound S) (safe_is p)

  abbrev altered_said : ℕ → Reply
  altered_said p = or_refuse (few p) (Altered p)

  abbrev safe_said : ℕ → Reply
  safe_said p = or_refuse (enough p) (Unsafe p)

  altered_asked : check_altered run bs ≡ in_turn n altered_said
  unfolding check_altered
  altered_asked = refl

  safe_asked : check_safe run bs ≡ cond (is_u run.setup) (in_turn n safe_said) Accepted
  unfolding check_safe
  safe_asked = refl

  few_said : (p : ℕ) → altered_said p ≡ Accepted → altered_at run bs p ≤ S.alpha
  few_said p e = (few_iff p).0 (or_refuse_accepted (few p) (Altered p) refl e)

  said_few : (p : ℕ) → altered_at run bs p ≤ S.alpha → altered_said p ≡ Accepted
  said_few p h = rw ((few_iff p).1 h)

  enough_said : (p : ℕ) → safe_said p ≡ Accepted → setup.passes_bound S (safe_at run bs p) ≡ true
  enough_said p e = sym (enough_is p) ∙ or_refuse_accepted (enough p) (Unsafe p) refl e

  said_enough : (p : ℕ) → setup.passes_bound S (safe_at run bs p) ≡ true → safe_said p ≡ Accepted
  said_enough p h = rw (enough_is p ∙ h)

  -- whose algorithm is U
  own_u : is_u run.setup ≡ true → S.algorithm ≡ setup.U
  unfolding setup_of
  own_u u = rw u

  u_own : S.algorithm ≡ setup.U → is_u run.setup ≡ true
  unfolding setup_of
  u_own e = under_u (is_u run.setup) e

  -- the predicates, told by sizes
  safe_from : All n (λ p. altered_at run bs p ≤ S.alpha)
      → (S.algorithm ≡ setup.U → All n (λ p. setup.passes_bound S (safe_at run bs p) ≡ true)) → paper.Safe S turn
  unfolding paper.PAlpha paper.PSafe setup_of
  safe_from few_all enough_all =
      record {
        few_altered = λ p h. (tolerated_iff S (altered_at run bs p)).1 (few_all p h);
        enough_safe = λ own p h. enough_all own p h;
      }

  few_of : paper.Safe S turn → All n (λ p. altered_at run bs p ≤ S.alpha)
  unfolding paper.PAlpha setup_of
  few_of safe p h = (tolerated_iff S (altered_at run bs p)).0 (safe.few_altered p h)

  enough_of : paper.Safe S turn → S.algorithm ≡ setup.U
      → All n (λ p. setup.passes_bound S (safe_at run bs p) ≡ true)
  unfolding paper.PSafe setup_of
  enough_of safe own p h = safe.enough_safe own p h

  -- ---- the step
  checks : check_step run bs ≡ (or_refuse (sound run) (Rules 0) then room_on run bs)
  unfolding check_step
  checks = refl

  abbrev long : Bool
  long = eqb (length bs) (round_length n)

  unsound_is : ¬ Keeps run → sound run ≡ false
  unsound_is bad = unless (sound run) (λ e. bad ((sound_iff run).0 e))

  bad_of : sound run ≡ false → ¬ Keeps run
  bad_of e keeps = false≢true (sym e ∙ (sound_iff run).1 keeps)

  abbrev R : Reply → Type 0
  R = StepReply run bs

  module _ (ready : Ready run) (formed : WellFormed run bs) where
    sets_hold : R (sets_on run bs)
    sets_hold =
        subst (λ (r : Reply). R (r then check_safe run bs)) (sym altered_asked)
        (turn_then R n altered_said (check_safe run bs)
        (λ p l before refused.
        let (fails, is) = test_false (few p) (Altered p) refused in
        subst R (sym is)
        (StepReply.altered p ready formed l (many p fails) (λ q h. few_said q (before q h))))
        (λ all. subst R (sym safe_asked) (by_u (is_u run.setup) refl (λ q h. few_said q (all q h)))))
      where
        by_u : (b : Bool) → is_u run.setup ≡ b → All n (λ q. altered_at run bs q ≤ S.alpha)
            → R (cond b (in_turn n safe_said) Accepted)
        by_u true u few_all =
            turn_by R n safe_said
            (λ p l before refused.
            let (fails, is) = test_false (enough p) (Unsafe p) refused in
            subst R (sym is)
            (StepReply.unsafe p ready formed few_all (own_u u) l
            (λ e. false≢true (sym fails ∙ enough_is p ∙ e)) (λ q h. enough_said q (before q h))))
            (λ all. StepReply.accepted ready formed (safe_from few_all (λ own q h. enough_said q (all q h))))
        by_u false u few_all =
            StepReply.accepted ready formed
            (safe_from few_all (λ own q h. absurd (false≢true (sym u ∙ u_own own))))

  step_holds : R (check_step run bs)
  step_holds =
      subst R (sym checks)
      (test_then R (sound run) (Rules 0) (room_on run bs) refl (λ e. StepReply.not_good (bad_of e))
      (λ good.
      let keeps = (sound_iff run).0 good in
      test_then R (ltb run.clock most_rounds) Full (length_on run bs) refl
      (λ e. StepReply.is_full keeps (ltb-false run.clock most_rounds e))
      (λ room.
      let ready : Ready run = record { keeps = keeps; room = ltb-true run.clock most_rounds room } in
      test_then R long Length (cells_on run bs) refl
      (λ e. StepReply.misfit ready (eqb-false (length bs) (round_length n) e))
      (λ whole.
      let fits : Whole run bs = eqb-true (length bs) (round_length n) whole in
      cells_by R (λ p q first bad. StepReply.malformed p q ready fits first bad)
      (λ p q first m. StepReply.query p q ready fits first m) (sets_on run bs)
      (λ all. sets_hold ready (record { long = fits; in_order = all }))))))

  -- past each check
  module _ (keeps : Keeps run) where
    past_sound : check_step run bs ≡ room_on run bs
    past_sound = checks ∙ rw ((sound_iff run).1 keeps)

  module _ (ready : Ready run) where
    past_room : check_step run bs ≡ length_on run bs
    past_room = past_sound ready.keeps ∙ rw (lt-ltb run.clock most_rounds ready.room)

    past_length : Whole run bs → check_step run bs ≡ cells_on run bs
    past_length whole = past_room ∙ rw (eq-eqb (length bs) (round_length n) whole)

    past_cells : WellFormed run bs → check_step run bs ≡ sets_on run bs
    past_cells formed = past_length formed.long ∙ rw (in_order_all formed.in_order)

    past_few : WellFormed run bs → All n (λ p. altered_at run bs p ≤ S.alpha) → check_step run bs ≡ check_safe run bs
    past_few formed few_all =
        past_cells formed
        ∙ rw (altered_asked ∙ (turn_accepted altered_said n).1 (λ p h. said_few p (few_all p h)))

  step_alone : (r : Reply) → R r → r ≡ check_step run bs
  step_alone r (StepReply.not_good bad) = sym (checks ∙ rw (unsound_is bad))
  step_alone r (StepReply.is_full keeps full) = sym (past_sound keeps ∙ rw (le-ltb run.clock most_rounds full))
  step_alone r (StepReply.misfit ready other) = sym (past_room ready ∙ rw (ne_eqb (length bs) (round_length n) other))
  step_alone r (StepReply.malformed p q ready whole first bad) =
      sym (past_length ready whole ∙ rw (cells_2 p q first bad))
  step_alone r (StepReply.query p q ready whole first m) = sym (past_length ready whole ∙ rw (cells_5 p q first m))
  step_alone r (StepReply.altered p ready formed l high before) =
      let fails : few p ≡ false = unless (few p) (λ e. omega (arith, (few_iff p).0 e, high)) in
      let is : check_altered run bs ≡ Altered p
      = altered_asked
      ∙ turn_stop altered_said n p ((turn_accepted altered_said p).1 (λ q h. said_few q (before q h))) (rw fails) l
      ∙ rw fails in
      sym (past_cells ready formed ∙ rw is)
  step_alone r (StepReply.unsafe p ready formed few_all own l low before) =
      let fails : enough p ≡ false = unless (enough p) (λ e. low (sym (enough_is p) ∙ e)) in
      let is : in_turn n safe_said ≡ Unsafe p
      = turn_stop safe_said n p ((turn_accepted safe_said p).1 (λ q h. said_enough q (before q h))) (rw fails) l
      ∙ rw fails in
      sym (past_few ready formed few_all ∙ safe_asked ∙ rw (u_own own, is))
  step_alone r (StepReply.accepted ready formed safe) =
      sym (past_few ready formed (few_of safe) ∙ safe_asked ∙ by_u (is_u run.setup) refl)
    where
      by_u : (b : Bool) → is_u run.setup ≡ b → cond b (in_turn n safe_said) Accepted ≡ Accepted
      by_u true u = (turn_accepted safe_said n).1 (λ p h. said_enough p (enough_of safe (own_u u) p h))
      by_u false u = refl

  -- ---- reading
  reading : check_reading run bs
      ≡ (or_refuse (sound run) (Rules 0) then or_refuse long Length then check_cells voting n bs)
  unfolding check_reading
  reading = refl

  abbrev Q : Reply → Type 0
  Q = ReadReply run bs

  read_holds : Q (check_reading run bs)
  read_holds =
      subst Q (sym reading)
      (test_then Q (sound run) (Rules 0) (or_refuse long Length then check_cells voting n bs) refl
      (λ e. ReadReply.not_good (bad_of e))
      (λ good.
      let keeps = (sound_iff run).0 good in
      test_then Q long Length (check_cells voting n bs) refl
      (λ e. ReadReply.misfit keeps (eqb-false (length bs) (round_length n) e))
      (λ whole.
      let fits : Whole run bs = eqb-true (length bs) (round_length n) whole in
      subst Q (then_end (check_cells voting n bs))
      (cells_by Q (λ p q first bad. ReadReply.malformed p q keeps fits first bad)
      (λ p q first m. ReadReply.query p q keeps fits first m) Accepted
      (λ all. ReadReply.accepted keeps (record { long = fits; in_order = all }))))))

  past_good : Keeps run → check_reading run bs ≡ (or_refuse long Length then check_cells voting n bs)
  past_good keeps = reading ∙ rw ((sound_iff run).1 keeps)

  past_whole : Keeps run → Whole run bs → check_reading run bs ≡ check_cells voting n bs
  past_whole keeps whole = past_good keeps ∙ rw (eq-eqb (length bs) (round_length n) whole)

  read_alone : (r : Reply) → Q r → r ≡ check_reading run bs
  read_alone r (ReadReply.not_good bad) = sym (reading ∙ rw (unsound_is bad))
  read_alone r (ReadReply.misfit keeps other) =
      sym (past_good keeps ∙ rw (ne_eqb (length bs) (round_length n) other))
  read_alone r (ReadReply.malformed p q keeps whole first bad) =
      sym (past_whole keeps whole ∙ cells_2 p q first bad)
  read_alone r (ReadReply.query p q keeps whole first m) = sym (past_whole keeps whole ∙ cells_5 p q first m)
  read_alone r (ReadReply.accepted keeps formed) =
      sym (past_whole keeps formed.long ∙ in_order_all formed.in_order)

-- a step, and a reading or a survey, answer what the relations say, and these say nothing else
pub step_replies : (run : Run) (bs : List ℕ) → Only (StepReply run bs) (check_step run bs)
step_replies run bs = record { holds = step_holds run bs; alone = step_alone run bs }

pub read_replies : (run : Run) (bs : List ℕ) → Only (ReadReply run bs) (check_reading run bs)
read_replies run bs = record { holds = read_holds run bs; alone = read_alone run bs }

-- a round that is accepted is well formed and safe
pub accepted_case : {run : Run} {bs : List ℕ} (r : Reply) → StepReply run bs r → r ≡ Accepted
    → Ready run × WellFormed run bs × paper.Safe (paper_setup run) (round_by_paper run bs)
accepted_case r (StepReply.not_good bad) e = absurd (refused_isn't (Rules 0) refl e)
accepted_case r (StepReply.is_full keeps full) e = absurd (refused_isn't Full refl e)
accepted_case r (StepReply.misfit ready other) e = absurd (refused_isn't Length refl e)
accepted_case r (StepReply.malformed p q ready whole first bad) e = absurd (refused_isn't (Malformed _) refl e)
accepted_case r (StepReply.query p q ready whole first m) e = absurd (refused_isn't (Query _) refl e)
accepted_case r (StepReply.altered p ready formed l high before) e = absurd (refused_isn't (Altered p) refl e)
accepted_case r (StepReply.unsafe p ready formed few_all own l low before) e = absurd (refused_isn't (Unsafe p) refl e)
accepted_case r (StepReply.accepted ready formed safe) e = (ready, formed, safe)
