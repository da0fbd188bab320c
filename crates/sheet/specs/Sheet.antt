-- The bench sheet as one table over bytes: cases 1 to 15, some on the edge of a threshold, and rounds with several
-- things wrong. Each opening and each round is spelled in bytes; `read_opening` and `step_of`, which the promises of
-- `Run::open` and `step` cite, say what is answered to them, and the test compares that with the table. proofs/Sheet.antt
-- has the checker do so.
use Rattle.std.specs.Prelude.{
  ℕ,
  suc,
  Bool,
  true,
  false,
  ◌&&◌,
  List,
  [],
  ◌∷◌,
  ◌++◌,
  map,
  eqb,
  length,
  get_or,
  set,
  replicate,
}
use Rattle.std.specs.Prelude.{Option, None, Some}
use Rattle.paper.specs.Stations.{one}
use Rattle.run.specs.Reply.{Reply}
use Rattle.limits.specs.declared.Setup.{Setup}
use Rattle.run.specs.declared.Run.{Run}
use Rattle.run.specs.Opening.{opening, read_opening}
use Rattle.run.specs.Reply.{number_of, place_of}
use Rattle.run.specs.Run.{run_of, at_start, idle}
use Rattle.run.specs.Written.{written}
use Rattle.round.specs.declared.Cell.{Cell}
use Rattle.round.specs.declared.Cell.TheVariants.{Lost, Value, Query}
use Rattle.round.specs.Cells.{cell_record}
use Rattle.hearing.specs.Tally.{is_there, value_or_0}
use Rattle.judge.specs.declared.Stepped.{Stepped}
use Rattle.judge.specs.Step.{step_of}

-- a row of cells for each receiver
abbrev pub Rows : Type 0
Rows = List (List Cell)

-- a number, or none: "?" among votes, "-" among firings and decisions
abbrev pub Mark : Type 0
Mark = Option ℕ

-- a round, and the answer expected: taken, with the estimates, votes and firings of the stations; or refused, with
-- number and place
pub data Expected : Type 0 where
  taken_as : Rows → List ℕ → List Mark → List Mark → Expected
  refused_with : Rows → ℕ → ℕ → Expected

-- bytes written out, and the bytes that they ought to be; a setup, and the number of the reply to an opening with it;
-- a run in memory, the bytes of a round, and the number and place of the reply to them; or a run: setup, default,
-- starts, the rounds in a row, and what the stations have decided at the end, the values and then their rounds
pub data Case : Type 0 where
  spells : List ℕ → List ℕ → Case
  setup_gets : Setup → ℕ → Case
  round_gets : Run → List ℕ → ℕ → ℕ → Case
  runs : Setup → ℕ → List ℕ → List Expected → List Mark → List ℕ → Case

-- the bytes of the rows, the first of which is that of receiver p
unfoldable pub bytes_from : ℕ → Rows → List ℕ
unfolding written cell_record
bytes_from p [] = []
bytes_from p (row ∷ rows) = written (length row) (λ q. cell_record p q (get_or row q Lost)) ++ bytes_from (suc p) rows

abbrev pub bytes : Rows → List ℕ
bytes = bytes_from 0

-- the reply has this number and this place
abbrev pub is_reply : Reply → ℕ → ℕ → Bool
is_reply reply number place = eqb (number_of reply) number && eqb (place_of reply) place

-- an array lists these numbers, and zeros after them
unfoldable pub lists : List ℕ → List ℕ → Bool
lists [] [] = true
lists [] (y ∷ ys) = false
lists (x ∷ xs) [] = eqb x 0 && lists xs []
lists (x ∷ xs) (y ∷ ys) = eqb x y && lists xs ys

-- two arrays, flags and numbers, have these marks
unfoldable pub marked : List Bool → List ℕ → List Mark → Bool
unfolding lists one
marked flags numbers ms = lists (map one flags) (map (λ m. one (is_there m)) ms) && lists numbers (map value_or_0 ms)

-- the answer to a round is as expected
unfoldable pub answers : Expected → Stepped → Bool
unfolding marked
answers (taken_as rows estimates votes firings) s =
    is_reply s.reply 0 0 && lists s.run.estimates estimates && marked s.run.voted s.run.votes votes
    && marked (map is_there s.fired) (map value_or_0 s.fired) firings
answers (refused_with rows number place) s = is_reply s.reply number place

abbrev rows_of : Expected → Rows
rows_of (taken_as rows estimates votes firings) = rows
rows_of (refused_with rows number place) = rows

-- and so is each answer of a run to rounds in a row, and what it has decided at the end
unfoldable pub answers_all : Run → List Expected → List Mark → List ℕ → Bool
unfolding answers bytes_from step_of
answers_all run [] decisions rounds = marked run.decided run.decisions decisions && lists run.rounds rounds
answers_all run (x ∷ rest) decisions rounds =
    let s = step_of run (bytes (rows_of x)) in answers x s && answers_all s.run rest decisions rounds

-- what is answered agrees with the case
unfoldable pub agrees : Case → Bool
unfolding opening read_opening answers_all
agrees (spells bs cs) = eqb (length bs) (length cs) && lists bs cs
agrees (setup_gets setup number) = is_reply (read_opening (opening setup 0 [])).reply number 0
agrees (round_gets run bs number place) = is_reply (step_of run bs).reply number place
agrees (runs setup default starts expected decisions rounds) =
    let o = read_opening (opening setup default starts) in
    is_reply o.reply 0 0 && answers_all o.run expected decisions rounds

unfoldable pub test : List Case → Bool
unfolding agrees
test [] = true
test (c ∷ cs) = agrees c && test cs

-- how cases are written down: a setup as algorithm(n, T, E, alpha)
abbrev pub A : ℕ → ℕ → ℕ → ℕ → Setup
A n T E alpha = record { algorithm = 1; n = n; t = T; e = E; alpha = alpha }

abbrev pub U : ℕ → ℕ → ℕ → ℕ → Setup
U n T E alpha = record { algorithm = 2; n = n; t = T; e = E; alpha = alpha }

abbrev pub all : {X : Type 0} → ℕ → X → List X
all = replicate

-- all receivers hear this
abbrev pub all_hear : List Cell → Rows
all_hear row = replicate (length row) row

abbrev pub cells_of : List ℕ → List Cell
cells_of = map Value

-- but receiver p has this cell of sender q
abbrev pub but : ℕ → ℕ → Cell → Rows → Rows
but p q c rows = set rows p (set (get_or rows p []) q c)

-- byte by byte: the opening of case 9; one whose five numbers and default all differ; a round of two, in which station 0
-- hears 5 and 258, and station 1 hears "?" and loses the other
abbrev spellings : List Case
spellings =
    spells
    (1 ∷ 1 ∷ 3 ∷ 2 ∷ 2 ∷ 0 ∷ 0 ∷ 0
    ∷ 2 ∷ 0 ∷ 0 ∷ 0 ∷ 0 ∷ 0 ∷ 0 ∷ 0
    ∷ 3 ∷ 0 ∷ 0 ∷ 0 ∷ 5 ∷ 0 ∷ 0 ∷ 0
    ∷ 3 ∷ 1 ∷ 0 ∷ 0 ∷ 5 ∷ 0 ∷ 0 ∷ 0
    ∷ 3 ∷ 2 ∷ 0 ∷ 0 ∷ 9 ∷ 0 ∷ 0 ∷ 0
    ∷ [])
    (opening (A 3 2 2 0) 0 (5 ∷ 5 ∷ 9 ∷ []))
    ∷ spells
    (1 ∷ 2 ∷ 6 ∷ 4 ∷ 5 ∷ 1 ∷ 0 ∷ 0
    ∷ 2 ∷ 0 ∷ 0 ∷ 0 ∷ 7 ∷ 0 ∷ 0 ∷ 0
    ∷ 3 ∷ 0 ∷ 0 ∷ 0 ∷ 8 ∷ 0 ∷ 0 ∷ 0
    ∷ 3 ∷ 1 ∷ 0 ∷ 0 ∷ 8 ∷ 0 ∷ 0 ∷ 0
    ∷ 3 ∷ 2 ∷ 0 ∷ 0 ∷ 8 ∷ 0 ∷ 0 ∷ 0
    ∷ 3 ∷ 3 ∷ 0 ∷ 0 ∷ 8 ∷ 0 ∷ 0 ∷ 0
    ∷ 3 ∷ 4 ∷ 0 ∷ 0 ∷ 8 ∷ 0 ∷ 0 ∷ 0
    ∷ 3 ∷ 5 ∷ 0 ∷ 0 ∷ 9 ∷ 0 ∷ 0 ∷ 0
    ∷ [])
    (opening (U 6 4 5 1) 7 (all 5 8 ++ 9 ∷ []))
    ∷ spells
    (4 ∷ 0 ∷ 0 ∷ 0 ∷ 5 ∷ 0 ∷ 0 ∷ 0
    ∷ 4 ∷ 0 ∷ 1 ∷ 0 ∷ 2 ∷ 1 ∷ 0 ∷ 0
    ∷ 5 ∷ 1 ∷ 0 ∷ 0 ∷ 0 ∷ 0 ∷ 0 ∷ 0
    ∷ 6 ∷ 1 ∷ 1 ∷ 0 ∷ 0 ∷ 0 ∷ 0 ∷ 0
    ∷ [])
    (bytes ((Value 5 ∷ Value 258 ∷ []) ∷ (Query ∷ Lost ∷ []) ∷ []))
    ∷ []

-- 1 to 8, with A(1,0,0,0); then setups on either side of one inequality
abbrev setups : List Case
setups =
    setup_gets (A 3 2 2 0) 0
    ∷ setup_gets (A 3 1 2 0) 4
    ∷ setup_gets (A 7 6 6 1) 0
    ∷ setup_gets (A 7 6 5 1) 4
    ∷ setup_gets (A 5 4 4 1) 4
    ∷ setup_gets (U 2 1 1 0) 0
    ∷ setup_gets (U 6 4 4 1) 0
    ∷ setup_gets (U 5 4 3 1) 4
    ∷ setup_gets (A 1 0 0 0) 4
    ∷ setup_gets (A 3 2 3 0) 4
    ∷ setup_gets (A 3 3 2 0) 4
    ∷ setup_gets (U 2 1 2 0) 4
    ∷ setup_gets (U 2 2 1 0) 4
    ∷ setup_gets (U 6 3 4 1) 4
    ∷ setup_gets (U 5 3 4 1) 4
    ∷ setup_gets (U 10 7 7 2) 0
    ∷ setup_gets (A 11 10 10 2) 0
    ∷ setup_gets (A 8 5 7 1) 4
    ∷ setup_gets (A 8 6 7 1) 0
    ∷ []

-- 9: one round without losses brings the third station to 5, and the second decides; a third one fires again, and the
-- decision keeps its round
abbrev case_9 : Case
case_9 =
    runs (A 3 2 2 0) 0 (5 ∷ 5 ∷ 9 ∷ [])
    (taken_as (all_hear (cells_of (5 ∷ 5 ∷ 9 ∷ []))) (5 ∷ 5 ∷ 5 ∷ []) (all 3 None) (all 3 None)
    ∷ taken_as (all_hear (cells_of (5 ∷ 5 ∷ 5 ∷ []))) (5 ∷ 5 ∷ 5 ∷ []) (all 3 None) (all 3 (Some 5))
    ∷ taken_as (all_hear (cells_of (5 ∷ 5 ∷ 5 ∷ []))) (5 ∷ 5 ∷ 5 ∷ []) (all 3 None) (all 3 (Some 5))
    ∷ [])
    (all 3 (Some 5)) (all 3 2)

-- 10: each value came once, so the smallest is taken, whether it was heard first or not
abbrev case_10 : ℕ → ℕ → ℕ → Case
case_10 x y z =
    runs (A 3 2 2 0) 0 (x ∷ y ∷ z ∷ [])
    (taken_as (all_hear (cells_of (x ∷ y ∷ z ∷ []))) (5 ∷ 5 ∷ 5 ∷ []) (all 3 None) (all 3 None) ∷ [])
    (all 3 None) (all 3 0)

-- 11: two frames are not more than T, and station 2 stays where it was
abbrev case_11 : Case
case_11 =
    runs (A 3 2 2 0) 0 (5 ∷ 5 ∷ 9 ∷ [])
    (taken_as (but 2 2 Lost (all_hear (cells_of (5 ∷ 5 ∷ 9 ∷ [])))) (5 ∷ 5 ∷ 9 ∷ []) (all 3 None) (all 3 None) ∷ [])
    (all 3 None) (all 3 0)

-- 12: 8 is heard for 4, everywhere, then at station 0 alone, from two senders: more than alpha. From one sender it is
-- taken: six of 4 are the commonest but not more than E, so station 0 does not decide, and the others do
abbrev case_12 : Case
case_12 =
    runs (A 7 6 6 1) 0 (all 7 4)
    (refused_with (all_hear (all 7 (Value 8))) 6 0
    ∷ refused_with (but 0 5 (Value 8) (but 0 6 (Value 8) (all_hear (all 7 (Value 4))))) 6 0
    ∷ taken_as (but 0 6 (Value 8) (all_hear (all 7 (Value 4)))) (all 7 4) (all 7 None) (None ∷ all 6 (Some 4))
    ∷ [])
    (None ∷ all 6 (Some 4)) (0 ∷ all 6 1)

-- 13: one altered value leaves station 2 with five of 3, more than T: it votes as the others do, and the votes decide
abbrev case_13 : Case
case_13 =
    runs (U 6 4 4 1) 0 (all 6 3)
    (taken_as (but 2 5 (Value 7) (all_hear (all 6 (Value 3)))) (all 6 3) (all 6 (Some 3)) (all 6 None)
    ∷ taken_as (all_hear (all 6 (Value 3))) (all 6 3) (all 6 None) (all 6 (Some 3))
    ∷ [])
    (all 6 (Some 3)) (all 6 2)

-- 14: no start has more than T, so nobody votes, the default is taken, and two rounds later it is decided. With 0 and
-- with another default; from starts with just T of one value; and where station 0 hears one vote of 7, which is alpha
-- votes
abbrev case_14 : ℕ → List ℕ → Cell → Case
case_14 default starts c =
    runs (U 6 4 4 1) default starts
    (taken_as (all_hear (cells_of starts)) starts (all 6 None) (all 6 None)
    ∷ taken_as (but 0 5 c (all_hear (all 6 Query))) (all 6 default) (all 6 None) (all 6 None)
    ∷ taken_as (all_hear (all 6 (Value default))) (all 6 default) (all 6 (Some default)) (all 6 None)
    ∷ taken_as (all_hear (all 6 (Value default))) (all 6 default) (all 6 None) (all 6 (Some default))
    ∷ [])
    (all 6 (Some default)) (all 6 4)

-- 15: station 3 hears two altered frames, and station 0 too few: 6 is asked of all stations before 7 is asked of any.
-- Without the altered frames it is 7
abbrev row_0_loses : Rows → Rows
row_0_loses rows = but 0 1 Lost (but 0 2 Lost rows)

abbrev case_15 : Case
case_15 =
    runs (U 6 4 4 1) 0 (all 6 3)
    (refused_with (row_0_loses (but 3 4 (Value 7) (but 3 5 (Value 7) (all_hear (all 6 (Value 3)))))) 6 3
    ∷ refused_with (row_0_loses (all_hear (all 6 (Value 3)))) 7 0
    ∷ [])
    (all 6 None) (all 6 0)

-- station 0 loses its own frame and hears 4 four times, which is more than E and not more than T: it keeps 9 and
-- decides 4
abbrev decides_unheld : Case
decides_unheld =
    runs (A 5 4 3 0) 0 (9 ∷ all 4 4)
    (taken_as (but 0 0 Lost (all_hear (cells_of (9 ∷ all 4 4)))) (9 ∷ all 4 4) (all 5 None) (all 5 (Some 4)) ∷ [])
    (all 5 (Some 4)) (all 5 1)

-- station 0 hears 4 for the 9 of station 6, which loses all: station 0 decides 4, and six stations hold it, no more
-- than E
abbrev few_hold : Case
few_hold =
    runs (A 7 6 6 1) 0 (all 6 4 ++ 9 ∷ [])
    (taken_as (but 0 6 (Value 4) (set (all_hear (cells_of (all 6 4 ++ 9 ∷ []))) 6 (all 7 Lost))) (all 6 4 ++ 9 ∷ [])
    (all 7 None) (Some 4 ∷ all 6 None)
    ∷ [])
    (Some 4 ∷ all 6 None) (1 ∷ all 6 0)

-- the most frequent value is taken, though a smaller one was heard
abbrev most_frequent : Case
most_frequent =
    runs (A 3 2 2 0) 0 (9 ∷ 9 ∷ 5 ∷ [])
    (taken_as (all_hear (cells_of (9 ∷ 9 ∷ 5 ∷ []))) (all 3 9) (all 3 None) (all 3 None) ∷ []) (all 3 None) (all 3 0)

-- five start with 3, and those who lose one of these do not vote. Two votes are alpha + 1: all take 3. Four are not
-- more than E, and five are: then all decide in round 2; but not where E is 5
abbrev some_vote : Setup → Rows → ℕ → ℕ → List Mark → List ℕ → Case
some_vote setup first cast queries firings rounds =
    runs setup 0 (3 ∷ 3 ∷ 3 ∷ 3 ∷ 3 ∷ 1 ∷ [])
    (taken_as first (3 ∷ 3 ∷ 3 ∷ 3 ∷ 3 ∷ 1 ∷ []) (all cast (Some 3) ++ all queries None) (all 6 None)
    ∷ taken_as (all_hear (all cast (Value 3) ++ all queries Query)) (all 6 3) (all 6 None) firings
    ∷ [])
    firings rounds

abbrev five_3 : Rows
five_3 = all_hear (cells_of (3 ∷ 3 ∷ 3 ∷ 3 ∷ 3 ∷ 1 ∷ []))

abbrev one_loses : Rows
one_loses = but 5 0 Lost five_3

abbrev two_lose : Rows
two_lose = but 4 0 Lost one_loses

abbrev four_lose : Rows
four_lose = but 2 0 Lost (but 3 0 Lost two_lose)

-- station 2 hears too few, and those before it enough
abbrev unsafe_at_2 : Case
unsafe_at_2 =
    runs (U 6 4 4 1) 0 (all 6 3) (refused_with (but 2 1 Lost (but 2 4 Lost (all_hear (all 6 (Value 3))))) 7 2 ∷ [])
    (all 6 None) (all 6 0)

-- A(3,2,2,0) after so many rounds, all at 5, and the round in which all hear that
abbrev standing : ℕ → Run
standing clock = run_of (A 3 2 2 0) 0 clock (λ i. at_start 5)

abbrev nine : List ℕ
nine = bytes (all_hear (cells_of (5 ∷ 5 ∷ 5 ∷ [])))

-- replies to a round, where several things are wrong or the place is not in row 0. A "?" with a number beside it is a 2
-- and not a 5; byte 3 of record 7 is not zero; a "?" in record 5; a full run is told before any length; a run that is
-- not good before all else, be it the idle one or one past the last round
abbrev rounds_get : List Case
rounds_get =
    round_gets (standing 0) nine 0 0
    ∷ round_gets (standing 0) (set (set nine 8 5) 12 1) 2 1
    ∷ round_gets (standing 0) (set (set nine 8 5) 12 0) 5 1
    ∷ round_gets (standing 0) (set nine 59 1) 2 7
    ∷ round_gets (standing 0) (bytes (but 1 2 Query (all_hear (cells_of (5 ∷ 5 ∷ 5 ∷ []))))) 5 5
    ∷ round_gets (standing 0) (set (bytes (but 1 2 Query (all_hear (cells_of (5 ∷ 5 ∷ 5 ∷ []))))) 59 1) 5 5
    ∷ round_gets (standing 0) (set (bytes (but 2 2 Query (all_hear (cells_of (5 ∷ 5 ∷ 5 ∷ []))))) 59 1) 2 7
    ∷ round_gets (standing 0) (nine ++ 0 ∷ []) 1 0
    ∷ round_gets (standing 4095) nine 0 0
    ∷ round_gets (standing 4096) nine 8 0
    ∷ round_gets (standing 4096) (nine ++ 0 ∷ []) 8 0
    ∷ round_gets (standing 4096) [] 8 0
    ∷ round_gets (standing 4097) nine 10 0
    ∷ round_gets (standing 4097) [] 10 0
    ∷ round_gets idle nine 10 0
    ∷ round_gets idle [] 10 0
    ∷ []

unfoldable pub sheet : List Case
sheet =
    spellings
    ++ setups
    ++ rounds_get
    ++ (case_9
    ∷ case_10 5 9 7
    ∷ case_10 9 5 7
    ∷ case_11
    ∷ case_12
    ∷ case_13
    ∷ case_14 0 (1 ∷ 1 ∷ 1 ∷ 2 ∷ 2 ∷ 2 ∷ []) Query
    ∷ case_14 8 (1 ∷ 1 ∷ 1 ∷ 2 ∷ 2 ∷ 2 ∷ []) Query
    ∷ case_14 0 (1 ∷ 1 ∷ 1 ∷ 1 ∷ 2 ∷ 2 ∷ []) Query
    ∷ case_14 0 (1 ∷ 1 ∷ 1 ∷ 2 ∷ 2 ∷ 2 ∷ []) (Value 7)
    ∷ case_15
    ∷ unsafe_at_2
    ∷ decides_unheld
    ∷ few_hold
    ∷ most_frequent
    ∷ some_vote (U 6 4 4 1) four_lose 2 4 (all 6 None) (all 6 0)
    ∷ some_vote (U 6 4 4 1) two_lose 4 2 (all 6 None) (all 6 0)
    ∷ some_vote (U 6 4 4 1) one_loses 5 1 (all 6 (Some 3)) (all 6 2)
    ∷ some_vote (U 6 4 5 1) one_loses 5 1 (all 6 None) (all 6 0)
    ∷ [])
