-- No judge that answers in one of the four empty ways meets demand 2: case 9's first round has to be accepted and to
-- move the run, no bytes at all have to be refused, and the second round has to decide. The checker computes the checks
-- and the paper's rule on the case's bytes.
use mathlib.Core.Path.{◌≡◌, refl, ap, sym, ◌∙◌}
use mathlib.Core.Bool.{true, false≢true}
use mathlib.Core.List.{List, []}
use Prim.Native.Nat.{ℕ, ◌<◌}
use native.Mathlib.Omega.{arith}
use Rattle.paper.specs.Setup.{acceptable, tolerated}
use Rattle.paper.specs.Stations.{every, size}
use Rattle.paper.specs.Heard.{AHO}
use Rattle.paper.specs.Rules.{Station, undecided, decided, sends, kind_of, after}
use Rattle.run.specs.declared.Run.{Run}
use Rattle.run.specs.Reply.{Reply}
use Rattle.run.specs.Reply.{Accepted}
use Rattle.run.specs.Number.{number, digits}
use Rattle.run.specs.Record.{bytes_of, record_at, record_from}
use Rattle.run.specs.Reply.{is_accepted}
use Rattle.limits.specs.Setup.{setup_of}
use Rattle.round.specs.Reading.{round_length}
use Rattle.round.specs.Bridge.{heard_in, station, sent_next}
use Rattle.judge.specs.Step.{check_step}
use Rattle.consensus.specs.Judge.{Judge}
use Rattle.consensus.specs.Round.{round_by_paper, Ready}
use Rattle.consensus.specs.Demand2.{Demand2}
use Rattle.consensus.specs.EmptyJudges.{RefusesAll, SaysOne, Unmoved, FirstOnly, three, all_heard}
use Rattle.consensus.proofs.RoundReplies.{step_replies, accepted_case}

first_round : check_step (three 0 5 5 9) (all_heard 5 5 9) ≡ Accepted
unfolding check_step three all_heard acceptable tolerated every bytes_of digits record_at record_from size AHO heard_in
    sent_next sends kind_of number
first_round = refl

second_round : check_step (three 1 5 5 5) (all_heard 5 5 5) ≡ Accepted
unfolding check_step three all_heard acceptable tolerated every bytes_of digits record_at record_from size AHO heard_in
    sent_next sends kind_of number
second_round = refl

-- a run whose round the checks accept is ready, and any judge that meets the demand must accept the round
ready : (run : Run) (bs : List ℕ) → check_step run bs ≡ Accepted → Ready run
ready run bs e = (accepted_case _ (step_replies run bs).holds e).0

must_accept : (J : Judge) → Demand2 J → (run : Run) (bs : List ℕ) → check_step run bs ≡ Accepted
    → is_accepted (J.step run bs).reply ≡ true
must_accept J d run bs e =
    let (able, formed, safe) = accepted_case _ (step_replies run bs).holds e in
    (d.accepts run bs able).1 (formed, safe)

pub refuses_all_fails : (J : Judge) → Demand2 J → ¬ RefusesAll J
refuses_all_fails J d refuses =
    false≢true
    (sym (refuses (three 0 5 5 9) (all_heard 5 5 9)) ∙ must_accept J d (three 0 5 5 9) (all_heard 5 5 9) first_round)

-- one reply for all would accept no bytes at all too, which have not a round's length
pub says_one_fails : (J : Judge) → Demand2 J → (r : Reply) → ¬ SaysOne J r
unfolding three
says_one_fails J d r says =
    let run = three 0 5 5 9 in
    let able = ready run (all_heard 5 5 9) first_round in
    let taken = must_accept J d run (all_heard 5 5 9) first_round in
    let yes_to_all : is_accepted (J.step run []).reply ≡ true
    = ap is_accepted (says run [] ∙ sym (says run (all_heard 5 5 9))) ∙ taken in
    let long : ◌≡◌ {A = ℕ} 0 (round_length 3) = ((d.accepts run [] able).0 yes_to_all).0.long in
    omega arith

pub unmoved_fails : (J : Judge) → Demand2 J → ¬ Unmoved J
unfolding three
unmoved_fails J d same =
    let run = three 0 5 5 9 in
    let taken = must_accept J d run (all_heard 5 5 9) first_round in
    let next = (d.follows run (all_heard 5 5 9) taken).clock in
    let still : (J.step run (all_heard 5 5 9)).run.clock ≡ 0
    = ap (λ (r : Run). r.clock) (same run (all_heard 5 5 9)) in
    omega (arith, next, still)

-- what the second round makes of station 0
second_decides : ((round_by_paper (three 1 5 5 5) (all_heard 5 5 5)).after 0).decision ≡ decided 5 2
unfolding round_by_paper after three all_heard bytes_of digits record_at record_from size heard_in kind_of
    number station setup_of
second_decides = refl

-- and what stands before it
not_yet : (station (three 1 5 5 5) 0).decision ≡ undecided
unfolding three station
not_yet = refl

pub first_only_fails : (J : Judge) → Demand2 J → ¬ FirstOnly J
unfolding three
first_only_fails J d still =
    let run = three 1 5 5 5 in
    let bs = all_heard 5 5 5 in
    let taken = must_accept J d run bs second_round in
    let told : undecided ≡ decided 5 2
    = sym not_yet
    ∙ ap (λ (s : Station). s.decision) (sym (still run bs later 0) ∙ (d.follows run bs taken).each_station 0 below)
    ∙ second_decides in
    let z : ◌≡◌ {A = ℕ} 0 1 = cc in omega arith
  where
    below : 0 < 3
    below = omega arith

    later : 0 < 1
    later = omega arith
