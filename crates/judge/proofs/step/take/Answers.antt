-- `judge::step::take` meets its contract: its sets are those of the round, so that 6 and 7 are the checks that the step
-- has left, and a round that passes them moves the run as the paper says.
use Prim.Native.Nat.{ℕ}
use mathlib.Core.Path.{◌≡◌, ap, ap₂, sym, ◌∙◌}
use mathlib.Core.Bool.{Bool}
use mathlib.Core.List.{List}
use Rattle.run.specs.Reply.{Accepted}
use Rattle.run.specs.declared.Run.{Run}
use Rattle.run.specs.Keeps.{Keeps}
use Rattle.run.proofs.Asked.{stops, handed}
use Rattle.round.specs.Reading.{votes_next, check_cells}
use Rattle.hearing.specs.Survey.{ho_sets, sho_sets}
use Rattle.judge.specs.declared.Counted.{Counted}
use Rattle.judge.specs.Rows.{all_counted}
use Rattle.judge.specs.Taking.{check_room, advanced}
use Rattle.judge.proofs.Countings.{counted_stops, counted_given, counted_ho, counted_sho}
use Rattle.judge.proofs.Checks.{room_keeps, room_refused, cells_refused, sets_refused, sets_accepted}
use Rattle.judge.proofs.Advances.{advanced_is}
use Rattle.judge.proofs.step.take.Goals as goal
use Rattle.judge.proofs.step.take.Goals.{In_ok-check_room, In_ok-counted}

pub returns-in_err-check_room-clause-err : goal.returns-in_err-check_room-clause-err
returns-in_err-check_room-clause-err c =
    let no = c.in_err-check_room.ensures in
    rw (handed c.from_residual.ensures) (room_refused _ _ no (stops no))

there : (c : In_ok-check_room) → check_room c.args.run.now c.args.round.now ≡ Accepted
there c = sym c.in_ok-check_room.ensures

pub invariant_of-ready : goal.invariant_of-ready
invariant_of-ready c =
    let (kept, room) = room_keeps _ _ (there (goal.at.invariant_of-ready c).In_ok-check_room) in
    record { few = kept.setup.n_to; below = room }

pub returns-in_err-counted-clause-err : goal.returns-in_err-counted-clause-err
returns-in_err-counted-clause-err c =
    let no = counted_stops _ _ _ (rw c.may_vote-voting.ensures at c.in_err-counted.ensures) in
    rw (handed c.from_residual-in_err-counted.ensures)
    (cells_refused _ _ (there (goal.at.returns-in_err-counted-clause-err c).In_ok-check_room) no (stops no))

-- what the rows tell of a run that has room for the round
record Rows (run : Run) (bs : List ℕ) (counted : Counted) : Type 0 where
  there : check_room run bs ≡ Accepted
  good : check_cells (votes_next run) run.setup.n bs ≡ Accepted
  told : counted ≡ all_counted (votes_next run) run bs

module _ {run : Run} {bs : List ℕ} {counted : Counted} (rows : Rows run bs counted) where
  keeps : Keeps run
  keeps = (room_keeps run bs rows.there).0

  heard : counted.ho ≡ ho_sets run.setup.n bs
  heard = ap (λ (r : Counted). r.ho) rows.told ∙ counted_ho run bs keeps.setup.n_to

  safely : counted.sho ≡ sho_sets run run.setup.n bs
  safely = ap (λ (r : Counted). r.sho) rows.told ∙ counted_sho run bs keeps.setup.n_to

rows_of : (c : In_ok-counted) → Rows c.args.run.now c.args.round.now c.in_ok-counted.counted
rows_of c =
    let given = counted_given _ _ _ (rw c.may_vote-voting.ensures at c.in_ok-counted.ensures) in
    record { there = sym c.in_ok-check_room.ensures; good = given.0; told = given.1 }

pub returns-in_err-ask_sets-clause-err : goal.returns-in_err-ask_sets-clause-err
returns-in_err-ask_sets-clause-err c =
    let rows = rows_of (goal.at.returns-in_err-ask_sets-clause-err c).In_ok-counted in
    let no = c.in_err-ask_sets.ensures in
    rw (handed c.from_residual-in_err-ask_sets.ensures)
    (sets_refused _ _ rows.there rows.good _ _ (heard rows) (safely rows) no (stops no))

pub returns-clause-ok : goal.returns-clause-ok
returns-clause-ok c =
    let rows = rows_of (goal.at.returns-clause-ok c).In_ok-counted in
    ap₂ (λ (voting : Bool) (r : Counted). advanced c.args.run.now voting r) c.may_vote-voting.ensures rows.told
    ∙ advanced_is _ _ (keeps rows)
    ∙ sets_accepted _ _ rows.there rows.good _ _ (heard rows) (safely rows) (sym c.in_ok-ask_sets.ensures)
