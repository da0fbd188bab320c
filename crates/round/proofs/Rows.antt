-- The rows of a round: a loop over a row's records checks them in turn and fills the cells.
use mathlib.Core.Path.{◌≡◌, refl, sym, ◌∙◌}
use mathlib.Core.Bool.{Bool}
use mathlib.Core.List.{List}
use Prim.Native.Nat.{ℕ, ◌+◌, min, ◌<◌, ◌≤◌}
use native.Mathlib.Omega.{arith}
use Rattle.std.specs.Prelude.{Ok, Err}
use Rattle.run.specs.declared.reply.Refusal.{Refusal}
use Rattle.run.specs.Reply.{Reply, Accepted, unless_refused}
use Rattle.run.specs.Record.{record_at}
use Rattle.run.proofs.Asked.{stops}
use Rattle.run.specs.Run.{stations}
use Rattle.run.specs.Filled.{filled}
use Rattle.run.proofs.Filled.{filled_min}
use Rattle.round.specs.declared.Cell.{Cell}
use Rattle.round.specs.declared.Cell.TheVariants.{Lost}
use Rattle.round.specs.Cells.{check_cell}
use Rattle.round.specs.ByRow.{cell_read, read_row}
use Rattle.round.specs.Reading.{in_turn, cell_number, check_row}
use Rattle.round.proofs.Turns.{turn_returns}

-- an array that is full stays as it is
pub filled_over {ℓ} : {A : Type ℓ} (m k : ℕ) (f : ℕ → A) (d : A) → m ≤ k → filled m k f d ≡ filled m (k + 1) f d
filled_over m k f d h =
    let e : min k m ≡ min (k + 1) m = omega arith in
    sym (filled_min m k f d) ∙ rw e (filled_min m (k + 1) f d)

-- what a reply leaves of an answer that is given unless it refuses
pub given : {A : Type 0} (x : A) (r : Reply) (y : A) → Ok y ≡ unless_refused r x → (r ≡ Accepted) × (y ≡ x)
given x (Ok tt) y e = (refl, cc)
given x (Err r) y e = absurd cc

pub stopped : {A : Type 0} (x : A) (r : Reply) (s : Refusal) → Err s ≡ unless_refused r x → Err s ≡ r
stopped x (Ok tt) s e = absurd cc
stopped x (Err r) s e = cc

module _ (voting : Bool) (n p : ℕ) (row : List ℕ) where
  -- what is said of the record of sender q
  abbrev pub said : ℕ → Reply
  said q = check_cell voting (cell_number n p q) p q (record_at row q)

  -- a loop over the records returns the first refusal
  pub row_refused : (q : ℕ) {r : Refusal} → in_turn q said ≡ Accepted → Err r ≡ said q → q < n
      → Err r ≡ read_row voting n p row
  unfolding read_row
  row_refused q before e l = rw (← turn_returns said n q before e (stops e) l)

  -- and the cells if there is none
  pub row_read : (cells : List Cell) → in_turn n said ≡ Accepted → cells ≡ filled stations n (cell_read row) Lost
      → Ok cells ≡ read_row voting n p row
  unfolding read_row
  row_read cells all e = rw (all, e)

  -- what a part that is the row gives: its cells where the row's check accepts, and else what the check says
  pub row_cells : {cells : List Cell} (part : List ℕ) → Ok cells ≡ read_row voting n p part → part ≡ row
      → (check_row voting n p row ≡ Accepted) × (cells ≡ filled stations n (cell_read row) Lost)
  unfolding read_row
  row_cells part e same = given _ (check_row voting n p row) _ (rw same at e)

  pub row_stops : {r : Refusal} (part : List ℕ) → Err r ≡ read_row voting n p part → part ≡ row
      → Err r ≡ check_row voting n p row
  unfolding read_row
  row_stops part e same = stopped _ (check_row voting n p row) _ (rw same at e)

  -- so a row that is in order gives its cells
  pub row_good : check_row voting n p row ≡ Accepted
      → read_row voting n p row ≡ Ok (filled stations n (cell_read row) Lost)
  unfolding read_row
  row_good e = rw e
