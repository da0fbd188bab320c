-- A cell and its record spell each other: by cases on the cell, and on the record's kind.
use mathlib.Core.Path.{◌≡◌, refl, ap, sym, ◌∙◌}
use mathlib.Core.Logic.{◌↔◌}
use mathlib.Core.Bool.{Bool, true, false, not, ◌&&◌, ◌||◌, false≢true}
use Prim.Native.Nat.{ℕ, ◌^◌, ◌<◌}
use native.Mathlib.Omega.{arith}
use borrow.Author.Tests.{eq-eqb, ne_eqb, eqb-true}
use lib.Dec.{eqb}
use Rattle.paper.proofs.Counting.{both}
use Rattle.run.specs.Reply.{Accepted, Malformed, Query}
use Rattle.run.specs.declared.record.Record.{Record}
use Rattle.run.specs.Record.{Fits}
use Rattle.run.proofs.Replies.{then_accepted, accepted_then, or_refuse_accepted, accepted_or_refuse}
use Rattle.round.specs.declared.Cell.{Cell}
use Rattle.round.specs.declared.Cell.TheVariants as cell
use Rattle.round.specs.Cells.{cell_record, cell_fits, cell_in, check_cell}

-- ---- the record of a cell
pub cell_record_in : (p q : ℕ) (c : Cell) → cell_in (cell_record p q c) ≡ c
unfolding cell_record cell_in
cell_record_in p q cell.Lost = refl
cell_record_in p q (cell.Value v) = refl
cell_record_in p q cell.Query = refl

pub cell_record_fits : (p q : ℕ) (c : Cell) → cell_fits p q (cell_record p q c) ≡ true
unfolding cell_record cell_fits
cell_record_fits p q cell.Lost = rw (eq-eqb p p refl, eq-eqb q q refl)
cell_record_fits p q (cell.Value v) = rw (eq-eqb p p refl, eq-eqb q q refl)
cell_record_fits p q cell.Query = rw (eq-eqb p p refl, eq-eqb q q refl)

pub query_record : (p q : ℕ) (c : Cell) → (cell_record p q c).kind ≡ 5 → c ≡ cell.Query
unfolding cell_record
query_record p q cell.Lost e = absurd (omega arith)
query_record p q (cell.Value v) e = absurd (omega arith)
query_record p q cell.Query e = refl

-- its bytes hold it
pub cell_record_bytes : (p q : ℕ) (c : Cell) → p < 256 → q < 256 → ((v : ℕ) → c ≡ cell.Value v → v < 2 ^ 32)
    → Fits (cell_record p q c)
unfolding cell_record
cell_record_bytes p q cell.Lost lp lq h = omega arith
cell_record_bytes p q (cell.Value v) lp lq h = let l : v < 2 ^ 32 = h v refl in omega arith
cell_record_bytes p q cell.Query lp lq h = omega arith

-- ---- the cell of a record
made_of : (r : Record) (kind p q number : ℕ) → r.kind ≡ kind → r.first ≡ p → r.second ≡ q → r.third ≡ 0
    → r.number ≡ number
    → ◌≡◌ {A = Record} (record { kind = kind; first = p; second = q; third = 0; number = number }) r
made_of r kind p q number a b c d e = rw (← a, ← b, ← c, ← d, ← e)

pub cell_in_record : (p q : ℕ) (r : Record) → cell_fits p q r ≡ true → cell_record p q (cell_in r) ≡ r
unfolding cell_in cell_record cell_fits
cell_in_record p q r h =
    let (kpq, third) = both _ _ h in
    let (kp, second) = both _ _ kpq in
    let (kind, first) = both _ _ kp in
    go (eqb r.kind 4) (eqb r.kind 5) refl refl kind
    (λ k v a b. made_of r k p q v a (eqb-true _ _ first) (eqb-true _ _ second) (eqb-true _ _ third) b)
  where
    go : (s t : Bool) → eqb r.kind 4 ≡ s → eqb r.kind 5 ≡ t
        → (eqb r.kind 4 || (eqb r.kind 5 || eqb r.kind 6) && eqb r.number 0) ≡ true
        → ((k v : ℕ) → r.kind ≡ k → r.number ≡ v
        → ◌≡◌ {A = Record} (record { kind = k; first = p; second = q; third = 0; number = v }) r)
        → cell_record p q (cell_in r) ≡ r
    go true t e f k made = rw e (made 4 r.number (eqb-true _ _ e) refl)
    go false true e f k made = rw (e, f) (made 5 0 (eqb-true _ _ f) (eqb-true _ _ (rw (e, f) at k)))
    go false false e f k made =
        let (six, zero) = both _ _ (rw (e, f) at k) in
        rw (e, f) (made 6 0 (eqb-true _ _ six) (eqb-true _ _ zero))

-- so a record fits exactly if it spells a cell
pub cell_fits_iff : (p q : ℕ) (r : Record) → (cell_fits p q r ≡ true) ↔ ((c : Cell) × (cell_record p q c ≡ r))
cell_fits_iff p q r = (λ h. (cell_in r, cell_in_record p q r h), λ s. (rw s.1 at (cell_record_fits p q s.0)))

-- ---- what is said of a record: that it doesn't fit, or is a "?" outside a vote round
may_be_heard : (voting : Bool) (k : ℕ) → ((voting || not (eqb k 5)) ≡ true) ↔ (k ≡ 5 → voting ≡ true)
may_be_heard true k = (λ e h. refl, λ h. refl)
may_be_heard false k = (
  λ e h. absurd (false≢true (sym (ap not (eq-eqb k 5 h)) ∙ e)),
  λ h. ap not (ne_eqb k 5 (λ e. false≢true (h e))),
)

pub check_cell_accepted : (voting : Bool) (at p q : ℕ) (r : Record)
    → (check_cell voting at p q r ≡ Accepted) ↔ ((cell_fits p q r ≡ true) × (r.kind ≡ 5 → voting ≡ true))
unfolding check_cell
check_cell_accepted voting at p q r = (
  λ e.
      let (fits, may) = then_accepted _ _ e in (
        or_refuse_accepted _ (Malformed at) refl fits,
        (may_be_heard voting r.kind).0 (or_refuse_accepted _ (Query at) refl may),
      ),
  λ h. accepted_then _ _ (accepted_or_refuse _ (Malformed at) h.0)
      (accepted_or_refuse _ (Query at) ((may_be_heard voting r.kind).1 h.1)),
)
