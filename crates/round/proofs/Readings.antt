-- A round read: the checks in their order, and what each outcome gives.
use mathlib.Core.Path.{◌≡◌, refl, sym, ◌∙◌}
use mathlib.Core.Logic.{◌↔◌}
use mathlib.Core.Bool.{Bool, true, false}
use mathlib.Core.List.{List}
use Prim.Native.Nat.{ℕ, ◌<◌, ◌≤◌}
use borrow.Author.Tests.{eq-eqb, eqb-true}
use lib.Dec.{eqb}
use lib.ListN.{length}
use Rattle.run.specs.Reply.{Reply}
use Rattle.run.specs.Reply.{Accepted, Length, Rules}
use Rattle.run.specs.declared.Run.{Run}
use Rattle.run.specs.Record.{record_at}
use Rattle.run.specs.Reply.{is_accepted, ◌then◌, or_refuse}
use Rattle.run.specs.Run.{stations, sound}
use Rattle.run.proofs.Replies.{then_accepted, or_refuse_accepted}
use Rattle.run.proofs.Sound.{sound_iff}
use Rattle.round.specs.declared.Matrix.{Matrix}
use Rattle.round.specs.declared.Reading.{Reading}
use Rattle.round.specs.Cells.{cell_fits}
use Rattle.round.specs.Reading.{votes_next, cell_number, check_row, check_cells, round_length, check_reading}
use Rattle.round.specs.Reading.{cells, matrix_of, all_lost, read_round}
use Rattle.round.proofs.Spelling.{check_cell_accepted}
use Rattle.round.proofs.Turns.{turn_accepted}
use Rattle.round.proofs.Matrices.{record_in_row}

-- a sound run has no more stations than an array has places
pub few_stations : (run : Run) → sound run ≡ true → run.setup.n ≤ stations
few_stations run e = ((sound_iff run).0 e).setup.n_to

-- every row is accepted exactly if every record is
abbrev pub AllSpell : Bool → ℕ → List ℕ → Type 0
AllSpell voting n bs =
    (p q : ℕ) → p < n → q < n → (cell_fits p q (record_at bs (cell_number n p q)) ≡ true)
    × ((record_at bs (cell_number n p q)).kind ≡ 5 → voting ≡ true)

pub cells_accepted : (voting : Bool) (n : ℕ) (bs : List ℕ) → (check_cells voting n bs ≡ Accepted) ↔ AllSpell voting n bs
unfolding check_cells check_row
cells_accepted voting n bs = (
  λ e p q lp lq.
      (check_cell_accepted voting (cell_number n p q) p q (record_at bs (cell_number n p q))).0
      (rw (record_in_row n bs p q lq) at ((turn_accepted _ n).0 ((turn_accepted _ n).0 e p lp) q lq)),
  λ h.
      (turn_accepted _ n).1
      (λ p lp. (turn_accepted _ n).1 (λ q lq. rw (record_in_row n bs p q lq)
      ((check_cell_accepted voting (cell_number n p q) p q (record_at bs (cell_number n p q))).1 (h p q lp lq)))),
)

module _ (run : Run) (bs : List ℕ) where
  checks : check_reading run bs
      ≡ (or_refuse (sound run) (Rules 0) then or_refuse (eqb (length bs) (round_length run.setup.n)) Length
      then check_cells (votes_next run) run.setup.n bs)
  unfolding check_reading
  checks = refl

  -- the records are asked last
  reading_cells : sound run ≡ true → length bs ≡ round_length run.setup.n
      → check_cells (votes_next run) run.setup.n bs ≡ check_reading run bs
  reading_cells e l = rw (checks, e, eq-eqb _ _ l)

  -- a refused reading is all lost
  pub reading_refused : {reply : Reply} → reply ≡ check_reading run bs → is_accepted (check_reading run bs) ≡ false
      → ◌≡◌ {A = Reading} (record { reply = reply; matrix = all_lost }) (read_round run bs)
  unfolding read_round
  reading_refused e f = rw (e, f)

  pub reading_done : {reply : Reply} {m : Matrix} → reply ≡ check_reading run bs → check_reading run bs ≡ Accepted
      → m ≡ matrix_of (cells run.setup.n bs)
      → ◌≡◌ {A = Reading} (record { reply = reply; matrix = m }) (read_round run bs)
  unfolding read_round
  reading_done e a c = rw (e, c, a)

  -- and what each outcome tells of an answer that is the definition's
  pub reading_reply : {r : Reading} → r ≡ read_round run bs → r.reply ≡ check_reading run bs
  unfolding read_round
  reading_reply e = rw e

  pub reading_matrix : {r : Reading} → r ≡ read_round run bs → check_reading run bs ≡ Accepted
      → r.matrix ≡ matrix_of (cells run.setup.n bs)
  unfolding read_round
  reading_matrix e a = rw (e, a)

  -- an accepted round passed each check
  pub reading_passed : check_reading run bs ≡ Accepted
      → (sound run ≡ true) × (length bs ≡ round_length run.setup.n)
      × (check_cells (votes_next run) run.setup.n bs ≡ Accepted)
  reading_passed e =
      let (good, rest) = then_accepted _ _ (sym checks ∙ e) in
      let (long, records) = then_accepted _ _ rest in
      (or_refuse_accepted _ (Rules 0) refl good, eqb-true _ _ (or_refuse_accepted _ Length refl long), records)

  -- a round is accepted exactly if the run is sound, the length is right, and every record spells a cell, a "?" only in
  -- a vote round
  pub reading_accepted : (check_reading run bs ≡ Accepted)
      ↔ ((sound run ≡ true) × (length bs ≡ round_length run.setup.n) × AllSpell (votes_next run) run.setup.n bs)
  reading_accepted = (
    λ e. let passed = reading_passed e in (passed.0, passed.1, (cells_accepted _ _ bs).0 passed.2),
    λ h. sym (reading_cells h.0 h.1) ∙ (cells_accepted _ _ bs).1 h.2,
  )
