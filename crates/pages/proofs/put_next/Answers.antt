-- `pages::put_next` meets its contract: no bytes left are the tape's end, and of others the step's reply tells which line
-- is put.
use Rattle.std.proofs.Common.{◌≡◌, ◌==◌, ℕ, Bool, false, refl, sym, ◌∙◌, eq-eqb}
use mathlib.Core.Bool.{false≢true}
use borrow.Author.Tests.{eqb-true}
use Rattle.pages.proofs.Paged.{none_left, some_left, end_put, round_put}
use Rattle.pages.proofs.put_next.Goals as goal

-- bytes are left where it is not so that there are none
offered : {n : ℕ} {b : Bool} → b ≡ (n == 0) → b ≡ false → n ≡ 0 → ⊥
offered e h z = false≢true (sym h ∙ e ∙ eq-eqb _ _ z)

pub returns-then-is_empty : goal.returns-then-is_empty
returns-then-is_empty c =
    let args = c.args in
    rw (none_left args.run args.round.now (eqb-true _ _ (sym c.is_empty.ensures ∙ c.if-is_empty.true)))
    (record { next = refl; text = c.put_end-end.ensures.put_if; room = c.put_end-end.ensures.upper_bound })

pub returns-then-is_err : goal.returns-then-is_err
returns-then-is_err c =
    let args = c.args in
    rw (some_left args.run args.round.now (offered c.is_empty.ensures c.if-is_empty.false), ← c.step-stepped.ensures)
    (end_put c.put_end-end-then-is_err.ensures.upper_bound args.run c.step-stepped.result
    (sym c.is_err.ensures.value ∙ c.if-is_err.true) c.put_end-end-then-is_err.ensures.put_if)

pub returns : goal.returns
returns c =
    let args = c.args in
    rw (some_left args.run args.round.now (offered c.is_empty.ensures c.if-is_empty.false), ← c.step-stepped.ensures)
    (round_put c.put_round-end.ensures.upper_bound args.run args.round.now c.step-stepped.result c.step-stepped.ensures
    (sym c.is_err.ensures.value ∙ c.if-is_err.false) c.put_round-end.ensures.put_if)
