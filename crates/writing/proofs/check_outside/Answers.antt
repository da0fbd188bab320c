-- `writing::check_outside` meets its contract: a place that holds what it may not is refused.
use mathlib.Core.Path.{◌≡◌}
use mathlib.Core.Bool.{not}
use Prim.Native.Nat.{ℕ, ◌*◌}
use borrow.Author.Rules.{rules}
use Rattle.std.specs.Prelude.{Some, None}
use Rattle.run.specs.First.{first}
use Rattle.run.specs.Run.{stations}
use Rattle.writing.proofs.Writings.{place_fits, outside_first}
use Rattle.writing.proofs.check_outside.Goals as goal

pub returns-in-Some : goal.returns-in-Some
returns-in-Some c =
    let e : Some c.in-Some.field-0 ≡ first (stations * stations) (λ (k : ℕ). not (place_fits c.args.n c.args.matrix k)) =
    c.in-Some.ensures.first _ (λ i x l p. search rules) in
    rw (outside_first, ← e, c.records.ensures.value)

pub returns-in-None : goal.returns-in-None
returns-in-None c =
    let e : None ≡ first (stations * stations) (λ (k : ℕ). not (place_fits c.args.n c.args.matrix k)) =
    c.in-None.ensures.first _ (λ i x l p. search rules) in
    rw (outside_first, ← e)
