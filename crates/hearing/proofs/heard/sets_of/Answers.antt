-- `hearing::heard::sets_of` meets its contract: each turn puts the next sender's bit below both masks.
use mathlib.Core.Path.{◌≡◌, ap₂, sym, ◌∙◌}
use Prim.Native.Nat.{ℕ, min}
use native.Mathlib.Omega.{arith}
use Rattle.paper.specs.Heard.{HO, SHO}
use Rattle.run.specs.Run.{stations}
use Rattle.hearing.specs.Surveying.{sets_of}
use Rattle.hearing.proofs.Downward.{from_none, from_more, from_fits, from_all}
use Rattle.hearing.proofs.heard.sets_of.Goals as goal

pub loop-q-init : goal.loop-q-init
loop-q-init c =
    let all : c.places-q.result ≡ min c.args.n stations = c.places-q.ensures in
    (rw all (sym (from_none _ _)), rw all (sym (from_none _ _)))

pub grown-requires : goal.grown-requires
grown-requires c =
    rw c.loop-q.invariant.0 (from_fits _ _ c.loop-q.q (omega arith) (omega arith) (omega arith))

pub grown-requires-in-loop-q : goal.grown-requires-in-loop-q
grown-requires-in-loop-q c =
    rw c.loop-q.invariant.1 (from_fits _ _ c.loop-q.q (omega arith) (omega arith) (omega arith))

pub loop-q-preserved : goal.loop-q-preserved
unfolding HO SHO
loop-q-preserved c = (
  rw (c.grown.ensures, c.loop-q.invariant.0, c.arrived.ensures) (from_more _ _ c.loop-q.q (omega arith) (omega arith)),
  rw (c.grown-in-loop-q.ensures, c.loop-q.invariant.1, c.holds.ensures)
      (from_more _ _ c.loop-q.q (omega arith) (omega arith)),
)

pub returns : goal.returns
unfolding sets_of
returns c =
    let done : c.loop-q.q ≡ 0 = omega arith in
    ap₂ (λ (a b : ℕ). record { ho = a; sho = b }) ((rw done at c.loop-q.invariant.0) ∙ from_all _ _)
    ((rw done at c.loop-q.invariant.1) ∙ from_all _ _)
