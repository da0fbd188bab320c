-- How often values come. A value came at all where it is in a cell, so the values in the cells bound all others; and
-- counts are bounded by n, so one of them is the highest: it is found by lowering the bound until some value reaches
-- it.
use mathlib.Core.Path.{◌≡◌, refl, ap}
use mathlib.Core.Bool.{true, false≢true}
use Rattle.std.specs.Prelude.{Option, None, Some}
use mathlib.Core.Logic.{◌↔◌}
use Prim.Native.Nat.{ℕ, zero, suc, ◌≤◌, ◌<◌, zero-le}
use native.Mathlib.Nat.{le_trans}
use native.Mathlib.Decide.{dec_le}
use native.Mathlib.Omega.{arith}
use lib.Dec.{leb}
use borrow.Author.Tests.{leb-true, le-leb}
use Rattle.paper.specs.Heard.{val, query, Cell, lost, heard, Row, holds, R}
use Rattle.paper.specs.Rules.{times, smallest, no_oftener, most_often}
use Rattle.paper.proofs.Counting.{size_pos, size_member, size_le, every_at, every_is}
use Rattle.paper.proofs.Sets.{same_eq, same_refl}
use Rattle.paper.proofs.Smallest.{smallest_some, smallest_none, smallest_found}

-- some sender's cell has the value w
abbrev pub Received : ℕ → Row → ℕ → Type 0
Received n row w = (q : ℕ) × (q < n) × (row q ≡ heard (val w))

holds_val : (c : Cell) (w : ℕ) → holds c (val w) ≡ true → c ≡ heard (val w)
unfolding holds
holds_val lost w e = absurd (false≢true e)
holds_val (heard m) w e = ap heard (same_eq m (val w) e)

-- a value came at least once exactly if some cell has it
pub came : (n : ℕ) (row : Row) (w : ℕ) → (0 < times n row w) ↔ Received n row w
unfolding times R holds
came n row w = (
  λ h. let m = size_member n (R row w) h in (m.0, m.1, holds_val (row m.0) w m.2),
  λ r. size_pos n (R row w) r.0 r.1 (rw r.2 (same_refl (val w))),
)

in_cell : (n : ℕ) (row : Row) (k : ℕ) (c : Cell) → ((w : ℕ) → c ≡ heard (val w) → times n row w ≤ k)
    → no_oftener n row k c ≡ true
unfolding no_oftener
in_cell n row k lost all = refl
in_cell n row k (heard query) all = refl
in_cell n row k (heard (val w)) all = le-leb (times n row w) k (all w refl)

-- v is among the values received most often exactly if none that is received came more often
pub most_often_iff : (n : ℕ) (row : Row) (v : ℕ)
    → (most_often n row v ≡ true) ↔ ((w : ℕ) → Received n row w → times n row w ≤ times n row v)
unfolding most_often no_oftener
most_often_iff n row v = (
  λ e w r. leb-true (times n row w) (times n row v) (rw r.2 at (every_at n _ e r.0 r.1)),
  λ all. every_is n _ (λ q h. in_cell n row (times n row v) (row q) (λ w e. all w (q, h, e))),
)

-- and then none at all came more often
pub most_often_all : (n : ℕ) (row : Row) (v : ℕ) → most_often n row v ≡ true → (w : ℕ) → times n row w ≤ times n row v
most_often_all n row v e w = go (dec_le 1 (times n row w))
  where
    go : Dec (0 < times n row w) → times n row w ≤ times n row v
    go (yes h) = (most_often_iff n row v).0 e w ((came n row w).0 h)
    go (no h) = omega arith

module _ (n : ℕ) (row : Row) where
  -- k bounds the counts: some value reaches it, or a lower bound serves
  bounded : (k : ℕ) → ((w : ℕ) → Received n row w → times n row w ≤ k) → (w : ℕ) → Received n row w
      → (v : ℕ) × Received n row v × (most_often n row v ≡ true)
  bounded zero top w r = (w, r, (most_often_iff n row w).1 (λ u s. le_trans (top u s) zero-le))
  bounded (suc k) top w r = go (smallest n row (λ u. leb (suc k) (times n row u))) refl (λ lower. bounded k lower w r)
    where
      go : (a : Option ℕ) → smallest n row (λ u. leb (suc k) (times n row u)) ≡ a
          → (((u : ℕ) → Received n row u → times n row u ≤ k)
          → (v : ℕ) × Received n row v × (most_often n row v ≡ true))
          → (v : ℕ) × Received n row v × (most_often n row v ≡ true)
      go (Some v) e below =
          let l = smallest_some n row (λ u. leb (suc k) (times n row u)) v e in (
            v,
            (l.from, l.below, l.heard_there),
            (most_often_iff n row v).1 (λ u s. le_trans (top u s) (leb-true (suc k) (times n row v) l.passes)),
          )
      go None e below = below (λ u s. lower u s (dec_le (suc k) (times n row u)))
        where
          lower : (u : ℕ) → Received n row u → Dec (suc k ≤ times n row u) → times n row u ≤ k
          lower u s (yes h) =
              absurd (smallest_none n row (λ u. leb (suc k) (times n row u)) e s.0 u s.1 s.2
              (le-leb (suc k) (times n row u) h))
          lower u s (no h) = omega arith

  -- where a value is received, one is received most often
  pub most_often_found : (w : ℕ) → Received n row w → (v : ℕ) × (smallest n row (most_often n row) ≡ Some v)
  unfolding times
  most_often_found w r =
      let (v, s, e) = bounded n (λ u s. size_le n (R row u)) w r in
      smallest_found n row (most_often n row) s.0 v s.1 s.2 e
