-- Values whose counts pass a test. Where a count of 0 fails, a value that passes was received, so the smallest that
-- passes is the smallest of all; where no two values pass and more is as good, it is the value received most often, if
-- that one passes. T is such a test under U, and E under either algorithm: two values have no sender in common, so that
-- their counts add to n at most.
use mathlib.Core.Path.{◌≡◌, refl}
use mathlib.Core.Bool.{Bool, true, false, cond, false≢true}
use Rattle.std.specs.Prelude.{Option, None, Some}
use mathlib.Core.Logic.{◌↔◌}
use Prim.Native.Nat.{ℕ, ◌≤◌, ◌<◌}
use native.Mathlib.Nat.{le_of_eq}
use native.Mathlib.Omega.{arith}
use Rattle.paper.specs.Heard.{Row, HO}
use Rattle.paper.specs.Setup.{Setup, U, acceptable, passes_t, passes_e}
use Rattle.paper.specs.Rules.{times, smallest, most_often}
use Rattle.paper.proofs.Counting.{size_le, agree}
use Rattle.paper.proofs.Sets.{received_apart}
use Rattle.paper.proofs.Thresholds.{more_pass_t, more_pass_e, passed_t, passed_e, two_pass_t, two_pass_e}
use Rattle.paper.proofs.Smallest.{smallest_some, smallest_is, smallest_found}
use Rattle.paper.proofs.MostOften.{Received, came, most_often_all, most_often_found}

-- v passes, and no smaller value does
pub record Lowest (n : ℕ) (row : Row) (pass : ℕ → Bool) (v : ℕ) : Type 0 where
  pub enough : pass (times n row v) ≡ true
  pub first : (w : ℕ) → pass (times n row w) ≡ true → v ≤ w

module _ (n : ℕ) (row : Row) (pass : ℕ → Bool) (positive : (k : ℕ) → pass k ≡ true → 0 < k) where
  abbrev passing : ℕ → Bool
  passing u = pass (times n row u)

  received : (w : ℕ) → passing w ≡ true → Received n row w
  received w h = (came n row w).0 (positive (times n row w) h)

  -- what `smallest` answers
  pub lowest_iff : (v : ℕ) → (smallest n row (λ u. pass (times n row u)) ≡ Some v) ↔ Lowest n row pass v
  lowest_iff v = (
    λ e.
        let l = smallest_some n row passing v e in
        record { enough = l.passes; first = λ w h. let r = received w h in l.least r.0 w r.1 r.2 h },
    λ l.
        let r = received v l.enough in
        smallest_is n row passing v
        (record {
          from = r.0;
          below = r.1;
          heard_there = r.2;
          passes = l.enough;
          least = λ q w h e t. l.first w t;
        }),
  )

  pub lowest_found : (w : ℕ) → pass (times n row w) ≡ true
      → (v : ℕ) × (smallest n row (λ u. pass (times n row u)) ≡ Some v)
  lowest_found w h = let r = received w h in smallest_found n row passing r.0 w r.1 r.2 h

-- where no value passes there is no answer, whatever the test
pub none_passes : (n : ℕ) (row : Row) (pass : ℕ → Bool) → ((w : ℕ) → pass (times n row w) ≡ false)
    → smallest n row (λ u. pass (times n row u)) ≡ None
none_passes n row pass fails = go (smallest n row (λ u. pass (times n row u))) refl
  where
    go : (a : Option ℕ) → smallest n row (λ u. pass (times n row u)) ≡ a → a ≡ None
    go None e = refl
    go (Some v) e =
        let z : ◌≡◌ {A = ℕ} 0 1 = cc ((smallest_some n row (λ u. pass (times n row u)) v e).passes, fails v) in
        absurd (omega arith)

-- one value at most passes in this row
pub record OnePasses (n : ℕ) (row : Row) (pass : ℕ → Bool) : Type 0 where
  pub positive : (k : ℕ) → pass k ≡ true → 0 < k
  pub more : (a b : ℕ) → a ≤ b → pass a ≡ true → pass b ≡ true
  pub single : (v w : ℕ) → pass (times n row v) ≡ true → pass (times n row w) ≡ true → v ≡ w

-- an answer, where it passes
abbrev pub if_passing : ℕ → Row → (ℕ → Bool) → Option ℕ → Option ℕ
if_passing n row pass None = None
if_passing n row pass (Some v) = cond (pass (times n row v)) (Some v) None

module _ (n : ℕ) (row : Row) (pass : ℕ → Bool) (one : OnePasses n row pass) where
  pub zero_fails : pass 0 ≡ false
  zero_fails = go (pass 0) refl
    where
      go : (b : Bool) → pass 0 ≡ b → b ≡ false
      go true e = absurd (omega (arith, one.positive 0 e))
      go false e = refl

  -- the answer is the one that passes
  pub passing_iff : (v : ℕ) → (smallest n row (λ u. pass (times n row u)) ≡ Some v) ↔ (pass (times n row v) ≡ true)
  passing_iff v =
      let iff = lowest_iff n row pass one.positive v in
      (λ e. (iff.0 e).enough, λ h. iff.1 (record { enough = h; first = λ w t. le_of_eq (one.single v w h t) }))

  -- which is the value received most often, or none
  pub passing_is_most : smallest n row (λ u. pass (times n row u))
      ≡ if_passing n row pass (smallest n row (most_often n row))
  passing_is_most = go (smallest n row (most_often n row)) refl
    where
      nothing : smallest n row (most_often n row) ≡ None → (w : ℕ) (b : Bool) → pass (times n row w) ≡ b → b ≡ false
      nothing e w true h =
          let (v, found) = most_often_found n row w ((came n row w).0 (one.positive (times n row w) h)) in
          let z : ◌≡◌ {A = ℕ} 0 1 = cc in absurd (omega arith)
      nothing e w false h = refl

      go : (a : Option ℕ) → smallest n row (most_often n row) ≡ a
          → smallest n row (λ u. pass (times n row u)) ≡ if_passing n row pass a
      go None e = none_passes n row pass (λ w. nothing e w (pass (times n row w)) refl)
      go (Some v) e = pick (pass (times n row v)) refl
        where
          fewer : (w : ℕ) → times n row w ≤ times n row v
          fewer = most_often_all n row v (smallest_some n row (most_often n row) v e).passes

          fails : pass (times n row v) ≡ false → (w : ℕ) (b : Bool) → pass (times n row w) ≡ b → b ≡ false
          fails h w true t = absurd (false≢true (rw h at (one.more (times n row w) (times n row v) (fewer w) t)))
          fails h w false t = refl

          pick : (b : Bool) → pass (times n row v) ≡ b
              → smallest n row (λ u. pass (times n row u)) ≡ cond b (Some v) None
          pick true h = (passing_iff v).1 h
          pick false h = none_passes n row pass (λ w. fails h w (pass (times n row w)) refl)

module _ (S : Setup) (row : Row) (ok : acceptable S ≡ true) where
  -- Lemma 8: no two values pass T in one row, under U
  pub one_passes_t : S.algorithm ≡ U → OnePasses S.n row (passes_t S)
  unfolding times
  one_passes_t own =
      record {
        positive = passed_t S ok;
        more = more_pass_t S;
        single =
            λ v w x y.
            agree v w
            (λ apart.
            omega (
              arith,
              two_pass_t S ok own (times S.n row v) (times S.n row w) x y,
              received_apart S.n v w apart row,
              size_le S.n (HO row),
            ));
      }

  -- Lemmas 2 and 7: nor E, under either algorithm
  pub one_passes_e : OnePasses S.n row (passes_e S)
  unfolding times
  one_passes_e =
      record {
        positive = passed_e S ok;
        more = more_pass_e S;
        single =
            λ v w x y.
            agree v w
            (λ apart.
            omega (
              arith,
              two_pass_e S ok (times S.n row v) (times S.n row w) x y,
              received_apart S.n v w apart row,
              size_le S.n (HO row),
            ));
      }
