-- The last of the rounds of a run: its states are those that are left, and no round has a higher number. So what the
-- paper promises after every round is promised of what is left. By induction on the rounds.
use mathlib.Core.Path.{◌≡◌, refl, ap, sym, ◌∙◌, subst}
use mathlib.Core.List.Memᴰ
use mathlib.Core.List.{List, [], ◌∷◌}
use mathlib.Core.Logic.{⊎_elim}
use Prim.Native.Nat.{ℕ, suc, ◌≤◌, ◌<◌}
use native.Mathlib.Nat.{le_refl}
use native.Mathlib.Omega.{arith}
use Rattle.paper.specs.Setup.{Setup}
use Rattle.paper.specs.Rules.{undecided, decided}
use Rattle.paper.specs.Run.{States, Turn, Rounds, FiresAt}
use Rattle.paper.specs.Safety.{◌among◌, Locked, FirstFiring, Lock, Kept, Decides}
use Rattle.paper.proofs.Rounds.{numbered}
use Rattle.consensus.specs.Offered.{left_by}

-- the last round, where s stood before them all
record Last (s : States) (ts : List Turn) : Type 0 where
  turn : Turn
  in_run : turn among ts
  left : left_by s ts ≡ turn.after
  latest : (t : Turn) → t among ts → t.number ≤ turn.number

-- there is one where there are rounds (the first of them is the head)
last_of : (S : Setup) (d k : ℕ) (s : States) (x : Turn) (ts : List Turn) → Rounds S d k s (x ∷ ts) → (s₀ : States)
    → Last s₀ (x ∷ ts)
unfolding Rounds left_by
last_of S d k s x [] rounds s₀ =
    record {
      turn = x;
      in_run = Memᴰ.head refl;
      left = refl;
      latest =
          λ t i.
          ⊎_elim (λ q. subst (λ (u : Turn). u.number ≤ x.number) (sym q) (le_refl x.number))
          (λ j. absurd (Memᴰ.not-nil j))
          (Memᴰ.cases_cons i);
    }
last_of S d k s x (y ∷ ts) rounds s₀ =
    let on = last_of S d (suc k) x.after y ts rounds.1 x.after in
    record {
      turn = on.turn;
      in_run = Memᴰ.tail on.in_run;
      left = on.left;
      latest =
          λ t i.
          ⊎_elim
          (λ q.
          omega (
            arith,
            ap (λ (u : Turn). u.number) q,
            rounds.0.counted,
            numbered S d (y ∷ ts) (suc k) x.after
                rounds.1 on.turn on.in_run,
          ))
          (on.latest t) (Memᴰ.cases_cons i);
    }

-- what is left after the rounds ts of a run, where s₀ stood before them
module _ (S : Setup) (d k : ℕ) (s : States) (s₀ : States) where
  pub lock_left : (ts : List Turn) → Rounds S d k s ts → Lock S ts → (t : Turn) (p v : ℕ) → t among ts → p < S.n
      → FiresAt S t p v
      → Locked S (left_by s₀ ts) v
  unfolding Lock
  lock_left [] rounds locks t p v i h f = absurd (Memᴰ.not-nil i)
  lock_left (x ∷ ts) rounds locks t p v i h f =
      let l = last_of S d k s x ts rounds s₀ in
      subst (λ (z : States). Locked S z v) (sym l.left) (locks t l.turn p v i l.in_run (l.latest t i) h f)

  pub decided_left : (ts : List Turn) → Rounds S d k s ts → Decides S ts → (t : Turn) (p v : ℕ) → t among ts → p < S.n
      → FiresAt S t p v
      → (w : ℕ) × (t₀ : Turn) × FirstFiring S ts p w t₀ × ((left_by s₀ ts p).decision ≡ decided w t₀.number)
  unfolding Decides
  decided_left [] rounds done t p v i h f = absurd (Memᴰ.not-nil i)
  decided_left (x ∷ ts) rounds done t p v i h f =
      let l = last_of S d k s x ts rounds s₀ in
      let found = done t l.turn p v i l.in_run (l.latest t i) h f in
      (found.0, found.1, found.2, ap (λ (z : States). (z p).decision) l.left ∙ found.3)

  pub kept_left : (ts : List Turn) → Rounds S d k s ts → Kept S ts → (p v r : ℕ) → p < S.n
      → ((s₀ p).decision ≡ undecided)
      → (left_by s₀ ts p).decision ≡ decided v r → (t : Turn) × FirstFiring S ts p v t × (t.number ≡ r)
  unfolding Kept left_by
  kept_left [] rounds keep p v r h none e = let z : ◌≡◌ {A = ℕ} 0 1 = cc in absurd (omega arith)
  kept_left (x ∷ ts) rounds keep p v r h none e =
      let l = last_of S d k s x ts rounds s₀ in
      let found = keep l.turn p v r l.in_run h (sym (ap (λ (z : States). (z p).decision) l.left) ∙ e) in
      (found.0, found.1, found.2)
