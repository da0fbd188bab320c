-- The rounds of a run are numbered on, so that of two with successive numbers the second starts where the first ended;
-- and what fires in one of them fires by the kind of its number.
use mathlib.Core.Path.{◌≡◌, ap, sym, ◌∙◌, subst}
use mathlib.Core.List.Memᴰ
use mathlib.Core.List.{List, [], ◌∷◌}
use mathlib.Core.Logic.{◌↔◌, ⊎_elim}
use Prim.Native.Nat.{ℕ, suc, ◌<◌}
use native.Mathlib.Omega.{arith}
use Rattle.paper.specs.Stations.{All}
use Rattle.paper.specs.Setup.{Setup}
use Rattle.paper.specs.Rules.{kind_of, Fires}
use Rattle.paper.specs.Run.{States, Turn, Next, Rounds, kind, FiresAt}
use Rattle.paper.specs.Safety.{◌among◌}

module _ (S : Setup) (default : ℕ) where
  pub numbered : (ts : List Turn) (k : ℕ) (s : States) → Rounds S default k s ts → (u : Turn) → u among ts
      → k < u.number
  unfolding Rounds
  numbered [] k s run u i = absurd (Memᴰ.not-nil i)
  numbered (t ∷ ts) k s run u i =
      ⊎_elim (λ e. subst (λ (x : Turn). k < x.number) (sym e) (omega (arith, run.0.counted)))
      (λ j. omega (arith, numbered ts (suc k) t.after run.1 u j)) (Memᴰ.cases_cons i)

  -- the round that is numbered next starts where the one before it ended
  pub starts_there : (ts : List Turn) (k : ℕ) (s : States) → Rounds S default k s ts → (t u : Turn) → t among ts
      → u among ts
      → u.number ≡ suc t.number → All S.n (λ p. u.before p ≡ t.after p)
  unfolding Rounds
  starts_there [] k s run t u i j next = absurd (Memᴰ.not-nil i)
  starts_there (x ∷ ts) k s run t u i j next =
      ⊎_elim
      (λ e. at_head e ts run.1
      (⊎_elim (λ d. absurd (omega (arith, number_of d, number_of e))) (λ m. m) (Memᴰ.cases_cons j)))
      (λ i'.
      ⊎_elim
      (λ d. absurd (omega (arith, number_of d, run.0.counted, numbered ts (suc k) x.after run.1 t i')))
      (λ j'. starts_there ts (suc k) x.after run.1 t u i' j' next) (Memᴰ.cases_cons j))
      (Memᴰ.cases_cons i)
    where
      number_of : {y z : Turn} → y ≡ z → y.number ≡ z.number
      number_of e = ap (λ (y : Turn). y.number) e

      -- t is the head: u is the first of the others
      at_head : t ≡ x → (others : List Turn) → Rounds S default (suc k) x.after others → u among others
          → All S.n (λ p. u.before p ≡ t.after p)
      at_head e [] rest m = absurd (Memᴰ.not-nil m)
      at_head e (y ∷ others) rest m =
          ⊎_elim
          (λ d p h.
          ap (λ (z : Turn). z.before p) d ∙ rest.0.from p h ∙ ap (λ (z : Turn). z.after p) (sym e))
          (λ l. absurd (omega (
            arith,
            number_of e,
            run.0.counted,
            numbered others (suc (suc k)) y.after rest.1 u l,
          )))
          (Memᴰ.cases_cons m)

  pub fires_in : {k : ℕ} {s : States} {t : Turn} (st : Next S default k s t) (p v : ℕ)
      → FiresAt S t p v ↔ Fires S (kind_of S.algorithm (suc k)) (t.heard p) v
  unfolding FiresAt kind
  fires_in {t = t} st p v = (
    subst (λ (r : ℕ). Fires S (kind_of S.algorithm r) (t.heard p) v) st.counted,
    subst (λ (r : ℕ). Fires S (kind_of S.algorithm r) (t.heard p) v) (sym st.counted),
  )
