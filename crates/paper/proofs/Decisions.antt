-- The decision that a station keeps is that of its first firing: until the rule fires it is undecided, and from then on
-- `keep` leaves it alone. By induction on the rounds.
use mathlib.Core.Path.{◌≡◌, refl, ap, sym, ◌∙◌, subst}
use mathlib.Core.Bool.{Bool, true, false, cond}
use mathlib.Core.List.Memᴰ
use mathlib.Core.List.{List, [], ◌∷◌}
use mathlib.Core.Logic.{◌⊎◌, inl, inr, ⊎_elim}
use Rattle.std.specs.Prelude.{Option, None, Some}
use Prim.Native.Nat.{ℕ, suc, ◌≤◌, ◌<◌}
use native.Mathlib.Nat.{le_refl}
use native.Mathlib.Omega.{arith}
use Rattle.paper.specs.Heard.{Row}
use Rattle.paper.specs.Setup.{Setup, acceptable, passes_e}
use Rattle.paper.specs.Rules.{Station, Decision, undecided, decided, Kind, kind_of, times, smallest, deciding}
use Rattle.paper.specs.Rules.{Fires, fired, keep}
use Rattle.paper.specs.Run.{States, opened, Turn, Next, Rounds, Run, FiresAt}
use Rattle.paper.specs.Safety.{◌among◌, FirstFiring, Kept, Decides}
use Rattle.paper.proofs.Smallest.{smallest_some, smallest_none}
use Rattle.paper.proofs.MostOften.{came}
use Rattle.paper.proofs.Thresholds.{passed_e}
use Rattle.paper.proofs.After.{after_decision}
use Rattle.paper.proofs.Rounds.{numbered, fires_in}

-- what fires is what `fired` names, whatever the thresholds
pub fired_fires : (S : Setup) (k : Kind) (row : Row) (v : ℕ) → fired S k row ≡ Some v → Fires S k row v
unfolding fired
fired_fires S k row v = go (deciding k) refl
  where
    go : (b : Bool) → deciding k ≡ b → cond b (smallest S.n row (λ w. passes_e S (times S.n row w))) None ≡ Some v
        → Fires S k row v
    go true d e =
        record { rule = d; enough = (smallest_some S.n row (λ w. passes_e S (times S.n row w)) v e).passes }
    go false d e = let z : ◌≡◌ {A = ℕ} 0 1 = cc in absurd (omega arith)

-- where it names none, nothing fires: a value that passes E was received
pub unfired : (S : Setup) → acceptable S ≡ true → (k : Kind) (row : Row) → fired S k row ≡ None → (v : ℕ)
    → Fires S k row v → ⊥
unfolding fired
unfired S ok k row e v f =
    let got = (came S.n row v).0 (passed_e S ok (times S.n row v) f.enough) in
    smallest_none S.n row (λ w. passes_e S (times S.n row w)) (rw f.rule at e) got.0 v got.1 got.2
    f.enough

module _ (S : Setup) (default : ℕ) (ok : acceptable S ≡ true) (p : ℕ) (within : p < S.n) where
  -- one round at p: what `keep` makes of the decision that stood before
  module _ {k : ℕ} {s : States} {t : Turn} (st : Next S default k s t) where
    abbrev firing : Option ℕ
    firing = fired S (kind_of S.algorithm (suc k)) (t.heard p)

    decision_after : (t.after p).decision ≡ keep (s p).decision (suc k) firing
    decision_after =
        ap (λ (x : Station). x.decision) (st.by_rule p within)
        ∙ after_decision S default (suc k) (t.before p) (t.heard p)
        ∙ ap (λ (x : Station). keep x.decision (suc k) firing) (st.from p within)

  -- a decision stays
  stays : (ts : List Turn) (k : ℕ) (s : States) → Rounds S default k s ts → (v r : ℕ) → (s p).decision ≡ decided v r
      → (u : Turn) → u among ts → (u.after p).decision ≡ decided v r
  unfolding Rounds keep
  stays [] k s run v r e u i = absurd (Memᴰ.not-nil i)
  stays (t ∷ ts) k s run v r e u i =
      let on : (t.after p).decision ≡ decided v r = decision_after run.0
      ∙ ap (λ (d : Decision). keep d (suc k) (firing run.0)) e in
      ⊎_elim (λ d. ap (λ (x : Turn). (x.after p).decision) d ∙ on) (stays ts (suc k) t.after run.1 v r on u)
      (Memᴰ.cases_cons i)

  -- what is known of an undecided station's later decisions
  abbrev FirstAmong : List Turn → ℕ → ℕ → Turn → Type 0
  FirstAmong ts v r u = (t : Turn) × FirstFiring S ts p v t × (t.number ≡ r) × (r ≤ u.number)

  first_of : (ts : List Turn) (k : ℕ) (s : States) → Rounds S default k s ts → (s p).decision ≡ undecided
      → (u : Turn) (v r : ℕ) → u among ts
      → (u.after p).decision ≡ decided v r → FirstAmong ts v r u
  unfolding Rounds keep
  first_of [] k s run e u v r i d = absurd (Memᴰ.not-nil i)
  first_of (x ∷ ts) k s run e u v r i d =
      go (firing run.0) refl (λ open_still j. first_of ts (suc k) x.after run.1 open_still u v r j d)
      (Memᴰ.cases_cons i)
    where
      after_x : (f : Option ℕ) → firing run.0 ≡ f → (x.after p).decision ≡ keep undecided (suc k) f
      after_x f g =
          decision_after run.0 ∙ ap (λ (z : Decision). keep z (suc k) (firing run.0)) e
          ∙ ap (keep undecided (suc k)) g

      -- the head fires for w: it is the first
      head_first : (w : ℕ) → firing run.0 ≡ Some w → FirstFiring S (x ∷ ts) p w x
      head_first w g =
          record {
            in_run = Memᴰ.head refl;
            fires =
                (fires_in S default run.0 p w).1 (fired_fires S (kind_of S.algorithm (suc k)) (x.heard p) w g);
            first =
                λ y z j h.
                ⊎_elim (λ q. subst (λ (m : Turn). x.number ≤ m.number) (sym q) (le_refl x.number))
                (λ l. omega (arith, run.0.counted, numbered S default ts (suc k) x.after run.1 y l))
                (Memᴰ.cases_cons j);
          }

      fired_at : (w : ℕ) → firing run.0 ≡ Some w → (u.after p).decision ≡ decided w (suc k)
          → FirstAmong (x ∷ ts) v r u
      fired_at w g d' =
          let same_value : w ≡ v = cc in
          let same_round : suc k ≡ r = cc in (
            x,
            subst (λ (z : ℕ). FirstFiring S (x ∷ ts) p z x) same_value (head_first w g),
            run.0.counted ∙ same_round,
            omega (arith, numbered S default (x ∷ ts) k s run u i),
          )

      later : firing run.0 ≡ None → FirstAmong ts v r u → FirstAmong (x ∷ ts) v r u
      later g found = (
        found.0,
        record {
          in_run = Memᴰ.tail found.1.in_run;
          fires = found.1.fires;
          first =
              λ y z j h.
              ⊎_elim
              (λ q.
              absurd
              (unfired S ok (kind_of S.algorithm (suc k)) (x.heard p) g z
              ((fires_in S default run.0 p z).0 (subst (λ (m : Turn). FiresAt S m p z) q h))))
              (λ l. found.1.first y z l h) (Memᴰ.cases_cons j);
        },
        found.2,
        found.3,
      )

      go : (f : Option ℕ) → firing run.0 ≡ f → ((x.after p).decision ≡ undecided → u among ts → FirstAmong ts v r u)
          → (u ≡ x) ⊎ (u among ts)
          → FirstAmong (x ∷ ts) v r u
      go None g below (inl q) =
          let z : ◌≡◌ {A = ℕ} 0 1 = cc (ap (λ (m : Turn). (m.after p).decision) q, after_x None g) in
          absurd (omega arith)
      go None g below (inr j) = later g (below (after_x None g) j)
      go (Some w) g below (inl q) = fired_at w g (ap (λ (m : Turn). (m.after p).decision) q ∙ after_x (Some w) g)
      go (Some w) g below (inr j) =
          fired_at w g (stays ts (suc k) x.after run.1 w (suc k) (after_x (Some w) g) u j)

  abbrev Done : States → Type 0
  Done s = ¬ ((s p).decision ≡ undecided)

  stays_done : (ts : List Turn) (k : ℕ) (s : States) → Rounds S default k s ts → Done s → (u : Turn) → u among ts
      → Done u.after
  stays_done ts k s run done u i = go (s p).decision refl
    where
      go : (d : Decision) → (s p).decision ≡ d → Done u.after
      go undecided e = absurd (done e)
      go (decided v r) e = λ q. let z : ◌≡◌ {A = ℕ} 0 1 = cc (stays ts k s run v r e u i) in omega arith

  fires_done : {k : ℕ} {s : States} {t : Turn} (st : Next S default k s t) (v : ℕ) → FiresAt S t p v → Done t.after
  unfolding keep
  fires_done {k} {s} {t} st v f q = go (s p).decision (firing st) refl (sym (decision_after st) ∙ q)
    where
      go : (d : Decision) (o : Option ℕ) → firing st ≡ o → keep d (suc k) o ≡ undecided → ⊥
      go undecided None g e =
          unfired S ok (kind_of S.algorithm (suc k)) (t.heard p) g v ((fires_in S default st p v).0 f)
      go undecided (Some w) g e = let z : ◌≡◌ {A = ℕ} 0 1 = cc in omega arith
      go (decided w r) o g e = let z : ◌≡◌ {A = ℕ} 0 1 = cc in omega arith

  done_from : (ts : List Turn) (k : ℕ) (s : States) → Rounds S default k s ts → (t u : Turn) (v : ℕ) → t among ts
      → u among ts
      → t.number ≤ u.number → FiresAt S t p v → Done u.after
  unfolding Rounds
  done_from [] k s run t u v i j order f = absurd (Memᴰ.not-nil i)
  done_from (x ∷ ts) k s run t u v i j order f =
      ⊎_elim (λ e. at_head (fires_done run.0 v (subst (λ (y : Turn). FiresAt S y p v) e f)) (Memᴰ.cases_cons j))
      (λ i'.
      ⊎_elim
      (λ e.
      absurd
      (omega (
        arith,
        order,
        ap (λ (y : Turn). y.number) e,
        run.0.counted,
        numbered S default ts (suc k) x.after
            run.1 t i',
      )))
      (λ j'. done_from ts (suc k) x.after run.1 t u v i' j' order f) (Memᴰ.cases_cons j))
      (Memᴰ.cases_cons i)
    where
      at_head : Done x.after → (u ≡ x) ⊎ (u among ts) → Done u.after
      at_head done (inl e) = subst (λ (y : Turn). Done y.after) (sym e) done
      at_head done (inr m) = stays_done ts (suc k) x.after run.1 done u m

module _ (S : Setup) (default : ℕ) (starts : ℕ → ℕ) (ts : List Turn) where
  -- a decision that is kept is the first firing's, with its round
  pub kept : acceptable S ≡ true → Run S default starts ts → Kept S ts
  unfolding Kept Run opened
  kept ok run u p v r i h d = first_of S default ok p h ts 0 (opened starts) run refl u v r i d

  -- and whoever has fired has it: one that is not undecided has some decision, and so that one
  pub decides : acceptable S ≡ true → Run S default starts ts → Decides S ts
  unfolding Decides Run opened
  decides ok run t u p v i j order h f = go (u.after p).decision refl
    where
      go : (d : Decision) → (u.after p).decision ≡ d
          → (w : ℕ) × (t₀ : Turn) × FirstFiring S ts p w t₀ × ((u.after p).decision ≡ decided w t₀.number)
      go undecided e = absurd (done_from S default ok p h ts 0 (opened starts) run t u v i j order f e)
      go (decided w r) e =
          let found = first_of S default ok p h ts 0 (opened starts) run refl u w r j e in
          (w, found.0, found.1, e ∙ ap (decided w) (sym found.2))
