-- The lock of A is as strong as it can be, in every setup: whatever number h of holders it allows (with alpha they pass
-- E) some lawful run has, after a round in which the rule fires. In that round the first h stations hold v, station 0
-- hears alpha others altered to v and fires, and nobody else hears anything.
use mathlib.Core.Path.{◌≡◌, refl, sym, ap, ◌∙◌, subst}
use mathlib.Core.Bool.{Bool, true, false, cond, not}
use mathlib.Core.List.Memᴰ
use mathlib.Core.List.{List, [], ◌∷◌}
use Prim.Native.Nat.{ℕ, zero, suc, ◌+◌, ◌-◌, ◌≤◌, ◌<◌}
use native.Mathlib.Nat.{le_refl}
use native.Mathlib.Decide.{dec_le}
use native.Mathlib.Omega.{arith}
use lib.Dec.{eqb, ltb}
use borrow.Author.Tests.{lt-ltb, le-ltb, ltb-true, eqb-true, eq-eqb, ne_eqb}
use Rattle.paper.specs.Stations.{one, size, All}
use Rattle.paper.specs.Heard.{val, lost, heard, Row, Matrix, same, arrived, holds, HO, SHO, AHO, R}
use Rattle.paper.specs.Setup.{A, Setup, acceptable, passes_t, passes_e, tolerated}
use Rattle.paper.specs.Rules.{times, deciding, after}
use Rattle.paper.specs.Run.{opened, Turn, Run, kind, sent, PAlpha, Safe, FiresAt}
use Rattle.paper.specs.Safety.{◌among◌, holders, Lawful, Lemma5}
use Rattle.paper.proofs.Counting.{count_le, one_le, size_all, size_none, size_cong}
use Rattle.paper.proofs.Sets.{same_refl}
use Rattle.paper.proofs.Setups.{a_not_u}
use Rattle.paper.proofs.Thresholds.{more_pass_e, tolerated_iff, none_tolerated, passed_t, n_passes_t, n_passes_e}
use Rattle.paper.proofs.Thresholds.{alpha_not_e, alpha_below_n}
use Rattle.paper.proofs.AtRounds.{a_kind, a_sends, a_keeps_estimate}
use Rattle.paper.proofs.Safety.{lemma_5}
use Rattle.paper.proofs.GoesOn.{taken, taken_next}

-- the stations below j, of which there are j
abbrev below : ℕ → ℕ → Bool
below j q = ltb q j

size_below : (n j : ℕ) → j ≤ n → size n (below j) ≡ j
unfolding size one
size_below zero j h = omega arith
size_below (suc n) j h = go (dec_le j n) (size_below n j)
  where
    go : Dec (j ≤ n) → (j ≤ n → size n (below j) ≡ j) → size n (below j) + one (below j n) ≡ j
    go (yes l) fewer = let outside : one (below j n) ≡ 0 = ap one (le-ltb n j l) in omega (arith, fewer l)
    go (no l) fewer =
        let inside : one (below j n) ≡ 1 = ap one (lt-ltb n j (omega arith)) in
        omega (arith, size_all n (below j) (λ q g. lt-ltb q j (omega arith)))

-- a lawful run of one round in which the rule fires for v, and which leaves v with just h holders
pub record JustHolds (S : Setup) (v h : ℕ) : Type 0 where
  pub starts : ℕ → ℕ
  pub round : Turn
  pub station : ℕ
  pub lawful : Lawful S 0 starts (round ∷ [])
  pub is_station : station < S.n
  pub fires : FiresAt S round station v
  pub holding : size S.n (holders round.after v) ≡ h

-- v where the test passes, and another value where it fails
abbrev either : ℕ → Bool → ℕ
either v b = cond b v (suc v)

told : (v : ℕ) (b : Bool) → eqb (either v b) v ≡ b
told v true = eq-eqb v v refl
told v false = ne_eqb (suc v) v (λ e. omega arith)

-- a cell that reads v where a, and ought to where b: it is altered only where a and not b
cell_altered : (v : ℕ) (a b : Bool) → (b ≡ true → a ≡ true)
    → one (not (same (val (either v a)) (val (either v b)))) + one b ≤ one a
unfolding one
cell_altered v true true h =
    let as_sent : one (not (same (val v) (val v))) ≡ 0 = ap (λ x. one (not x)) (same_refl (val v)) in omega arith
cell_altered v true false h = omega (arith, one_le (not (same (val v) (val (suc v)))))
cell_altered v false true h = let z : ◌≡◌ {A = ℕ} 0 1 = cc (h refl) in absurd (omega arith)
cell_altered v false false h =
    let as_sent : one (not (same (val (suc v)) (val (suc v)))) ≡ 0 = ap (λ x. one (not x)) (same_refl (val (suc v))) in
    omega arith

module _ (S : Setup) (ok : acceptable S ≡ true) (own : S.algorithm ≡ A) (v h : ℕ)
    (just : passes_e S (h + S.alpha) ≡ true) (room : h + S.alpha ≤ S.n) where
  -- the first h stations start with v
  abbrev the_starts : ℕ → ℕ
  the_starts p = either v (below h p)

  -- station 0 hears v from the first h + alpha, and nobody else hears anything
  abbrev the_row : Row
  the_row q = heard (val (either v (below (h + S.alpha) q)))

  abbrev nothing : Row
  nothing q = lost

  abbrev the_cells : Matrix
  the_cells p = cond (eqb p 0) the_row nothing

  abbrev the_round : Turn
  the_round = taken S 0 0 (opened the_starts) the_cells

  ought : (q : ℕ) → sent S the_round q ≡ val (the_starts q)
  unfolding sent kind opened
  ought q = a_sends S 1 (opened the_starts q) own

  few : size S.n (AHO the_row (sent S the_round)) ≤ S.alpha
  unfolding AHO HO SHO arrived holds
  few =
      omega (
        arith,
        size_below S.n h (omega arith),
        size_below S.n (h + S.alpha) room,
        count_le S.n (AHO the_row (sent S the_round) ∷ below h ∷ []) (below (h + S.alpha) ∷ []) at,
      )
    where
      at : All S.n (λ q. one (AHO the_row (sent S the_round) q) + (one (below h q) + 0)
          ≤ one (below (h + S.alpha) q) + 0)
      at q g =
          let altered : one (AHO the_row (sent S the_round) q)
          ≡ one (not (same (val (either v (below (h + S.alpha) q))) (val (the_starts q)))) = ap
          (λ m. one (not (same (val (either v (below (h + S.alpha) q))) m))) (ought q) in
          omega (
            arith,
            cell_altered v (below (h + S.alpha) q) (below h q)
                (λ e. lt-ltb q (h + S.alpha) (omega (arith, ltb-true q h e))),
          )

  few_altered : PAlpha S the_round
  unfolding PAlpha AHO
  few_altered p g = go (eqb p 0)
    where
      go : (b : Bool) → tolerated S (size S.n (AHO (cond b the_row nothing) (sent S the_round))) ≡ true
      go true = (tolerated_iff S _).1 few
      go false =
          subst (λ (k : ℕ). tolerated S k ≡ true)
          (sym (size_none S.n (AHO nothing (sent S the_round)) (λ q l. unheard q)))
          (none_tolerated S)
        where
          unheard : (q : ℕ) → AHO nothing (sent S the_round) q ≡ false
          unheard q = refl

  lawful_round : Lawful S 0 the_starts (the_round ∷ [])
  unfolding Run
  lawful_round =
      record {
        setup = ok;
        rounds = (taken_next S 0 0 (opened the_starts) the_cells, tt);
        safe =
            λ t i.
            subst (λ (x : Turn). Safe S x) (sym (Memᴰ.eq_of_singleton i))
            (record { few_altered = few_altered; enough_safe = λ is_u. absurd (a_not_u (sym own ∙ is_u)) });
      }

  -- v comes h + alpha times
  often : times S.n the_row v ≡ h + S.alpha
  unfolding times R holds same
  often =
      size_cong S.n (R the_row v) (below (h + S.alpha)) (λ q g. told v (below (h + S.alpha) q))
      ∙ size_below S.n (h + S.alpha) room

  fires_there : FiresAt S the_round 0 v
  unfolding FiresAt kind deciding
  fires_there =
      record {
        rule = ap deciding (a_kind S 1 own);
        enough = subst (λ (k : ℕ). passes_e S k ≡ true) (sym often) just;
      }

  -- alpha alone would not pass E
  some_hold : 0 < h
  some_hold = go (dec_le 1 h)
    where
      go : Dec (0 < h) → 0 < h
      go (yes l) = l
      go (no l) = absurd (alpha_not_e S ok (more_pass_e S (h + S.alpha) S.alpha (omega arith) just))

  -- station 0 updates, and takes v (Lemma 5)
  takes_it : (after S 0 1 (opened the_starts 0) the_row).estimate ≡ v
  unfolding Lemma5 HO arrived
  takes_it =
      lemma_5 S 0 the_starts (the_round ∷ []) lawful_round own the_round the_round 0 0 v (Memᴰ.head refl)
      (Memᴰ.head refl) (le_refl 1) (omega (arith, some_hold)) (omega (arith, some_hold)) fires_there
      (subst (λ (k : ℕ). passes_t S k ≡ true) (sym (size_all S.n (HO the_row) (λ q l. refl))) (n_passes_t S ok))

  -- the others keep what they have
  unheard_fails : passes_t S (size S.n (HO nothing)) ≡ false
  unfolding HO arrived
  unheard_fails = go (passes_t S (size S.n (HO nothing))) refl
    where
      go : (b : Bool) → passes_t S (size S.n (HO nothing)) ≡ b → b ≡ false
      go true e =
          absurd (omega (
            arith,
            passed_t S ok (size S.n (HO nothing)) e,
            size_none S.n (HO nothing) (λ q l. refl),
          ))
      go false e = refl

  holders_after : (p : ℕ) → holders the_round.after v p ≡ below h p
  unfolding holders opened
  holders_after p = go (eqb p 0) refl
    where
      go : (b : Bool) → eqb p 0 ≡ b
          → eqb (after S 0 1 (opened the_starts p) (cond b the_row nothing)).estimate v ≡ below h p
      go true e =
          subst (λ (x : ℕ). eqb (after S 0 1 (opened the_starts x) the_row).estimate v ≡ below h x)
          (sym (eqb-true p 0 e)) (eq-eqb _ v takes_it ∙ sym (lt-ltb 0 h some_hold))
      go false e =
          ap (λ x. eqb x v) (a_keeps_estimate S 0 1 (opened the_starts p) nothing own unheard_fails)
          ∙ told v (below h p)

  -- a number of holders that the lock allows, and that leaves room for alpha others, is met
  pub lock_is_tight : JustHolds S v h
  lock_is_tight =
      record {
        starts = the_starts;
        round = the_round;
        station = 0;
        lawful = lawful_round;
        is_station = omega (arith, some_hold);
        fires = fires_there;
        holding =
            size_cong S.n (holders the_round.after v) (below h) (λ p l. holders_after p)
            ∙ size_below S.n h (omega arith);
      }

-- in every lawful run of S, a round in which the rule fires for a value leaves it with at least b holders
abbrev pub AtLeast : Setup → ℕ → Type 0
AtLeast S b =
    (default : ℕ) (starts : ℕ → ℕ) (ts : List Turn) → Lawful S default starts ts
    → (t : Turn) (p v : ℕ) → t among ts → p < S.n → FiresAt S t p v → b ≤ size S.n (holders t.after v)

-- no such b is larger than the lock's: each number of holders that with alpha passes E is at least b
pub lock_is_tightest : (S : Setup) → acceptable S ≡ true → S.algorithm ≡ A → (b : ℕ) → AtLeast S b → (h : ℕ)
    → passes_e S (h + S.alpha) ≡ true → b ≤ h
lock_is_tightest S ok own b claim h just = go (dec_le (h + S.alpha) S.n)
  where
    met : (k : ℕ) → passes_e S (k + S.alpha) ≡ true → k + S.alpha ≤ S.n → b ≤ k
    met k enough room =
        let run = lock_is_tight S ok own 4 k enough room in
        omega (
          arith,
          run.holding,
          claim 0 run.starts (run.round ∷ []) run.lawful run.round run.station 4 (Memᴰ.head refl)
              run.is_station run.fires,
        )

    go : Dec (h + S.alpha ≤ S.n) → b ≤ h
    go (yes l) = met h just l
    go (no l) =
        let alpha_below = alpha_below_n S ok in
        let all_but_alpha : b ≤ S.n - S.alpha = met (S.n - S.alpha)
        (more_pass_e S S.n (S.n - S.alpha + S.alpha) (omega arith) (n_passes_e S ok)) (omega arith) in
        omega arith
