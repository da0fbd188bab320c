-- One round, from the states b to the states a, at each kind of round: what holds before the round of this kind holds,
-- for the kind that follows, after it. These are Lemmas 3, 4, 8 and 9 put together; the sequence of rounds is in
-- Safety.
use mathlib.Core.Path.{◌≡◌, refl, ap, sym, ◌∙◌, subst}
use mathlib.Core.Bool.{Bool, true, false, cond, false≢true}
use mathlib.Core.List.{[], ◌∷◌}
use mathlib.Core.Logic.{◌⊎◌, inl, inr}
use Rattle.std.specs.Prelude.{Option, None, Some}
use Prim.Native.Nat.{ℕ, ◌+◌, ◌≤◌, ◌<◌}
use native.Mathlib.Omega.{arith}
use borrow.Author.Tests.{eqb-true, eq-eqb}
use Rattle.paper.specs.Stations.{size, one, All}
use Rattle.paper.specs.Heard.{val, query, Matrix, same, HO, SHO, AHO, Q}
use Rattle.paper.specs.Setup.{Setup, A, U, acceptable, passes_t, passes_e, vouched, passes_bound}
use Rattle.paper.specs.Rules.{Kind, update, value, vote, sends, times, smallest, most_often, or_else}
use Rattle.paper.specs.Rules.{vote_or_else, next_estimate, next_vote, deciding, Fires}
use Rattle.paper.specs.Run.{States}
use Rattle.paper.specs.Safety.{holders}
use Rattle.paper.proofs.Counting.{count_le, size_all, one_le, agree}
use Rattle.paper.proofs.Sets.{same_refl, senders_apart}
use Rattle.paper.proofs.Smallest.{smallest_some}
use Rattle.paper.proofs.Receives.{OneValue, backed, backed_e, decided_true, vouched_true, takes_most, adopts}
use Rattle.paper.proofs.Receives.{votes_for}
use Rattle.paper.proofs.Setups.{a_not_u}
use Rattle.paper.proofs.Thresholds.{two_pass_e, two_pass_t, all_pass_e, more_pass_e}

-- the kind of the round that follows
abbrev pub follows : Kind → Kind
follows update = update
follows value = vote
follows vote = value

-- what holds before each kind of round: votes are "?" before a value round, and name one value before a vote round
abbrev pub Prepared : Setup → Kind → States → Type 0
Prepared S update s = Unit {0}
Prepared S value s = All S.n (λ p. (s p).vote ≡ query)
Prepared S vote s = OneValue S.n (λ p. (s p).vote)

-- the stations are bound to v, before each kind of round
abbrev pub Bound : Setup → Kind → States → ℕ → Type 0
Bound S update s v = passes_e S (size S.n (holders s v) + S.alpha) ≡ true
Bound S value s v = All S.n (λ p. (s p).estimate ≡ v)
Bound S vote s v = All S.n (λ p. (s p).estimate ≡ v) × All S.n (λ p. (s p).vote ≡ val v)

-- whose setups have rounds of a kind
abbrev pub SetupFor : Setup → Kind → Type 0
SetupFor S update = S.algorithm ≡ A
SetupFor S value = S.algorithm ≡ U
SetupFor S vote = S.algorithm ≡ U

-- under U the safe sets are large enough
abbrev pub SafeSets : Setup → Kind → States → Matrix → Type 0
SafeSets S update b m = Unit {0}
SafeSets S value b m = All S.n (λ p. passes_bound S (size S.n (SHO (m p) (λ q. sends value (b q)))) ≡ true)
SafeSets S vote b m = All S.n (λ p. passes_bound S (size S.n (SHO (m p) (λ q. sends vote (b q)))) ≡ true)

module _ (S : Setup) (default : ℕ) (ok : acceptable S ≡ true) (b : States) (m : Matrix) (a : States) where
  -- a round of this kind, kept to the predicates
  pub record Taken (k : Kind) : Type 0 where
    pub setup : SetupFor S k
    pub estimates : All S.n (λ p. (a p).estimate ≡ next_estimate S default k (b p) (m p))
    pub votes : All S.n (λ p. (a p).vote ≡ next_vote S k (b p) (m p))
    pub few : All S.n (λ p. size S.n (AHO (m p) (λ q. sends k (b q))) ≤ S.alpha)
    pub safe : SafeSets S k b m

  -- who holds v is who ought to send it, in rounds where estimates are sent
  holders_send : (v : ℕ) → size S.n (holders b v) ≡ size S.n (Q (λ q. sends update (b q)) v)
  unfolding holders Q sends same
  holders_send v = refl

  fires_bound : Taken update → (p v : ℕ) → p < S.n → Fires S update (m p) v → Bound S update b v
  fires_bound t p v h f =
      subst (λ k. passes_e S (k + S.alpha) ≡ true) (sym (holders_send v))
      (backed_e S (m p) (λ q. sends update (b q)) (t.few p h) v f.enough)

  -- A's estimate at p, by whether more than T are heard
  abbrev by_t : ℕ → Bool → ℕ
  by_t p heard_enough =
      cond heard_enough (or_else (smallest S.n (m p) (most_often S.n (m p))) (b p).estimate) (b p).estimate

  -- Lemma 4, at one station: whoever updates takes v, so whoever held v holds it
  takes_v : Taken update → (v : ℕ) → Bound S update b v → (p : ℕ) → p < S.n
      → passes_t S (size S.n (HO (m p))) ≡ true → (a p).estimate ≡ v
  unfolding next_estimate or_else
  takes_v t v bound p h x =
      t.estimates p h
      ∙ ap (by_t p) x
      ∙ ap (λ o. or_else o (b p).estimate)
      (takes_most S (m p) (λ q. sends update (b q)) (t.few p h) ok t.setup v
      (subst (λ k. passes_e S (k + S.alpha) ≡ true) (holders_send v) bound) x)

  kept_v : Taken update → (v : ℕ) → Bound S update b v → (p : ℕ) → p < S.n → (b p).estimate ≡ v → (a p).estimate ≡ v
  unfolding next_estimate
  kept_v t v bound p h e = go (passes_t S (size S.n (HO (m p)))) refl
    where
      go : (x : Bool) → passes_t S (size S.n (HO (m p))) ≡ x → (a p).estimate ≡ v
      go false x = t.estimates p h ∙ ap (by_t p) x ∙ e
      go true x = takes_v t v bound p h x

  more_hold : Taken update → (v : ℕ) → Bound S update b v → size S.n (holders b v) ≤ size S.n (holders a v)
  unfolding holders one
  more_hold t v bound =
      omega (
        arith,
        count_le S.n (holders b v ∷ []) (holders a v ∷ [])
            (λ p h. omega (arith, at p h (holders b v p) refl)),
      )
    where
      at : (p : ℕ) → p < S.n → (x : Bool) → holders b v p ≡ x → one (holders b v p) ≤ one (holders a v p)
      at p h true e =
          let after_too : one (holders a v p) ≡ 1 = ap one
          (eq-eqb (a p).estimate v (kept_v t v bound p h (eqb-true (b p).estimate v e))) in
          omega (arith, one_le (holders b v p))
      at p h false e = let none_before : one (holders b v p) ≡ 0 = ap one e in omega arith

  -- Lemma 8: the votes of a value round name one value
  voted : Taken value → Prepared S value b → (p v : ℕ) → p < S.n → (a p).vote ≡ val v
      → passes_t S (times S.n (m p) v) ≡ true
  unfolding next_vote vote_or_else
  voted t prepared p v h e =
      go (smallest S.n (m p) (λ w. passes_t S (times S.n (m p) w))) refl (sym (t.votes p h) ∙ e)
    where
      go : (o : Option ℕ) → smallest S.n (m p) (λ w. passes_t S (times S.n (m p) w)) ≡ o
          → vote_or_else (smallest S.n (m p) (λ w. passes_t S (times S.n (m p) w))) (b p).vote ≡ val v
          → passes_t S (times S.n (m p) v) ≡ true
      go None o d =
          let z : ◌≡◌ {A = ℕ} 0 1 = cc (ap (λ x. vote_or_else x (b p).vote) o, prepared p h) in absurd (omega arith)
      go (Some w) o d =
          let same_value : w ≡ v = cc (ap (λ x. vote_or_else x (b p).vote) o) in
          subst (λ x. passes_t S (times S.n (m p) x) ≡ true) same_value
          (smallest_some S.n (m p) (λ x. passes_t S (times S.n (m p) x)) w o).passes

  one_vote : Taken value → Prepared S value b → OneValue S.n (λ p. (a p).vote)
  one_vote t prepared p q v w hp hq ep eq =
      agree v w
      (λ apart.
      omega (
        arith,
        senders_apart S.n v w apart (λ x. sends value (b x)),
        backed S (m p) (λ x. sends value (b x)) (t.few p hp) v,
        backed S (m q) (λ x. sends value (b x)) (t.few q hq) w,
        two_pass_t S ok t.setup (times S.n (m p) v) (times S.n (m q) w) (voted t prepared p v hp ep)
            (voted t prepared q w hq eq),
      ))

  all_send : (k : Kind) (v : ℕ) → All S.n (λ q. sends k (b q) ≡ val v)
      → size S.n (Q (λ q. sends k (b q)) v) ≡ S.n
  unfolding Q
  all_send k v all =
      size_all S.n (Q (λ q. sends k (b q)) v) (λ q h. ap (λ x. same x (val v)) (all q h) ∙ same_refl (val v))

  -- Lemma 9: where the votes for v, with alpha, pass E, all take v
  all_adopt : Taken vote → Prepared S vote b → (v : ℕ)
      → passes_e S (size S.n (Q (λ q. sends vote (b q)) v) + S.alpha) ≡ true
      → All S.n (λ p. (a p).estimate ≡ v)
  unfolding next_estimate or_else sends
  all_adopt t prepared v held p h =
      t.estimates p h
      ∙ ap (λ o. or_else o default)
      (adopts S (m p) (λ q. (b q).vote) (t.few p h) ok t.setup v prepared held (t.safe p h))

  true_vote : Taken vote → (p w : ℕ) → p < S.n → Fires S vote (m p) w → (q : ℕ) × (q < S.n) × ((b q).vote ≡ val w)
  unfolding sends
  true_vote t p w h f =
      decided_true S (m p) (λ q. (b q).vote) (t.few p h) ok w
      (backed_e S (m p) (λ q. (b q).vote) (t.few p h) w f.enough)

  -- what each kind of round leaves to the next
  pub prepared_next : (k : Kind) → Taken k → Prepared S k b → Prepared S (follows k) a
  unfolding next_vote
  prepared_next update t prepared = tt
  prepared_next value t prepared = one_vote t prepared
  prepared_next vote t prepared = t.votes

  pub bound_next : (k : Kind) → Taken k → Prepared S k b → (v : ℕ) → Bound S k b v → Bound S (follows k) a v
  unfolding next_estimate next_vote vote_or_else sends
  bound_next update t prepared v bound =
      more_pass_e S (size S.n (holders b v) + S.alpha) (size S.n (holders a v) + S.alpha)
      (omega (arith, more_hold t v bound)) bound
  bound_next value t prepared v bound = (
    λ p h. t.estimates p h ∙ bound p h,
    λ p h.
        t.votes p h
        ∙ ap (λ o. vote_or_else o (b p).vote)
        (votes_for S (m p) ok t.setup (λ q. sends value (b q)) v (all_send value v (λ q g. ap val (bound q g)))
        (t.safe p h)),
  )
  bound_next vote t prepared v bound =
      all_adopt t prepared v
      (subst (λ k. passes_e S (k + S.alpha) ≡ true) (sym (all_send vote v bound.1)) (all_pass_e S ok))

  -- where the stations are bound to v, the rule fires for no other value
  pub bound_fires : (k : Kind) → Taken k → Prepared S k b → (v : ℕ) → Bound S k b v → (p w : ℕ) → p < S.n
      → Fires S k (m p) w → w ≡ v
  unfolding deciding
  bound_fires update t prepared v bound p w h f =
      agree w v
      (λ apart.
      omega (
        arith,
        senders_apart S.n w v apart (λ q. sends update (b q)),
        holders_send v,
        holders_send w,
        two_pass_e S ok (size S.n (holders b w) + S.alpha) (size S.n (holders b v) + S.alpha)
            (fires_bound t p w h f) bound,
      ))
  bound_fires value t prepared v bound p w h f = absurd (false≢true f.rule)
  bound_fires vote t prepared v bound p w h f =
      let true_one = true_vote t p w h f in
      let same_vote : val w ≡ val v = sym true_one.2 ∙ bound.1 true_one.0 true_one.1 in
      cc

  -- where the rule fires for v, the stations are bound to v after the round
  pub fires_next : (k : Kind) → Taken k → Prepared S k b → (p v : ℕ) → p < S.n → Fires S k (m p) v
      → Bound S (follows k) a v
  unfolding deciding
  fires_next update t prepared p v h f = bound_next update t prepared v (fires_bound t p v h f)
  fires_next value t prepared p v h f = absurd (false≢true f.rule)
  fires_next vote t prepared p v h f =
      all_adopt t prepared v (backed_e S (m p) (λ q. sends vote (b q)) (t.few p h) v f.enough)

  -- Lemma 3: in one round the rule fires for one value
  pub fires_once : (k : Kind) → Taken k → Prepared S k b → (p q v w : ℕ) → p < S.n → q < S.n → Fires S k (m p) v
      → Fires S k (m q) w → v ≡ w
  unfolding deciding
  fires_once update t prepared p q v w hp hq f g = bound_fires update t prepared w (fires_bound t q w hq g) p v hp f
  fires_once value t prepared p q v w hp hq f g = absurd (false≢true f.rule)
  fires_once vote t prepared p q v w hp hq f g =
      let mine = true_vote t p v hp f in
      let other = true_vote t q w hq g in
      prepared mine.0 other.0 v w mine.1 other.1 mine.2 other.2

  -- Lemmas 4 and 5: under A whoever updates takes v, where the stations are bound to v or the rule fires for v
  pub bound_takes : (k : Kind) → Taken k → (v : ℕ) → Bound S k b v → S.algorithm ≡ A → (q : ℕ) → q < S.n
      → passes_t S (size S.n (HO (m q))) ≡ true → (a q).estimate ≡ v
  bound_takes update t v bound own q h x = takes_v t v bound q h x
  bound_takes value t v bound own q h x = absurd (a_not_u (sym own ∙ t.setup))
  bound_takes vote t v bound own q h x = absurd (a_not_u (sym own ∙ t.setup))

  pub fires_takes : (k : Kind) → Taken k → (p v : ℕ) → p < S.n → Fires S k (m p) v → S.algorithm ≡ A → (q : ℕ)
      → q < S.n → passes_t S (size S.n (HO (m q))) ≡ true → (a q).estimate ≡ v
  fires_takes update t p v hp f own q h x = takes_v t v (fires_bound t p v hp f) q h x
  fires_takes value t p v hp f own q h x = absurd (a_not_u (sym own ∙ t.setup))
  fires_takes vote t p v hp f own q h x = absurd (a_not_u (sym own ∙ t.setup))

  -- Lemma 8: after a round that starts with a vote for v, an estimate is v or the default
  pub voted_or_default : (k : Kind) → Taken k → Prepared S k b → S.algorithm ≡ U → (p v : ℕ) → p < S.n
      → (b p).vote ≡ val v → (q : ℕ) → q < S.n → ((a q).estimate ≡ v) ⊎ ((a q).estimate ≡ default)
  unfolding next_estimate or_else sends
  voted_or_default update t prepared own p v hp e q h = absurd (a_not_u (sym t.setup ∙ own))
  voted_or_default value t prepared own p v hp e q h =
      let z : ◌≡◌ {A = ℕ} 0 1 = cc (prepared p hp) in absurd (omega arith)
  voted_or_default vote t prepared own p v hp e q h =
      go (smallest S.n (m q) (λ w. vouched S (times S.n (m q) w))) refl
    where
      go : (o : Option ℕ) → smallest S.n (m q) (λ w. vouched S (times S.n (m q) w)) ≡ o
          → ((a q).estimate ≡ v) ⊎ ((a q).estimate ≡ default)
      go None f = inr (t.estimates q h ∙ ap (λ x. or_else x default) f)
      go (Some w) f =
          let vouches = (smallest_some S.n (m q) (λ x. vouched S (times S.n (m q) x)) w f).passes in
          let voter = vouched_true S (m q) (λ x. (b x).vote) (t.few q h) w vouches in
          inl (t.estimates q h ∙ ap (λ x. or_else x default) f
          ∙ prepared voter.0 p w v voter.1 hp voter.2 e)
