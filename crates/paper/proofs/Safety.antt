-- The paper's Propositions 1, 2, 5 and 6 and its Lemmas 5, 8 and 9, for any number of rounds: the stations are bound to
-- the value of the first firing from the end of its round on (OneRound), and a bound run fires for that value alone. By
-- induction on the rounds.
use mathlib.Core.Path.{◌≡◌, refl, ap, sym, ◌∙◌, subst}
use mathlib.Core.Bool.{Bool, true, false, cond}
use mathlib.Core.List.Memᴰ
use mathlib.Core.List.{List, [], ◌∷◌}
use mathlib.Core.Logic.{◌⊎◌, inl, inr, ⊎_elim}
use Prim.Native.Nat.{ℕ, suc, ◌+◌, ◌%◌, ◌≤◌, ◌<◌}
use native.Mathlib.Nat.{le_refl}
use native.Mathlib.Decide.{dec_le}
use native.Mathlib.Omega.{arith}
use lib.Dec.{eqb}
use borrow.Author.Tests.{eqb-true, eqb-false, eq-eqb, ne_eqb}
use Rattle.paper.specs.Stations.{size, All}
use Rattle.paper.specs.Heard.{Matrix, HO, SHO, AHO}
use Rattle.paper.specs.Setup.{Algorithm, A, U, Setup, acceptable, passes_t, passes_e, tolerated, passes_bound}
use Rattle.paper.specs.Rules.{Station, Kind, update, value, vote, kind_of, sends}
use Rattle.paper.specs.Run.{States, opened, Turn, Next, Rounds, Run, kind, sent, PAlpha, PSafe, Safe, FiresAt}
use Rattle.paper.specs.Safety.{◌among◌, holders, LockedFor, Locked, Lawful, Agreement, Lock, Integrity}
use Rattle.paper.specs.Safety.{Lemma5, Lemma8Votes, Lemma8Estimates, Lemma9}
use Rattle.paper.proofs.Counting.{size_all, size_cong}
use Rattle.paper.proofs.Thresholds.{tolerated_iff, all_pass_e}
use Rattle.paper.proofs.After.{after_estimate, after_vote}
use Rattle.paper.proofs.Receives.{OneValue}
use Rattle.paper.proofs.Rounds.{numbered, starts_there, fires_in}
use Rattle.paper.proofs.OneRound.{follows, Prepared, Bound, SetupFor, SafeSets, Taken, prepared_next, bound_next}
use Rattle.paper.proofs.OneRound.{bound_fires, fires_next, fires_once, bound_takes, fires_takes}
use Rattle.paper.proofs.OneRound.{voted_or_default}

-- rule 9.1: under U the two kinds of round take turns
pub kind_follows : (a : Algorithm) (r : ℕ) → kind_of a (suc r) ≡ follows (kind_of a r)
unfolding kind_of
kind_follows A r = refl
kind_follows U r = go (eqb (r % 2) 0) refl
  where
    go : (x : Bool) → eqb (r % 2) 0 ≡ x → cond (eqb (suc r % 2) 0) vote value ≡ follows (cond x vote value)
    go true e = let even : r % 2 ≡ 0 = eqb-true (r % 2) 0 e in rw (ne_eqb (suc r % 2) 0 (λ d. omega arith))
    go false e = let odd = eqb-false (r % 2) 0 e in rw (eq-eqb (suc r % 2) 0 (omega arith))

module _ (S : Setup) (default : ℕ) (ok : acceptable S ≡ true) where
  -- the kind of the round after k others
  abbrev next_kind : ℕ → Kind
  next_kind k = kind_of S.algorithm (suc k)

  -- what is believed of the states s after k rounds
  abbrev PreparedAt : ℕ → States → Type 0
  PreparedAt k s = Prepared S (next_kind k) s

  abbrev BoundAt : ℕ → States → ℕ → Type 0
  BoundAt k s v = Bound S (next_kind k) s v

  -- the two predicates at one receiver, in round r of an algorithm
  abbrev FewAt : ℕ → States → Matrix → ℕ → Type 0
  FewAt r b m p = tolerated S (size S.n (AHO (m p) (λ q. sends (kind_of S.algorithm r) (b q)))) ≡ true

  abbrev LargeAt : Algorithm → ℕ → States → Matrix → ℕ → Type 0
  LargeAt a r b m p = passes_bound S (size S.n (SHO (m p) (λ q. sends (kind_of a r) (b q)))) ≡ true

  setup_for : (k : ℕ) → SetupFor S (next_kind k)
  unfolding kind_of
  setup_for k = go S.algorithm refl
    where
      under_u : S.algorithm ≡ U → (x : Bool) → SetupFor S (cond x vote value)
      under_u own true = own
      under_u own false = own

      go : (a : Algorithm) → S.algorithm ≡ a → SetupFor S (kind_of a (suc k))
      go A own = own
      go U own = under_u own (eqb (suc k % 2) 0)

  -- U's predicate at a round, as the kind of the round has it
  safe_sets : (a : Algorithm) (r : ℕ) (b : States) (m : Matrix) → (a ≡ U → All S.n (λ p. LargeAt a r b m p))
      → SafeSets S (kind_of a r) b m
  unfolding kind_of
  safe_sets A r b m large = tt
  safe_sets U r b m large = go (eqb (r % 2) 0) (large refl)
    where
      go : (x : Bool)
          → All S.n (λ p. passes_bound S (size S.n (SHO (m p) (λ q. sends (cond x vote value) (b q)))) ≡ true)
          → SafeSets S (cond x vote value) b m
      go true all = all
      go false all = all

  -- a round of the run, kept to the predicates, is one that OneRound speaks of
  taken : {k : ℕ} {s : States} {t : Turn} → Next S default k s t → Safe S t
      → Taken S default ok t.before t.heard t.after (next_kind k)
  unfolding PAlpha PSafe sent kind
  taken {k} {s} {t} st safe =
      record {
        setup = setup_for k;
        estimates =
            λ p h. ap (λ (x : Station). x.estimate) (st.by_rule p h)
            ∙ after_estimate S default (suc k) (t.before p) (t.heard p);
        votes =
            λ p h. ap (λ (x : Station). x.vote) (st.by_rule p h)
            ∙ after_vote S default (suc k) (t.before p) (t.heard p);
        few =
            λ p h. (tolerated_iff S _).0
            (subst (λ r. FewAt r t.before t.heard p) st.counted (safe.few_altered p h));
        safe =
            safe_sets S.algorithm (suc k) t.before t.heard
            (λ e p h. subst (λ r. LargeAt S.algorithm r t.before t.heard p) st.counted
            (safe.enough_safe e p h));
      }

  -- what is believed of the states where a round ended is believed of the states where the next one starts
  prepared_from : (k : Kind) (s b : States) → All S.n (λ p. b p ≡ s p) → Prepared S k s → Prepared S k b
  prepared_from update s b same prepared = tt
  prepared_from value s b same prepared = λ p h. ap (λ (x : Station). x.vote) (same p h) ∙ prepared p h
  prepared_from vote s b same prepared =
      λ p q v w hp hq ep eq. prepared p q v w hp hq (sym (ap (λ (x : Station). x.vote) (same p hp)) ∙ ep)
      (sym (ap (λ (x : Station). x.vote) (same q hq)) ∙ eq)

  bound_from : (k : Kind) (s b : States) → All S.n (λ p. b p ≡ s p) → (v : ℕ) → Bound S k s v → Bound S k b v
  unfolding holders
  bound_from update s b same v bound =
      subst (λ (k : ℕ). passes_e S (k + S.alpha) ≡ true)
      (size_cong S.n (holders s v) (holders b v)
      (λ p h. ap (λ (x : Station). eqb x.estimate v) (sym (same p h)))) bound
  bound_from value s b same v bound = λ p h. ap (λ (x : Station). x.estimate) (same p h) ∙ bound p h
  bound_from vote s b same v bound = (
    λ p h. ap (λ (x : Station). x.estimate) (same p h)
        ∙ bound.0 p h,
    λ p h. ap (λ (x : Station). x.vote) (same p h) ∙ bound.1 p h,
  )

  -- a bound run is a locked one
  locked : (k : ℕ) (s : States) (v : ℕ) → BoundAt k s v → Locked S s v
  unfolding Locked LockedFor kind_of
  locked k s v = go S.algorithm
    where
      under_u : (x : Bool) → Bound S (cond x vote value) s v → All S.n (λ p. (s p).estimate ≡ v)
      under_u true bound = bound.0
      under_u false bound = bound

      go : (a : Algorithm) → Bound S (kind_of a (suc k)) s v → LockedFor a S s v
      go A bound = bound
      go U bound = under_u (eqb (suc k % 2) 0) bound

  -- under A whoever updates in this round takes v
  abbrev Updates : ℕ → Turn → Type 0
  Updates v t =
      S.algorithm ≡ A → (q : ℕ) → q < S.n → passes_t S (size S.n (HO (t.heard q))) ≡ true
      → (t.after q).estimate ≡ v

  -- a round t, as the induction meets it: where it starts, where it leads, and what may fire in it
  module _ {k : ℕ} {s : States} {t : Turn} (st : Next S default k s t) (safe : Safe S t) (ready : PreparedAt k s) where
    prepared_here : Prepared S (next_kind k) t.before
    prepared_here = prepared_from (next_kind k) s t.before st.from ready

    prepared_after : PreparedAt (suc k) t.after
    prepared_after =
        subst (λ (x : Kind). Prepared S x t.after) (sym (kind_follows S.algorithm (suc k)))
        (prepared_next S default ok t.before t.heard t.after (next_kind k) (taken st safe) prepared_here)

    after_bound : (v : ℕ) → Bound S (follows (next_kind k)) t.after v → BoundAt (suc k) t.after v
    after_bound v bound = subst (λ (x : Kind). Bound S x t.after v) (sym (kind_follows S.algorithm (suc k))) bound

    fired_bound : (p v : ℕ) → p < S.n → FiresAt S t p v → BoundAt (suc k) t.after v
    fired_bound p v h f =
        after_bound v
        (fires_next S default ok t.before t.heard t.after (next_kind k) (taken st safe) prepared_here p v h
        ((fires_in S default st p v).0 f))

    fired_once : (p q v w : ℕ) → p < S.n → q < S.n → FiresAt S t p v → FiresAt S t q w → v ≡ w
    fired_once p q v w hp hq f g =
        fires_once S default ok t.before t.heard t.after (next_kind k)
        (taken st safe) prepared_here p q v w hp hq
        ((fires_in S default st p v).0 f) ((fires_in S default st q w).0 g)

    fired_updates : (p v : ℕ) → p < S.n → FiresAt S t p v → Updates v t
    fired_updates p v h f =
        fires_takes S default ok t.before t.heard t.after (next_kind k) (taken st safe) p v h
        ((fires_in S default st p v).0 f)

    module _ (v : ℕ) (bound : BoundAt k s v) where
      bound_here : Bound S (next_kind k) t.before v
      bound_here = bound_from (next_kind k) s t.before st.from v bound

      still_bound : BoundAt (suc k) t.after v
      still_bound =
          after_bound v
          (bound_next S default ok t.before t.heard t.after (next_kind k)
          (taken st safe) prepared_here v bound_here)

      bound_updates : Updates v t
      bound_updates own q h x =
          bound_takes S default ok t.before t.heard t.after (next_kind k)
          (taken st safe) v bound_here own q h x

      bound_value : (p w : ℕ) → p < S.n → FiresAt S t p w → w ≡ v
      bound_value p w h f =
          bound_fires S default ok t.before t.heard t.after (next_kind k)
          (taken st safe) prepared_here v bound_here p w h
          ((fires_in S default st p w).0 f)

  abbrev AllSafe : List Turn → Type 0
  AllSafe ts = (t : Turn) → t among ts → Safe S t

  -- what a value binds: the stations after the round u are locked to it, nothing else fires in u, and nobody updates to
  -- anything else
  abbrev Binds : ℕ → Turn → Type 0
  Binds v u = Locked S u.after v × ((q w : ℕ) → q < S.n → FiresAt S u q w → w ≡ v) × Updates v u

  bound_run : (ts : List Turn) (k : ℕ) (s : States) → Rounds S default k s ts → AllSafe ts → PreparedAt k s → (v : ℕ)
      → BoundAt k s v
      → (u : Turn) → u among ts → Binds v u
  unfolding Rounds
  bound_run [] k s run safe prepared v bound u i = absurd (Memᴰ.not-nil i)
  bound_run (t ∷ ts) k s run safe prepared v bound u i =
      let here : Safe S t = safe t (Memᴰ.head refl) in
      let on : BoundAt (suc k) t.after v = still_bound run.0 here prepared v bound in
      ⊎_elim
      (λ e. subst (λ (x : Turn). Binds v x) (sym e) (
        locked (suc k) t.after v on,
        bound_value run.0 here prepared v bound,
        bound_updates run.0 here prepared v bound,
      ))
      (bound_run ts (suc k) t.after run.1 (λ x j. safe x (Memᴰ.tail j))
      (prepared_after run.0 here prepared) v on u) (Memᴰ.cases_cons i)

  -- from the round t in which it fires for v on, v binds
  fired_run : (ts : List Turn) (k : ℕ) (s : States) → Rounds S default k s ts → AllSafe ts → PreparedAt k s
      → (t u : Turn) (p v : ℕ)
      → t among ts → u among ts → t.number ≤ u.number → p < S.n → FiresAt S t p v → Binds v u
  unfolding Rounds
  fired_run [] k s run safe prepared t u p v i j order h f = absurd (Memᴰ.not-nil i)
  fired_run (x ∷ ts) k s run safe prepared t u p v i j order h f =
      ⊎_elim (λ e. at_head (subst (λ (y : Turn). FiresAt S y p v) e f) (Memᴰ.cases_cons j))
      (λ i'.
      ⊎_elim
      (λ e. absurd (omega (
        arith,
        order,
        ap (λ (y : Turn). y.number) e,
        run.0.counted,
        numbered S default ts (suc k)
            x.after run.1 t i',
      )))
      (λ j'. fired_run ts (suc k) x.after run.1 later
      (prepared_after run.0 here prepared) t u p v i' j' order h f) (Memᴰ.cases_cons j))
      (Memᴰ.cases_cons i)
    where
      here : Safe S x
      here = safe x (Memᴰ.head refl)

      later : AllSafe ts
      later y m = safe y (Memᴰ.tail m)

      at_head : FiresAt S x p v → (u ≡ x) ⊎ (u among ts) → Binds v u
      at_head g (inl e) =
          subst (λ (y : Turn). Binds v y) (sym e) (
            locked (suc k) x.after v (fired_bound run.0 here prepared p v h g),
            λ q w hq d. fired_once run.0 here prepared q p w v hq h d g,
            fired_updates run.0 here prepared p v h g,
          )
      at_head g (inr m) =
          bound_run ts (suc k) x.after run.1 later (prepared_after run.0 here prepared) v
          (fired_bound run.0 here prepared p v h g) u m

  -- a round of the run: the rounds before it, the states that they left, and what is believed of those
  record Met (u : Turn) : Type 0 where
    rounds_before : ℕ
    states : States
    next : Next S default rounds_before states u
    safe : Safe S u
    ready : PreparedAt rounds_before states

  met : (ts : List Turn) (k : ℕ) (s : States) → Rounds S default k s ts → AllSafe ts → PreparedAt k s → (u : Turn)
      → u among ts
      → Met u
  unfolding Rounds
  met [] k s run safe prepared u i = absurd (Memᴰ.not-nil i)
  met (t ∷ ts) k s run safe prepared u i =
      let here : Safe S t = safe t (Memᴰ.head refl) in
      ⊎_elim
      (λ e. subst (λ (x : Turn). Met x) (sym e)
      (record { rounds_before = k; states = s; next = run.0; safe = here; ready = prepared }))
      (met ts (suc k) t.after run.1 (λ x j. safe x (Memᴰ.tail j)) (prepared_after run.0 here prepared) u)
      (Memᴰ.cases_cons i)

  -- under U the votes that stand between two rounds name one value: "?" alone before a value round
  votes_agree : S.algorithm ≡ U → (k : ℕ) (s : States) → PreparedAt k s → OneValue S.n (λ p. (s p).vote)
  unfolding kind_of
  votes_agree own k s ready =
      go (eqb (suc k % 2) 0) (subst (λ (a : Algorithm). Prepared S (kind_of a (suc k)) s) own ready)
    where
      go : (x : Bool) → Prepared S (cond x vote value) s → OneValue S.n (λ p. (s p).vote)
      go true one_value = one_value
      go false blank =
          λ p q v w hp hq e d. let z : ◌≡◌ {A = ℕ} 0 1 = cc (blank p hp) in absurd (omega arith)

  -- a run starts prepared, and bound where all starts are one value
  prepared_start : (starts : ℕ → ℕ) → PreparedAt 0 (opened starts)
  unfolding opened kind_of
  prepared_start starts = go S.algorithm
    where
      go : (a : Algorithm) → Prepared S (kind_of a 1) (opened starts)
      go A = tt
      go U = λ p h. refl

  bound_start : (starts : ℕ → ℕ) (v : ℕ) → All S.n (λ p. starts p ≡ v) → BoundAt 0 (opened starts) v
  unfolding opened kind_of holders
  bound_start starts v all = go S.algorithm
    where
      everybody : size S.n (holders (opened starts) v) ≡ S.n
      everybody = size_all S.n (holders (opened starts) v) (λ p h. eq-eqb (starts p) v (all p h))

      go : (a : Algorithm) → Bound S (kind_of a 1) (opened starts) v
      go A = subst (λ (k : ℕ). passes_e S (k + S.alpha) ≡ true) (sym everybody) (all_pass_e S ok)
      go U = all

  module _ (starts : ℕ → ℕ) (ts : List Turn) (run : Run S default starts ts) (safe : AllSafe ts) where
    one_value : Agreement S ts
    unfolding Agreement Run
    one_value t u p q v w i j hp hq f g = go (dec_le t.number u.number)
      where
        go : Dec (t.number ≤ u.number) → v ≡ w
        go (yes le) =
            sym ((fired_run ts 0 (opened starts) run safe (prepared_start starts) t u p v i j le hp f).1 q w hq g)
        go (no gt) =
            (fired_run ts 0 (opened starts) run safe (prepared_start starts) u t q w j i (omega arith) hq g).1 p v hp f

    stays_locked : Lock S ts
    unfolding Lock Run
    stays_locked t u p v i j order h f =
        (fired_run ts 0 (opened starts) run safe (prepared_start starts) t u p v i j order h f).0

    met_in : (u : Turn) → u among ts → Met u
    unfolding Run
    met_in = met ts 0 (opened starts) run safe (prepared_start starts)

    updates_to : Lemma5 S ts
    unfolding Lemma5 Run
    updates_to own t u p q v i j order hp hq f enough =
        (fired_run ts 0 (opened starts) run safe (prepared_start starts) t u p v i j order hp f).2 own q hq enough

    one_vote_left : Lemma8Votes S ts
    unfolding Lemma8Votes
    one_vote_left own t p q v w i hp hq e d =
        let m = met_in t i in
        votes_agree own (suc m.rounds_before) t.after
        (prepared_after m.next m.safe m.ready) p q v w hp hq e d

    vote_or_default : Lemma8Estimates S default ts
    unfolding Lemma8Estimates Run
    vote_or_default own t u p q v i j next hp hq e =
        let m = met_in u j in
        let there = starts_there S default ts 0 (opened starts) run t u i j next p hp in
        voted_or_default S default ok u.before u.heard u.after (next_kind m.rounds_before)
        (taken m.next m.safe) (prepared_here m.next m.safe m.ready) own p v hp
        (ap (λ (x : Station). x.vote) there ∙ e) q hq

    all_take : Lemma9 S ts
    unfolding Lemma9 Lock Locked LockedFor
    all_take own t p q v i hp hq f =
        subst (λ (a : Algorithm). LockedFor a S t.after v) own
        (stays_locked t t p v i i (le_refl t.number) hp f) q hq

    only_start : Integrity S starts ts
    unfolding Integrity Run
    only_start v all t p w i h f =
        (bound_run ts 0 (opened starts) run safe (prepared_start starts) v (bound_start starts v all) t i).1 p w h f

module _ (S : Setup) (default : ℕ) (starts : ℕ → ℕ) (ts : List Turn) (lawful : Lawful S default starts ts) where
  -- (a) wherever the decide rule fires, it names one value
  pub agreement : Agreement S ts
  agreement = one_value S default lawful.setup starts ts lawful.rounds lawful.safe

  -- (b) from the end of that round on the stations are locked to it
  pub lock : Lock S ts
  lock = stays_locked S default lawful.setup starts ts lawful.rounds lawful.safe

  -- (c) if all start with one value, no other is decided
  pub integrity : Integrity S starts ts
  integrity = only_start S default lawful.setup starts ts lawful.rounds lawful.safe

  -- the lemmas
  pub lemma_5 : Lemma5 S ts
  lemma_5 = updates_to S default lawful.setup starts ts lawful.rounds lawful.safe

  pub lemma_8_votes : Lemma8Votes S ts
  lemma_8_votes = one_vote_left S default lawful.setup starts ts lawful.rounds lawful.safe

  pub lemma_8_estimates : Lemma8Estimates S default ts
  lemma_8_estimates = vote_or_default S default lawful.setup starts ts lawful.rounds lawful.safe

  pub lemma_9 : Lemma9 S ts
  lemma_9 = all_take S default lawful.setup starts ts lawful.rounds lawful.safe
