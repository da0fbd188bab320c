-- What the rules of specs/Rules.antt do, told from outside: by how often values came, and by which counts pass. What
-- `smallest` and `most_often` find is proved already, and that one value at most passes T, or E (Passing).
use mathlib.Core.Path.{◌≡◌, refl, sym, ap, ap₂, ◌∙◌, fun_ext}
use mathlib.Core.Bool.{◌&&◌, Bool, true, false, cond, false≢true}
use Rattle.std.specs.Prelude.{Option, None, Some}
use Rattle.std.proofs.lemmas.Option.{none-some, same_Some}
use mathlib.Core.Logic.{◌↔◌, ◌≢◌, ◌⊎◌, inl, inr, ⊎_elim}
use Prim.Native.Nat.{ℕ, zero, suc, ◌≤◌, ◌<◌}
use native.Mathlib.Nat.{le_refl}
use native.Mathlib.Omega.{arith}
use lib.Dec.{leb}
use Rattle.paper.specs.Stations.{All, size, every}
use Rattle.paper.specs.Heard.{val, query, Cell, lost, heard, Row, arrived, holds, HO, R}
use Rattle.paper.specs.Setup.{Setup, U, acceptable, passes_t, passes_e, vouched}
use Rattle.paper.specs.Rules.{Station, Kind, update, value, vote, times, candidate, smaller, smallest, no_oftener}
use Rattle.paper.specs.Rules.{most_often, or_else, vote_or_else, over_e, next_estimate, next_vote, deciding}
use Rattle.paper.specs.Rules.{Fires, fired}
use Rattle.paper.proofs.Counting.{size_member, size_cong}
use Rattle.paper.proofs.Smallest.{Least, smallest_some}
use Rattle.paper.proofs.MostOften.{Received, came, most_often_iff, most_often_all, most_often_found}
use Rattle.paper.proofs.Passing.{Lowest, lowest_iff, lowest_found, none_passes, passing_iff, one_passes_t}
use Rattle.paper.proofs.Passing.{one_passes_e}
use Rattle.paper.proofs.Thresholds.{vouched_iff, passed_t}
use Rattle.paper.proofs.Decisions.{fired_fires}

-- received, at least as often as any value, and smaller than any other that came as often
pub record Commonest (n : ℕ) (row : Row) (v : ℕ) : Type 0 where
  pub received : Received n row v
  pub oftenest : (w : ℕ) → times n row w ≤ times n row v
  pub first : (w : ℕ) → times n row w ≡ times n row v → v ≤ w

commonest : (n : ℕ) (row : Row) (v : ℕ) → smallest n row (most_often n row) ≡ Some v → Commonest n row v
commonest n row v e =
    let l : Least n row (most_often n row) v = smallest_some n row (most_often n row) v e in
    let r : Received n row v = (l.from, l.below, l.heard_there) in
    record {
      received = r;
      oftenest = most_often_all n row v l.passes;
      first =
          λ w t.
          let s : Received n row w = (came n row w).0 (omega (arith, (came n row v).1 r)) in
          l.least s.0 w s.1 s.2
          ((most_often_iff n row w).1 (λ u h. omega (arith, most_often_all n row v l.passes u)));
    }

module _ (S : Setup) (default : ℕ) (s : Station) (row : Row) where
  -- A, more than T heard, a value among them: the new estimate is the commonest value
  pub a_updates : (w : ℕ) → passes_t S (size S.n (HO row)) ≡ true → Received S.n row w
      → Commonest S.n row (next_estimate S default update s row)
  unfolding next_estimate
  a_updates w enough r =
      let (v, e) = most_often_found S.n row w r in
      rw (enough, e) (commonest S.n row v e)

  -- more than T heard and no "?" among it: there is a value
  pub a_has_value : acceptable S ≡ true → passes_t S (size S.n (HO row)) ≡ true
      → ((q : ℕ) → q < S.n → row q ≢ heard query)
      → (w : ℕ) × Received S.n row w
  unfolding HO arrived
  a_has_value ok enough no_query =
      let m = size_member S.n (HO row) (passed_t S ok (size S.n (HO row)) enough) in
      go (row m.0) m.0 m.1 refl m.2
    where
      go : (c : Cell) (q : ℕ) → q < S.n → row q ≡ c → arrived (row q) ≡ true → (w : ℕ) × Received S.n row w
      go lost q h e a = absurd (false≢true (rw e at a))
      go (heard query) q h e a = absurd (no_query q h e)
      go (heard (val w)) q h e a = (w, (q, h, e))

  -- A, no more than T heard: the estimate stays
  pub a_stays : passes_t S (size S.n (HO row)) ≡ false → next_estimate S default update s row ≡ s.estimate
  unfolding next_estimate
  a_stays few = rw few

module _ (S : Setup) (default : ℕ) (s : Station) (row : Row) where
  vouched_positive : (k : ℕ) → vouched S k ≡ true → 0 < k
  vouched_positive k e = omega (arith, (vouched_iff S k).0 e)

  -- U, a vote round in which a value has at least alpha + 1 votes: the new estimate is the smallest such value
  pub u_takes_vouched : (w : ℕ) → vouched S (times S.n row w) ≡ true
      → Lowest S.n row (vouched S) (next_estimate S default vote s row)
  unfolding next_estimate or_else
  u_takes_vouched w enough =
      let (v, e) = lowest_found S.n row (vouched S) vouched_positive w enough in
      rw e ((lowest_iff S.n row (vouched S) vouched_positive v).0 e)

  -- a vote round in which no value has: it is the default
  pub u_takes_default : ((w : ℕ) → vouched S (times S.n row w) ≡ false)
      → next_estimate S default vote s row ≡ default
  unfolding next_estimate or_else
  u_takes_default few = rw (none_passes S.n row (vouched S) few)

  -- a value round leaves the estimate
  pub u_value_keeps : next_estimate S default value s row ≡ s.estimate
  unfolding next_estimate
  u_value_keeps = refl

-- U, a value round from "?": the vote becomes v exactly if more than T received values equal v
pub u_votes : (S : Setup) → acceptable S ≡ true → S.algorithm ≡ U → (s : Station) (row : Row) (v : ℕ) → s.vote ≡ query
    → (next_vote S value s row ≡ val v) ↔ (passes_t S (times S.n row v) ≡ true)
unfolding next_vote vote_or_else
u_votes S ok own s row v blank =
    let iff = passing_iff S.n row (passes_t S) (one_passes_t S row ok own) v in
    (λ e. iff.0 (go (smallest S.n row (λ u. passes_t S (times S.n row u))) e), λ more. rw (iff.1 more))
  where
    go : (a : Option ℕ) → vote_or_else a s.vote ≡ val v → a ≡ Some v
    go None e = cc
    go (Some w) e = cc

-- and is "?" after every vote round
pub u_vote_cleared : (S : Setup) (s : Station) (row : Row) → next_vote S vote s row ≡ query
unfolding next_vote
u_vote_cleared S s row = refl

-- the decide rule fires for v exactly if it is in force and more than E received values equal v
pub fires_iff : (S : Setup) (k : Kind) (row : Row) (v : ℕ)
    → Fires S k row v ↔ ((deciding k ≡ true) × (passes_e S (times S.n row v) ≡ true))
fires_iff S k row v = (λ f. (f.rule, f.enough), λ p. record { rule = p.0; enough = p.1 })

-- and `fired` names that v
pub fired_iff : (S : Setup) → acceptable S ≡ true → (k : Kind) (row : Row) (v : ℕ)
    → (fired S k row ≡ Some v) ↔ Fires S k row v
unfolding fired
fired_iff S ok k row v = (
  fired_fires S k row v,
  λ f. rw f.rule
      ((passing_iff S.n row (passes_e S) (one_passes_e S row ok) v).1 f.enough),
)

-- a row with no value in it: nothing fires, no vote is cast, and A's estimate stays
module _ (S : Setup) (row : Row) (no_value : (w : ℕ) → ¬ Received S.n row w) where
  finds_nothing : (test : ℕ → Bool) → smallest S.n row test ≡ None
  finds_nothing test = go (smallest S.n row test) refl
    where
      go : (a : Option ℕ) → smallest S.n row test ≡ a → a ≡ None
      go None e = refl
      go (Some v) e =
          let l = smallest_some S.n row test v e in absurd (no_value v (l.from, l.below, l.heard_there))

  pub no_value_no_firing : (k : Kind) → fired S k row ≡ None
  unfolding fired over_e
  no_value_no_firing k = go (deciding k)
    where
      go : (b : Bool) → cond b (over_e S row) None ≡ None
      go true = finds_nothing _
      go false = refl

  pub no_value_no_vote : (s : Station) → next_vote S value s row ≡ s.vote
  unfolding next_vote vote_or_else
  no_value_no_vote s = ap (λ a. vote_or_else a s.vote) (finds_nothing _)

  pub no_value_a_stays : (default : ℕ) (s : Station) → next_estimate S default update s row ≡ s.estimate
  unfolding next_estimate or_else
  no_value_a_stays default s =
      rw (finds_nothing (most_often S.n row)) (same_branches (passes_t S (size S.n (HO row))) s.estimate)
    where
      same_branches : (b : Bool) (x : ℕ) → cond b x x ≡ x
      same_branches true x = refl
      same_branches false x = refl

-- a station holds a value it received, the one it held before, or the default: never a "?", and nothing of its own
-- making
found_or : (n : ℕ) (row : Row) (test : ℕ → Bool) (x y : ℕ) → or_else (smallest n row test) x ≡ y
    → Received n row y ⊎ (y ≡ x)
unfolding or_else
found_or n row test x y e = go (smallest n row test) refl e
  where
    go : (a : Option ℕ) → smallest n row test ≡ a → or_else a x ≡ y → Received n row y ⊎ (y ≡ x)
    go None f e = inr (sym e)
    go (Some v) f e =
        let l = smallest_some n row test v f in
        inl (l.from, l.below, l.heard_there ∙ ap (λ u. heard (val u)) e)

pub estimate_from : (S : Setup) (default : ℕ) (k : Kind) (s : Station) (row : Row) (x : ℕ)
    → next_estimate S default k s row ≡ x
    → Received S.n row x ⊎ (x ≡ s.estimate) ⊎ (x ≡ default)
unfolding next_estimate
estimate_from S default update s row x e = go (passes_t S (size S.n (HO row))) e
  where
    go : (b : Bool) → cond b (or_else (smallest S.n row (most_often S.n row)) s.estimate) s.estimate ≡ x
        → Received S.n row x ⊎ (x ≡ s.estimate) ⊎ (x ≡ default)
    go true e = ⊎_elim inl (λ kept. inr (inl kept)) (found_or S.n row (most_often S.n row) s.estimate x e)
    go false e = inr (inl (sym e))
estimate_from S default value s row x e = inr (inl (sym e))
estimate_from S default vote s row x e = ⊎_elim inl (λ kept. inr (inr kept)) (found_or S.n row _ default x e)

-- the value in a cell, if it has one
unfoldable pub value_in : Cell → Option ℕ
value_in lost = None
value_in (heard query) = None
value_in (heard (val v)) = Some v

-- the rows have the same values in the same places; they may differ in where one has lost and the other "?"
abbrev pub Alike : ℕ → Row → Row → Type 0
Alike n row other = All n (λ q. value_in (row q) ≡ value_in (other q))

-- what is the same for lost and for "?" goes by the value alone
by_value : {X : Type 0} (f : Cell → X) → f lost ≡ f (heard query) → (c d : Cell) → value_in c ≡ value_in d → f c ≡ f d
unfolding value_in
by_value f e lost lost p = refl
by_value f e lost (heard query) p = e
by_value f e (heard query) lost p = sym e
by_value f e (heard query) (heard query) p = refl
by_value f e lost (heard (val w)) p = absurd (none-some w p)
by_value f e (heard query) (heard (val w)) p = absurd (none-some w p)
by_value f e (heard (val v)) lost p = absurd (none-some v (sym p))
by_value f e (heard (val v)) (heard query) p = absurd (none-some v (sym p))
by_value f e (heard (val v)) (heard (val w)) p = ap (λ u. f (heard (val u))) (same_Some v w p)

-- what starts the same, and stays the same from each station below n to the next, is the same at n
up_to : {X : Type 0} (n : ℕ) (f g : ℕ → X) → f 0 ≡ g 0 → All n (λ q. f q ≡ g q → f (suc q) ≡ g (suc q)) → f n ≡ g n
up_to zero f g start step = start
up_to (suc n) f g start step = step n (le_refl (suc n)) (up_to n f g start (λ q h. step q (omega arith)))

-- a lost cell counts for no more than a "?", and neither for a value: alike rows have the same counts and the same
-- smallest values
module _ (n : ℕ) (row other : Row) (alike : Alike n row other) where
  pub times_alike : times n row ≡ times n other
  unfolding times R holds
  times_alike =
      fun_ext
      (λ v.
      size_cong n (R row v) (R other v)
      (λ q h. by_value (λ c. holds c (val v)) refl (row q) (other q) (alike q h)))

  pub smallest_alike : (test : ℕ → Bool) → smallest n row test ≡ smallest n other test
  unfolding smallest
  smallest_alike test =
      up_to n (λ m. smallest m row test) (λ m. smallest m other test) refl
      (λ q h e. ap₂ smaller e (by_value (candidate test) refl (row q) (other q) (alike q h)))

  no_oftener_alike : (v : ℕ) (c : Cell) → no_oftener n row (times n row v) c ≡ no_oftener n other (times n other v) c
  unfolding no_oftener
  no_oftener_alike v lost = refl
  no_oftener_alike v (heard query) = refl
  no_oftener_alike v (heard (val w)) = ap (λ f. leb (f w) (f v)) times_alike

  pub most_often_alike : most_often n row ≡ most_often n other
  unfolding most_often every
  most_often_alike =
      fun_ext
      (λ v.
      up_to n (λ m. every m (λ q. no_oftener n row (times n row v) (row q)))
      (λ m. every m (λ q. no_oftener n other (times n other v) (other q))) refl
      (λ q h e.
      ap₂ ◌&&◌ e
      (by_value (no_oftener n row (times n row v)) refl (row q) (other q) (alike q h) ∙ no_oftener_alike v (other q))))

-- so they bring the same vote and the same firing, the same estimate in a vote round, and under A where as many are
-- heard
module _ (S : Setup) (row other : Row) (alike : Alike S.n row other) where
  passing_alike : (pass : ℕ → Bool)
      → smallest S.n row (λ v. pass (times S.n row v)) ≡ smallest S.n other (λ v. pass (times S.n other v))
  passing_alike pass =
      smallest_alike S.n row other alike _
      ∙ ap (λ f. smallest S.n other (λ v. pass (f v))) (times_alike S.n row other alike)

  pub next_vote_alike : (k : Kind) (s : Station) → next_vote S k s row ≡ next_vote S k s other
  unfolding next_vote
  next_vote_alike update s = refl
  next_vote_alike value s = ap (λ a. vote_or_else a s.vote) (passing_alike (passes_t S))
  next_vote_alike vote s = refl

  pub fired_alike : (k : Kind) → fired S k row ≡ fired S k other
  unfolding fired
  fired_alike k = ap (λ a. cond (deciding k) a None) (passing_alike (passes_e S))

  pub next_estimate_alike : (default : ℕ) (k : Kind) (s : Station)
      → (k ≡ update → size S.n (HO row) ≡ size S.n (HO other))
      → next_estimate S default k s row ≡ next_estimate S default k s other
  unfolding next_estimate
  next_estimate_alike default update s as_many =
      ap₂ (λ h a. cond (passes_t S h) (or_else a s.estimate) s.estimate) (as_many refl)
      (smallest_alike S.n row other alike (most_often S.n row)
      ∙ ap (smallest S.n other) (most_often_alike S.n row other alike))
  next_estimate_alike default value s as_many = refl
  next_estimate_alike default vote s as_many = ap (λ a. or_else a default) (passing_alike (vouched S))
