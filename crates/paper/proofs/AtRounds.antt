-- What a station sends in round r, and what `after` makes of it there, told by the number of the round: A's rounds are
-- all alike, U has value rounds at odd numbers and vote rounds at even ones (rule 9.1). Each law is one of Pins at the
-- kind of that round.
use mathlib.Core.Path.{◌≡◌, refl, ap, sym, ◌∙◌, subst}
use mathlib.Core.Bool.{Bool, true, false, cond}
use Rattle.std.specs.Prelude.{Option, None, Some}
use mathlib.Core.Logic.{◌↔◌}
use Prim.Native.Nat.{ℕ, suc, ◌%◌}
use native.Mathlib.Omega.{arith}
use borrow.Author.Tests.{eq-eqb, ne_eqb}
use Rattle.paper.specs.Stations.{size}
use Rattle.paper.specs.Heard.{val, query, Row, HO}
use Rattle.paper.specs.Setup.{Algorithm, A, U, Setup, acceptable, passes_t, passes_e, vouched}
use Rattle.paper.specs.Rules.{Decision, undecided, decided, Station, Kind, update, value, vote, kind_of, sends}
use Rattle.paper.specs.Rules.{times, vote_or_else, over_e, keep, after, next_estimate, next_vote, deciding, fired}
use Rattle.paper.proofs.MostOften.{Received}
use Rattle.paper.proofs.Passing.{Lowest, none_passes}
use Rattle.paper.proofs.After.{after_estimate, after_vote, after_decision}
use Rattle.paper.proofs.Pins.{Commonest, a_updates, a_stays, u_takes_vouched, u_takes_default, u_value_keeps}
use Rattle.paper.proofs.Pins.{u_votes, u_vote_cleared, fired_iff}

module _ (S : Setup) (r : ℕ) where
  pub a_kind : S.algorithm ≡ A → kind_of S.algorithm r ≡ update
  unfolding kind_of
  a_kind own = ap (λ (a : Algorithm). kind_of a r) own

  pub odd_kind : S.algorithm ≡ U → r % 2 ≡ 1 → kind_of S.algorithm r ≡ value
  unfolding kind_of
  odd_kind own odd =
      ap (λ (a : Algorithm). kind_of a r) own
      ∙ ap (λ (b : Bool). cond b vote value) (ne_eqb (r % 2) 0 (λ d. omega arith))

  pub even_kind : S.algorithm ≡ U → r % 2 ≡ 0 → kind_of S.algorithm r ≡ vote
  unfolding kind_of
  even_kind own even =
      ap (λ (a : Algorithm). kind_of a r) own ∙ ap (λ (b : Bool). cond b vote value) (eq-eqb (r % 2) 0 even)

-- ---- what s ought to send in round r (rules 8.1, 9.2 and 9.5)
module _ (S : Setup) (r : ℕ) (s : Station) where
  pub a_sends : S.algorithm ≡ A → sends (kind_of S.algorithm r) s ≡ val s.estimate
  unfolding sends
  a_sends own = ap (λ (k : Kind). sends k s) (a_kind S r own)

  pub odd_sends : S.algorithm ≡ U → r % 2 ≡ 1 → sends (kind_of S.algorithm r) s ≡ val s.estimate
  unfolding sends
  odd_sends own odd = ap (λ (k : Kind). sends k s) (odd_kind S r own odd)

  pub even_sends : S.algorithm ≡ U → r % 2 ≡ 0 → sends (kind_of S.algorithm r) s ≡ s.vote
  unfolding sends
  even_sends own even = ap (λ (k : Kind). sends k s) (even_kind S r own even)

keep_none : (d : Decision) (r : ℕ) → keep d r None ≡ d
unfolding keep
keep_none undecided r = refl
keep_none (decided v r₀) r = refl

module _ (S : Setup) (default r : ℕ) (s : Station) (row : Row) where
  -- what round r leaves of s
  abbrev pub left : Station
  left = after S default r s row

  -- the three fields, where the round is of this kind
  module _ (k : Kind) (kind : kind_of S.algorithm r ≡ k) where
    estimate_by : left.estimate ≡ next_estimate S default k s row
    estimate_by = after_estimate S default r s row ∙ ap (λ (x : Kind). next_estimate S default x s row) kind

    vote_by : left.vote ≡ next_vote S k s row
    vote_by = after_vote S default r s row ∙ ap (λ (x : Kind). next_vote S x s row) kind

    decision_by : left.decision ≡ keep s.decision r (fired S k row)
    decision_by = after_decision S default r s row ∙ ap (λ (x : Kind). keep s.decision r (fired S x row)) kind

    decides_by : deciding k ≡ true → acceptable S ≡ true → s.decision ≡ undecided → (v : ℕ)
        → (left.decision ≡ decided v r) ↔ (passes_e S (times S.n row v) ≡ true)
    unfolding keep
    decides_by rule ok fresh v = (
      λ e. ((fired_iff S ok k row v).0 (named (fired S k row) (sym from_fresh ∙ e))).enough,
      λ enough. from_fresh
          ∙ ap (keep undecided r) ((fired_iff S ok k row v).1 (record { rule = rule; enough = enough })),
    )
      where
        from_fresh : left.decision ≡ keep undecided r (fired S k row)
        from_fresh = decision_by ∙ ap (λ (d : Decision). keep d r (fired S k row)) fresh

        named : (o : Option ℕ) → keep undecided r o ≡ decided v r → o ≡ Some v
        named None e = cc
        named (Some w) e = cc

  -- ---- both algorithms
  -- the first decision stays (rule 9.10)
  pub keeps_decision : (v r₀ : ℕ) → s.decision ≡ decided v r₀ → left.decision ≡ decided v r₀
  unfolding keep
  keeps_decision v r₀ e =
      after_decision S default r s row
      ∙ ap (λ (d : Decision). keep d r (fired S (kind_of S.algorithm r) row)) e

  -- nobody decides where no value passes E
  pub stays_undecided : ((v : ℕ) → passes_e S (times S.n row v) ≡ false) → s.decision ≡ undecided
      → left.decision ≡ undecided
  unfolding keep fired over_e
  stays_undecided few fresh =
      after_decision S default r s row
      ∙ ap (λ (d : Decision). keep d r (fired S (kind_of S.algorithm r) row)) fresh
      ∙ ap (keep undecided r) (go (deciding (kind_of S.algorithm r)))
    where
      go : (b : Bool) → cond b (over_e S row) None ≡ None
      go true = none_passes S.n row (passes_e S) few
      go false = refl

  -- ---- A, each round
  module _ (own : S.algorithm ≡ A) where
    -- more than T heard, a value among them: the commonest (rule 8.2)
    pub a_takes_commonest : passes_t S (size S.n (HO row)) ≡ true → (w : ℕ) → Received S.n row w
        → Commonest S.n row left.estimate
    a_takes_commonest enough w got =
        subst (λ (x : ℕ). Commonest S.n row x) (sym (estimate_by update (a_kind S r own)))
        (a_updates S default s row w enough got)

    -- no more than T heard (rule 8.3)
    pub a_keeps_estimate : passes_t S (size S.n (HO row)) ≡ false → left.estimate ≡ s.estimate
    a_keeps_estimate few = estimate_by update (a_kind S r own) ∙ a_stays S default s row few

    -- rule 8.6
    pub a_keeps_vote : left.vote ≡ s.vote
    unfolding next_vote
    a_keeps_vote = vote_by update (a_kind S r own)

    -- rule 8.4
    pub a_decides : acceptable S ≡ true → s.decision ≡ undecided → (v : ℕ)
        → (left.decision ≡ decided v r) ↔ (passes_e S (times S.n row v) ≡ true)
    unfolding deciding
    a_decides = decides_by update (a_kind S r own) refl

  -- ---- U, an odd round
  module _ (own : S.algorithm ≡ U) (odd : r % 2 ≡ 1) where
    -- rule 9.4
    pub odd_keeps_estimate : left.estimate ≡ s.estimate
    odd_keeps_estimate = estimate_by value (odd_kind S r own odd) ∙ u_value_keeps S default s row

    pub odd_keeps_decision : left.decision ≡ s.decision
    unfolding fired deciding
    odd_keeps_decision = decision_by value (odd_kind S r own odd) ∙ keep_none s.decision r

    -- the vote becomes v exactly if v came more than T times, and else it stays (rule 9.3)
    pub odd_votes : acceptable S ≡ true → s.vote ≡ query → (v : ℕ)
        → (left.vote ≡ val v) ↔ (passes_t S (times S.n row v) ≡ true)
    odd_votes ok blank v =
        let by_rule = vote_by value (odd_kind S r own odd) in
        let iff = u_votes S ok own s row v blank in
        (λ e. iff.0 (sym by_rule ∙ e), λ more. by_rule ∙ iff.1 more)

    pub odd_keeps_vote : ((v : ℕ) → passes_t S (times S.n row v) ≡ false) → left.vote ≡ s.vote
    unfolding next_vote vote_or_else
    odd_keeps_vote few =
        vote_by value (odd_kind S r own odd)
        ∙ ap (λ (o : Option ℕ). vote_or_else o s.vote) (none_passes S.n row (passes_t S) few)

    -- and the next round sends just this vote (rules 9.5 and 9.9)
    pub vote_is_sent : sends (kind_of S.algorithm (suc r)) left ≡ left.vote
    vote_is_sent = even_sends S (suc r) left own (omega arith)

    pub sends_what_passed_t : acceptable S ≡ true → s.vote ≡ query → (v : ℕ) → passes_t S (times S.n row v) ≡ true
        → sends (kind_of S.algorithm (suc r)) left ≡ val v
    sends_what_passed_t ok blank v more = vote_is_sent ∙ (odd_votes ok blank v).1 more

  -- ---- U, an even round
  module _ (own : S.algorithm ≡ U) (even : r % 2 ≡ 0) where
    -- a value has at least alpha + 1 votes: the smallest such value (rule 9.6)
    pub even_takes_vouched : (w : ℕ) → vouched S (times S.n row w) ≡ true
        → Lowest S.n row (vouched S) left.estimate
    even_takes_vouched w enough =
        subst (λ (x : ℕ). Lowest S.n row (vouched S) x) (sym (estimate_by vote (even_kind S r own even)))
        (u_takes_vouched S default s row w enough)

    -- no value has: the default of the run (rule 9.7)
    pub even_takes_default : ((w : ℕ) → vouched S (times S.n row w) ≡ false) → left.estimate ≡ default
    even_takes_default few = estimate_by vote (even_kind S r own even) ∙ u_takes_default S default s row few

    -- rule 9.9
    pub even_clears_vote : left.vote ≡ query
    even_clears_vote = vote_by vote (even_kind S r own even) ∙ u_vote_cleared S s row

    -- a station decides v exactly if v has more than E votes (rule 9.8)
    pub even_decides : acceptable S ≡ true → s.decision ≡ undecided → (v : ℕ)
        → (left.decision ≡ decided v r) ↔ (passes_e S (times S.n row v) ≡ true)
    unfolding deciding
    even_decides = decides_by vote (even_kind S r own even) refl

    -- and the next round sends the new estimate (rule 9.2)
    pub estimate_is_sent : sends (kind_of S.algorithm (suc r)) left ≡ val left.estimate
    estimate_is_sent = odd_sends S (suc r) left own (omega arith)
