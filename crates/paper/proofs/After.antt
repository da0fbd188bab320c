-- What a round makes of a station, field by field and by the kind of the round: each is a look at the three kinds.
use mathlib.Core.Path.{◌≡◌, refl, ap}
use Prim.Native.Nat.{ℕ}
use Rattle.paper.specs.Heard.{Row}
use Rattle.paper.specs.Setup.{Setup}
use Rattle.paper.specs.Rules.{Station, Kind, update, value, vote, kind_of, deeds, keep, after, next_estimate}
use Rattle.paper.specs.Rules.{next_vote, fired}

module _ (S : Setup) (default : ℕ) where
  -- the default has no part in a vote, nor in what is decided
  vote_is : (k : Kind) (s : Station) (row : Row) → (deeds S default k s row).vote ≡ next_vote S k s row
  unfolding next_vote
  vote_is update s row = refl
  vote_is value s row = refl
  vote_is vote s row = refl

  pub decides_is : (k : Kind) (s : Station) (row : Row) → (deeds S default k s row).decides ≡ fired S k row
  unfolding deeds fired
  decides_is update s row = refl
  decides_is value s row = refl
  decides_is vote s row = refl

  module _ (r : ℕ) (s : Station) (row : Row) where
    pub after_estimate : (after S default r s row).estimate ≡ next_estimate S default (kind_of S.algorithm r) s row
    unfolding after next_estimate
    after_estimate = refl

    pub after_vote : (after S default r s row).vote ≡ next_vote S (kind_of S.algorithm r) s row
    unfolding after
    after_vote = vote_is (kind_of S.algorithm r) s row

    pub after_decision : (after S default r s row).decision
        ≡ keep s.decision r (fired S (kind_of S.algorithm r) row)
    unfolding after
    after_decision = ap (keep s.decision r) (decides_is (kind_of S.algorithm r) s row)
