-- The rules told from a count: each answer of the rules is one of the count's two, or the most frequent value where it
-- is the only one that can pass. So a round of each kind does what the count tells, and what is kept of it is what the
-- paper keeps.
use mathlib.Core.Path.{◌≡◌, refl, sym}
use mathlib.Core.Bool.{Bool, true, false, not, ◌&&◌, ◌||◌, cond}
use Rattle.std.specs.Prelude.{Option, None, Some}
use Prim.Native.Nat.{ℕ}
use lib.Count.{ones}
use lib.Dec.{eqb}
use Rattle.paper.specs.Stations.{size}
use Rattle.paper.specs.Heard as heard
use Rattle.paper.specs.Setup as setup
use Rattle.paper.specs.Rules as rules
use Rattle.paper.proofs.After.{decides_is}
use Rattle.limits.specs.declared.Setup.{Setup}
use Rattle.limits.specs.Setup.{is_u, setup_of}
use Rattle.run.specs.declared.Station.{Station}
use Rattle.round.specs.Bridge.{message, decision, paper_station, has_value, value_in, is_decided, decision_in, round_in}
use Rattle.hearing.specs.declared.Tally.{Tally}
use Rattle.hearing.specs.Masks.{mask}
use Rattle.hearing.specs.Tally.{is_there, tally}
use Rattle.hearing.proofs.Masks.{ones_mask}
use Rattle.hearing.proofs.Tallies.{most_told, over_t_told, over_e_told, vouched_told}
use Rattle.outcome.specs.declared.Deeds.{Deeds}
use Rattle.outcome.specs.Outcome.{outcome_of}
use Rattle.outcome.specs.Told.{update_told, value_told, vote_told, deeds_told, kept_told, told, kind_by, Tellable}

-- what the paper's round does, as the code holds it
abbrev as_held : rules.Deeds → Deeds
as_held d =
    record {
      estimate = d.estimate;
      voted = has_value d.vote;
      vote = value_in d.vote;
      fired = d.decides;
    }

-- ---- an answer that is there where a test passes
if_moves : (a b : Bool) (v e : ℕ) → cond (a && not b) v e ≡ cond a (rules.or_else (cond b None (Some v)) e) e
unfolding rules.or_else
if_moves true true v e = refl
if_moves true false v e = refl
if_moves false true v e = refl
if_moves false false v e = refl

-- ---- a vote as a flag and a number
flag_again : (b : Bool) (v : ℕ) → b ≡ has_value (message b v)
flag_again true v = refl
flag_again false v = refl

number_again : (b : Bool) (v : ℕ) → (b ≡ false → v ≡ 0) → v ≡ value_in (message b v)
number_again true v z = refl
number_again false v z = z refl

flag_cast : (a b : Bool) (v w : ℕ) → (a || b) ≡ has_value (rules.vote_or_else (cond a (Some v) None) (message b w))
unfolding rules.vote_or_else
flag_cast true b v w = refl
flag_cast false b v w = flag_again b w

number_cast : (a b : Bool) (v w : ℕ) → (b ≡ false → w ≡ 0)
    → cond a v w ≡ value_in (rules.vote_or_else (cond a (Some v) None) (message b w))
unfolding rules.vote_or_else
number_cast true b v w z = refl
number_cast false b v w z = number_again b w z

-- ---- a decision as a flag and two numbers
abbrev kept_of : Bool → Option ℕ → ℕ → ℕ → ℕ → rules.Decision
kept_of decided f v r number = rules.keep (decision decided v r) number f

decided_kept : (d : Bool) (f : Option ℕ) (v r number : ℕ) → (d || is_there f) ≡ is_decided (kept_of d f v r number)
unfolding rules.keep
decided_kept true f v r number = refl
decided_kept false (Some w) v r number = refl
decided_kept false None v r number = refl

decision_kept : (d : Bool) (f : Option ℕ) (v r number : ℕ) → (d ≡ false → v ≡ 0)
    → cond d v (rules.or_else f v) ≡ decision_in (kept_of d f v r number)
unfolding rules.keep rules.or_else
decision_kept true f v r number z = refl
decision_kept false (Some w) v r number z = refl
decision_kept false None v r number z = z refl

round_kept : (d : Bool) (f : Option ℕ) (v r number : ℕ) → (d ≡ false → r ≡ 0)
    → cond d r (cond (is_there f) number r) ≡ round_in (kept_of d f v r number)
unfolding rules.keep
round_kept true f v r number z = refl
round_kept false (Some w) v r number z = refl
round_kept false None v r number z = z refl

-- ---- a round of each kind, told
module _ (s : Setup) (default : ℕ) (x : Station) (row : heard.Row) (ho : ℕ) where
  abbrev S : setup.Setup
  S = setup_of s

  abbrev t : Tally
  t = tally s.n row (setup.vouched S)

  abbrev p : rules.Station
  p = paper_station x

  module _ (ok : setup.acceptable (setup_of s) ≡ true) where
    over_e : rules.over_e S row ≡ cond (setup.passes_e S (ones t.senders)) (Some t.value) None
    unfolding rules.over_e setup_of
    over_e = over_e_told S row (setup.vouched S) ok

    is_update : ho ≡ mask s.n (heard.HO row) → (x.voted ≡ false → x.vote ≡ 0)
        → update_told s x ho t ≡ as_held (rules.update_round S p row)
    unfolding update_told rules.update_round setup_of
    is_update told_ho beside =
        rw (
          told_ho,
          ones_mask s.n (heard.HO row),
          most_told s.n row (setup.vouched S),
          over_e,
          ← if_moves (setup.passes_t S (size s.n (heard.HO row))) (eqb t.senders 0) t.value x.estimate,
          ← flag_again x.voted x.vote,
          ← number_again x.voted x.vote beside,
        )

    is_value : S.algorithm ≡ setup.U → (x.voted ≡ false → x.vote ≡ 0) → value_told s x t
        ≡ as_held (rules.value_round S p row)
    unfolding value_told rules.value_round setup_of
    is_value own beside =
        rw (
          over_t_told S row (setup.vouched S) ok own,
          ← flag_cast (setup.passes_t S (ones t.senders)) x.voted t.value x.vote,
          ← number_cast (setup.passes_t S (ones t.senders)) x.voted t.value x.vote beside,
        )

    is_vote : vote_told s default t ≡ as_held (rules.vote_round S default row)
    unfolding vote_told rules.vote_round setup_of
    is_vote =
        rw (
          vouched_told S row,
          over_e,
        )

-- ---- all of it
pub deeds_told_is : (s : Setup) (default : ℕ) (voting : Bool) (x : Station) (ho : ℕ) (t : Tally)
    → deeds_told s default voting x ho t
    ≡ cond voting (vote_told s default t) (cond (is_u s) (value_told s x t) (update_told s x ho t))
unfolding deeds_told
deeds_told_is s default voting x ho t = refl

module _ (s : Setup) (default number : ℕ) (voting : Bool) (x : Station) (row : heard.Row) (ho : ℕ)
    (ready : Tellable s number voting x row ho) where
  abbrev does : rules.Deeds
  does = rules.deeds (setup_of s) default (kind_by s voting) (paper_station x) row

  is_deeds : deeds_told s default voting x ho (tally s.n row (setup.vouched (setup_of s))) ≡ as_held does
  unfolding rules.deeds setup_of
  is_deeds = rw deeds_told_is (go voting (is_u s) refl)
    where
      under_u : is_u s ≡ true → (setup_of s).algorithm ≡ setup.U
      under_u e = rw e

      go : (v u : Bool) → is_u s ≡ u
          → cond v (vote_told s default (tally s.n row (setup.vouched (setup_of s))))
          (cond u (value_told s x (tally s.n row (setup.vouched (setup_of s))))
          (update_told s x ho (tally s.n row (setup.vouched (setup_of s)))))
          ≡ as_held (rules.deeds (setup_of s) default (cond v rules.vote (cond u rules.value rules.update))
          (paper_station x) row)
      go true u e = is_vote s default x row ho ready.inequalities
      go false true e = is_value s default x row ho ready.inequalities (under_u e) ready.beside_no_vote
      go false false e = is_update s default x row ho ready.inequalities ready.heard ready.beside_no_vote

  -- what fires is what the round decides
  fired_is : rules.fired (setup_of s) (kind_by s voting) row ≡ does.decides
  fired_is = sym (decides_is (setup_of s) default (kind_by s voting) (paper_station x) row)

  -- so the two outcomes are the same
  pub outcome_told : told s default number voting x ho (tally s.n row (setup.vouched (setup_of s)))
      ≡ outcome_of (setup_of s) default number (paper_station x) row
  unfolding told outcome_of rules.after kept_told setup_of
  outcome_told =
      rw (
        is_deeds,
        ready.kind,
        fired_is,
        ← decided_kept x.decided does.decides x.decision x.round number,
        ← decision_kept x.decided does.decides x.decision x.round number ready.beside_undecided,
        ← round_kept x.decided does.decides x.decision x.round number ready.no_round,
      )
