-- One station in one round, told from the count of its row. That it is what the paper's rules make of it is proved in
-- proofs/Outcomes.antt.
use Rattle.std.specs.Prelude.{ℕ, ◌≤◌, ◌≡◌, Bool, true, false, not, ◌&&◌, ◌||◌, cond, None, Some, eqb}
use Rattle.std.specs.Int.Count.{ones}
use Rattle.paper.specs.Heard as heard
use Rattle.paper.specs.Setup as setup
use Rattle.paper.specs.Rules as rules
use Rattle.limits.specs.declared.Setup.{Setup}
use Rattle.limits.specs.Setup.{is_u, algorithm_of, setup_of}
use Rattle.run.specs.declared.Station.{Station}
use Rattle.run.specs.Run.{stations}
use Rattle.hearing.specs.declared.Tally.{Tally}
use Rattle.hearing.specs.Masks.{mask}
use Rattle.hearing.specs.Tally.{is_there}
use Rattle.outcome.specs.declared.Deeds.{Deeds}
use Rattle.outcome.specs.declared.Outcome.{Outcome}

-- Algorithm 1: the most frequent value, if enough were heard and one was received
unfoldable pub update_told : Setup → Station → ℕ → Tally → Deeds
unfolding setup_of
update_told s x ho t =
    record {
      estimate = cond (setup.passes_t (setup_of s) (ones ho) && not (eqb t.senders 0)) t.value x.estimate;
      voted = x.voted;
      vote = x.vote;
      fired = cond (setup.passes_e (setup_of s) (ones t.senders)) (Some t.value) None;
    }

-- Algorithm 2, a value round: the most frequent value is voted for, if it came often enough
unfoldable pub value_told : Setup → Station → Tally → Deeds
unfolding setup_of
value_told s x t =
    record {
      estimate = x.estimate;
      voted = setup.passes_t (setup_of s) (ones t.senders) || x.voted;
      vote = cond (setup.passes_t (setup_of s) (ones t.senders)) t.value x.vote;
      fired = None;
    }

-- Algorithm 2, a vote round: the smallest value with enough votes, else the default
unfoldable pub vote_told : Setup → ℕ → Tally → Deeds
unfolding setup_of rules.or_else
vote_told s default t =
    record {
      estimate = rules.or_else t.least default;
      voted = false;
      vote = 0;
      fired = cond (setup.passes_e (setup_of s) (ones t.senders)) (Some t.value) None;
    }

unfoldable pub deeds_told : Setup → ℕ → Bool → Station → ℕ → Tally → Deeds
unfolding update_told value_told vote_told
deeds_told s default voting x ho t =
    cond voting (vote_told s default t) (cond (is_u s) (value_told s x t) (update_told s x ho t))

-- the first decision is kept, with its round
unfoldable pub kept_told : ℕ → Station → Deeds → Station
unfolding rules.or_else
kept_told number x d =
    record {
      estimate = d.estimate;
      voted = d.voted;
      vote = d.vote;
      decided = x.decided || is_there d.fired;
      decision = cond x.decided x.decision (rules.or_else d.fired x.decision);
      round = cond x.decided x.round (cond (is_there d.fired) number x.round);
    }

unfoldable pub told : Setup → ℕ → ℕ → Bool → Station → ℕ → Tally → Outcome
unfolding deeds_told kept_told
told s default number voting x ho t =
    record {
      station = kept_told number x (deeds_told s default voting x ho t);
      fired = (deeds_told s default voting x ho t).fired;
    }

-- the kind of a round, by the flag for a vote round
abbrev pub kind_by : Setup → Bool → rules.Kind
kind_by s voting = cond voting rules.vote (cond (is_u s) rules.value rules.update)

-- what is asked before a station's outcome is told: the flag is that of the round's number; the setup is acceptable;
-- the set is that of those heard; and 0 stands beside "?" and undecided
pub record Tellable (s : Setup) (number : ℕ) (voting : Bool) (x : Station) (row : heard.Row) (ho : ℕ) : Type 0 where
  pub kind : rules.kind_of (algorithm_of s) number ≡ kind_by s voting
  pub few : s.n ≤ stations
  pub inequalities : setup.acceptable (setup_of s) ≡ true
  pub heard : ho ≡ mask s.n (heard.HO row)
  pub beside_no_vote : x.voted ≡ false → x.vote ≡ 0
  pub beside_undecided : x.decided ≡ false → x.decision ≡ 0
  pub no_round : x.decided ≡ false → x.round ≡ 0
