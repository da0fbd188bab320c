-- What a round makes of one station, by the paper's rules (rules 8 and 9).
use Rattle.std.specs.Prelude.{ℕ}
use Rattle.paper.specs.Heard as heard
use Rattle.paper.specs.Setup as setup
use Rattle.paper.specs.Rules as rules
use Rattle.round.specs.Bridge.{entries}
use Rattle.outcome.specs.declared.Outcome.{Outcome}

-- what round r makes of a station, and what fires at it
unfoldable pub outcome_of : setup.Setup → ℕ → ℕ → rules.Station → heard.Row → Outcome
unfolding rules.kind_of rules.after rules.fired
outcome_of S default r s row =
    record {
      station = entries (rules.after S default r s row);
      fired = rules.fired S (rules.kind_of S.algorithm r) row;
    }
