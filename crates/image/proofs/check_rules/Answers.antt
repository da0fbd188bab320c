-- `image::check_rules` meets its contract: the first of the checks that refuses gives the reply.
use Rattle.std.proofs.Common.{rules, ◌≡◌, sym, ◌∙◌, ℕ, Bool, false, get_or}
use borrow.Author.Tests.{le-leb, lt-leb}
use Rattle.run.specs.Run.{vote_fits, decision_fits}
use Rattle.run.proofs.Asked.{stops, handed}
use Rattle.image.specs.Image.{check_votes, check_decisions}
use Rattle.image.proofs.Images.{check_rules_is}
use Rattle.image.proofs.check_rules.Goals as goal
use Rattle.image.proofs.check_rules.Goals.{After-check_stations, After-check_stations-2}

voted : (c : After-check_stations) → let run = c.args.run.now in c.check_stations.result
    ≡ check_votes run.setup run.clock run.voted
unfolding check_votes
voted c =
    let run = c.args.run.now in
    let fits : ℕ → Bool = λ i. vote_fits run.setup run.clock (get_or run.voted i false) in
    rw c.votes_from.ensures at (c.check_stations.ensures fits (λ i b l p. search rules))

decided : (c : After-check_stations-2) → let run = c.args.run.now in c.check_stations-2.result
    ≡ check_decisions run.setup run.clock run.decided run.rounds
unfolding check_decisions
decided c =
    let run = c.args.run.now in
    let fits : ℕ → Bool = λ i. decision_fits run.setup run.clock (get_or run.decided i false) (get_or run.rounds i 0) in
    rw c.rounds_from.ensures at (c.check_stations-2.ensures fits (λ i b l p. search rules))

pub returns-then-clock-gt-ROUNDS : goal.returns-then-clock-gt-ROUNDS
returns-then-clock-gt-ROUNDS c = rw (check_rules_is, lt-leb _ _ c.if-clock-gt-ROUNDS.true)

pub returns-in_err-check_stations : goal.returns-in_err-check_stations
returns-in_err-check_stations c =
    let no = sym c.in_err-check_stations.was ∙ voted (goal.at.returns-in_err-check_stations c).After-check_stations in
    handed c.from_residual.ensures ∙ rw (check_rules_is, le-leb _ _ c.if-clock-gt-ROUNDS.false, stops no) no

pub returns : goal.returns
returns c =
    let yes = sym c.in_ok-check_stations.was ∙ voted (goal.at.returns c).After-check_stations in
    rw (check_rules_is, le-leb _ _ c.if-clock-gt-ROUNDS.false, ← yes) (decided c)
