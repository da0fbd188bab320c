-- `hearing::surveys::read_survey` meets its contract: a round that passes its checks is read into the matrix, whose rows
-- are surveyed, and any other is refused.
use mathlib.Core.Path.{sym, ◌∙◌}
use Rattle.run.proofs.Asked.{stops, handed}
use Rattle.round.proofs.Readings.{few_stations, reading_passed, reading_reply, reading_matrix}
use Rattle.hearing.proofs.Surveyed.{survey_refused, survey_done}
use Rattle.hearing.proofs.surveys.read_survey.Goals as goal

pub returns-in_err-reading : goal.returns-in_err-reading
returns-in_err-reading c =
    let no = sym c.in_err-reading.was ∙ reading_reply _ _ c.read_round-reading.ensures in
    rw (handed c.from_residual.ensures) (survey_refused _ _ no (stops no))

pub returns : goal.returns
returns c =
    let read = c.read_round-reading.ensures in
    let good = sym (reading_reply _ _ read) ∙ c.in_ok-reading.was in
    survey_done _ _ (few_stations _ (reading_passed _ _ good).0) good c.survey_rows.ensures
    (rw c.may_vote.ensures at c.prescribed-sent.ensures) (reading_matrix _ _ read good)
