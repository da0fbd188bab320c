-- What is offered to a run, one thing after another, refused ones among them: demand 3's "any rounds offered in a row".
-- A round may be offered to `step`, and a part of a tape to `play`. The accepted rounds are rounds of the paper, each
-- with the states before and after it as the judge's run holds them.
use Rattle.std.specs.Prelude.{ℕ, suc, cond, List, [], ◌∷◌, ◌++◌}
use Rattle.paper.specs.Run.{States, Turn}
use Rattle.run.specs.declared.Run.{Run}
use Rattle.run.specs.Reply.{is_accepted}
use Rattle.round.specs.Reading.{round_length}
use Rattle.round.specs.Bridge.{heard_in, station}
use Rattle.judge.specs.Step.{step_of}
use Rattle.play.specs.Play.{cut, play_of}

-- the bytes of a round, to be stepped, or of a part of a tape, to be played
pub data Offer : Type 0 where
  to_step : List ℕ → Offer
  to_play : List ℕ → Offer

-- the run that is in hand after it
unfoldable pub run_then : Run → Offer → Run
unfolding step_of play_of
run_then run (to_step bs) = (step_of run bs).run
run_then run (to_play bs) = (play_of run bs).run

-- the rounds in it: a part has as many as it can be cut into
unfoldable pub rounds_in : Run → Offer → List (List ℕ)
unfolding cut
rounds_in run (to_step bs) = bs ∷ []
rounds_in run (to_play bs) = cut (round_length run.setup.n) bs

-- the round that these bytes spell, taken by this run: after it stands what the judge's run then holds
-- (`round_by_paper` in Round.antt has what the paper makes of each station)
unfoldable pub round_by_judge : Run → List ℕ → Turn
unfolding station heard_in step_of
round_by_judge run bs =
    record {
      number = suc run.clock;
      before = station run;
      heard = heard_in run.setup.n bs;
      after = station (step_of run bs).run;
    }

-- those of some rounds that are accepted, one after another until one is refused
unfoldable pub taken : Run → List (List ℕ) → List Turn
unfolding round_by_judge step_of
taken run [] = []
taken run (bs ∷ rest) =
    cond (is_accepted (step_of run bs).reply) (round_by_judge run bs ∷ taken (step_of run bs).run rest) []

-- the rounds that are accepted of all that is offered, in order
unfoldable pub accepted : Run → List Offer → List Turn
unfolding taken rounds_in run_then
accepted run [] = []
accepted run (o ∷ rest) = taken run (rounds_in run o) ++ accepted (run_then run o) rest

-- the run that is in hand after all of it
unfoldable pub run_after_all : Run → List Offer → Run
unfolding run_then
run_after_all run [] = run
run_after_all run (o ∷ rest) = run_after_all (run_then run o) rest

-- what the last of these rounds left, or what stood before them if there is none
unfoldable pub left_by : States → List Turn → States
left_by s [] = s
left_by s (t ∷ ts) = left_by t.after ts
