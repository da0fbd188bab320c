-- The survey: HO and SHO of every receiver (rules 7.1 to 7.9, 12.6).
use Rattle.std.specs.Prelude.{ℕ, cond, List, replicate, Result, Ok, Err}
use Rattle.paper.specs.Heard as heard
use Rattle.run.specs.declared.Run.{Run}
use Rattle.run.specs.declared.reply.Refusal.{Refusal}
use Rattle.run.specs.Reply.{is_accepted}
use Rattle.run.specs.Run.{stations}
use Rattle.run.specs.Filled.{filled}
use Rattle.round.specs.Reading.{check_reading}
use Rattle.round.specs.Bridge.{heard_in, sent_next}
use Rattle.hearing.specs.declared.Survey.{Survey}
use Rattle.hearing.specs.Masks.{mask}

-- HO and SHO of each receiver below n
unfoldable pub ho_sets : ℕ → List ℕ → List ℕ
unfolding filled mask heard_in
ho_sets n bs = filled stations n (λ p. mask n (heard.HO (heard_in n bs p))) 0

unfoldable pub sho_sets : Run → ℕ → List ℕ → List ℕ
unfolding filled mask heard_in sent_next
sho_sets run n bs = filled stations n (λ p. mask n (heard.SHO (heard_in n bs p) (sent_next run))) 0

-- what a survey answers: its sets, empty where the round is refused
abbrev pub surveyed : Result Survey Refusal → Survey
surveyed (Ok s) = s
surveyed (Err r) = record { reply = Err r; ho = replicate stations 0; sho = replicate stations 0 }

-- the survey of a round that the run may read, and empty sets for any other
unfoldable pub survey_of : Run → List ℕ → Survey
unfolding check_reading ho_sets sho_sets
survey_of run bs =
    record {
      reply = check_reading run bs;
      ho = cond (is_accepted (check_reading run bs)) (ho_sets run.setup.n bs) (replicate stations 0);
      sho = cond (is_accepted (check_reading run bs)) (sho_sets run run.setup.n bs) (replicate stations 0);
    }
