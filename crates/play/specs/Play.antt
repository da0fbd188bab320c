-- Playing a part of a tape (rules 12.9 and 13.3 to 13.8): it is cut into rounds, and these are taken one after the
-- other. The taking is over rounds that are cut already, wherever they come from.
use Rattle.std.specs.Prelude.{ℕ, zero, suc, ◌+◌, ◌≡◌, cond, List, [], ◌∷◌, length, take, drop, Result, Ok, Err}
use Rattle.paper.specs.Rules.{Kind}
use Rattle.run.specs.Reply.{Reply}
use Rattle.run.specs.Reply.{Accepted, Rules}
use Rattle.run.specs.declared.Run.{Run}
use Rattle.run.specs.Keeps.{Keeps}
use Rattle.run.specs.Reply.{is_accepted}
use Rattle.run.specs.Run.{sound}
use Rattle.round.specs.Reading.{round_length}
use Rattle.round.specs.Bridge.{kind_next}
use Rattle.judge.specs.Step.{step_of}
use Rattle.play.specs.declared.Played.{Played}

-- bytes cut into pieces of this size (rule 13.3); `most` bounds their number
unfoldable pub cut_to : ℕ → ℕ → List ℕ → List (List ℕ)
cut_to zero size bs = []
cut_to (suc most) size [] = []
cut_to (suc most) size (b ∷ bs) = take size (b ∷ bs) ∷ cut_to most size (drop size (b ∷ bs))

unfoldable pub cut : ℕ → List ℕ → List (List ℕ)
unfolding cut_to
cut size bs = cut_to (length bs) size bs

-- the answer where no round is accepted (rules 13.5 to 13.7)
abbrev pub ended : Run → Reply → Played
ended run r = record { run = run; reply = r; rounds = 0 }

-- the answer where k rounds were accepted before
abbrev pub more : ℕ → Played → Played
more k a = record { run = a.run; reply = a.reply; rounds = a.rounds + k }

-- the answer to a first round, by what taking it gives: the next run beside what is left, or the answer where it is not
-- accepted
abbrev pub first_of : {A : Type 0} → Result (Run × A) Played → Played
first_of (Ok left) = record { run = left.0; reply = Accepted; rounds = 1 }
first_of (Err a) = a

-- rounds taken in order (rule 13.4)
unfoldable pub take_rounds : Run → List (List ℕ) → Played
unfolding step_of
take_rounds run [] = ended run Accepted
take_rounds run (r ∷ rs) =
    cond (is_accepted (step_of run r).reply) (more 1 (take_rounds (step_of run r).run rs))
    (ended run (step_of run r).reply)

-- the rounds of a tape
abbrev pub rounds_of : Run → List ℕ → List (List ℕ)
rounds_of run bs = cut (round_length run.setup.n) bs

abbrev pub take_tape : Run → List ℕ → Played
take_tape run bs = take_rounds run (rounds_of run bs)

-- 10 comes first (rules 12.9 and 13.8)
unfoldable pub play_of : Run → List ℕ → Played
unfolding sound take_rounds cut
play_of run bs = cond (sound run) (take_tape run bs) (ended run (Rules 0))

-- what a function that takes a round of this kind asks for: the run keeps the rules, and waits for such a round (13.10)
pub record Awaits (kind : Kind) (run : Run) : Type 0 where
  pub keeps : Keeps run
  pub next : kind_next run ≡ kind
