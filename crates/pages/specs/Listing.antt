-- The whole listing: what is printed for a tape, as one definition over its bytes (rules 14.2 to 14.6 and 14.8). The
-- lines themselves are those of lines/specs/Text.
use Rattle.std.specs.Prelude.{cond, ℕ}
use mathlib.Core.List.{List, [], ◌∷◌, ◌++◌, flatten}
use Rattle.run.specs.declared.Opened.{Opened}
use Rattle.run.specs.declared.Run.{Run}
use Rattle.run.specs.Opening.{read_opening}
use Rattle.run.specs.Reply.{is_accepted}
use Rattle.run.specs.Tape.{opening_part, rounds_part}
use Rattle.judge.specs.declared.Stepped.{Stepped}
use Rattle.judge.specs.Step.{step_of}
use Rattle.play.specs.declared.Played.{Played}
use Rattle.play.specs.Play.{rounds_of, play_of}
use Rattle.lines.specs.Text.{setup_line, round_line, end_line, refusal_line}

-- the line of an accepted round: the run after it, and what fired in it
abbrev pub stepped_line : Stepped → List ℕ
stepped_line s = round_line s.run s.fired

-- one for each accepted round, in order, until one is refused (rule 14.4)
unfoldable pub round_lines : Run → List (List ℕ) → List (List ℕ)
round_lines run [] = []
round_lines run (r ∷ rs) =
    cond (is_accepted (step_of run r).reply) (stepped_line (step_of run r) ∷ round_lines (step_of run r).run rs) []

-- the rounds that play accepts, and its reply (rule 14.6)
abbrev pub last_line : Played → List ℕ
last_line a = end_line a.rounds a.reply

-- the lines of an opened run and the bytes of its rounds (rules 14.3 to 14.6)
unfoldable pub run_lines : Run → List ℕ → List (List ℕ)
run_lines run bs =
    setup_line run.setup ∷ (round_lines run (rounds_of run bs) ++ (last_line (play_of run bs) ∷ []))

-- or the only line, of a refused opening (rule 14.2)
abbrev pub lines_of : Opened → List ℕ → List (List ℕ)
lines_of o bs = cond (is_accepted o.reply) (run_lines o.run bs) (refusal_line o.reply ∷ [])

-- a tape's lines: its opening is read, and its rounds are played (rules 13.2 and 13.3 say where they begin)
unfoldable pub listing_lines : List ℕ → List (List ℕ)
listing_lines tape = lines_of (read_opening (opening_part tape)) (rounds_part tape)

-- what is printed: line behind line
unfoldable pub listing : List ℕ → List ℕ
listing tape = flatten (listing_lines tape)
