-- A whole tape, read and written again (rule 13.12), by any judge. The opening is written from the run that was read,
-- and each round is read with the run that stands there and its matrix written with that run.
use Rattle.std.specs.Prelude.{ℕ, ◌≡◌, true, List, [], ◌∷◌, ◌++◌, length, replicate}
use Rattle.run.specs.declared.Run.{Run}
use Rattle.run.specs.Bytes.{IsBytes}
use Rattle.run.specs.Reply.{is_accepted}
use Rattle.consensus.specs.Judge.{Judge}

-- each of the rounds is bytes, and is accepted by the run that the ones before it leave
unfoldable pub AcceptedInTurn : Judge → Run → List (List ℕ) → Type 0
AcceptedInTurn J run [] = Unit {0}
AcceptedInTurn J run (r ∷ rs) =
    IsBytes r × (is_accepted (J.step run r).reply ≡ true) × AcceptedInTurn J (J.step run r).run rs

-- a buffer for so many bytes
abbrev pub blank_for : List ℕ → List ℕ
blank_for bs = replicate (length bs) 0

-- the rounds one after another, each read and written again
unfoldable pub rounds_again : Judge → Run → List (List ℕ) → List ℕ
rounds_again J run [] = []
rounds_again J run (r ∷ rs) =
    (J.write_round run (J.read_round run r).matrix (blank_for r)).bytes ++ rounds_again J (J.step run r).run rs

unfoldable pub tape_again : Judge → List ℕ → List (List ℕ) → List ℕ
unfolding rounds_again
tape_again J opening rs =
    let run : Run = (J.read_opening opening).run in
    (J.write_opening run.setup run.default run.estimates (blank_for opening)).bytes ++ rounds_again J run rs
