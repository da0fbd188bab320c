-- The example of rule 14.7, computed: the bytes of tapes/query-heard.tape, and what is printed for them.
use mathlib.Core.Path.{◌≡◌, refl}
use mathlib.Core.Bool.{◌&&◌, cond}
use mathlib.Core.List.{List, [], ◌∷◌, ◌++◌, flatten}
use Prim.Native.Nat.{ℕ}
use lib.Dec.{eqb}
use Rattle.paper.specs.Setup.{acceptable, tolerated, passes_bound}
use Rattle.paper.specs.Heard.{AHO}
use Rattle.paper.specs.Rules.{sends, after, fired}
use Rattle.run.specs.Block.{record_of, numbers_in}
use Rattle.run.specs.Filled.{tabulate}
use Rattle.run.specs.First.{first}
use Rattle.run.specs.Number.{number, digits}
use Rattle.run.specs.Opening.{read_opening}
use Rattle.run.specs.Record.{record_at, record_from}
use Rattle.run.specs.Tape.{opening_part, rounds_part}
use Rattle.judge.specs.Step.{step_of}
use Rattle.play.specs.Play.{play_of}
use Rattle.lines.specs.Text.{ascii, spelled, entries, limits, setup_line, round_line, answer_line, end_line}
use Rattle.pages.specs.Listing.{round_lines, run_lines, listing_lines, listing}

-- the bytes of a record with a small number
abbrev short : ℕ → ℕ → ℕ → ℕ → List ℕ
short kind p q x = kind ∷ p ∷ q ∷ 0 ∷ x ∷ 0 ∷ 0 ∷ 0 ∷ []

abbrev six : (ℕ → List ℕ) → List ℕ
six f = f 0 ++ f 1 ++ f 2 ++ f 3 ++ f 4 ++ f 5

-- U(6, 4, 5, 1), all start with 3; all is heard, and then station 1 hears "?" from 4
abbrev query_heard : List ℕ
query_heard =
    (1 ∷ 2 ∷ 6 ∷ 4 ∷ 5 ∷ 1 ∷ 0 ∷ 0 ∷ []) ++ short 2 0 0 0 ++ six (λ p. short 3 p 0 3)
    ++ six (λ p. six (λ q. short 4 p q 3))
    ++ six (λ p. six (λ q. cond (eqb p 1 && eqb q 4) (short 5 p q 0) (short 4 p q 3)))

pub query_heard_printed : listing query_heard
    ≡ ascii "U n=6 T=4 E=5 alpha=1\n"
    ++ ascii "1 hold 3 3 3 3 3 3 vote 3 3 3 3 3 3 decide - - - - - -\n"
    ++ ascii "2 hold 3 3 3 3 3 3 vote ? ? ? ? ? ? decide 3 - 3 3 3 3\n"
    ++ ascii "end rounds 2 answer 0 at 0\n"
unfolding listing listing_lines run_lines round_lines flatten spelled entries limits setup_line round_line answer_line
    end_line play_of step_of read_opening opening_part rounds_part acceptable tolerated passes_bound AHO sends after
    fired record_of numbers_in tabulate first number digits record_at record_from
query_heard_printed = refl
