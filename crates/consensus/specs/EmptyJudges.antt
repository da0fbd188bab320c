-- Four ways to answer without judging, as properties of any judge, and the rounds that refute them: the first two of
-- the bench sheet's case 9. That no judge with one of them meets demand 2 is proved in proofs/EmptyJudges.antt.
use Rattle.std.specs.Prelude.{◌≡◌, false, List, [], ◌∷◌, ℕ, ◌-◌, ◌<◌, replicate}
use Rattle.run.specs.Reply.{Reply}
use Rattle.run.specs.declared.Run.{Run}
use Rattle.run.specs.Reply.{is_accepted}
use Rattle.run.specs.Run.{stations}
use Rattle.round.specs.Bridge.{station}
use Rattle.sheet.specs.Sheet.{A, bytes_from, bytes, all_hear, cells_of}
use Rattle.consensus.specs.Judge.{Judge}

-- it refuses every round, whatever its replies
abbrev pub RefusesAll : Judge → Type 0
RefusesAll J = (run : Run) (bs : List ℕ) → is_accepted (J.step run bs).reply ≡ false

-- it gives one reply to every round
abbrev pub SaysOne : Judge → Reply → Type 0
SaysOne J r = (run : Run) (bs : List ℕ) → (J.step run bs).reply ≡ r

-- it hands every run back as it is
abbrev pub Unmoved : Judge → Type 0
Unmoved J = (run : Run) (bs : List ℕ) → (J.step run bs).run ≡ run

-- it judges the first round only: a later one leaves every station as it is
abbrev pub FirstOnly : Judge → Type 0
FirstOnly J =
    (run : Run) (bs : List ℕ) → 0 < run.clock → (p : ℕ) → station (J.step run bs).run p ≡ station run p

-- A(3,2,2,0) with these estimates, after this many rounds, nobody decided: case 9 starts at 5 5 9 and is at 5 5 5 after
-- its first round
unfoldable pub three : ℕ → ℕ → ℕ → ℕ → Run
three clock x y z =
    record {
      setup = A 3 2 2 0;
      default = 0;
      clock = clock;
      estimates = x ∷ y ∷ z ∷ replicate (stations - 3) 0;
      voted = replicate stations false;
      votes = replicate stations 0;
      decided = replicate stations false;
      decisions = replicate stations 0;
      rounds = replicate stations 0;
    }

-- a round in which all hear these three values
unfoldable pub all_heard : ℕ → ℕ → ℕ → List ℕ
unfolding bytes_from
all_heard x y z = bytes (all_hear (cells_of (x ∷ y ∷ z ∷ [])))
