-- Demand 2, as a predicate of any judge: which openings and rounds are accepted, what then holds, in the page's and the
-- paper's terms, and that reading and writing undo each other.
use Rattle.std.specs.Prelude.{◌≡◌, true, ◌↔◌, ℕ, suc, ◌+◌, ◌*◌, ◌/◌, ◌%◌, ◌^◌, ◌<◌, length, get_or, None, Some}
use mathlib.Core.List.{List, ◌++◌, flatten}
use Rattle.paper.specs.Stations.{All, one}
use Rattle.paper.specs.Heard.{HO, SHO}
use Rattle.paper.specs.Run as paper
use Rattle.limits.specs.declared.Setup.{Setup}
use Rattle.run.specs.declared.Run.{Run}
use Rattle.run.specs.Reply.{Accepted}
use Rattle.run.specs.Bytes.{IsBytes}
use Rattle.run.specs.Keeps.{Keeps}
use Rattle.run.specs.Machine.{Words, Machine}
use Rattle.run.specs.Opens.{Acceptable, AtStarts}
use Rattle.run.specs.Record.{record_bytes}
use Rattle.run.specs.Reply.{is_accepted}
use Rattle.run.specs.Run.{stations}
use Rattle.round.specs.declared.Matrix.{Matrix}
use Rattle.round.specs.Bridge.{station, paper_setup}
use Rattle.writing.specs.Writing.{IsMatrix}
use Rattle.judge.specs.declared.Stepped.{Stepped}
use Rattle.consensus.specs.Judge.{Judge}
use Rattle.consensus.specs.Round.{round_by_paper, Ready, WellFormed}
use Rattle.consensus.specs.Spelled.{OpeningOf, ImageOf, RoundOf}
use Rattle.consensus.specs.Tape.{AcceptedInTurn, tape_again}

-- the sets of a round, at every place p: every bit q is set exactly if q is in the paper's set (rules 7.1 to 7.3). From n
-- up there is no receiver and no sender
pub record SetsOf (run : Run) (bs : List ℕ) (ho sho : List ℕ) : Type 0 where
  pub heard_of : (p q : ℕ) → get_or ho p 0 / 2 ^ q % 2 ≡ one (HO ((round_by_paper run bs).heard p) q)
  pub safely : (p q : ℕ)
      → get_or sho p 0 / 2 ^ q % 2
      ≡ one (SHO ((round_by_paper run bs).heard p) (paper.sent (paper_setup run) (round_by_paper run bs)) q)
  pub places : (length ho ≡ stations) × (length sho ≡ stations)

-- what holds after a round that is accepted: the paper's algorithm (rules 8.1 to 9.11) and its sets
pub record Follows (run : Run) (bs : List ℕ) (s : Stepped) : Type 0 where
  -- the run: each station is the paper's, and the rest is as before but for the clock
  pub each_station : All run.setup.n (λ p. station s.run p ≡ (round_by_paper run bs).after p)
  pub setup : s.run.setup ≡ run.setup
  pub default : s.run.default ≡ run.default
  pub clock : s.run.clock ≡ suc run.clock
  pub keeps_still : Keeps s.run
  pub machine_still : Machine run → IsBytes bs → Machine s.run
  -- the firings, at every place p: where the paper's rule fires, and for what. From n up nothing is heard and nothing
  -- fires
  pub fires : (p v : ℕ)
      → (get_or s.fired p None ≡ Some v) ↔ paper.FiresAt (paper_setup run) (round_by_paper run bs) p v
  pub places : length s.fired ≡ stations
  pub sets : SetsOf run bs s.ho s.sho

pub record Demand2 (J : Judge) : Type 0 where
  -- an opening is accepted exactly if the rules refuse nothing in it; its run then stands at its starts (3.1 to 3.3), is
  -- good, and is spelled by these bytes
  pub opens : (bs : List ℕ) → (is_accepted (J.read_opening bs).reply ≡ true) ↔ Acceptable bs
  pub at_starts : (bs : List ℕ) → is_accepted (J.read_opening bs).reply ≡ true
      → AtStarts bs (J.read_opening bs).run × Keeps (J.read_opening bs).run
  pub opening_of : (bs : List ℕ) → IsBytes bs → is_accepted (J.read_opening bs).reply ≡ true
      → OpeningOf (J.read_opening bs).run.setup (J.read_opening bs).run.default (J.read_opening bs).run.estimates bs
      × Machine (J.read_opening bs).run
  -- a good run that is not full accepts just the rounds that are well formed and keep the predicates (10.8 and 10.9)
  pub accepts : (run : Run) (bs : List ℕ) → Ready run
      → (is_accepted (J.step run bs).reply ≡ true)
      ↔ (WellFormed run bs × paper.Safe (paper_setup run) (round_by_paper run bs))
  -- and then all is as the paper says
  pub follows : (run : Run) (bs : List ℕ) → is_accepted (J.step run bs).reply ≡ true
      → Follows run bs (J.step run bs)
  -- a round that is read gives the matrix that it spells (4.7), and a survey its sets (7.9)
  pub round_of : (run : Run) (bs : List ℕ) → is_accepted (J.read_round run bs).reply ≡ true
      → RoundOf run (J.read_round run bs).matrix bs
  pub surveys : (run : Run) (bs : List ℕ) → is_accepted (J.survey run bs).reply ≡ true
      → SetsOf run bs (J.survey run bs).ho (J.survey run bs).sho
  -- an image that is loaded gives the run that it spells (6.3), a good one
  pub image_of : (bs : List ℕ) → IsBytes bs → is_accepted (J.load bs).reply ≡ true
      → ImageOf (J.load bs).run bs × Keeps (J.load bs).run × Machine (J.load bs).run
  -- what is written is bytes and spells what it was written from, whatever the buffer held (3.5, 4.9 and 6.7)
  pub writes_opening : (s : Setup) (d : ℕ) (starts buffer : List ℕ) → d < 2 ^ 32 → Words starts
      → is_accepted (J.write_opening s d starts buffer).reply ≡ true
      → OpeningOf s d starts (J.write_opening s d starts buffer).bytes
      × IsBytes (J.write_opening s d starts buffer).bytes
  pub writes_round : (run : Run) (m : Matrix) (buffer : List ℕ) → IsMatrix m
      → is_accepted (J.write_round run m buffer).reply ≡ true
      → RoundOf run m (J.write_round run m buffer).bytes × IsBytes (J.write_round run m buffer).bytes
  pub writes_image : (run : Run) (buffer : List ℕ) → Machine run → is_accepted (J.save run buffer).reply ≡ true
      → ImageOf run (J.save run buffer).bytes × IsBytes (J.save run buffer).bytes
  -- so a tape that is accepted, read and written again, is the same bytes (13.12), and a good run, saved and loaded, is
  -- the same run (6.8). `Machine`: the code can hold it
  pub tapes : (opening : List ℕ) (rounds : List (List ℕ)) → IsBytes opening
      → is_accepted (J.read_opening opening).reply ≡ true
      → AcceptedInTurn J (J.read_opening opening).run rounds → tape_again J opening rounds ≡ opening ++ flatten rounds
  pub saves : (run : Run) (buffer : List ℕ) → Keeps run → Machine run
      → length buffer ≡ record_bytes * (3 + 4 * run.setup.n)
      → J.load (J.save run buffer).bytes ≡ record { reply = Accepted; run = run }
