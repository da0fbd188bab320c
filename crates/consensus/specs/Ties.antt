-- What ties the names in these statements to numbers and bytes: the page's numbers (sections 1, 2 and 11), and the
-- paper's round to the records that spell it. That it is so is proved in proofs/Ties.antt.
use Rattle.std.specs.Prelude.{◌≡◌, List, true, false, ◌↔◌, ℕ, ◌+◌, ◌*◌, ◌^◌, ◌<◌, length, get_or}
use Rattle.paper.specs.Heard as heard
use Rattle.limits.specs.Setup.{byte_a, byte_u}
use Rattle.run.specs.declared.Run.{Run}
use Rattle.run.specs.Reply.{Reply}
use Rattle.run.specs.Reply as reply
use Rattle.run.specs.Kinds as kind
use Rattle.run.specs.Bytes.{IsBytes}
use Rattle.run.specs.Keeps.{Keeps}
use Rattle.run.specs.Machine.{Machine}
use Rattle.run.specs.Record.{record_bytes, record_at}
use Rattle.run.specs.Reply.{number_of, place_of, is_accepted}
use Rattle.run.specs.Run.{stations, most_rounds, idle, station_at}
use Rattle.image.specs.Image.{image}
use Rattle.round.specs.declared.Cell.TheVariants as cell
use Rattle.round.specs.Cells.{cell_record}
use Rattle.round.specs.Reading.{all_lost, cell_of}
use Rattle.switch.specs.Switch.{answer_of}
use Rattle.consensus.specs.Round.{round_by_paper, cell_at}
use Rattle.consensus.specs.Spelled.{ImageOf}

-- a reply's number and place
abbrev pub Told : Reply → ℕ → ℕ → Type 0
Told r number place = (number_of r ≡ number) × (place_of r ≡ place)

pub record Numbers : Type 0 where
  pub most_stations : stations ≡ 32
  pub most_accepted : most_rounds ≡ 4096
  pub record_long : record_bytes ≡ 8
  pub algorithms : (byte_a ≡ 1) × (byte_u ≡ 2)
  pub opening_kinds : (kind.SETUP ≡ 1) × (kind.DEFAULT ≡ 2) × (kind.START ≡ 3)
  pub round_kinds : (kind.HEARD ≡ 4) × (kind.HEARD_QUERY ≡ 5) × (kind.LOST ≡ 6)
  pub image_kinds : (kind.CLOCK ≡ 8) × (kind.ESTIMATE ≡ 9) × (kind.NO_VOTE ≡ 10) × (kind.VOTE ≡ 11)
      × (kind.UNDECIDED ≡ 12) × (kind.DECIDED ≡ 13) × (kind.DECISION_ROUND ≡ 14)
  pub accepted : Told reply.Accepted 0 0
  pub length : Told reply.Length 1 0
  pub malformed : (k : ℕ) → Told (reply.Malformed k) 2 k
  pub range : Told reply.Range 3 0
  pub inequality : Told reply.Inequality 4 0
  pub query : (k : ℕ) → Told (reply.Query k) 5 k
  pub altered : (p : ℕ) → Told (reply.Altered p) 6 p
  pub unsafe : (p : ℕ) → Told (reply.Unsafe p) 7 p
  pub full : Told reply.Full 8 0
  pub buffer : Told reply.Buffer 9 0
  pub rules : (k : ℕ) → Told (reply.Rules k) 10 k
  -- an entry's answer (rule 15.2)
  pub answer : (r : Reply) → answer_of r ≡ number_of r + 2 ^ 32 * place_of r

-- 0 and nothing else accepts
abbrev pub AcceptsAlone : Type 0
AcceptsAlone = (r : Reply) → (is_accepted r ≡ true) ↔ (r ≡ reply.Accepted)

-- record k of some bytes, by its eight (rules 2.1 to 2.3)
pub record RecordAt (bs : List ℕ) (k : ℕ) : Type 0 where
  pub kind_byte : (record_at bs k).kind ≡ get_or bs (8 * k) 0
  pub byte_1 : (record_at bs k).first ≡ get_or bs (8 * k + 1) 0
  pub byte_2 : (record_at bs k).second ≡ get_or bs (8 * k + 2) 0
  pub byte_3 : (record_at bs k).third ≡ get_or bs (8 * k + 3) 0
  pub number : (record_at bs k).number
      ≡ get_or bs (8 * k + 4) 0 + 256 * get_or bs (8 * k + 5) 0 + 65536 * get_or bs (8 * k + 6) 0
      + 16777216 * get_or bs (8 * k + 7) 0

-- the bytes of a good run's image are that, record by record
abbrev pub ImageSpelled : Type 0
ImageSpelled = (run : Run) → Keeps run → Machine run → ImageOf run (image run) × IsBytes (image run)

-- what a refusal gives: the idle run, in which each number is 0 and nothing is there (rule 5.10), and a matrix in which
-- every cell is lost (12.5)
pub record Nothing : Type 0 where
  pub setup : idle.setup ≡ record { algorithm = 0; n = 0; t = 0; e = 0; alpha = 0 }
  pub default : idle.default ≡ 0
  pub clock : idle.clock ≡ 0
  pub station : (i : ℕ) → station_at idle i
      ≡ record { estimate = 0; voted = false; vote = 0; decided = false; decision = 0; round = 0 }
  pub machine : Machine idle
  pub lost : (p q : ℕ) → cell_of all_lost p q ≡ cell.Lost
  pub cells : length all_lost.cells ≡ stations * stations

-- what p heard of q is what their record spells, and nothing outside n by n (rules 4.1, 4.5 and 4.7)
pub record Heard (run : Run) (bs : List ℕ) : Type 0 where
  pub value : (p q v : ℕ) → p < run.setup.n → q < run.setup.n → cell_at run bs p q ≡ cell_record p q (cell.Value v)
      → (round_by_paper run bs).heard p q ≡ heard.heard (heard.val v)
  pub query : (p q : ℕ) → p < run.setup.n → q < run.setup.n → cell_at run bs p q ≡ cell_record p q cell.Query
      → (round_by_paper run bs).heard p q ≡ heard.heard heard.query
  pub lost : (p q : ℕ) → p < run.setup.n → q < run.setup.n → cell_at run bs p q ≡ cell_record p q cell.Lost
      → (round_by_paper run bs).heard p q ≡ heard.lost
  pub outside : (p q : ℕ) → ¬ ((p < run.setup.n) × (q < run.setup.n)) → (round_by_paper run bs).heard p q ≡ heard.lost
