-- What is answered to an image that is loaded, and to a run that is to be saved, and when: one case for each reply,
-- with all that must hold before it (rules 12.3, 12.4 and 6.5). Proved in proofs/ImageReplies.antt.
use Rattle.std.specs.Prelude.{◌≡◌, true, false, List, ℕ, ◌+◌, ◌*◌, ◌%◌, ◌≤◌, ◌<◌, length}
use Rattle.limits.specs.declared.Setup.{Setup}
use Rattle.limits.specs.Setup.{byte_a, byte_u}
use Rattle.run.specs.declared.Run.{Run}
use Rattle.run.specs.Reply.{Reply}
use Rattle.run.specs.Reply.{Accepted, Length, Malformed, Range, Inequality, Buffer, Rules}
use Rattle.run.specs.declared.record.Record.{Record}
use Rattle.run.specs.Kinds as kind
use Rattle.run.specs.Keeps.{Keeps}
use Rattle.run.specs.Record.{record_bytes, record_at}
use Rattle.run.specs.Run.{most_rounds, station_at}
use Rattle.run.specs.Block.{plain}
use Rattle.run.specs.Opening.{setup_in}
use Rattle.image.specs.Image.{run_in}
use Rattle.consensus.specs.OpeningReplies.{SetupThere, InRange, Meets, Headed}

-- record k of an image with this setup is well formed, from the default on (rules 3.2, 6.1, 6.2 and 2.8)
pub data InPlace (s : Setup) (k : ℕ) (r : Record) : Type 0 where
  default : (d : ℕ) → k ≡ 1 → r ≡ plain kind.DEFAULT 0 d → (s.algorithm ≡ byte_a → d ≡ 0) → InPlace s k r
  clock : (c : ℕ) → k ≡ 2 → r ≡ plain kind.CLOCK 0 c → InPlace s k r
  estimate : (p x : ℕ) → p < s.n → k ≡ 3 + p → r ≡ plain kind.ESTIMATE p x → InPlace s k r
  no_vote : (p : ℕ) → p < s.n → k ≡ 3 + s.n + p → r ≡ plain kind.NO_VOTE p 0 → InPlace s k r
  vote : (p x : ℕ) → p < s.n → k ≡ 3 + s.n + p → r ≡ plain kind.VOTE p x → InPlace s k r
  undecided : (p : ℕ) → p < s.n → k ≡ 3 + 2 * s.n + p → r ≡ plain kind.UNDECIDED p 0 → InPlace s k r
  decided : (p x : ℕ) → p < s.n → k ≡ 3 + 2 * s.n + p → r ≡ plain kind.DECIDED p x → InPlace s k r
  round : (p x : ℕ) → p < s.n → k ≡ 3 + 3 * s.n + p → r ≡ plain kind.DECISION_ROUND p x → InPlace s k r

-- it has 8(4n + 3) bytes (rule 1.7)
abbrev pub ImageWhole : List ℕ → Type 0
ImageWhole bs = length bs ≡ record_bytes * (3 + 4 * (setup_in bs).n)

-- its records from 1 on are well formed, up to but not with k
abbrev pub InPlaceUpTo : List ℕ → ℕ → Type 0
InPlaceUpTo bs k = (j : ℕ) → 1 ≤ j → j < k → InPlace (setup_in bs) j (record_at bs j)

-- a rule of a run that a well-formed image may break, and the record at which that is told (rule 6.5)
pub data Breaks (run : Run) (k : ℕ) : Type 0 where
  -- 5.4
  clock : k ≡ 2 → most_rounds < run.clock → Breaks run k
  -- 5.5: a vote stands only under U and while the clock is odd
  vote : (p : ℕ) → p < run.setup.n → k ≡ 3 + run.setup.n + p → (station_at run p).voted ≡ true
      → ¬ ((run.setup.algorithm ≡ byte_u) × (run.clock % 2 ≡ 1)) → Breaks run k
  -- 5.6: without a decision the round is 0
  undecided : (p : ℕ) → p < run.setup.n → k ≡ 3 + 3 * run.setup.n + p → (station_at run p).decided ≡ false
      → ¬ ((station_at run p).round ≡ 0) → Breaks run k
  -- 5.7: with one it is at least 1 and at most the clock, and even under U
  decided : (p : ℕ) → p < run.setup.n → k ≡ 3 + 3 * run.setup.n + p → (station_at run p).decided ≡ true
      → ¬ ((1 ≤ (station_at run p).round) × ((station_at run p).round ≤ run.clock)
      × (run.setup.algorithm ≡ byte_u → (station_at run p).round % 2 ≡ 0)) → Breaks run k

-- the form of all records (rule 6.4)
pub record ImageForm (bs : List ℕ) : Type 0 where
  pub headed : Headed bs
  pub long : ImageWhole bs
  pub in_place : InPlaceUpTo bs (3 + 4 * (setup_in bs).n)

-- an image that is loaded (rule 12.3). `run_in` is the run that its records spell (rule 6.3)
pub data ImageReply (bs : List ℕ) : Reply → Type 0 where
  -- 1: fewer than 8 bytes
  too_short : length bs < record_bytes → ImageReply bs Length
  -- 2 at 0: record 0 is no setup
  no_setup : record_bytes ≤ length bs → ¬ SetupThere bs → ImageReply bs (Malformed 0)
  -- 3, 4
  out_of_range : SetupThere bs → ¬ InRange (setup_in bs) → ImageReply bs Range
  unmet : SetupThere bs → InRange (setup_in bs) → ¬ Meets (setup_in bs) → ImageReply bs Inequality
  -- 1: not the length that n asks for
  misfit : Headed bs → ¬ ImageWhole bs → ImageReply bs Length
  -- 2 at k: the first record that is not well formed
  malformed : (k : ℕ) → Headed bs → ImageWhole bs → 1 ≤ k → k < 3 + 4 * (setup_in bs).n → InPlaceUpTo bs k
      → ¬ InPlace (setup_in bs) k (record_at bs k) → ImageReply bs (Malformed k)
  -- 10 at k: the lowest record at which a broken rule is told
  broken : (k : ℕ) → ImageForm bs → Breaks (run_in bs) k → ((j : ℕ) → j < k → ¬ Breaks (run_in bs) j)
      → ImageReply bs (Rules k)
  -- 0
  accepted : ImageForm bs → ((k : ℕ) → ¬ Breaks (run_in bs) k) → ImageReply bs Accepted

-- a run that is to be saved into so many bytes (rule 12.4)
pub data SaveReply (run : Run) (room : ℕ) : Reply → Type 0 where
  -- 10
  not_good : ¬ Keeps run → SaveReply run room (Rules 0)
  -- 9: not 8(4n + 3) bytes
  no_room : Keeps run → ¬ (room ≡ record_bytes * (3 + 4 * run.setup.n)) → SaveReply run room Buffer
  -- 0
  accepted : Keeps run → room ≡ record_bytes * (3 + 4 * run.setup.n) → SaveReply run room Accepted
