-- What is answered to an opening that is read, and to one that is to be written, and when: one case for each reply,
-- with all that must hold before it (rules 12.1 and 12.2). Proved in proofs/OpeningReplies.antt.
use Rattle.std.specs.Prelude.{◌≡◌, true, ◌⊎◌, List, ℕ, ◌+◌, ◌*◌, ◌≤◌, ◌<◌, length, get_or}
use Rattle.paper.specs.Setup as setup
use Rattle.limits.specs.declared.Setup.{Setup}
use Rattle.limits.specs.Setup.{byte_a, byte_u, setup_of}
use Rattle.run.specs.Reply.{Reply}
use Rattle.run.specs.Reply.{Accepted, Length, Malformed, Range, Inequality, Buffer}
use Rattle.run.specs.Kinds as kind
use Rattle.run.specs.Number.{two_bytes}
use Rattle.run.specs.Record.{record_bytes, record_at}
use Rattle.run.specs.Run.{stations}
use Rattle.run.specs.Block.{plain}
use Rattle.run.specs.Opening.{setup_in}

-- ---- what openings and images begin with
-- record 0 is a setup: kind 1, and its bytes 6 and 7 are zero (rule 2.4)
pub record SetupThere (bs : List ℕ) : Type 0 where
  pub enough : record_bytes ≤ length bs
  pub is_setup : (record_at bs 0).kind ≡ kind.SETUP
  pub zeros : (record_at bs 0).number < two_bytes

-- rule 10.1
pub record InRange (s : Setup) : Type 0 where
  pub algorithm : (s.algorithm ≡ byte_a) ⊎ (s.algorithm ≡ byte_u)
  pub n_from : 1 ≤ s.n
  pub n_to : s.n ≤ stations

-- rules 10.2 to 10.6
abbrev pub Meets : Setup → Type 0
Meets s = setup.acceptable (setup_of s) ≡ true

-- what it sets up is in range and meets the inequalities
pub record Headed (bs : List ℕ) : Type 0 where
  pub there : SetupThere bs
  pub range : InRange (setup_in bs)
  pub meets : Meets (setup_in bs)

-- record 1 is a default, which under A is 0 (rules 3.1 and 3.2)
abbrev pub DefaultThere : List ℕ → Type 0
DefaultThere bs = (d : ℕ) × (record_at bs 1 ≡ plain kind.DEFAULT 0 d) × ((setup_in bs).algorithm ≡ byte_a → d ≡ 0)

-- ---- an opening
-- record 2 + p is the start of station p
abbrev pub StartThere : List ℕ → ℕ → Type 0
StartThere bs p = (x : ℕ) × (record_at bs (2 + p) ≡ plain kind.START p x)

-- it has 8(n + 2) bytes (rule 1.7)
abbrev pub OpeningWhole : List ℕ → Type 0
OpeningWhole bs = length bs ≡ record_bytes * (2 + (setup_in bs).n)

-- an opening that is read (rule 12.1)
pub data OpeningReply (bs : List ℕ) : Reply → Type 0 where
  -- 1: fewer than 8 bytes
  too_short : length bs < record_bytes → OpeningReply bs Length
  -- 2 at 0: record 0 is no setup
  no_setup : record_bytes ≤ length bs → ¬ SetupThere bs → OpeningReply bs (Malformed 0)
  -- 3, 4
  out_of_range : SetupThere bs → ¬ InRange (setup_in bs) → OpeningReply bs Range
  unmet : SetupThere bs → InRange (setup_in bs) → ¬ Meets (setup_in bs) → OpeningReply bs Inequality
  -- 1: not the length that n asks for
  misfit : Headed bs → ¬ OpeningWhole bs → OpeningReply bs Length
  -- 2 at 1: record 1 is no default, or not 0 under A
  no_default : Headed bs → OpeningWhole bs → ¬ DefaultThere bs → OpeningReply bs (Malformed 1)
  -- 2 at 2 + p: p is the lowest station whose record is not its start
  no_start : (p : ℕ) → Headed bs → OpeningWhole bs → DefaultThere bs → p < (setup_in bs).n
      → ((q : ℕ) → q < p → StartThere bs q) → ¬ StartThere bs p → OpeningReply bs (Malformed (2 + p))
  -- 0
  accepted : Headed bs → OpeningWhole bs → DefaultThere bs → ((p : ℕ) → p < (setup_in bs).n → StartThere bs p)
      → OpeningReply bs Accepted

-- ---- an opening that is to be written, from a setup, a default and starts, into so many bytes (rule 12.2)
-- no start stands from n up (rule 3.6)
abbrev pub StartsEnd : Setup → List ℕ → Type 0
StartsEnd s starts = (p : ℕ) → s.n ≤ p → p < stations → get_or starts p 0 ≡ 0

pub data WriteOpeningReply (s : Setup) (d : ℕ) (starts : List ℕ) (room : ℕ) : Reply → Type 0 where
  -- 3, 4
  out_of_range : ¬ InRange s → WriteOpeningReply s d starts room Range
  unmet : InRange s → ¬ Meets s → WriteOpeningReply s d starts room Inequality
  -- 2 at 1: a default other than 0 under A
  no_default : InRange s → Meets s → s.algorithm ≡ byte_a → ¬ (d ≡ 0)
      → WriteOpeningReply s d starts room (Malformed 1)
  -- 2 at 2 + n: a start from n up
  no_end : InRange s → Meets s → (s.algorithm ≡ byte_a → d ≡ 0) → ¬ StartsEnd s starts
      → WriteOpeningReply s d starts room (Malformed (2 + s.n))
  -- 9: not 8(n + 2) bytes
  no_room : InRange s → Meets s → (s.algorithm ≡ byte_a → d ≡ 0) → StartsEnd s starts
      → ¬ (room ≡ record_bytes * (2 + s.n)) → WriteOpeningReply s d starts room Buffer
  -- 0
  accepted : InRange s → Meets s → (s.algorithm ≡ byte_a → d ≡ 0) → StartsEnd s starts
      → room ≡ record_bytes * (2 + s.n) → WriteOpeningReply s d starts room Accepted
