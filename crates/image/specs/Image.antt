-- Images: their records, and the checks in the order of rules 12.3 and 12.4 (rules 6).
use Rattle.std.specs.Prelude.{ℕ, ◌+◌, ◌*◌, Bool, false, not, cond, List, [], ◌∷◌, ◌++◌, length, get_or, eqb, leb}
use Rattle.limits.specs.declared.Setup.{Setup}
use Rattle.run.specs.declared.Run.{Run}
use Rattle.run.specs.declared.Station.{Station}
use Rattle.run.specs.declared.Opened.{Opened}
use Rattle.run.specs.declared.record.Record.{Record}
use Rattle.run.specs.declared.block.Shape.{Shape}
use Rattle.run.specs.declared.block.Shape.TheVariants.{Number, Maybe}
use Rattle.run.specs.Reply.{Reply}
use Rattle.run.specs.Reply.{Accepted, Length, Malformed, Buffer, Rules}
use Rattle.run.specs.Kinds as kind
use Rattle.run.specs.Record.{record_bytes, record_at, bytes_of}
use Rattle.run.specs.Written.{written}
use Rattle.run.specs.First.{first}
use Rattle.run.specs.Reply.{is_accepted, ◌then◌, or_refuse, refuse_at}
use Rattle.run.specs.Run.{most_rounds, run_to, run_of, station_at, vote_fits, decision_fits, sound}
use Rattle.run.specs.Block.{plain, is_plain, record_of, check_block}
use Rattle.run.specs.Opening.{setup_in, default_in, check_head, check_default, unopened, answer, head_bytes}

-- where the records stand (rules 6.1 and 6.2): the clock, and then each block behind the one before it
abbrev pub clock_at : ℕ
clock_at = 2

abbrev pub estimates_from : ℕ
estimates_from = 3

abbrev pub votes_from : ℕ → ℕ
votes_from n = estimates_from + n

abbrev pub decisions_from : ℕ → ℕ
decisions_from n = votes_from n + n

abbrev pub rounds_from : ℕ → ℕ
rounds_from n = decisions_from n + n

-- rule 1.7
abbrev pub image_length : ℕ → ℕ
image_length n = record_bytes * (estimates_from + 4 * n)

-- ---- the records
-- the clock's
abbrev pub clock_record : ℕ → Record
clock_record clock = plain kind.CLOCK 0 clock

-- the blocks' shapes (rule 6.2)
abbrev pub estimates_shape : Shape
estimates_shape = Number kind.ESTIMATE

abbrev pub votes_shape : Shape
votes_shape = Maybe kind.NO_VOTE kind.VOTE

abbrev pub decisions_shape : Shape
decisions_shape = Maybe kind.UNDECIDED kind.DECIDED

abbrev pub rounds_shape : Shape
rounds_shape = Number kind.DECISION_ROUND

-- a block: its records' shape, and what they tell of a station
pub record Block : Type 0 where
  pub shape : Shape
  pub there : Station → Bool
  pub number : Station → ℕ

-- the four blocks in order
abbrev pub estimates_block : Block
estimates_block = record { shape = estimates_shape; there = λ p. false; number = λ p. p.estimate }

abbrev pub votes_block : Block
votes_block = record { shape = votes_shape; there = λ p. p.voted; number = λ p. p.vote }

abbrev pub decisions_block : Block
decisions_block = record { shape = decisions_shape; there = λ p. p.decided; number = λ p. p.decision }

abbrev pub rounds_block : Block
rounds_block = record { shape = rounds_shape; there = λ p. false; number = λ p. p.round }

abbrev pub blocks : List Block
blocks = estimates_block ∷ votes_block ∷ decisions_block ∷ rounds_block ∷ []

-- station i's record in a block
abbrev pub station_record : Block → Run → ℕ → Record
station_record b run i = record_of b.shape i (b.there (station_at run i)) (b.number (station_at run i))

-- ---- saving
-- blocks one behind the other
unfoldable pub blocks_bytes : List Block → Run → List ℕ
unfolding written
blocks_bytes [] run = []
blocks_bytes (b ∷ rest) run = written run.setup.n (station_record b run) ++ blocks_bytes rest run

-- the bytes of a run's image
unfoldable pub image : Run → List ℕ
unfolding head_bytes plain bytes_of blocks_bytes
image run = head_bytes run.setup run.default ++ bytes_of (clock_record run.clock) ++ blocks_bytes blocks run

-- rule 12.4
unfoldable pub check_save : Run → ℕ → Reply
unfolding sound
check_save run room = or_refuse (sound run) (Rules 0) then or_refuse (eqb room (image_length run.setup.n)) Buffer

-- what the lent buffer holds after saving (rule 6.7): a refusal writes no byte
unfoldable pub saved : Run → List ℕ → List ℕ
unfolding check_save image
saved run buffer = cond (is_accepted (check_save run (length buffer))) (image run) buffer

-- ---- loading
-- station i as its records spell it
abbrev pub station_in : List ℕ → ℕ → Station
station_in bs i =
    let n = (setup_in bs).n in
    record {
      estimate = (record_at bs (estimates_from + i)).number;
      voted = eqb (record_at bs (votes_from n + i)).kind kind.VOTE;
      vote = (record_at bs (votes_from n + i)).number;
      decided = eqb (record_at bs (decisions_from n + i)).kind kind.DECIDED;
      decision = (record_at bs (decisions_from n + i)).number;
      round = (record_at bs (rounds_from n + i)).number;
    }

abbrev pub clock_in : List ℕ → ℕ
clock_in bs = (record_at bs clock_at).number

-- the run that an image's records spell (rule 6.3)
unfoldable pub run_in : List ℕ → Run
unfolding run_to
run_in bs = run_of (setup_in bs) (default_in bs) (clock_in bs) (station_in bs)

-- the records are well formed: 2 at the first that is not, blocks in order
unfoldable pub check_blocks : List ℕ → ℕ → ℕ → List Block → Reply
unfolding check_block
check_blocks bs start n [] = Accepted
check_blocks bs start n (b ∷ rest) = check_block bs start n b.shape then check_blocks bs (start + n) n rest

unfoldable pub check_records : List ℕ → ℕ → Reply
unfolding is_plain check_blocks
check_records bs n =
    or_refuse (is_plain kind.CLOCK 0 (record_at bs clock_at)) (Malformed clock_at)
    then check_blocks bs estimates_from n blocks

-- the form of all records comes first (rule 6.4)
unfoldable pub check_form : List ℕ → Reply
unfolding check_head check_default check_records
check_form bs =
    check_head bs then or_refuse (eqb (length bs) (image_length (setup_in bs).n)) Length then check_default bs
    then check_records bs (setup_in bs).n

-- then the rules of a run, each told at the record of rule 6.5
unfoldable pub check_votes : Setup → ℕ → List Bool → Reply
unfolding vote_fits
check_votes s clock voted =
    refuse_at (first s.n (λ i. not (vote_fits s clock (get_or voted i false)))) (λ i. Rules (votes_from s.n + i))

unfoldable pub check_decisions : Setup → ℕ → List Bool → List ℕ → Reply
unfolding decision_fits
check_decisions s clock decided rounds =
    refuse_at
    (first s.n (λ i. not (decision_fits s clock (get_or decided i false) (get_or rounds i 0))))
    (λ i. Rules (rounds_from s.n + i))

unfoldable pub check_rules : Run → Reply
unfolding check_votes check_decisions
check_rules run =
    or_refuse (leb run.clock most_rounds) (Rules clock_at) then check_votes run.setup run.clock run.voted
    then check_decisions run.setup run.clock run.decided run.rounds

-- rule 12.3
unfoldable pub check_image : List ℕ → Reply
unfolding check_form run_in check_rules
check_image bs = check_form bs then check_rules (run_in bs)

-- the run, or the idle one where the image is refused (rule 6.6)
unfoldable pub loaded : List ℕ → Opened
unfolding check_image run_in unopened
loaded bs = answer (check_image bs) (run_in bs)
