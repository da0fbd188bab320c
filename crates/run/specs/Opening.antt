-- Openings: their records, and the checks in the order of rules 12.1 and 12.2 (rules 3).
use Rattle.std.specs.Prelude.{
  ℕ,
  ◌+◌,
  ◌*◌,
  ◌%◌,
  ◌/◌,
  Bool,
  true,
  ◌&&◌,
  cond,
  List,
  [],
  ◌++◌,
  length,
  get_or,
  eqb,
  leb,
  ltb,
  Result,
  Ok,
  Err,
}
use Rattle.paper.specs.Setup as setup
use Rattle.paper.specs.Stations.{every}
use Rattle.limits.specs.declared.Setup.{Setup}
use Rattle.limits.specs.Setup.{setup_of}
use Rattle.run.specs.declared.Run.{Run}
use Rattle.run.specs.declared.Opened.{Opened}
use Rattle.run.specs.declared.record.Record.{Record}
use Rattle.run.specs.declared.block.Shape.{Shape}
use Rattle.run.specs.declared.block.Shape.TheVariants.{Number}
use Rattle.run.specs.declared.reply.Refusal.{Refusal}
use Rattle.run.specs.Reply.{Reply}
use Rattle.run.specs.Reply.{Accepted, Length, Malformed, Range, Inequality, Buffer}
use Rattle.run.specs.Kinds as kind
use Rattle.run.specs.Number.{base, two_bytes}
use Rattle.run.specs.Record.{record_bytes, record_at, bytes_of}
use Rattle.run.specs.Written.{written}
use Rattle.run.specs.Block.{plain, is_plain, check_block, numbers_in, block_record}
use Rattle.run.specs.Reply.{is_accepted, ◌then◌, or_refuse}
use Rattle.run.specs.Run.{stations, at_start, run_to, run_of, idle, in_range, default_fits}

-- where the records stand (rule 3.1)
abbrev pub setup_at : ℕ
setup_at = 0

abbrev pub default_at : ℕ
default_at = 1

abbrev pub starts_from : ℕ
starts_from = 2

-- the setup's record: bytes 4 to 7 are the number E + 256 alpha, bytes 6 and 7 being zero (rule 2.4)
unfoldable pub setup_record : Setup → Record
setup_record s =
    record { kind = kind.SETUP; first = s.algorithm; second = s.n; third = s.t; number = s.e + base * s.alpha }

unfoldable pub is_setup : Record → Bool
is_setup r = eqb r.kind kind.SETUP && ltb r.number two_bytes

unfoldable pub read_setup : Record → Setup
read_setup r =
    record { algorithm = r.first; n = r.second; t = r.third; e = r.number % base; alpha = r.number / base % base }

-- 3, then 4 (rules 10.1 and 10.7)
unfoldable pub check_setup : Setup → Reply
unfolding in_range setup_of
check_setup s = or_refuse (in_range s) Range then or_refuse (setup.acceptable (setup_of s)) Inequality

-- an opening and an image begin alike: 1, 2, 3, 4
unfoldable pub check_head : List ℕ → Reply
unfolding check_setup is_setup read_setup
check_head bs =
    or_refuse (leb record_bytes (length bs)) Length
    then or_refuse (is_setup (record_at bs setup_at)) (Malformed setup_at)
    then check_setup (read_setup (record_at bs setup_at))

-- the setup and the default that the first two records hold
abbrev pub setup_in : List ℕ → Setup
setup_in bs = read_setup (record_at bs setup_at)

abbrev pub default_in : List ℕ → ℕ
default_in bs = (record_at bs default_at).number

-- rule 3.2
unfoldable pub check_default : List ℕ → Reply
unfolding is_plain default_fits
check_default bs =
    or_refuse (is_plain kind.DEFAULT 0 (record_at bs default_at) && default_fits (setup_in bs) (default_in bs))
    (Malformed default_at)

abbrev pub starts_shape : Shape
starts_shape = Number kind.START

abbrev pub check_starts : List ℕ → Reply
check_starts bs = check_block bs starts_from (setup_in bs).n starts_shape

-- rule 1.7
abbrev pub opening_length : ℕ → ℕ
opening_length n = record_bytes * (starts_from + n)

-- rule 12.1
unfoldable pub check_opening : List ℕ → Reply
unfolding check_head check_default check_block
check_opening bs =
    check_head bs then or_refuse (eqb (length bs) (opening_length (setup_in bs).n)) Length
    then check_default bs then check_starts bs

-- the run that stands at its starts (rule 3.3)
unfoldable pub run_from : Setup → ℕ → List ℕ → Run
unfolding run_to
run_from s d starts = run_of s d 0 (λ i. at_start (get_or starts i 0))

abbrev pub starts_in : List ℕ → List ℕ
starts_in bs = numbers_in bs starts_from (setup_in bs).n

-- what is refused gives the idle run (rules 3.4 and 6.6)
unfoldable pub unopened : Reply → Opened
unfolding idle
unopened r = record { reply = r; run = idle }

-- what a reading answers: the run that was read, or why none was
abbrev pub opened : Result Run Refusal → Opened
opened (Ok run) = record { reply = Accepted; run = run }
opened (Err r) = unopened (Err r)

abbrev pub answer : Reply → Run → Opened
answer r run = cond (is_accepted r) (record { reply = r; run = run }) (unopened r)

unfoldable pub read_opening : List ℕ → Opened
unfolding check_opening run_from unopened
read_opening bs = answer (check_opening bs) (run_from (setup_in bs) (default_in bs) (starts_in bs))

-- the two records that openings and images begin with
unfoldable pub head_bytes : Setup → ℕ → List ℕ
unfolding setup_record plain bytes_of
head_bytes s d = bytes_of (setup_record s) ++ bytes_of (plain kind.DEFAULT 0 d)

-- the bytes of the opening with this setup, default and starts (rule 3.5)
unfoldable pub opening : Setup → ℕ → List ℕ → List ℕ
unfolding head_bytes written
opening s d starts = head_bytes s d ++ written s.n (block_record starts_shape [] starts)

-- every start from n up is 0 (rule 3.6)
unfoldable pub starts_end : Setup → List ℕ → Bool
starts_end s starts = every stations (λ i. cond (ltb i s.n) true (eqb (get_or starts i 0) 0))

-- rule 12.2
unfoldable pub check_write : Setup → ℕ → List ℕ → ℕ → Reply
unfolding check_setup default_fits starts_end
check_write s d starts room =
    check_setup s then or_refuse (default_fits s d) (Malformed default_at)
    then or_refuse (starts_end s starts) (Malformed (starts_from + s.n))
    then or_refuse (eqb room (opening_length s.n)) Buffer

-- a refusal writes no byte
unfoldable pub write_opening : Setup → ℕ → List ℕ → List ℕ → List ℕ
unfolding check_write opening
write_opening s d starts buffer =
    cond (is_accepted (check_write s d starts (length buffer))) (opening s d starts) buffer
