-- The listing's lines (rules 14.2 to 14.6), each a list of bytes.
use Rattle.std.specs.Prelude.{
  ◌≡◌,
  Bool,
  true,
  false,
  cond,
  List,
  [],
  ◌∷◌,
  ◌++◌,
  ℕ,
  zero,
  suc,
  ◌+◌,
  ◌*◌,
  ◌/◌,
  ◌%◌,
  ◌≤◌,
  leb,
  ltb,
  length,
  take,
  drop,
  get_or,
  Option,
  None,
  Some,
}
use Prim.Native.Char.{code}
use Prim.Native.String.{String, [] as no_text, ◌∷◌ as ◌then_text◌}
use Rattle.limits.specs.declared.Setup.{Setup}
use Rattle.limits.specs.Setup.{is_u}
use Rattle.lines.specs.declared.Pen.{Pen}
use Rattle.run.specs.declared.Run.{Run}
use Rattle.run.specs.Reply.{Reply}
use Rattle.run.specs.Reply.{number_of, place_of}
use Rattle.run.specs.Run.{stations}

-- the text stands in a buffer from `at` up to `end`, and what is before and behind it is as it was
pub record Put (before : List ℕ) (at : ℕ) (text : List ℕ) (end : ℕ) (after : List ℕ) : Type 0 where
  pub ends : end ≡ at + length text
  pub stands : take end after ≡ take at before ++ text
  pub behind : drop end after ≡ drop end before

-- ---- words and numbers
-- the codes of a text's characters: for ASCII, its bytes
abbrev pub ascii : String → List ℕ
ascii no_text = []
ascii (c then_text s) = code c ∷ ascii s

abbrev pub line_end : List ℕ
line_end = ascii "\n"

-- decimal
abbrev pub ten : ℕ
ten = 10

abbrev pub digit : ℕ → ℕ
digit d = code "0" + d

-- the last digits of a number, at most so many, and no zeros in front
unfoldable pub spelled : ℕ → ℕ → List ℕ
spelled zero x = []
spelled (suc most) x = cond (ltb x ten) (digit x ∷ []) (spelled most (x / ten) ++ (digit (x % ten) ∷ []))

-- a number of 32 bits has at most ten
abbrev pub most_digits : ℕ
most_digits = 10

abbrev pub number : ℕ → List ℕ
number x = spelled most_digits x

-- a number beside a flag that says whether it is there
abbrev pub if_there : Bool → ℕ → Option ℕ
if_there there x = cond there (Some x) None

-- " 7", or a sign where there is no number
abbrev pub entry : Option ℕ → ℕ → List ℕ
entry (Some x) sign = code " " ∷ number x
entry None sign = code " " ∷ sign ∷ []

-- one after the other for each of the first n stations
unfoldable pub entries : ℕ → (ℕ → Option ℕ) → ℕ → List ℕ
entries zero of sign = []
entries (suc n) of sign = entries n of sign ++ entry (of n) sign

-- a word and its entries
abbrev pub part : List ℕ → ℕ → (ℕ → Option ℕ) → ℕ → List ℕ
part word n of sign = word ++ entries n of sign

-- ---- lines
abbrev pub name : Setup → ℕ
name s = cond (is_u s) (code "U") (code "A")

-- " T=2 E=2 alpha=0"
unfoldable pub limits : Setup → List ℕ
limits s =
    (ascii " T=" ++ number s.t) ++ (ascii " E=" ++ number s.e) ++ (ascii " alpha=" ++ number s.alpha)

-- "A n=3 T=2 E=2 alpha=0" (rule 14.3)
unfoldable pub setup_line : Setup → List ℕ
setup_line s = (name s ∷ []) ++ (ascii " n=" ++ number s.n) ++ limits s ++ line_end

-- "2 hold 5 5 5 vote ? ? ? decide 5 5 -": the run after a round, and for what the rule fired in it, and where (14.4)
unfoldable pub round_line : Run → List (Option ℕ) → List ℕ
round_line run fired =
    number run.clock
    ++ part (ascii " hold") run.setup.n (λ i. Some (get_or run.estimates i 0)) (code "?")
    ++ part (ascii " vote") run.setup.n (λ i. if_there (get_or run.voted i false) (get_or run.votes i 0)) (code "?")
    ++ part (ascii " decide") run.setup.n (λ i. get_or fired i None) (code "-")
    ++ line_end

-- a word, and "0 at 0"
unfoldable pub answer_line : List ℕ → Reply → List ℕ
answer_line word r = (word ++ number (number_of r)) ++ (ascii " at " ++ number (place_of r)) ++ line_end

-- "end rounds 2 answer 0 at 0": the rounds accepted, and the reply (rule 14.6)
unfoldable pub end_line : ℕ → Reply → List ℕ
end_line k r = (ascii "end rounds " ++ number k) ++ answer_line (ascii " answer ") r

-- "open refused 4 at 0" (rule 14.2)
unfoldable pub refusal_line : Reply → List ℕ
refusal_line r = answer_line (ascii "open refused ") r

-- ---- the room that a buffer must have for them
abbrev pub entry_room : ℕ
entry_room = 1 + most_digits

abbrev pub limits_room : ℕ
limits_room = length (ascii " T= E= alpha=") + 3 * most_digits

abbrev pub answer_room : ℕ
answer_room = length (ascii " at \n") + 2 * most_digits

-- no line is longer: this is a round's of all stations
abbrev pub longest : ℕ
longest = most_digits + length (ascii " hold vote decide\n") + 3 * (entry_room * stations)

-- ---- what a pen puts
-- there is room for so many bytes from its place on
abbrev pub RoomFor : Pen → ℕ → Type 0
RoomFor p n = p.at + n ≤ length p.out.now

-- the text is put at its place, and the pen is behind it now
abbrev pub Writes : Pen → List ℕ → Pen → Type 0
Writes p text q = Put p.out.now p.at text q.at q.out.now

-- the pen is at most n bytes further on, in the same buffer
pub record Within (p : Pen) (n : ℕ) (q : Pen) : Type 0 where
  pub upper_bound : q.at ≤ p.at + n
  pub length_kept : length q.out.now ≡ length p.out.now
  pub same_reference : q.out.ghost_name ≡ p.out.ghost_name

-- whoever takes a pen from p to q goes no further than a line
abbrev pub IsShort : (Pen → Pen → Type 0) → Type 0
IsShort goes = (p q : Pen) → RoomFor p longest → goes p q → Within p longest q

-- and puts this line
abbrev pub IsLine : (Pen → Pen → Type 0) → List ℕ → Type 0
IsLine goes line = (p q : Pen) → RoomFor p longest → goes p q → Writes p line q

-- ---- where a line may be put
-- one fits behind `at` in so many bytes
abbrev pub has_room : ℕ → ℕ → Bool
has_room at room = leb (at + longest) room

-- the text is put where it may be, and else nothing is written
abbrev pub PutIf : Bool → List ℕ → ℕ → List ℕ → ℕ → List ℕ → Type 0
PutIf true before at text end after = Put before at text end after
PutIf false before at text end after = (end ≡ at) × (after ≡ before)
