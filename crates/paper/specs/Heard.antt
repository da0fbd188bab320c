-- Who heard whom in a round: the paper's section 2.1 and the sets R and Q of its section 3.2; rules 7.1 to 7.7.
use Rattle.std.specs.Prelude.{Bool, true, false, ℕ, eqb}
use Rattle.paper.specs.Stations.{Stations, ◌∖◌}

-- what a station can send: a value of V, or "?", which is no value (Algorithm 2, line 3)
pub data Message : Type 0 where
  val : ℕ → Message
  query : Message

-- what a receiver has of one sender: nothing, or a message (the partial vector of section 2.1)
pub data Cell : Type 0 where
  lost : Cell
  heard : Message → Cell

-- the reception vector of one receiver, a cell for each sender, and one such row for each receiver
abbrev pub Row : Type 0
Row = ℕ → Cell

abbrev pub Matrix : Type 0
Matrix = ℕ → Row

unfoldable pub same : Message → Message → Bool
same (val v) (val w) = eqb v w
same (val v) query = false
same query (val w) = false
same query query = true

-- the cell holds something
unfoldable pub arrived : Cell → Bool
arrived lost = false
arrived (heard m) = true

-- the cell holds just this message
unfoldable pub holds : Cell → Message → Bool
unfolding same
holds lost m = false
holds (heard k) m = same k m

-- HO(p): whom p heard
unfoldable pub HO : Row → Stations
unfolding arrived
HO row q = arrived (row q)

-- SHO(p): from whom p heard just what that sender ought to send; `sent q` is that, the same for all (rule 7.2)
unfoldable pub SHO : Row → (ℕ → Message) → Stations
unfolding holds
SHO row sent q = holds (row q) (sent q)

-- AHO(p) = HO(p) \ SHO(p)
unfoldable pub AHO : Row → (ℕ → Message) → Stations
unfolding HO SHO
AHO row sent = HO row ∖ SHO row sent

-- R(v): from whom p received the value v
unfoldable pub R : Row → ℕ → Stations
unfolding holds
R row v q = holds (row q) (val v)

-- Q(v): who ought to send the value v
unfoldable pub Q : (ℕ → Message) → ℕ → Stations
unfolding same
Q sent v q = same (sent q) (val v)
