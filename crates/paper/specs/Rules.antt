-- The two algorithms: the paper's Algorithm 1 (A, rules 8.1 to 8.7) and Algorithm 2 (U, rules 9.1 to 9.9), each in one
-- place below. What becomes of a station is a function of the setup, the default, the round's number, its own state and
-- its own row (rule 9.12).
use Rattle.std.specs.Prelude.{◌≡◌, Bool, true, false, cond, ℕ, zero, suc, ◌%◌, min, eqb, leb}
use Rattle.std.specs.Prelude.{Option, None, Some}
use Rattle.paper.specs.Stations.{size, every}
use Rattle.paper.specs.Heard.{Message, val, query, Cell, lost, heard, Row, HO, R}
use Rattle.paper.specs.Setup.{Algorithm, A, U, Setup, passes_t, passes_e, vouched}

-- the first decision of a station: the value, then its round
pub data Decision : Type 0 where
  undecided : Decision
  decided : ℕ → ℕ → Decision

pub record Station : Type 0 where
  pub estimate : ℕ
  pub vote : Message
  pub decision : Decision

-- a round of A; a value round and a vote round of U
pub data Kind : Type 0 where
  update value vote : Kind

-- rounds are counted from 1; U has value rounds at 2 phi - 1 and vote rounds at 2 phi (Algorithm 2, lines 4 and 10)
unfoldable pub kind_of : Algorithm → ℕ → Kind
kind_of A r = update
kind_of U r = cond (eqb (r % 2) 0) vote value

-- what a station ought to send, to all: Algorithm 1, line 5; Algorithm 2, lines 6 and 12 (rule 7.2)
unfoldable pub sends : Kind → Station → Message
sends update s = val s.estimate
sends value s = val s.estimate
sends vote s = s.vote

-- how often a value was received (rule 7.10)
unfoldable pub times : ℕ → Row → ℕ → ℕ
unfolding size R
times n row v = size n (R row v)

-- the value in a cell, where it has one that passes the test
unfoldable pub candidate : (ℕ → Bool) → Cell → Option ℕ
candidate test lost = None
candidate test (heard query) = None
candidate test (heard (val v)) = cond (test v) (Some v) None

unfoldable pub smaller : Option ℕ → Option ℕ → Option ℕ
smaller None w = w
smaller (Some v) None = Some v
smaller (Some v) (Some w) = Some (min v w)

-- the smallest received value that passes the test, if there is one
unfoldable pub smallest : ℕ → Row → (ℕ → Bool) → Option ℕ
unfolding candidate smaller
smallest zero row test = None
smallest (suc n) row test = smaller (smallest n row test) (candidate test (row n))

-- the value in a cell, if any, came no more than k times
unfoldable pub no_oftener : ℕ → Row → ℕ → Cell → Bool
unfolding times
no_oftener n row k lost = true
no_oftener n row k (heard query) = true
no_oftener n row k (heard (val w)) = leb (times n row w) k

-- v is among the values received most often
unfoldable pub most_often : ℕ → Row → ℕ → Bool
unfolding every no_oftener times
most_often n row v = every n (λ q. no_oftener n row (times n row v) (row q))

unfoldable pub or_else : Option ℕ → ℕ → ℕ
or_else None x = x
or_else (Some v) x = v

unfoldable pub vote_or_else : Option ℕ → Message → Message
vote_or_else None m = m
vote_or_else (Some v) m = val v

-- what a round does: the estimate and the vote that it leaves, and the value that it decides, if any
pub record Deeds : Type 0 where
  pub estimate : ℕ
  pub vote : Message
  pub decides : Option ℕ

-- the value that passes E, if any: at most one does (Lemmas 2 and 7), so that the smallest is that one
unfoldable pub over_e : Setup → Row → Option ℕ
unfolding passes_e times smallest
over_e S row = smallest S.n row (λ v. passes_e S (times S.n row v))

-- Algorithm 1, each round (rules 8.2 to 8.6); line 5 is `sends` above, and the start `opened` in Run.antt
unfoldable pub update_round : Setup → Station → Row → Deeds
unfolding passes_t size HO smallest most_often or_else over_e
update_round S s row =
    record {
      -- lines 7 and 8: where more than T are heard, the smallest of the values received most often
      estimate =
          cond (passes_t S (size S.n (HO row))) (or_else (smallest S.n row (most_often S.n row)) s.estimate)
          s.estimate;
      -- there are no votes
      vote = s.vote;
      -- lines 9 and 10: the value received more than E times
      decides = over_e S row;
    }

-- Algorithm 2, round 2 phi - 1: a value round (rules 9.3 and 9.4)
unfoldable pub value_round : Setup → Station → Row → Deeds
unfolding passes_t times smallest vote_or_else
value_round S s row =
    record {
      -- no line touches the estimate
      estimate = s.estimate;
      -- lines 8 and 9: the value received more than T times; at most one is (Lemma 8), so that the smallest is that one
      vote = vote_or_else (smallest S.n row (λ v. passes_t S (times S.n row v))) s.vote;
      -- and none decides
      decides = None;
    }

-- Algorithm 2, round 2 phi: a vote round (rules 9.6 to 9.9)
unfoldable pub vote_round : Setup → ℕ → Row → Deeds
unfolding vouched times smallest or_else over_e
vote_round S default row =
    record {
      -- lines 14 to 17: the smallest value with at least alpha + 1 votes, else the default
      estimate = or_else (smallest S.n row (λ v. vouched S (times S.n row v))) default;
      -- line 20
      vote = query;
      -- lines 18 and 19: the value with more than E votes
      decides = over_e S row;
    }

-- what a round of each kind does
unfoldable pub deeds : Setup → ℕ → Kind → Station → Row → Deeds
unfolding update_round value_round vote_round
deeds S default update s row = update_round S s row
deeds S default value s row = value_round S s row
deeds S default vote s row = vote_round S default row

-- the first decision is kept with its round; a later firing doesn't change it (rule 9.10)
unfoldable pub keep : Decision → ℕ → Option ℕ → Decision
keep undecided r None = undecided
keep undecided r (Some v) = decided v r
keep (decided v r₀) r f = decided v r₀

-- what round r makes of a station
unfoldable pub after : Setup → ℕ → ℕ → Station → Row → Station
unfolding kind_of deeds keep
after S default r s row =
    let does : Deeds = deeds S default (kind_of S.algorithm r) s row in
    record { estimate = does.estimate; vote = does.vote; decision = keep s.decision r does.decides }

-- ---- the same, taken apart (proofs/After.antt: these are the parts of `deeds`)
-- the estimate after a round of each kind
unfoldable pub next_estimate : Setup → ℕ → Kind → Station → Row → ℕ
unfolding deeds
next_estimate S default k s row = (deeds S default k s row).estimate

-- the vote after it, in which the default has no part
unfoldable pub next_vote : Setup → Kind → Station → Row → Message
unfolding deeds
next_vote S k s row = (deeds S 0 k s row).vote

-- the rounds in which a station may decide
unfoldable pub deciding : Kind → Bool
deciding update = true
deciding value = false
deciding vote = true

-- the decide rule fires for the value v: Algorithm 1, lines 9 and 10; Algorithm 2, lines 18 and 19
pub record Fires (S : Setup) (k : Kind) (row : Row) (v : ℕ) : Type 0 where
  pub rule : deciding k ≡ true
  pub enough : passes_e S (times S.n row v) ≡ true

-- the value for which it fires, if any
unfoldable pub fired : Setup → Kind → Row → Option ℕ
unfolding deciding over_e
fired S k row = cond (deciding k) (over_e S row) None
