-- What is answered to a round, and when: one case for each reply, with all that must hold before it (rules 12.5, 12.6
-- and 12.8). That each relation holds of one reply, whatever the run and the bytes, and that the checks answer it, is
-- proved in proofs/RoundReplies.antt.
use Rattle.std.specs.Prelude.{◌≡◌, true, List, ℕ, ◌+◌, ◌*◌, ◌≤◌, ◌<◌}
use Rattle.paper.specs.Stations.{All}
use Rattle.paper.specs.Setup as setup
use Rattle.paper.specs.Run as paper
use Rattle.run.specs.declared.Run.{Run}
use Rattle.run.specs.Reply.{Reply}
use Rattle.run.specs.Reply.{Accepted, Length, Malformed, Query, Altered, Unsafe, Full, Rules}
use Rattle.run.specs.Keeps.{Keeps}
use Rattle.run.specs.Run.{most_rounds}
use Rattle.round.specs.Bridge.{paper_setup}
use Rattle.consensus.specs.Round.{
  round_by_paper,
  Ready,
  Spells,
  Misplaced,
  InOrderUpTo,
  Whole,
  WellFormed,
  altered_at,
  safe_at,
}

-- a round that is offered to a run, to be taken (rule 12.8)
pub data StepReply (run : Run) (bs : List ℕ) : Reply → Type 0 where
  -- 10: the run breaks a rule of section 5
  not_good : ¬ Keeps run → StepReply run bs (Rules 0)
  -- 8: it has accepted its 4,096 rounds
  is_full : Keeps run → most_rounds ≤ run.clock → StepReply run bs Full
  -- 1: the bytes are more or fewer than 8n²
  misfit : Ready run → ¬ Whole run bs → StepReply run bs Length
  -- 2: the first record at fault is not well formed
  malformed : (p q : ℕ) → Ready run → Whole run bs → InOrderUpTo run bs p q → ¬ Spells run bs p q
      → StepReply run bs (Malformed (run.setup.n * p + q))
  -- 5: it is well formed, a "?" in a round that is no vote round
  query : (p q : ℕ) → Ready run → Whole run bs → InOrderUpTo run bs p q → Misplaced run bs p q
      → StepReply run bs (Query (run.setup.n * p + q))
  -- 6: p is the lowest receiver with |AHO(p)| > alpha
  altered : (p : ℕ) → Ready run → WellFormed run bs → p < run.setup.n → (paper_setup run).alpha < altered_at run bs p
      → ((q : ℕ) → q < p → altered_at run bs q ≤ (paper_setup run).alpha) → StepReply run bs (Altered p)
  -- 7: there is none; the algorithm is U, and p is the lowest receiver with |SHO(p)| not above the bound
  unsafe : (p : ℕ) → Ready run → WellFormed run bs
      → All run.setup.n (λ q. altered_at run bs q ≤ (paper_setup run).alpha)
      → (paper_setup run).algorithm ≡ setup.U → p < run.setup.n
      → ¬ (setup.passes_bound (paper_setup run) (safe_at run bs p) ≡ true)
      → ((q : ℕ) → q < p → setup.passes_bound (paper_setup run) (safe_at run bs q) ≡ true)
      → StepReply run bs (Unsafe p)
  -- 0: it keeps the paper's predicates
  accepted : Ready run → WellFormed run bs → paper.Safe (paper_setup run) (round_by_paper run bs)
      → StepReply run bs Accepted

-- a round that is to be read into a matrix, or surveyed (rules 12.5 and 12.6)
pub data ReadReply (run : Run) (bs : List ℕ) : Reply → Type 0 where
  -- 10
  not_good : ¬ Keeps run → ReadReply run bs (Rules 0)
  -- 1
  misfit : Keeps run → ¬ Whole run bs → ReadReply run bs Length
  -- 2
  malformed : (p q : ℕ) → Keeps run → Whole run bs → InOrderUpTo run bs p q → ¬ Spells run bs p q
      → ReadReply run bs (Malformed (run.setup.n * p + q))
  -- 5
  query : (p q : ℕ) → Keeps run → Whole run bs → InOrderUpTo run bs p q → Misplaced run bs p q
      → ReadReply run bs (Query (run.setup.n * p + q))
  -- 0
  accepted : Keeps run → WellFormed run bs → ReadReply run bs Accepted
