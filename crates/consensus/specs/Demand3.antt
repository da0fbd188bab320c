-- Demand 3, about `step_of` and `play_of`, which the promises of `step` and `play` cite: for any bytes that are
-- accepted as an opening, and whatever is then offered one after another, of any length and content, refused ones among
-- them.
use Rattle.std.specs.Prelude.{◌≡◌, List, ℕ, ◌<◌, length, get_or}
use Rattle.paper.specs.Stations.{All}
use Rattle.paper.specs.Rules.{decided}
use Rattle.paper.specs.Run.{Turn, FiresAt}
use Rattle.paper.specs.Safety.{◌among◌, Locked, FirstFiring, Agreement, Lock, Integrity, Kept, Decides}
use Rattle.run.specs.declared.Run.{Run}
use Rattle.run.specs.Reply.{Accepted}
use Rattle.run.specs.Keeps.{Keeps}
use Rattle.run.specs.Opening.{read_opening}
use Rattle.round.specs.Bridge.{station, paper_setup}
use Rattle.consensus.specs.OpeningReplies.{OpeningReply}
use Rattle.consensus.specs.Offered.{Offer, accepted, run_after_all, left_by}

-- what is promised of the run in hand after all that was offered
pub record InHand (run : Run) (offers : List Offer) : Type 0 where
  -- it is good and has the opened setup and default, and its clock is the number of the accepted rounds
  pub keeps_still : Keeps (run_after_all run offers)
  pub setup : (run_after_all run offers).setup ≡ run.setup
  pub default : (run_after_all run offers).default ≡ run.default
  pub clock : (run_after_all run offers).clock ≡ length (accepted run offers)
  -- each station holds what the last accepted round left of it, or what the opened run holds if none was accepted
  pub last : station (run_after_all run offers) ≡ left_by (station run) (accepted run offers)
  -- so what holds after every accepted round holds now: if the rule has fired for v, the stations are locked to v
  pub locked : (t : Turn) (p v : ℕ) → t among accepted run offers → p < run.setup.n → FiresAt (paper_setup run) t p v
      → Locked (paper_setup run) (station (run_after_all run offers)) v
  -- the decision (v, r) of a station is that of the first round in which the rule fired at that station
  pub kept : (p v r : ℕ) → p < run.setup.n → (station (run_after_all run offers) p).decision ≡ decided v r
      → (t : Turn) × FirstFiring (paper_setup run) (accepted run offers) p v t × (t.number ≡ r)
  -- and a station at which the rule has fired has that decision
  pub decides : (t : Turn) (p v : ℕ) → t among accepted run offers → p < run.setup.n → FiresAt (paper_setup run) t p v
      → (w : ℕ) × (t₀ : Turn) × FirstFiring (paper_setup run) (accepted run offers) p w t₀
      × ((station (run_after_all run offers) p).decision ≡ decided w t₀.number)
  -- and where every start is v, no station has decided another
  pub integrity : (v : ℕ) → All run.setup.n (λ p. get_or run.estimates p 0 ≡ v) → (p w r : ℕ) → p < run.setup.n
      → (station (run_after_all run offers) p).decision ≡ decided w r → w ≡ v

-- what is promised of a run and of what is offered to it, through the rounds that it accepts
pub record Demand3 (run : Run) (offers : List Offer) : Type 0 where
  -- rule 16.2: all firings, whether at one station or at several, name one value
  pub one_value : Agreement (paper_setup run) (accepted run offers)
  -- rule 16.3: from the end of any round in which the rule fires onward (so from the first), more than E - alpha
  -- stations have that value as their estimate under A, all under U
  pub locked : Lock (paper_setup run) (accepted run offers)
  -- rule 16.4: where every start is v, the rule never fires for another
  pub integrity : Integrity (paper_setup run) (λ p. get_or run.estimates p 0) (accepted run offers)
  -- rules 16.5 and 16.6: after every accepted round, a station's decision is that of the first round in which the rule
  -- fired there, with its number
  pub kept : Kept (paper_setup run) (accepted run offers)
  -- and from the end of a round in which the rule fires at a station onward, that station has that decision
  pub decides : Decides (paper_setup run) (accepted run offers)
  pub in_hand : InHand run offers

-- of every opening that is accepted, and of whatever is then offered
abbrev pub Demand3Holds : Type 0
Demand3Holds = (bs : List ℕ) → OpeningReply bs Accepted → (offers : List Offer) → Demand3 (read_opening bs).run offers
