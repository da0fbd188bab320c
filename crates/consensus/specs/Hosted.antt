-- What a host holds: an image that `judge_open` wrote, and then any calls of `judge_step`, refused ones among them. Told
-- by the entries' answers alone, in bytes.
use Rattle.std.specs.Prelude.{◌≡◌, List, [], ◌∷◌, ◌++◌, ℕ, suc, length}
use Rattle.run.specs.Reply.{Reply}
use Rattle.run.specs.Reply.{Accepted}
use Rattle.run.specs.Bytes.{IsBytes}
use Rattle.run.specs.Opening.{read_opening}
use Rattle.image.specs.Image.{loaded}
use Rattle.judge.specs.Step.{step_of}
use Rattle.consensus.specs.EntryAnswers.{OpenAnswer, StepAnswer}
use Rattle.consensus.specs.Offered.{Offer, to_step, accepted, run_after_all}
use Rattle.consensus.specs.Demand3.{Demand3}

-- after an accepted opening, and these rounds lent to `judge_step` one after another, so many of which got 0, the host
-- holds this image
pub data Holds (opening : List ℕ) : List (List ℕ) → ℕ → List ℕ → Type 0 where
  opened : {buffer image : List ℕ} → OpenAnswer read_opening opening buffer Accepted image → Holds opening [] 0 image
  taken : {rounds : List (List ℕ)} {k : ℕ} {image round next : List ℕ} → Holds opening rounds k image → IsBytes round
      → StepAnswer step_of image round Accepted next → Holds opening (rounds ++ (round ∷ [])) (suc k) next
  refused : {rounds : List (List ℕ)} {k : ℕ} {image round next : List ℕ} {r : Reply} → Holds opening rounds k image
      → IsBytes round → StepAnswer step_of image round r next → ¬ (r ≡ Accepted)
      → Holds opening (rounds ++ (round ∷ [])) k next

-- the same rounds, offered to a run
abbrev pub to_steps : List (List ℕ) → List Offer
to_steps [] = []
to_steps (r ∷ rs) = to_step r ∷ to_steps rs

-- what is promised of it: it loads to the run that demand 3 speaks of, whose accepted rounds are those that got 0; so all
-- of demand 3 is about the images
pub record HostHolds (opening : List ℕ) (rounds : List (List ℕ)) (k : ℕ) (image : List ℕ) : Type 0 where
  pub loads : loaded image ≡ record { reply = Accepted; run = run_after_all (read_opening opening).run (to_steps rounds) }
  pub count : length (accepted (read_opening opening).run (to_steps rounds)) ≡ k
  pub demand : Demand3 (read_opening opening).run (to_steps rounds)

-- for every accepted opening, and whatever is lent after it
abbrev pub HostDemand : Type 0
HostDemand =
    (opening : List ℕ) → IsBytes opening → (rounds : List (List ℕ)) (k : ℕ) (image : List ℕ)
    → Holds opening rounds k image → HostHolds opening rounds k image
