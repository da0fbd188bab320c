-- Who heard whom, as masks, and what was to be sent, as arrays. HO, SHO and AHO are compared in one cell at a time; the
-- kind of the round that a run waits for is told by the clock's last bit, so it is a vote round exactly where the flag
-- says so.
use mathlib.Core.Path.{◌≡◌, refl, sym, ap, ◌∙◌}
use mathlib.Core.Bool.{Bool, true, false, ◌&&◌, cond}
use Prim.Native.Nat.{ℕ, ◌+◌, ◌%◌, ◌≤◌, ◌<◌}
use native.Mathlib.Omega.{arith}
use lib.Count.{ones}
use lib.Dec.{eqb}
use lib.ListN.{get_or-replicate}
use borrow.Author.Tests.{eq-eqb, ne_eqb, eqb-true, eqb-false}
use Rattle.paper.specs.Stations.{size, All}
use Rattle.paper.specs.Heard.{Message, val, Row, holds, HO, SHO, AHO}
use Rattle.paper.specs.Setup as setup
use Rattle.paper.specs.Rules.{Station, update, value, vote, kind_of, sends}
use Rattle.run.specs.declared.Run.{Run}
use Rattle.limits.specs.Setup.{is_u}
use Rattle.run.specs.Run.{stations, may_vote}
use Rattle.hearing.specs.Masks.{mask, mask_without}
use Rattle.round.specs.Reading.{votes_next}
use Rattle.round.specs.Bridge.{station, kind_next, sent_next}
use Rattle.hearing.specs.Surveying.{prescribed, messages_of, sets_of}
use Rattle.hearing.proofs.Masks.{mask_cong, without_of, ones_mask}

-- AHO is what is in the mask of HO and not in that of SHO
pub mask_aho : (n : ℕ) (row : Row) (sent : ℕ → Message) → n ≤ stations
    → mask_without (sets_of n row sent).ho (sets_of n row sent).sho ≡ mask n (AHO row sent)
unfolding AHO sets_of
mask_aho n row sent small = without_of n (HO row) (SHO row sent) small

-- the sizes of the sets are the numbers of ones
module _ (n : ℕ) (row : Row) (sent : ℕ → Message) where
  pub safe_told : ones (sets_of n row sent).sho ≡ size n (SHO row sent)
  unfolding sets_of
  safe_told = ones_mask n (SHO row sent)

  pub altered_told : n ≤ stations
      → ones (mask_without (sets_of n row sent).ho (sets_of n row sent).sho) ≡ size n (AHO row sent)
  altered_told small = ap ones (mask_aho n row sent small) ∙ ones_mask n (AHO row sent)

-- the sets of a row depend on what was to be sent by the n senders only
pub sets_cong : (n : ℕ) (row : Row) (sent other : ℕ → Message) → All n (λ q. sent q ≡ other q)
    → sets_of n row sent ≡ sets_of n row other
unfolding sets_of SHO
sets_cong n row sent other at =
    ap (λ (s : ℕ). record { ho = mask n (HO row); sho = s })
    (mask_cong n (SHO row sent) (SHO row other) (λ q h. ap (holds (row q)) (at q h)))

-- the round that a run waits for is a vote round exactly if its clock is odd, under U
kind_by : (u : Bool) (clock : ℕ)
    → kind_of (cond u setup.U setup.A) (clock + 1) ≡ cond (u && eqb (clock % 2) 1) vote (cond u value update)
unfolding kind_of
kind_by false clock = refl
kind_by true clock = go (eqb (clock % 2) 1) refl
  where
    go : (b : Bool) → eqb (clock % 2) 1 ≡ b → cond (eqb ((clock + 1) % 2) 0) vote value ≡ cond b vote value
    go true e =
        let odd : (clock + 1) % 2 ≡ 0 = omega (arith, eqb-true (clock % 2) 1 e) in
        ap (λ (b : Bool). cond b vote value) (eq-eqb ((clock + 1) % 2) 0 odd)
    go false e =
        let even : (clock + 1) % 2 ≡ 0 → ⊥ = λ z. eqb-false (clock % 2) 1 e (omega arith) in
        ap (λ (b : Bool). cond b vote value) (ne_eqb ((clock + 1) % 2) 0 even)

pub kind_votes : (run : Run) → kind_next run ≡ cond (votes_next run) vote (cond (is_u run.setup) value update)
unfolding kind_next may_vote
kind_votes run = kind_by (is_u run.setup) run.clock

-- what a station ought to send: its vote in a vote round, else its estimate
sends_by : (b u : Bool) (s : Station)
    → sends (cond b vote (cond u value update)) s ≡ cond b s.vote (val s.estimate)
unfolding sends
sends_by true u s = refl
sends_by false true s = refl
sends_by false false s = refl

pub sent_next_by : (run : Run) (q : ℕ)
    → sent_next run q ≡ cond (votes_next run) (station run q).vote (val (station run q).estimate)
unfolding sent_next
sent_next_by run q =
    ap (λ k. sends k (station run q)) (kind_votes run) ∙ sends_by (votes_next run) (is_u run.setup) (station run q)

-- and the two arrays say that
message_by : (b : Bool) (run : Run) (q : ℕ) → q < stations
    → messages_of (prescribed b run) q ≡ cond b (station run q).vote (val (station run q).estimate)
unfolding prescribed station
message_by true run q h = refl
message_by false run q h = rw (get_or-replicate stations q true false h)

pub messages_next : (run : Run) (q : ℕ) → q < stations
    → messages_of (prescribed (votes_next run) run) q ≡ sent_next run q
messages_next run q h = message_by (votes_next run) run q h ∙ sym (sent_next_by run q)

-- so the sets found with them are those of the survey
pub sets_next : (run : Run) (n : ℕ) (row : Row) → n ≤ stations
    → sets_of n row (messages_of (prescribed (votes_next run) run)) ≡ sets_of n row (sent_next run)
sets_next run n row h =
    sets_cong n row (messages_of (prescribed (votes_next run) run)) (sent_next run)
    (λ q l. messages_next run q (omega arith))
