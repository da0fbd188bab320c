-- The checks of a step, as the code makes them: a mask has as many ones as its set has stations, so 6 and 7 asked of
-- the masks are those of the sets; and a check of two parts refuses where the first that refuses does.
use mathlib.Core.Path.{◌≡◌, refl, ap, ap₂, sym, ◌∙◌}
use mathlib.Core.Bool.{Bool, true, false, not, cond}
use Rattle.std.specs.Prelude.{Option, None, Some}
use mathlib.Core.List.{List}
use Prim.Native.Nat.{ℕ, zero, suc, ◌≤◌, ◌<◌}
use native.Mathlib.Omega.{arith}
use lib.Count.{ones}
use lib.Dec.{eqb, ltb}
use lib.ListN.{length, get_or}
use borrow.Author.Tests.{ltb-true, eq-eqb, ne_eqb, lt-ltb, le-ltb}
use Rattle.paper.specs.Heard as heard
use Rattle.paper.specs.Setup as setup
use Rattle.run.specs.Reply.{Reply}
use Rattle.run.specs.Reply.{Accepted, Length, Altered, Unsafe, Full, Rules}
use Rattle.run.specs.declared.Run.{Run}
use Rattle.run.specs.Keeps.{Keeps}
use Rattle.run.specs.Reply.{is_accepted, ◌then◌, or_refuse, refuse_at}
use Rattle.run.specs.First.{or_here, first}
use Rattle.limits.specs.Setup.{is_u}
use Rattle.run.specs.Run.{stations, most_rounds, sound}
use Rattle.run.proofs.Filled.{filled_below}
use Rattle.run.proofs.Replies.{then_stop, then_accepted, or_refuse_accepted, then_assoc}
use Rattle.run.proofs.Sound.{sound_iff}
use Rattle.hearing.specs.Masks.{mask, mask_without}
use Rattle.round.specs.Reading.{in_turn, votes_next, round_length, check_cells}
use Rattle.round.specs.Bridge.{heard_in, sent_next, paper_setup}
use Rattle.hearing.specs.Survey.{ho_sets, sho_sets}
use Rattle.hearing.specs.Surveying.{sets_of}
use Rattle.round.proofs.Turns.{turn_same}
use Rattle.hearing.proofs.Hearing.{safe_told, altered_told}
use Rattle.judge.specs.declared.Stepped.{Stepped}
use Rattle.judge.specs.Step.{altered, safe, check_altered, check_safe, check_step, stepped, unstepped, step_of}
use Rattle.judge.specs.Taking.{check_room, few_at, enough_at, altered_asked, safe_asked, sets_asked}

-- ---- a test asked in turn refuses at the lowest place that fails it
module _ (test : ℕ → Bool) (r : ℕ → Reply) (refuses : (i : ℕ) → is_accepted (r i) ≡ false) where
  abbrev asked : ℕ → Reply
  asked i = or_refuse (test i) (r i)

  abbrev failing : ℕ → Bool
  failing i = not (test i)

  one_more : (o : Option ℕ) (b : Bool) (n : ℕ) → (refuse_at o r then or_refuse b (r n))
      ≡ refuse_at (or_here o (not b) n) r
  one_more None true n = refl
  one_more None false n = refl
  one_more (Some i) b n = then_stop (r i) (or_refuse b (r n)) (refuses i)

  turn_first : (n : ℕ) → in_turn n asked ≡ refuse_at (first n failing) r
  unfolding in_turn first
  turn_first zero = refl
  turn_first (suc n) = rw (turn_first n) (one_more (first n failing) (test n) n)

-- ---- the masks tell the sizes of the sets
module _ (run : Run) (bs : List ℕ) (few : run.setup.n ≤ stations) where
  abbrev n : ℕ
  n = run.setup.n

  pub ho_at : (p : ℕ) → p < n → get_or (ho_sets n bs) p 0 ≡ (sets_of n (heard_in n bs p) (sent_next run)).ho
  unfolding ho_sets sets_of
  ho_at p l = filled_below stations n (λ p. mask n (heard.HO (heard_in n bs p))) 0 p 0 (omega arith) l

  sho_at : (p : ℕ) → p < n → get_or (sho_sets run n bs) p 0 ≡ (sets_of n (heard_in n bs p) (sent_next run)).sho
  unfolding sho_sets sets_of
  sho_at p l = filled_below stations n (λ p. mask n (heard.SHO (heard_in n bs p) (sent_next run))) 0 p 0 (omega arith) l

  few_told : altered_asked run.setup (ho_sets n bs) (sho_sets run n bs) ≡ check_altered run bs
  unfolding altered_asked check_altered
  few_told =
      sym (turn_first (few_at run.setup (ho_sets n bs) (sho_sets run n bs)) Altered (λ p. refl) n)
      ∙ turn_same n _ _ (λ p l. ap (λ (k : ℕ). or_refuse (setup.tolerated (paper_setup run) k) (Altered p)) (at p l))
    where
      at : (p : ℕ) → p < n → ones (mask_without (get_or (ho_sets n bs) p 0) (get_or (sho_sets run n bs) p 0))
          ≡ altered run bs p
      at p l = rw (ho_at p l, sho_at p l) (altered_told n (heard_in n bs p) (sent_next run) few)

  enough_told : cond (is_u run.setup) (safe_asked run.setup (sho_sets run n bs)) Accepted ≡ check_safe run bs
  unfolding safe_asked check_safe
  enough_told =
      ap (λ (r : Reply). cond (is_u run.setup) r Accepted)
      (sym (turn_first (enough_at run.setup (sho_sets run n bs)) Unsafe (λ p. refl) n)
      ∙ turn_same n _ _ (λ p l. ap (λ (k : ℕ). or_refuse (setup.passes_bound (paper_setup run) k) (Unsafe p)) (at p l)))
    where
      at : (p : ℕ) → p < n → ones (get_or (sho_sets run n bs) p 0) ≡ safe run bs p
      at p l = rw (sho_at p l) (safe_told n (heard_in n bs p) (sent_next run))

  sets_told : sets_asked run.setup (ho_sets n bs) (sho_sets run n bs) ≡ (check_altered run bs then check_safe run bs)
  unfolding sets_asked
  sets_told = ap₂ (λ (a b : Reply). a then b) few_told enough_told

-- ---- the two parts are the checks of a step
module _ (run : Run) (bs : List ℕ) where
  abbrev sets_on : Reply
  sets_on = check_altered run bs then check_safe run bs

  abbrev cells : Reply
  cells = check_cells (votes_next run) run.setup.n bs

  abbrev long : Reply
  long = or_refuse (eqb (length bs) (round_length run.setup.n)) Length

  abbrev room : Reply
  room = or_refuse (ltb run.clock most_rounds) Full

  abbrev keeps : Reply
  keeps = or_refuse (sound run) (Rules 0)

  step_parts : check_step run bs ≡ (check_room run bs then cells then sets_on)
  unfolding check_step check_room
  step_parts =
      sym
      (then_assoc keeps (room then long) (cells then sets_on)
      ∙ ap (λ (r : Reply). keeps then r) (then_assoc room long (cells then sets_on)))

  -- a refusal for want of room is the step's
  pub room_refused : {reply : Reply} → reply ≡ check_room run bs → is_accepted (check_room run bs) ≡ false
      → unstepped reply run ≡ step_of run bs
  unfolding step_of
  room_refused e f =
      let stopped : check_step run bs ≡ check_room run bs = step_parts
      ∙ then_stop (check_room run bs) (cells then sets_on) f in
      rw (stopped, f, e)

  -- and so is the first check that fails
  pub room_unsound : sound run ≡ false → Rules 0 ≡ check_room run bs
  unfolding check_room
  room_unsound e = rw e

  pub room_full : sound run ≡ true → most_rounds ≤ run.clock → Full ≡ check_room run bs
  unfolding check_room
  room_full e l = rw (e, le-ltb run.clock most_rounds l)

  pub room_length : sound run ≡ true → run.clock < most_rounds → (length bs ≡ round_length run.setup.n → ⊥)
      → Length ≡ check_room run bs
  unfolding check_room
  room_length e l h = rw (e, lt-ltb run.clock most_rounds l, ne_eqb _ _ h)

  pub room_there : sound run ≡ true → run.clock < most_rounds → length bs ≡ round_length run.setup.n → Accepted
      ≡ check_room run bs
  unfolding check_room
  room_there e l h = rw (e, lt-ltb run.clock most_rounds l, eq-eqb _ _ h)

  module _ (there : check_room run bs ≡ Accepted) where
    -- a run with room keeps the rules and is not full
    pub room_keeps : Keeps run × (run.clock < most_rounds)
    unfolding check_room
    room_keeps =
        let (first, after_first) = then_accepted keeps (room then long) there in
        let (second, third) = then_accepted room long after_first in (
          (sound_iff run).0 (or_refuse_accepted (sound run) (Rules 0) refl first),
          ltb-true run.clock most_rounds (or_refuse_accepted (ltb run.clock most_rounds) Full refl second),
        )

    -- a record that is unstepped gives the step's refusal
    pub cells_refused : {reply : Reply} → reply ≡ cells → is_accepted cells ≡ false → unstepped reply run
        ≡ step_of run bs
    unfolding step_of
    cells_refused e f =
        let stopped : check_step run bs ≡ cells = step_parts ∙ rw there (then_stop cells sets_on f) in
        rw (stopped, f, e)

    -- then 6 and 7 are the step's checks that are left
    module _ (good : cells ≡ Accepted) (ho sho : List ℕ) (heard : ho ≡ ho_sets run.setup.n bs) (safely : sho
        ≡ sho_sets run run.setup.n bs) where
      sets_step : sets_asked run.setup ho sho ≡ check_step run bs
      sets_step = rw (heard, safely, step_parts, there, good) (sets_told run bs room_keeps.0.setup.n_to)

      pub sets_refused : {reply : Reply} → reply ≡ sets_asked run.setup ho sho
          → is_accepted (sets_asked run.setup ho sho) ≡ false
          → unstepped reply run ≡ step_of run bs
      unfolding step_of
      sets_refused e f = rw (← sets_step, f, e)

      pub sets_accepted : sets_asked run.setup ho sho ≡ Accepted → stepped run bs ≡ step_of run bs
      unfolding step_of
      sets_accepted e = rw (← sets_step, e)

-- a step is the one that its contract names, and no other
pub step_unique : (run : Run) (bs : List ℕ) (r r' : Stepped) → r ≡ step_of run bs → r' ≡ step_of run bs → r ≡ r'
step_unique run bs r r' p q = p ∙ sym q
