-- What a step that is accepted says: its checks all passed, so its round keeps the predicates and its run is the next
-- one. What a step leaves: the same setup and default, and a run that keeps the rules again.
use mathlib.Core.Path.{◌≡◌, refl, ap, sym, ◌∙◌, subst}
use mathlib.Core.Bool.{Bool, true, false, cond, false≢true}
use mathlib.Core.List.{List}
use Prim.Native.Nat.{ℕ, suc, ◌<◌}
use native.Mathlib.Numerals.{add-one}
use lib.ListN.{length}
use lib.Dec.{eqb, ltb}
use borrow.Author.Tests.{ltb-true}
use Rattle.paper.specs.Setup as setup
use Rattle.run.specs.declared.Run.{Run}
use Rattle.run.specs.Reply.{Reply}
use Rattle.run.specs.Reply.{Accepted, Length, Altered, Unsafe, Full, Rules}
use Rattle.run.specs.Keeps.{Keeps}
use Rattle.run.specs.Reply.{is_accepted, ◌then◌, or_refuse}
use Rattle.limits.specs.Setup.{is_u}
use Rattle.run.specs.Run.{most_rounds, sound}
use Rattle.run.proofs.Replies.{accepted_is, then_accepted, or_refuse_accepted}
use Rattle.run.proofs.Sound.{sound_iff}
use Rattle.round.specs.Reading.{in_turn, votes_next, round_length, check_cells}
use Rattle.round.specs.Bridge.{paper_setup}
use Rattle.judge.specs.Step.{
  altered,
  safe,
  check_altered,
  check_safe,
  check_step,
  stepped,
  unstepped,
  step_of,
  run_after,
}
use Rattle.judge.proofs.After.{run_keeps}
use Rattle.judge.specs.declared.Stepped.{Stepped}
use Rattle.round.proofs.Turns.{turn_accepted}

-- the checks of a step that is accepted
pub record Passed (run : Run) (bs : List ℕ) : Type 0 where
  pub keeps : Keeps run
  pub room : run.clock < most_rounds
  pub few : (p : ℕ) → p < run.setup.n → setup.tolerated (paper_setup run) (altered run bs p) ≡ true
  pub enough : is_u run.setup ≡ true → (p : ℕ) → p < run.setup.n
      → setup.passes_bound (paper_setup run) (safe run bs p) ≡ true
  pub next : (step_of run bs).run ≡ run_after run bs

-- what is asked of station p's sets
abbrev altered_at : Run → List ℕ → ℕ → Reply
altered_at run bs p = or_refuse (setup.tolerated (paper_setup run) (altered run bs p)) (Altered p)

abbrev safe_at : Run → List ℕ → ℕ → Reply
safe_at run bs p = or_refuse (setup.passes_bound (paper_setup run) (safe run bs p)) (Unsafe p)

-- the checks of a step from each one on
abbrev pub sets_on : Run → List ℕ → Reply
sets_on run bs = check_altered run bs then check_safe run bs

abbrev pub cells_on : Run → List ℕ → Reply
cells_on run bs = check_cells (votes_next run) run.setup.n bs then sets_on run bs

abbrev pub length_on : Run → List ℕ → Reply
length_on run bs = or_refuse (eqb (length bs) (round_length run.setup.n)) Length then cells_on run bs

abbrev pub room_on : Run → List ℕ → Reply
room_on run bs = or_refuse (ltb run.clock most_rounds) Full then length_on run bs

taken_if : (b : Bool) (r s : Reply) → b ≡ true → cond b r s ≡ Accepted → r ≡ Accepted
taken_if true r s e q = q
taken_if false r s e q = absurd (false≢true e)

-- a step that is accepted passed its checks
pub step_checked : (run : Run) (bs : List ℕ) → is_accepted (step_of run bs).reply ≡ true → check_step run bs ≡ Accepted
unfolding step_of stepped
step_checked run bs = go (is_accepted (check_step run bs)) refl
  where
    go : (b : Bool) → is_accepted (check_step run bs) ≡ b
        → is_accepted (cond b (stepped run bs) (unstepped (check_step run bs) run)).reply ≡ true → check_step run bs
        ≡ Accepted
    go true q e = accepted_is (check_step run bs) q
    go false q e = absurd (false≢true (sym q ∙ e))

pub step_accepted : (run : Run) (bs : List ℕ) → check_step run bs ≡ Accepted → step_of run bs ≡ stepped run bs
unfolding step_of
step_accepted run bs e = rw e

pub passed : (run : Run) (bs : List ℕ) → is_accepted (step_of run bs).reply ≡ true → Passed run bs
unfolding check_step stepped check_altered check_safe
passed run bs e =
    let checked = step_checked run bs e in
    let (first, after_first) = then_accepted (or_refuse (sound run) (Rules 0)) (room_on run bs) checked in
    let (second, after_second) = then_accepted (or_refuse (ltb run.clock most_rounds) Full)
    (length_on run bs) after_first in
    let (third, after_third) = then_accepted (or_refuse (eqb (length bs) (round_length run.setup.n)) Length)
    (cells_on run bs) after_second in
    let (fourth, after_fourth) = then_accepted (check_cells (votes_next run) run.setup.n bs)
    (sets_on run bs) after_third in
    let (fifth, sixth) = then_accepted (check_altered run bs) (check_safe run bs) after_fourth in
    let few_altered : check_altered run bs ≡ Accepted = fifth in
    let safe_enough : check_safe run bs ≡ Accepted = sixth in
    record {
      keeps = (sound_iff run).0 (or_refuse_accepted (sound run) (Rules 0) refl first);
      room = ltb-true run.clock most_rounds (or_refuse_accepted (ltb run.clock most_rounds) Full refl second);
      few =
          λ p h. or_refuse_accepted _ (Altered p) refl ((turn_accepted (altered_at run bs)
          run.setup.n).0 few_altered p h);
      enough =
          λ u p h. or_refuse_accepted _ (Unsafe p) refl
          ((turn_accepted (safe_at run bs) run.setup.n).0 (taken_if (is_u run.setup) (in_turn run.setup.n
          (safe_at run bs)) Accepted u safe_enough) p h);
      next = ap (λ (s : Stepped). s.run) (step_accepted run bs checked);
    }

-- a step replies what its checks say
pub reply_is : (run : Run) (bs : List ℕ) → (step_of run bs).reply ≡ check_step run bs
unfolding step_of stepped
reply_is run bs = go (is_accepted (check_step run bs)) refl
  where
    go : (b : Bool) → is_accepted (check_step run bs) ≡ b
        → (cond b (stepped run bs) (unstepped (check_step run bs) run)).reply ≡ check_step run bs
    go true q = sym (accepted_is (check_step run bs) q)
    go false q = refl

-- what a step leaves: the same setup and default, and one round more if it was accepted
module _ (run : Run) (bs : List ℕ) where
  pub refused_same : is_accepted (step_of run bs).reply ≡ false → (step_of run bs).run ≡ run
  unfolding step_of stepped
  refused_same = go (is_accepted (check_step run bs)) refl
    where
      go : (b : Bool) → is_accepted (check_step run bs) ≡ b
          → is_accepted (cond b (stepped run bs) (unstepped (check_step run bs) run)).reply ≡ false
          → (cond b (stepped run bs) (unstepped (check_step run bs) run)).run ≡ run
      go true q e = absurd (false≢true (sym e))
      go false q e = refl

  module _ (ok : Passed run bs) where
    pub setup_same : (step_of run bs).run.setup ≡ run.setup
    unfolding run_after
    setup_same = ap (λ (r : Run). r.setup) ok.next

    pub default_same : (step_of run bs).run.default ≡ run.default
    unfolding run_after
    default_same = ap (λ (r : Run). r.default) ok.next

    pub clock_next : (step_of run bs).run.clock ≡ suc run.clock
    unfolding run_after
    clock_next = ap (λ (r : Run). r.clock) ok.next ∙ add-one run.clock

    pub keeps_next : Keeps (step_of run bs).run
    keeps_next = subst Keeps (sym ok.next) (run_keeps run bs ok.keeps ok.room)
