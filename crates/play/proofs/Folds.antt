-- Rounds taken one after another, over any list of rounds (rules 13.4 to 13.7): none, a round more, a refused one, two
-- lists joined, and the first round alone. What they leave keeps the rules, since each accepted step does. By induction
-- on the list.
use mathlib.Core.Path.{◌≡◌, refl, ap, sym, ◌∙◌}
use mathlib.Core.Bool.{Bool, true, false, cond}
use mathlib.Core.List.{List, [], ◌∷◌, ◌++◌}
use Prim.Native.Nat.{ℕ, ◌+◌}
use native.Mathlib.Nat.{add-zero}
use native.Mathlib.Omega.{arith}
use lib.ListN.{take}
use Rattle.run.specs.Reply.{Accepted}
use Rattle.run.specs.declared.Run.{Run}
use Rattle.run.specs.Keeps.{Keeps}
use Rattle.run.specs.Reply.{is_accepted}
use Rattle.judge.specs.Step.{step_of}
use Rattle.judge.proofs.Steps.{passed, setup_same, default_same, clock_next, keeps_next}
use Rattle.play.specs.declared.Played.{Played}
use Rattle.play.specs.Play.{ended, more, take_rounds}

pub rounds_none : (run : Run) → take_rounds run [] ≡ ended run Accepted
unfolding take_rounds
rounds_none run = refl

pub rounds_on : (run : Run) (r : List ℕ) (rs : List (List ℕ)) → is_accepted (step_of run r).reply ≡ true
    → take_rounds run (r ∷ rs) ≡ more 1 (take_rounds (step_of run r).run rs)
unfolding take_rounds
rounds_on run r rs e = rw e

pub rounds_stop : (run : Run) (r : List ℕ) (rs : List (List ℕ)) → is_accepted (step_of run r).reply ≡ false
    → take_rounds run (r ∷ rs) ≡ ended run (step_of run r).reply
unfolding take_rounds
rounds_stop run r rs e = rw e

-- ---- two lists joined
-- after the answer a, these rounds
abbrev pub onward : Played → List (List ℕ) → Played
onward a rs = cond (is_accepted a.reply) (more a.rounds (take_rounds a.run rs)) a

more_zero : (a : Played) → more 0 a ≡ a
more_zero a = ap (λ (k : ℕ). record { run = a.run; reply = a.reply; rounds = k }) (add-zero a.rounds)

onward_more : (a : Played) (ss : List (List ℕ)) → more 1 (onward a ss) ≡ onward (more 1 a) ss
onward_more a ss = go (is_accepted a.reply) refl
  where
    b : Played
    b = take_rounds a.run ss

    go : (t : Bool) → is_accepted a.reply ≡ t
        → more 1 (cond (is_accepted a.reply) (more a.rounds b) a)
        ≡ cond (is_accepted a.reply) (more (a.rounds + 1) b) (more 1 a)
    go true e =
        rw e
        (let s : b.rounds + a.rounds + 1 ≡ b.rounds + (a.rounds + 1) = omega arith in
        ap (λ (k : ℕ). record { run = b.run; reply = b.reply; rounds = k }) s)
    go false e = rw e

pub rounds_join : (run : Run) (rs ss : List (List ℕ)) → take_rounds run (rs ++ ss) ≡ onward (take_rounds run rs) ss
unfolding take_rounds
rounds_join run [] ss = sym (more_zero (take_rounds run ss))
rounds_join run (r ∷ rs) ss = go (is_accepted (step_of run r).reply) refl (rounds_join (step_of run r).run rs ss)
  where
    next : Run
    next = (step_of run r).run

    go : (t : Bool) → is_accepted (step_of run r).reply ≡ t
        → take_rounds next (rs ++ ss) ≡ onward (take_rounds next rs) ss
        → cond t (more 1 (take_rounds next (rs ++ ss))) (ended run (step_of run r).reply)
        ≡ onward (cond t (more 1 (take_rounds next rs)) (ended run (step_of run r).reply)) ss
    go true e h = ap (more 1) h ∙ onward_more (take_rounds next rs) ss
    go false e h = rw e

-- ---- the first round alone
-- where it does not count there was none, or it was refused, and so it is all
pub first_all : (run : Run) (rs : List (List ℕ)) → (take_rounds run (take 1 rs)).rounds ≡ 0
    → take_rounds run (take 1 rs) ≡ take_rounds run rs
unfolding take_rounds
first_all run [] z = refl
first_all run (r ∷ rs) z = go (is_accepted (step_of run r).reply) refl z
  where
    go : (b : Bool) → is_accepted (step_of run r).reply ≡ b → (take_rounds run (r ∷ [])).rounds ≡ 0
        → take_rounds run (r ∷ []) ≡ take_rounds run (r ∷ rs)
    go true e z =
        let one : (take_rounds run (r ∷ [])).rounds ≡ 1 = ap (λ (a : Played). a.rounds) (rounds_on run r [] e) in
        absurd (omega arith)
    go false e z = rounds_stop run r [] e ∙ sym (rounds_stop run r rs e)

-- where it counts it was accepted
pub first_accepted : (run : Run) (r : List ℕ) → ((take_rounds run (r ∷ [])).rounds ≡ 0 → ⊥)
    → is_accepted (step_of run r).reply ≡ true
first_accepted run r counts = go (is_accepted (step_of run r).reply) refl
  where
    go : (b : Bool) → is_accepted (step_of run r).reply ≡ b → b ≡ true
    go true e = refl
    go false e = absurd (counts (ap (λ (a : Played). a.rounds) (rounds_stop run r [] e)))

-- ---- what rounds leave
-- a run that keeps the rules, of the same setup and default, whose clock has counted the rounds
pub record Kept (run : Run) (a : Played) : Type 0 where
  pub keeps : Keeps a.run
  pub setup : a.run.setup ≡ run.setup
  pub default : a.run.default ≡ run.default
  pub clock : a.run.clock ≡ a.rounds + run.clock

pub kept : (rs : List (List ℕ)) (run : Run) → Keeps run → Kept run (take_rounds run rs)
unfolding take_rounds
kept [] run keeps = record { keeps = keeps; setup = refl; default = refl; clock = omega arith }
kept (r ∷ rs) run keeps = go (is_accepted (step_of run r).reply) refl (λ k. kept rs (step_of run r).run k)
  where
    next : Run
    next = (step_of run r).run

    go : (b : Bool) → is_accepted (step_of run r).reply ≡ b → (Keeps next → Kept next (take_rounds next rs))
        → Kept run (cond b (more 1 (take_rounds next rs)) (ended run (step_of run r).reply))
    go true e below =
        let ok = passed run r e in
        let on = below (keeps_next run r ok) in
        record {
          keeps = on.keeps;
          setup = on.setup ∙ setup_same run r ok;
          default = on.default ∙ default_same run r ok;
          clock = omega (arith, on.clock, clock_next run r ok);
        }
    go false e below = record { keeps = keeps; setup = refl; default = refl; clock = omega arith }
