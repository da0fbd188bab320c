-- `judge::Ready::ask_sets` meets its contract: the lowest receiver that fails the first test is refused, and where there is
-- none, under U, the lowest that fails the second.
use Rattle.std.proofs.Common.{rules, ◌≡◌, ℕ, Bool, not, sym, ◌∙◌}
use Rattle.std.specs.Prelude.{Some, None}
use Rattle.run.specs.First.{first}
use Rattle.limits.specs.declared.Setup.{Setup}
use mathlib.Core.List.{List}
use Rattle.judge.specs.Taking.{few_at, enough_at, altered_asked, safe_asked, sets_asked}
use Rattle.judge.proofs.Ready.ask_sets.Goals as goal
use Rattle.judge.proofs.Ready.ask_sets.Goals.{In_default}

-- the receivers that are refused
abbrev misheard : Setup → List ℕ → List ℕ → ℕ → Bool
misheard s ho sho p = not (few_at s ho sho p)

abbrev unsafe : Setup → List ℕ → ℕ → Bool
unsafe s sho p = not (enough_at s sho p)

-- none has too many altered
none_misheard : (c : In_default) → first c.args.self.now.run.now.setup.n (misheard c.args.self.now.run.now.setup c.args.ho c.args.sho) ≡ None
none_misheard c = sym (c.first-misheard.ensures.first (misheard c.args.self.now.run.now.setup c.args.ho c.args.sho)
    (λ i x l p. search rules)) ∙ c.in_default.is

pub returns-in-Some : goal.returns-in-Some
unfolding sets_asked altered_asked
returns-in-Some c =
    let at = misheard c.args.self.now.run.now.setup c.args.ho c.args.sho in
    let e : Some c.in-Some.p ≡ first c.args.self.now.run.now.setup.n at = c.in-Some.ensures.first at (λ i x l p. search rules) in
    rw (← e)

pub returns-then-not-is_u : goal.returns-then-not-is_u
unfolding sets_asked altered_asked
returns-then-not-is_u c =
    rw (none_misheard (goal.at.returns-then-not-is_u c).In_default, ← c.is_u.ensures, c.if-not-is_u.true)

pub returns-in-Some-first : goal.returns-in-Some-first
unfolding sets_asked altered_asked safe_asked
returns-in-Some-first c =
    let at = unsafe c.args.self.now.run.now.setup c.args.sho in
    let e : Some c.in-Some-first.p ≡ first c.args.self.now.run.now.setup.n at = c.in-Some-first.ensures.first at (λ i x l p. search rules) in
    rw (
      none_misheard (goal.at.returns-in-Some-first c).In_default,
      ← e,
      ← c.is_u.ensures,
      c.if-not-is_u.false,
    )

pub returns-in-None : goal.returns-in-None
unfolding sets_asked altered_asked safe_asked
returns-in-None c =
    let at = unsafe c.args.self.now.run.now.setup c.args.sho in
    let e : None ≡ first c.args.self.now.run.now.setup.n at = c.in-None.ensures.first at (λ i x l p. search rules) in
    rw (none_misheard (goal.at.returns-in-None c).In_default, ← e, ← c.is_u.ensures, c.if-not-is_u.false)
