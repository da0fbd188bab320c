-- `put::opening::starts_end` meets its contract: the starts from n on are looked at one by one.
use Rattle.std.proofs.Common.{
  rules,
  arith,
  ◌≡◌,
  ◌∙◌,
  sym,
  ap,
  ℕ,
  ◌+◌,
  ◌-◌,
  ◌<◌,
  ◌≤◌,
  Bool,
  true,
  false,
  List,
  length,
  drop,
  get_or,
}
use borrow.Author.Tests.{tests}
use lib.ListN.{length-drop}
use lib.Seq.{get_or-drop}
use Rattle.std.specs.Bool.{MatchBool}
use Rattle.std.specs.List.{AllWithin, HoldsAt}
use Rattle.std.proofs.lemmas.Iterator.{YieldsList-from_slice, cases_from_all}
use Rattle.std.proofs.lemmas.Iterator.Adapters.{YieldsList-from_skip}
use Rattle.limits.specs.declared.Setup.{Setup}
use Rattle.run.specs.Run.{stations}
use Rattle.run.specs.Opening.{starts_end}
use Rattle.run.proofs.Starts.{starts_end_iff, starts_go_on}
use Rattle.put.proofs.opening.starts_end.Goals as goal

zero_from : (s : Setup) (starts : List ℕ) (b : Bool) → length starts ≡ stations
    → MatchBool b (AllWithin (λ x. x ≡ 0) (drop s.n starts) 0 (length (drop s.n starts)))
    ((k : ℕ) × (k < length (drop s.n starts)) × HoldsAt (λ x. x ≡ 0 → ⊥) (drop s.n starts) k)
    → b ≡ starts_end s starts
zero_from s starts true long all =
    let at : (i : ℕ) → i < stations → s.n ≤ i → get_or starts i 0 ≡ 0
    = λ i l h.
    let here : get_or (drop s.n starts) (i - s.n) 0 ≡ 0 = all (i - s.n) 0 (omega arith) (omega (arith, length-drop s.n starts)) in
    let place : s.n + (i - s.n) ≡ i = omega arith in
    ap (λ (j : ℕ). get_or starts j 0) (sym place) ∙ sym (get_or-drop s.n starts (i - s.n) 0) ∙ here in
    sym ((starts_end_iff s starts).1 at)
zero_from s starts false long (k, l, other) =
    starts_go_on s starts (s.n + k) (omega (arith, length-drop s.n starts)) (omega arith) (λ e. other 0 (get_or-drop s.n starts k 0 ∙ e))

pub returns : goal.returns
returns c =
    zero_from c.args.setup c.args.starts c.all.result (search rules)
    (cases_from_all _ _ _ (λ x. x ≡ 0) (λ x. x ≡ 0 → ⊥) c.all.ensures.ran
    (YieldsList-from_skip c.args.setup.n (YieldsList-from_slice c.args.starts cc) cc)
    (λ x q k. search (rules, tests)) (λ x q k. search (rules, tests)))
