-- Runs there are, of every length: the empty run is one, and a run goes on with any matrix, its stations by their rule.
-- A lawful run goes on lawfully with everything heard as sent: then AHO is empty, and SHO has all n, which pass the
-- bound. So what is said of all runs, and of all lawful ones, is said of something.
use mathlib.Core.Path.{◌≡◌, refl, sym, subst}
use mathlib.Core.Bool.{true}
use mathlib.Core.List.Memᴰ
use mathlib.Core.List.{List, [], ◌∷◌, ◌++◌}
use mathlib.Core.Logic.{⊎_elim}
use Prim.Native.Nat.{ℕ, zero, suc, ◌+◌}
use lib.ListN.{length, length-append}
use native.Mathlib.Omega.{arith}
use Rattle.paper.specs.Heard.{heard, Matrix}
use Rattle.paper.specs.Setup.{Setup, acceptable, tolerated, passes_bound}
use Rattle.paper.specs.Rules.{kind_of, sends, after}
use Rattle.paper.specs.Run.{States, opened, Turn, Next, Rounds, Run, kind, sent, AsSent, PAlpha, PSafe, Safe}
use Rattle.paper.specs.Safety.{◌among◌, Lawful}
use Rattle.paper.proofs.Sets.{sho_as_sent, aho_as_sent}
use Rattle.paper.proofs.Thresholds.{none_tolerated, n_passes_bound}

-- the states that rounds leave, where s stood before them
abbrev pub left_by : States → List Turn → States
left_by s [] = s
left_by s (t ∷ ts) = left_by t.after ts

-- the round after k others, from the states s, in which the stations hear m
abbrev pub taken : Setup → ℕ → ℕ → States → Matrix → Turn
taken S default k s m =
    record { number = suc k; before = s; heard = m; after = λ p. after S default (suc k) (s p) (m p) }

pub taken_next : (S : Setup) (default k : ℕ) (s : States) (m : Matrix) → Next S default k s (taken S default k s m)
taken_next S default k s m = record { counted = refl; from = λ p h. refl; by_rule = λ p h. refl }

-- rounds go on by any round that follows from what they leave
on : (S : Setup) (default k : ℕ) (s : States) (ts : List Turn) (t : Turn) → Rounds S default k s ts
    → Next S default (length ts + k) (left_by s ts) t
    → Rounds S default k s (ts ++ (t ∷ []))
unfolding Rounds
on S default k s [] t rounds next =
    let none_before : 0 + k ≡ k = omega arith in (subst (λ (j : ℕ). Next S default j s t) none_before next, tt)
on S default k s (x ∷ ts) t rounds next =
    let one_before : suc (length ts) + k ≡ length ts + suc k = omega arith in (
      rounds.0,
      on S default (suc k) x.after ts t rounds.1
          (subst (λ (j : ℕ). Next S default j (left_by x.after ts) t) one_before next),
    )

module _ (S : Setup) (default : ℕ) (starts : ℕ → ℕ) where
  pub opens : Run S default starts []
  unfolding Run
  opens = tt

  -- a run goes on by the round in which the stations hear m, from what it leaves
  abbrev pub next_of : List Turn → Matrix → Turn
  next_of ts m = taken S default (length ts) (left_by (opened starts) ts) m

  pub goes_on : (ts : List Turn) (m : Matrix) → Run S default starts ts
      → Run S default starts (ts ++ (next_of ts m ∷ []))
  unfolding Run
  goes_on ts m run =
      let all_before : length ts ≡ length ts + 0 = omega arith in
      on S default 0 (opened starts) ts (next_of ts m) run
      (subst (λ (j : ℕ). Next S default j (left_by (opened starts) ts) (next_of ts m)) all_before
      (taken_next S default (length ts) (left_by (opened starts) ts) m))

-- a round in which all is heard as sent keeps the predicates of either algorithm
pub as_sent_safe : (S : Setup) → acceptable S ≡ true → (t : Turn) → AsSent S t → Safe S t
unfolding AsSent PAlpha PSafe
as_sent_safe S ok t as_sent =
    record {
      few_altered =
          λ p h. subst (λ (k : ℕ). tolerated S k ≡ true)
          (sym (aho_as_sent S.n (t.heard p) (sent S t) (as_sent p h))) (none_tolerated S);
      enough_safe =
          λ is_u p h. subst (λ (k : ℕ). passes_bound S k ≡ true)
          (sym (sho_as_sent S.n (t.heard p) (sent S t) (as_sent p h))) (n_passes_bound S ok);
    }

module _ (S : Setup) (default : ℕ) (starts : ℕ → ℕ) where
  -- the next round of a run, everything heard as sent
  abbrev pub as_sent_after : List Turn → Turn
  as_sent_after ts =
      next_of S default starts ts
      (λ p q. heard (sends (kind_of S.algorithm (suc (length ts))) (left_by (opened starts) ts q)))

  heard_as_sent : (ts : List Turn) → AsSent S (as_sent_after ts)
  unfolding AsSent sent kind
  heard_as_sent ts p hp q hq = refl

  -- a lawful run goes on by that round, and stays lawful
  pub lawful_goes_on : (ts : List Turn) → Lawful S default starts ts
      → AsSent S (as_sent_after ts) × Lawful S default starts (ts ++ (as_sent_after ts ∷ []))
  lawful_goes_on ts lawful = (
    heard_as_sent ts,
    record {
      setup = lawful.setup;
      rounds = goes_on S default starts ts (as_sent_after ts).heard lawful.rounds;
      safe =
          λ t i.
          ⊎_elim (lawful.safe t)
          (λ j.
          subst (λ (x : Turn). Safe S x) (sym (Memᴰ.eq_of_singleton j))
          (as_sent_safe S lawful.setup (as_sent_after ts) (heard_as_sent ts)))
          (Memᴰ.append_cases ts i);
    },
  )

  -- so in acceptable setups there are lawful runs of every length in which everything is heard as sent
  pub record Faultless (k : ℕ) : Type 0 where
    pub rounds : List Turn
    pub long : length rounds ≡ k
    pub lawful : Lawful S default starts rounds
    pub as_sent : (t : Turn) → t among rounds → AsSent S t

  pub faultless_runs : acceptable S ≡ true → (k : ℕ) → Faultless k
  faultless_runs ok zero =
      record {
        rounds = [];
        long = refl;
        lawful =
            record {
              setup = ok;
              rounds = opens S default starts;
              safe = λ t i. absurd (Memᴰ.not-nil i);
            };
        as_sent = λ t i. absurd (Memᴰ.not-nil i);
      }
  faultless_runs ok (suc k) =
      let run = faultless_runs ok k in
      let ts : List Turn = run.rounds in
      let on = lawful_goes_on ts run.lawful in
      record {
        rounds = ts ++ (as_sent_after ts ∷ []);
        long = omega (arith, length-append ts (as_sent_after ts ∷ []), run.long);
        lawful = on.1;
        as_sent =
            λ t i.
            ⊎_elim (run.as_sent t)
            (λ j. subst (λ (x : Turn). AsSent S x) (sym (Memᴰ.eq_of_singleton j)) on.0)
            (Memᴰ.append_cases ts i);
      }
