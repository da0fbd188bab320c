-- What the paper proves of its runs, as statements: its Propositions 1, 2, 5 and 6, its Lemmas 5, 8 and 9, and what is
-- kept of a decision. Each speaks of the rounds of a run (rules 16.2 to 16.6).
use Rattle.std.specs.Prelude.{◌≡◌, true, ◌⊎◌, ℕ, suc, ◌+◌, ◌≤◌, ◌<◌, eqb}
use mathlib.Core.List.{List, Memᴰ}
use Rattle.paper.specs.Stations.{Stations, All, size}
use Rattle.paper.specs.Heard.{val, HO}
use Rattle.paper.specs.Setup.{Algorithm, A, U, Setup, acceptable, passes_t, passes_e}
use Rattle.paper.specs.Rules.{decided}
use Rattle.paper.specs.Run.{States, Turn, Run, Safe, FiresAt}

-- the round t is among the rounds ts
infix 40 ◌among◌
abbrev pub ◌among◌ : Turn → List Turn → Type 0
t among ts = Memᴰ t ts

-- who holds v: the set of the stations with this estimate
unfoldable pub holders : States → ℕ → Stations
holders s v p = eqb (s p).estimate v

-- under A more than E - alpha stations hold v: holders and alpha together pass E. Under U all of them do
unfoldable pub LockedFor : Algorithm → Setup → States → ℕ → Type 0
unfolding holders
LockedFor A S s v = passes_e S (size S.n (holders s v) + S.alpha) ≡ true
LockedFor U S s v = All S.n (λ p. (s p).estimate ≡ v)

unfoldable pub Locked : Setup → States → ℕ → Type 0
unfolding LockedFor
Locked S s v = LockedFor S.algorithm S s v

-- what the paper asks of a run: the setup meets the inequalities, ts are its rounds, and each keeps the predicates
pub record Lawful (S : Setup) (default : ℕ) (starts : ℕ → ℕ) (ts : List Turn) : Type 0 where
  pub setup : acceptable S ≡ true
  pub rounds : Run S default starts ts
  pub safe : (t : Turn) → t among ts → Safe S t

-- wherever the decide rule fires, at one station twice or at two, it names one value (Propositions 1 and 5)
unfoldable pub Agreement : Setup → List Turn → Type 0
Agreement S ts =
    (t u : Turn) (p q v w : ℕ) → t among ts → u among ts
    → p < S.n → q < S.n → FiresAt S t p v → FiresAt S u q w → v ≡ w

-- from the end of any round in which it fires, and ever after, the stations are locked to that value (the induction in
-- Lemma 5's proof; Lemma 9 and the induction in Proposition 5's proof)
unfoldable pub Lock : Setup → List Turn → Type 0
unfolding Locked
Lock S ts =
    (t u : Turn) (p v : ℕ) → t among ts → u among ts
    → t.number ≤ u.number → p < S.n → FiresAt S t p v → Locked S u.after v

-- if all stations start with v, no other value is decided (Propositions 2 and 6)
unfoldable pub Integrity : Setup → (ℕ → ℕ) → List Turn → Type 0
Integrity S starts ts =
    (v : ℕ) → All S.n (λ p. starts p ≡ v) → (t : Turn) (p w : ℕ) → t among ts → p < S.n → FiresAt S t p w → w ≡ v

-- ---- the lemmas on the way, each of the algorithm that it is about
-- Lemma 5: under A whoever hears more than T, in the round of a firing or in a later one, takes the value of the firing
unfoldable pub Lemma5 : Setup → List Turn → Type 0
Lemma5 S ts =
    S.algorithm ≡ A → (t u : Turn) (p q v : ℕ) → t among ts → u among ts
    → t.number ≤ u.number → p < S.n → q < S.n → FiresAt S t p v
    → passes_t S (size S.n (HO (u.heard q))) ≡ true → (u.after q).estimate ≡ v

-- Lemma 8, first part: under U the votes that a round leaves name one value
unfoldable pub Lemma8Votes : Setup → List Turn → Type 0
Lemma8Votes S ts =
    S.algorithm ≡ U → (t : Turn) (p q v w : ℕ) → t among ts
    → p < S.n → q < S.n → (t.after p).vote ≡ val v → (t.after q).vote ≡ val w → v ≡ w

-- second part: where one round leaves a vote for v, the next leaves each station with v or with the default
unfoldable pub Lemma8Estimates : Setup → ℕ → List Turn → Type 0
Lemma8Estimates S default ts =
    S.algorithm ≡ U → (t u : Turn) (p q v : ℕ) → t among ts → u among ts
    → u.number ≡ suc t.number → p < S.n → q < S.n → (t.after p).vote ≡ val v
    → ((u.after q).estimate ≡ v) ⊎ ((u.after q).estimate ≡ default)

-- Lemma 9: under U every station holds v at the end of a round in which the rule fires for v
unfoldable pub Lemma9 : Setup → List Turn → Type 0
Lemma9 S ts =
    S.algorithm ≡ U → (t : Turn) (p q v : ℕ) → t among ts
    → p < S.n → q < S.n → FiresAt S t p v → (t.after q).estimate ≡ v

-- ---- decisions
-- the round t is the first of ts in which the rule fires at p, and it fires for v
pub record FirstFiring (S : Setup) (ts : List Turn) (p v : ℕ) (t : Turn) : Type 0 where
  pub in_run : t among ts
  pub fires : FiresAt S t p v
  pub first : (u : Turn) (w : ℕ) → u among ts → FiresAt S u p w → t.number ≤ u.number

-- a decision that is kept is the first firing's, with its round (rule 16.5)
unfoldable pub Kept : Setup → List Turn → Type 0
Kept S ts =
    (u : Turn) (p v r : ℕ) → u among ts → p < S.n → (u.after p).decision ≡ decided v r
    → (t : Turn) × FirstFiring S ts p v t × (t.number ≡ r) × (r ≤ u.number)

-- and a station at which the rule has fired has, from then on, its first firing's value and round (rule 16.6)
unfoldable pub Decides : Setup → List Turn → Type 0
Decides S ts =
    (t u : Turn) (p v : ℕ) → t among ts → u among ts → t.number ≤ u.number → p < S.n → FiresAt S t p v
    → (w : ℕ) × (t₀ : Turn) × FirstFiring S ts p w t₀ × ((u.after p).decision ≡ decided w t₀.number)
