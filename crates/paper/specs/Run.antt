-- Runs: the paper's section 2.1 (what the stations start with, and what each hears, settle all else), and the
-- predicates of its equations (2) and (7), rules 10.8 and 10.9. The paper's runs go on for ever; here a run is any
-- beginning of one, its rounds in order. A judge's run has the rounds that it accepted.
use Rattle.std.specs.Prelude.{◌≡◌, true, List, [], ◌∷◌, ℕ, suc}
use Rattle.paper.specs.Stations.{All, size}
use Rattle.paper.specs.Heard.{Message, query, heard, Matrix, SHO, AHO}
use Rattle.paper.specs.Setup.{U, Setup, tolerated, passes_bound}
use Rattle.paper.specs.Rules.{Station, undecided, Kind, kind_of, sends, after, Fires}

abbrev pub States : Type 0
States = ℕ → Station

-- Algorithm 1, line 2; Algorithm 2, lines 2 and 3
unfoldable pub opened : (ℕ → ℕ) → States
opened starts p = record { estimate = starts p; vote = query; decision = undecided }

-- a round: its number, the states before it, what was heard, the states after it
pub record Turn : Type 0 where
  pub number : ℕ
  pub before : States
  pub heard : Matrix
  pub after : States

-- t is the round after k others, from the states s: it starts there, and each station goes by its rule
pub record Next (S : Setup) (default k : ℕ) (s : States) (t : Turn) : Type 0 where
  pub counted : t.number ≡ suc k
  pub from : All S.n (λ p. t.before p ≡ s p)
  pub by_rule : All S.n (λ p. t.after p ≡ after S default (suc k) (t.before p) (t.heard p))

-- the rounds ts follow one another, after k others, from the states s
unfoldable pub Rounds : Setup → ℕ → ℕ → States → List Turn → Type 0
Rounds S default k s [] = Unit {0}
Rounds S default k s (t ∷ ts) = Next S default k s t × Rounds S default (suc k) t.after ts

-- ts are the rounds, in order, of a run from these starts
unfoldable pub Run : Setup → ℕ → (ℕ → ℕ) → List Turn → Type 0
unfolding Rounds opened
Run S default starts ts = Rounds S default 0 (opened starts) ts

-- the kind of a round, and what each station ought to send in it
unfoldable pub kind : Setup → Turn → Kind
unfolding kind_of
kind S t = kind_of S.algorithm t.number

unfoldable pub sent : Setup → Turn → ℕ → Message
unfolding kind sends
sent S t q = sends (kind S t) (t.before q)

-- every station hears from every station just what that one ought to send
unfoldable pub AsSent : Setup → Turn → Type 0
unfolding sent
AsSent S t = All S.n (λ p. All S.n (λ q. t.heard p q ≡ heard (sent S t q)))

-- equation (2), at one round: |AHO(p)| <= alpha for every p
unfoldable pub PAlpha : Setup → Turn → Type 0
PAlpha S t = All S.n (λ p. tolerated S (size S.n (AHO (t.heard p) (sent S t))) ≡ true)

-- equation (7), at one round: |SHO(p)| > max(n + 2 alpha - E - 1, T, alpha) for every p
unfoldable pub PSafe : Setup → Turn → Type 0
PSafe S t = All S.n (λ p. passes_bound S (size S.n (SHO (t.heard p) (sent S t))) ≡ true)

-- the published safety predicates: A has the first, U has both
pub record Safe (S : Setup) (t : Turn) : Type 0 where
  pub few_altered : PAlpha S t
  pub enough_safe : S.algorithm ≡ U → PSafe S t

-- the decide rule fires at p for v in this round
unfoldable pub FiresAt : Setup → Turn → ℕ → ℕ → Type 0
unfolding kind
FiresAt S t p v = Fires S (kind S t) (t.heard p) v
