-- The decide rule fires. Where everybody sends v, everything is heard as sent and the round is one of A or an even one
-- of U, n messages say v, and n pass E. So every acceptable setup has a lawful run in which all decide, after one round
-- under A and two under U; one of U is worked out by the checker.
use mathlib.Core.Path.{◌≡◌, refl, ap, ◌∙◌}
use mathlib.Core.Bool.{true}
use mathlib.Core.List.Memᴰ
use mathlib.Core.List.{List, [], ◌∷◌}
use Prim.Native.Nat.{ℕ, ◌%◌}
use Rattle.paper.specs.Stations.{All, size}
use Rattle.paper.specs.Heard.{val}
use Rattle.paper.specs.Setup.{Algorithm, A, U, Setup, whole, acceptable, passes_e}
use Rattle.paper.specs.Rules.{decided, sends, times, deciding, after}
use Rattle.paper.specs.Run.{opened, Turn, kind, sent, AsSent, FiresAt}
use Rattle.paper.specs.Safety.{◌among◌, Lawful}
use Rattle.paper.proofs.Sets.{r_as_sent}
use Rattle.paper.proofs.Thresholds.{more_pass_t, more_pass_e, n_passes_t, n_passes_e}
use Rattle.paper.proofs.AtRounds.{a_kind, even_kind, a_sends, odd_sends, even_sends, odd_votes}
use Rattle.paper.proofs.GoesOn.{opens, as_sent_after, lawful_goes_on}

module _ (S : Setup) (ok : acceptable S ≡ true) (t : Turn) (as_sent : AsSent S t) (v : ℕ) where
  all_fire : deciding (kind S t) ≡ true → All S.n (λ q. sent S t q ≡ val v) → All S.n (λ p. FiresAt S t p v)
  unfolding AsSent FiresAt times
  all_fire rule all p h =
      record {
        rule = rule;
        enough =
            more_pass_e S S.n (times S.n (t.heard p) v)
            (r_as_sent S.n (t.heard p) (sent S t) (as_sent p h) v all) (n_passes_e S ok);
      }

  -- A, any round before which all estimates are v: the rule fires for v at every station
  pub a_fires : S.algorithm ≡ A → All S.n (λ q. (t.before q).estimate ≡ v) → All S.n (λ p. FiresAt S t p v)
  unfolding kind sent deciding
  a_fires own all =
      all_fire (ap deciding (a_kind S t.number own))
      (λ q h. a_sends S t.number (t.before q) own ∙ ap val (all q h))

  -- U, an even round before which all votes are v: likewise
  pub u_fires : S.algorithm ≡ U → t.number % 2 ≡ 0 → All S.n (λ q. (t.before q).vote ≡ val v)
      → All S.n (λ p. FiresAt S t p v)
  unfolding kind sent deciding
  u_fires own even all =
      all_fire (ap deciding (even_kind S t.number own even))
      (λ q h. even_sends S t.number (t.before q) own even ∙ all q h)

-- a lawful run from v everywhere in which the rule fires for v at every station
pub record AllDecide (S : Setup) (default v : ℕ) : Type 0 where
  pub rounds : List Turn
  pub lawful : Lawful S default (λ p. v) rounds
  pub round : Turn
  pub in_run : round among rounds
  pub fires : All S.n (λ p. FiresAt S round p v)

module _ (S : Setup) (default v : ℕ) where
  -- the first two rounds from v everywhere, everything heard as sent
  abbrev pub first : Turn
  first = as_sent_after S default (λ p. v) []

  abbrev pub second : Turn
  second = as_sent_after S default (λ p. v) (first ∷ [])

  module _ (ok : acceptable S ≡ true) where
    once : AsSent S first × Lawful S default (λ p. v) (first ∷ [])
    once =
        lawful_goes_on S default (λ p. v) []
        (record { setup = ok; rounds = opens S default (λ p. v); safe = λ t i. absurd (Memᴰ.not-nil i) })

    twice : AsSent S second × Lawful S default (λ p. v) (first ∷ second ∷ [])
    twice = lawful_goes_on S default (λ p. v) (first ∷ []) once.1

    -- under U the first leaves every station with the vote v
    all_vote : S.algorithm ≡ U → All S.n (λ q. (second.before q).vote ≡ val v)
    unfolding AsSent opened sent kind times
    all_vote own q h =
        (odd_votes S default 1 (opened (λ p. v) q) (first.heard q) own refl ok refl v).1
        (more_pass_t S S.n (times S.n (first.heard q) v)
        (r_as_sent S.n (first.heard q) (sent S first) (once.0 q h) v
        (λ x g. odd_sends S 1 (opened (λ p. v) x) own refl))
        (n_passes_t S ok))

    pub all_decide : AllDecide S default v
    unfolding opened
    all_decide = go S.algorithm refl
      where
        go : (a : Algorithm) → S.algorithm ≡ a → AllDecide S default v
        go A own =
            record {
              rounds = first ∷ [];
              lawful = once.1;
              round = first;
              in_run = Memᴰ.head refl;
              fires = a_fires S ok first once.0 v own (λ q h. refl);
            }
        go U own =
            record {
              rounds = first ∷ second ∷ [];
              lawful = twice.1;
              round = second;
              in_run = Memᴰ.tail (Memᴰ.head refl);
              fires = u_fires S ok second twice.0 v own refl (all_vote own);
            }

-- U(3, 2, 2, 0) with the default 9, from 4, 4 and 4, as the checker works it out: the second round fires for 4 at every
-- station, and leaves it decided
abbrev pub small : Setup
small = whole U 3 2 2 0

small_allowed : acceptable small ≡ true
unfolding acceptable
small_allowed = refl

pub u_decides : Lawful small 9 (λ p. 4) (first small 9 4 ∷ second small 9 4 ∷ [])
    × All 3 (λ p. FiresAt small (second small 9 4) p 4) × All 3 (λ p. ((second small 9 4).after p).decision ≡ decided 4 2)
unfolding FiresAt passes_e opened size sends times deciding after
u_decides = ((twice small 9 4 small_allowed).1, λ p h. record { rule = refl; enough = refl }, λ p h. refl)
