-- A run is sound exactly when it keeps each clause of the rules: each test of the one is a clause of the other, taken
-- from test to numbers and back. Also the steps of a loop that asks a test of each place.
use mathlib.Core.Path.{◌≡◌, refl, ap, sym, ◌∙◌}
use mathlib.Core.Logic.{◌↔◌, ◌⊎◌, inl, inr, ⊎_elim}
use mathlib.Core.Bool.{Bool, true, false, not, ◌||◌, cond, false≢true}
use Prim.Native.Nat.{ℕ, ◌+◌, ◌%◌, ◌<◌, ◌≤◌}
use native.Mathlib.Numerals.{add-one}
use native.Mathlib.Decide.{ℕ_discrete}
use native.Mathlib.Omega.{arith}
use borrow.Author.Tests.{
  eqb-true,
  leb-true,
  ltb-true,
  ltb-false,
  eq-eqb,
  ne_eqb,
  le-leb,
  lt-ltb,
  le-ltb,
  not-true,
  not-false,
}
use lib.Dec.{ltb}
use Rattle.paper.specs.Setup as setup
use Rattle.paper.specs.Stations.{every}
use Rattle.paper.proofs.Counting.{both, every_at, every_is}
use Rattle.limits.specs.declared.Setup.{Setup}
use Rattle.run.specs.declared.Run.{Run}
use Rattle.run.specs.declared.Station.{Station}
use Rattle.run.specs.Keeps.{SetupKeeps, StationKeeps, Keeps}
use Rattle.limits.specs.Setup.{byte_a, byte_u, is_u, setup_of}
use Rattle.run.proofs.Heads.{in_range_iff}
use Rattle.run.specs.Run.{
  stations,
  nothing,
  idle,
  in_range,
  default_fits,
  may_vote,
  may_decide,
  vote_fits,
  decision_fits,
  kept_fits,
  station_fits,
  clear,
  station_at,
  place_fits,
  head_fits,
  place_fits_in,
  sound,
}

-- ---- a loop over the places that goes on while the test is true
pub every_zero : (f : ℕ → Bool) → every 0 f ≡ true
unfolding every
every_zero f = refl

pub every_on : (n : ℕ) (f : ℕ → Bool) → every n f ≡ true → f n ≡ true → every (n + 1) f ≡ true
unfolding every
every_on n f e h = rw (add-one, e, h)

pub every_off : (n i : ℕ) (f : ℕ → Bool) → i < n → f i ≡ false → every n f ≡ false
every_off n i f l h = go (every n f) refl
  where
    go : (b : Bool) → every n f ≡ b → every n f ≡ false
    go true e = absurd (false≢true (sym h ∙ every_at n f e i l))
    go false e = e

-- ---- one test and its clause
or_then : (a b : Bool) → (a || b) ≡ true → a ≡ false → b ≡ true
or_then true b e f = absurd (false≢true (sym f))
or_then false b e f = e

then_or : (a b : Bool) → (a ≡ false → b ≡ true) → (a || b) ≡ true
then_or true b h = refl
then_or false b h = h refl

cond_then : (a b c : Bool) → cond a b c ≡ true → (a ≡ true → b ≡ true) × (a ≡ false → c ≡ true)
cond_then true b c e = (λ _. e, λ f. absurd (false≢true (sym f)))
cond_then false b c e = (λ f. absurd (false≢true f), λ _. e)

then_cond : (a b c : Bool) → (a ≡ true → b ≡ true) → (a ≡ false → c ≡ true) → cond a b c ≡ true
then_cond true b c h g = h refl
then_cond false b c h g = g refl

-- ---- the setup
module _ (s : Setup) where
  -- under U and under A
  is_two : is_u s ≡ true → s.algorithm ≡ byte_u
  is_two e = eqb-true s.algorithm byte_u e

  two_is : s.algorithm ≡ byte_u → is_u s ≡ true
  two_is e = eq-eqb s.algorithm byte_u e

  one_is : s.algorithm ≡ byte_a → is_u s ≡ false
  one_is e = ne_eqb s.algorithm byte_u (λ q. omega arith)

  pub either_is : byte_a ≤ s.algorithm → s.algorithm ≤ byte_u → (s.algorithm ≡ byte_a) ⊎ (s.algorithm ≡ byte_u)
  either_is low high = go (ℕ_discrete s.algorithm byte_a)
    where
      go : Dec (s.algorithm ≡ byte_a) → (s.algorithm ≡ byte_a) ⊎ (s.algorithm ≡ byte_u)
      go (yes e) = inl e
      go (no n) = inr (omega arith)

  setup_keeps : in_range s ≡ true → setup.acceptable (setup_of s) ≡ true → SetupKeeps s
  setup_keeps r e =
      let (low, high, from, to) = (in_range_iff s).0 r in
      record { algorithm = either_is low high; n_from = from; n_to = to; inequalities = e }

  keeps_in_range : SetupKeeps s → in_range s ≡ true
  keeps_in_range k =
      (in_range_iff s).1
      (⊎_elim (λ o. omega (arith, k.n_from, k.n_to)) (λ t. omega (arith, k.n_from, k.n_to)) k.algorithm)

  -- a setup passes its tests exactly when it keeps their clauses
  pub setup_iff : ((in_range s ≡ true) × (setup.acceptable (setup_of s) ≡ true)) ↔ SetupKeeps s
  setup_iff = (λ h. setup_keeps h.0 h.1, λ k. (keeps_in_range k, k.inequalities))

-- ---- what a run holds of one station
pub keeps_beside : {there : Bool} {number : ℕ} → (there ≡ false → number ≡ 0) → kept_fits there number ≡ true
unfolding kept_fits
keeps_beside {there} {number} h = then_or there _ (λ n. eq-eqb number 0 (h n))

module _ (s : Setup) (clock : ℕ) where
  pub may_decide_keeps : (r : ℕ) → may_decide s clock r ≡ true → (1 ≤ r) × (r ≤ clock) × (s.algorithm ≡ byte_u → r % 2 ≡ 0)
  unfolding may_decide
  may_decide_keeps r e =
      let (bounds, even) = both _ _ e in
      let (from, to) = both _ _ bounds in
      (leb-true _ _ from, leb-true _ _ to, λ t. eqb-true _ _ (or_then (not (is_u s)) _ even (ap not (two_is s t))))

  pub keeps_may_decide : (r : ℕ) → 1 ≤ r → r ≤ clock → (s.algorithm ≡ byte_u → r % 2 ≡ 0) → may_decide s clock r ≡ true
  unfolding may_decide
  keeps_may_decide r from to even =
      rw (le-leb _ _ from, le-leb _ _ to) (then_or (not (is_u s)) _ (λ n. eq-eqb _ _ (even (is_two s (not-false _ n)))))

  module _ (p : Station) where
    pub station_keeps : station_fits s clock p ≡ true → StationKeeps s clock p
    unfolding station_fits vote_fits may_vote decision_fits kept_fits
    station_keeps e =
        let (abc, beside_undecided) = both _ _ e in
        let (ab, beside_no_vote) = both _ _ abc in
        let (vote, decision) = both _ _ ab in
        let (decided, undecided) = cond_then p.decided _ _ decision in
        record {
          vote = λ v. let (u, odd) = both _ _ (or_then (not p.voted) _ vote (ap not v)) in
              (is_two s u, eqb-true _ _ odd);
          round_from = λ d. (may_decide_keeps p.round (decided d)).0;
          round_to = λ d. (may_decide_keeps p.round (decided d)).1;
          round_even = λ d. (may_decide_keeps p.round (decided d)).2;
          undecided = λ d. eqb-true _ _ (undecided d);
          beside_no_vote = λ v. eqb-true _ _ (or_then p.voted _ beside_no_vote v);
          beside_undecided = λ d. eqb-true _ _ (or_then p.decided _ beside_undecided d);
        }

    pub keeps_vote : StationKeeps s clock p → vote_fits s clock p.voted ≡ true
    unfolding vote_fits may_vote
    keeps_vote k = then_or (not p.voted) _ (λ n. let (u, odd) = k.vote (not-false _ n) in
        rw (two_is s u, eq-eqb _ _ odd))

    pub keeps_decision : StationKeeps s clock p → decision_fits s clock p.decided p.round ≡ true
    unfolding decision_fits
    keeps_decision k =
        then_cond p.decided _ _
        (λ d. keeps_may_decide p.round (k.round_from d) (k.round_to d) (k.round_even d))
        (λ d. eq-eqb _ _ (k.undecided d))

    keeps_station : StationKeeps s clock p → station_fits s clock p ≡ true
    unfolding station_fits
    keeps_station k = rw (
      keeps_vote k,
      keeps_decision k,
      keeps_beside k.beside_no_vote,
      keeps_beside
          k.beside_undecided,
    )

clear_keeps : (p : Station) → clear p ≡ true → p ≡ nothing
unfolding clear
clear_keeps p e =
    let (abcde, round) = both _ _ e in
    let (abcd, decision) = both _ _ abcde in
    let (abc, decided) = both _ _ abcd in
    let (ab, vote) = both _ _ abc in
    let (estimate, voted) = both _ _ ab in
    let same : ◌≡◌ {A = Station}
    (record {
      estimate = p.estimate;
      voted = p.voted;
      vote = p.vote;
      decided = p.decided;
      decision = p.decision;
      round = p.round;
    })
    nothing
    = rw (
      eqb-true p.estimate 0 estimate,
      not-true p.voted voted,
      eqb-true p.vote 0 vote,
      not-true p.decided decided,
      eqb-true p.decision 0 decision,
      eqb-true p.round 0 round,
    ) in
    same

keeps_clear : (p : Station) → p ≡ nothing → clear p ≡ true
unfolding clear
keeps_clear p e = rw e

-- ---- the whole run
module _ (run : Run) where
  sound_keeps : sound run ≡ true → Keeps run
  unfolding sound head_fits default_fits place_fits
  sound_keeps e =
      let (head, places) = both _ _ e in
      let (abc, clock) = both _ _ head in
      let (ab, default) = both _ _ abc in
      let (range, inequalities) = both _ _ ab in
      let setup = setup_keeps run.setup range inequalities in
      record {
        setup = setup;
        default = λ o. eqb-true _ _ (or_then (is_u run.setup) _ default (one_is run.setup o));
        clock = leb-true _ _ clock;
        below =
            λ i l.
            station_keeps run.setup run.clock (station_at run i)
            ((cond_then (ltb i run.setup.n) _ _ (every_at stations _ places i (omega arith))).0 (lt-ltb _ _ l));
        above =
            λ i h l.
            clear_keeps (station_at run i) ((cond_then (ltb i run.setup.n) _ _ (every_at stations _ places i l)).1
            (le-ltb _ _ h));
      }

  keeps_sound : Keeps run → sound run ≡ true
  unfolding sound head_fits default_fits place_fits
  keeps_sound k =
      rw (keeps_in_range run.setup k.setup, k.setup.inequalities, default, le-leb _ _ k.clock)
      (every_is stations _ place)
    where
      default : default_fits run.setup run.default ≡ true
      default = then_or (is_u run.setup) _ (λ n. eq-eqb _ _ (⊎_elim k.default (λ t. absurd (false≢true (sym n
          ∙ two_is run.setup t))) k.setup.algorithm))

      place : (i : ℕ) → i < stations → place_fits_in run i ≡ true
      place i l =
          then_cond (ltb i run.setup.n) _ _
          (λ b. keeps_station run.setup run.clock (station_at run i) (k.below i (ltb-true _ _ b)))
          (λ b. keeps_clear (station_at run i) (k.above i (ltb-false _ _ b) l))

  pub sound_iff : (sound run ≡ true) ↔ Keeps run
  sound_iff = (sound_keeps, keeps_sound)

-- the idle run is not good
pub idle_breaks : sound idle ≡ false
unfolding sound head_fits in_range idle
idle_breaks = refl
