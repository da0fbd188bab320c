-- What one receiver's row can tell it, where at most alpha of its cells are altered: a value that passes a threshold
-- was to be sent by somebody, and a value that enough stations were to send comes through. `sent q` is what q ought to
-- send.
use mathlib.Core.Path.{◌≡◌, refl, ap, sym}
use mathlib.Core.Bool.{true}
use mathlib.Core.Logic.{◌≢◌}
use Rattle.std.specs.Prelude.{Some}
use Prim.Native.Nat.{ℕ, zero, suc, ◌+◌, ◌*◌, ◌≤◌, ◌<◌}
use native.Mathlib.Nat.{le_of_eq}
use native.Mathlib.Decide.{ℕ_discrete}
use native.Mathlib.Omega.{arith}
use Rattle.paper.specs.Stations.{size}
use Rattle.paper.specs.Heard.{Message, val, heard, Row, HO, SHO, AHO, Q}
use Rattle.paper.specs.Setup.{Setup, A, U, acceptable, passes_t, passes_e, vouched, passes_bound}
use Rattle.paper.specs.Rules.{times, smallest, most_often}
use Rattle.paper.proofs.Counting.{size_member, agree}
use Rattle.paper.proofs.Sets.{same_eq, lemma_1, heard_split, safely_received, received_apart}
use Rattle.paper.proofs.Smallest.{smallest_is}
use Rattle.paper.proofs.MostOften.{Received, came, most_often_iff, most_often_all}
use Rattle.paper.proofs.Passing.{one_passes_t, passing_iff}
use Rattle.paper.proofs.Thresholds.{vouched_iff, alpha_not_e, more_pass_e, more_pass_t, outweighs, bound_t}
use Rattle.paper.proofs.Thresholds.{bound_e}

-- all who send a value send the same one
abbrev pub OneValue : ℕ → (ℕ → Message) → Type 0
OneValue n sent = (p q v w : ℕ) → p < n → q < n → sent p ≡ val v → sent q ≡ val w → v ≡ w

-- a value that somebody ought to send
sent_by : (n : ℕ) (sent : ℕ → Message) (v : ℕ) → 0 < size n (Q sent v) → (q : ℕ) × (q < n) × (sent q ≡ val v)
unfolding Q
sent_by n sent v h =
    let found = size_member n (Q sent v) h in (found.0, found.1, same_eq (sent found.0) (val v) found.2)

module _ (S : Setup) (row : Row) (sent : ℕ → Message) (few : size S.n (AHO row sent) ≤ S.alpha) where
  -- Lemma 1 under P_alpha
  pub backed : (v : ℕ) → times S.n row v ≤ size S.n (Q sent v) + S.alpha
  unfolding times
  backed v = omega (arith, lemma_1 S.n row sent v)

  -- Lemma 8: at least alpha + 1 votes for w, and one of them is true
  pub vouched_true : (w : ℕ) → vouched S (times S.n row w) ≡ true → (q : ℕ) × (q < S.n) × (sent q ≡ val w)
  vouched_true w e = sent_by S.n sent w (omega (arith, backed w, (vouched_iff S (times S.n row w)).0 e))

  -- a value that passes E was to be sent by somebody
  pub decided_true : acceptable S ≡ true → (w : ℕ) → passes_e S (size S.n (Q sent w) + S.alpha) ≡ true
      → (q : ℕ) × (q < S.n) × (sent q ≡ val w)
  decided_true ok w e = sent_by S.n sent w (go (size S.n (Q sent w)) refl)
    where
      go : (k : ℕ) → size S.n (Q sent w) ≡ k → 0 < size S.n (Q sent w)
      go zero z =
          absurd (alpha_not_e S ok (more_pass_e S (size S.n (Q sent w) + S.alpha) S.alpha (omega arith) e))
      go (suc k) z = omega arith

  -- a value that passes E here passes it, with alpha, among those who ought to send it
  pub backed_e : (v : ℕ) → passes_e S (times S.n row v) ≡ true → passes_e S (size S.n (Q sent v) + S.alpha)
      ≡ true
  backed_e v e = more_pass_e S (times S.n row v) (size S.n (Q sent v) + S.alpha) (backed v) e

  -- Lemma 4: where v is held by so many, whoever hears more than T takes v
  pub takes_most : acceptable S ≡ true → S.algorithm ≡ A → (v : ℕ)
      → passes_e S (size S.n (Q sent v) + S.alpha) ≡ true
      → passes_t S (size S.n (HO row)) ≡ true → smallest S.n row (most_often S.n row) ≡ Some v
  unfolding times
  takes_most ok own v held enough =
      smallest_is S.n row (most_often S.n row) v
      (record { from = there.0; below = there.1; heard_there = there.2; passes = is_most; least = only })
    where
      more_than_half : size S.n (HO row) < 2 * times S.n row v
      more_than_half =
          omega (
            arith,
            heard_split S.n row sent v,
            outweighs S ok own (size S.n (HO row))
                (size S.n (Q sent v)) enough held,
          )

      there : Received S.n row v
      there = (came S.n row v).0 (omega (arith, more_than_half))

      fewer : (w : ℕ) → v ≢ w → times S.n row w < times S.n row v
      fewer w apart = omega (arith, more_than_half, received_apart S.n v w apart row)

      no_more : (w : ℕ) → times S.n row w ≤ times S.n row v
      no_more w = go (ℕ_discrete v w)
        where
          go : Dec (v ≡ w) → times S.n row w ≤ times S.n row v
          go (yes e) = le_of_eq (ap (times S.n row) (sym e))
          go (no apart) = omega (arith, fewer w apart)

      is_most : most_often S.n row v ≡ true
      is_most = (most_often_iff S.n row v).1 (λ w r. no_more w)

      only : (q w : ℕ) → q < S.n → row q ≡ heard (val w) → most_often S.n row w ≡ true → v ≤ w
      only q w h e most =
          le_of_eq (agree v w (λ apart. omega (arith, fewer w apart, most_often_all S.n row w most v)))

  -- Lemma 9: where the votes for v, with alpha, pass E, and no other value is voted for, the estimate goes to v
  pub adopts : acceptable S ≡ true → S.algorithm ≡ U → (v : ℕ) → OneValue S.n sent
      → passes_e S (size S.n (Q sent v) + S.alpha) ≡ true
      → passes_bound S (size S.n (SHO row sent)) ≡ true
      → smallest S.n row (λ w. vouched S (times S.n row w)) ≡ Some v
  unfolding times
  adopts ok own v single held safe =
      smallest_is S.n row (λ w. vouched S (times S.n row w)) v
      (record {
        from = there.0;
        below = there.1;
        heard_there = there.2;
        passes = (vouched_iff S (times S.n row v)).1 many;
        least = λ q w h e y. le_of_eq (only w y);
      })
    where
      many : S.alpha < times S.n row v
      many =
          omega (
            arith,
            safely_received S.n row sent v,
            bound_e S ok own (size S.n (Q sent v))
                (size S.n (SHO row sent)) held safe,
          )

      there : Received S.n row v
      there = (came S.n row v).0 (omega (arith, many))

      only : (w : ℕ) → vouched S (times S.n row w) ≡ true → v ≡ w
      only w y =
          let mine = decided_true ok v held in
          let other = vouched_true w y in
          single mine.0 other.0 v w mine.1 other.1 mine.2 other.2

-- under U, where everybody ought to send v, the vote goes to v
pub votes_for : (S : Setup) (row : Row) → acceptable S ≡ true → S.algorithm ≡ U → (sent : ℕ → Message) (v : ℕ)
    → size S.n (Q sent v) ≡ S.n → passes_bound S (size S.n (SHO row sent)) ≡ true
    → smallest S.n row (λ w. passes_t S (times S.n row w)) ≡ Some v
unfolding times
votes_for S row ok own sent v all safe =
    (passing_iff S.n row (passes_t S) (one_passes_t S row ok own) v).1
    (more_pass_t S (size S.n (SHO row sent)) (times S.n row v) (omega (arith, safely_received S.n row sent v))
    (bound_t S (size S.n (SHO row sent)) safe))
