-- Checks made in turn: by induction on their number, the last of which is asked only if all before it accepted.
use mathlib.Core.Path.{◌≡◌, refl, ap, sym, ◌∙◌}
use mathlib.Core.Logic.{◌↔◌, ⊎_elim}
use mathlib.Core.Bool.{Bool, true, false, not}
use Prim.Native.Nat.{ℕ, zero, suc, ◌+◌, ◌*◌, ◌/◌, ◌%◌, ◌<◌}
use native.Mathlib.Nat.{not-suc-le-zero, eq-or-lt_of_le, le_of_suc-le-suc, add-zero, add-suc, mul-zero, mul-suc}
use native.Mathlib.Numerals.{add-one}
use native.Mathlib.Omega.{arith}
use borrow.Author.Count.{below_more}
use Rattle.std.specs.Prelude.{Option, None, Some}
use Rattle.run.specs.First.{first, or_here}
use Rattle.run.specs.Reply.{Reply, Accepted, is_accepted, ◌then◌, or_refuse, refuse_at}
use Rattle.run.proofs.Replies.{accepted_then, then_accepted, then_assoc, then_end, then_stop}
use Rattle.round.specs.Reading.{in_turn}
use Rattle.round.proofs.Places.{receiver_of, sender_of}

module _ (f : ℕ → Reply) where
  -- every check below n accepts
  abbrev AllBelow : ℕ → Type 0
  AllBelow n = (i : ℕ) → i < n → f i ≡ Accepted

  pub turn_zero : in_turn 0 f ≡ Accepted
  unfolding in_turn
  turn_zero = refl

  -- a loop whose checks all accepted goes on
  pub turn_on : (i : ℕ) → in_turn i f ≡ Accepted → f i ≡ Accepted → in_turn (i + 1) f ≡ Accepted
  unfolding in_turn
  turn_on i e h = rw (add-one, e, h)

  -- a loop that meets a refusal returns it, at once
  pub turn_stop : (n i : ℕ) → in_turn i f ≡ Accepted → is_accepted (f i) ≡ false → i < n → in_turn n f ≡ f i
  unfolding in_turn
  turn_stop zero i e h l = absurd (not-suc-le-zero l)
  turn_stop (suc n) i e h l =
      ⊎_elim (λ q. rw (← q, e)) (λ q. then_stop (in_turn n f) (f n) (ap is_accepted (turn_stop n i e h q) ∙ h)
      ∙ turn_stop n i e h q)
      (eq-or-lt_of_le (le_of_suc-le-suc l))

  pub turn_returns : (n i : ℕ) {r : Reply} → in_turn i f ≡ Accepted → r ≡ f i → is_accepted (f i) ≡ false → i < n
      → r ≡ in_turn n f
  turn_returns n i e here h l = here ∙ sym (turn_stop n i e h l)

  turn_all : (n : ℕ) → in_turn n f ≡ Accepted → AllBelow n
  unfolding in_turn
  turn_all zero e i l = absurd (not-suc-le-zero l)
  turn_all (suc n) e i l =
      let (before, here) = then_accepted (in_turn n f) (f n) e in
      below_more (λ k. f k ≡ Accepted) n (turn_all n before) here i (omega arith)

  all_turn : (n : ℕ) → AllBelow n → in_turn n f ≡ Accepted
  unfolding in_turn
  all_turn zero h = refl
  all_turn (suc n) h = accepted_then (in_turn n f) (f n) (all_turn n (λ i l. h i (omega arith))) (h n (omega arith))

  pub turn_accepted : (n : ℕ) → (in_turn n f ≡ Accepted) ↔ ((i : ℕ) → i < n → f i ≡ Accepted)
  turn_accepted n = (turn_all n, all_turn n)

-- checks that agree below n give the same reply
pub turn_same : (n : ℕ) (f g : ℕ → Reply) → ((i : ℕ) → i < n → f i ≡ g i) → in_turn n f ≡ in_turn n g
unfolding in_turn
turn_same zero f g h = refl
turn_same (suc n) f g h = rw (turn_same n f g (λ i l. h i (omega arith)), h n (omega arith))

-- checks that refuse where a test is true: the lowest such place gives the reply
pub turn_first : (n : ℕ) (s r : ℕ → Reply) (f : ℕ → Bool) → ((i : ℕ) → s i ≡ or_refuse (not (f i)) (r i))
    → ((i : ℕ) → is_accepted (r i) ≡ false) → in_turn n s ≡ refuse_at (first n f) r
unfolding in_turn first
turn_first zero s r f e h = refl
turn_first (suc n) s r f e h = rw (turn_first n s r f e h, e n) (next (first n f) (f n))
  where
    next : (o : Option ℕ) (b : Bool) → (refuse_at o r then or_refuse (not b) (r n)) ≡ refuse_at (or_here o b n) r
    next None true = refl
    next None false = refl
    next (Some i) b = then_stop (r i) (or_refuse (not b) (r n)) (h i)

-- checks made in two goes, and in rows of m each
pub turn_add : (m n : ℕ) (f : ℕ → Reply) → in_turn (m + n) f ≡ (in_turn m f then in_turn n (λ i. f (m + i)))
unfolding in_turn
turn_add m zero f = rw add-zero (sym (then_end (in_turn m f)))
turn_add m (suc n) f =
    rw (add-suc m n, turn_add m n f) (then_assoc (in_turn m f) (in_turn n (λ i. f (m + i))) (f (m + n)))

pub turn_rows : (m n : ℕ) (f : ℕ → ℕ → Reply)
    → in_turn n (λ p. in_turn m (f p)) ≡ in_turn (m * n) (λ k. f (k / m) (k % m))
unfolding in_turn
turn_rows m zero f = rw mul-zero
turn_rows m (suc n) f =
    rw (mul-suc m n, turn_add, turn_rows m n f)
    (ap (λ (r : Reply). in_turn (m * n) (λ k. f (k / m) (k % m)) then r)
    (turn_same m (f n) (λ i. f ((m * n + i) / m) ((m * n + i) % m))
    (λ i l. rw (receiver_of m n i l, sender_of m n i l))))
