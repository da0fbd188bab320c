-- The sets HO, SHO, AHO, R and Q against one another: each law is looked at in one cell, and counted by `count_le`.
use mathlib.Core.Path.{◌≡◌, refl, ap, sym, ◌∙◌}
use mathlib.Core.Bool.{Bool, true, false, not, ◌&&◌, false≢true}
use mathlib.Core.List.{[], ◌∷◌}
use mathlib.Core.Logic.{◌≢◌}
use Prim.Native.Nat.{ℕ, ◌+◌, ◌≤◌, zero-le}
use native.Mathlib.Nat.{le_refl}
use native.Mathlib.Omega.{arith}
use borrow.Author.Tests.{eqb-true, eq-eqb}
use Rattle.paper.specs.Stations.{one, size, All}
use Rattle.paper.specs.Heard.{Message, val, query, Cell, lost, heard, Row, same, arrived, holds, HO, SHO, AHO, R}
use Rattle.paper.specs.Heard.{Q}
use Rattle.paper.proofs.Counting.{count_le, everyone, size_everyone, one_le, size_all, size_none}

pub same_eq : (k m : Message) → same k m ≡ true → k ≡ m
unfolding same
same_eq (val v) (val w) e = ap val (eqb-true v w e)
same_eq (val v) query e = absurd (false≢true e)
same_eq query (val w) e = absurd (false≢true e)
same_eq query query e = refl

pub same_refl : (m : Message) → same m m ≡ true
unfolding same
same_refl (val v) = eq-eqb v v refl
same_refl query = refl

val_inj : {v w : ℕ} → val v ≡ val w → v ≡ w
val_inj e = cc

-- a message is at most one of two values
two_messages : (m : Message) (v w : ℕ) → v ≢ w → one (same m (val v)) + one (same m (val w)) ≤ 1
unfolding one
two_messages m v w apart = go (same m (val v)) refl
  where
    go : (b : Bool) → same m (val v) ≡ b → one (same m (val v)) + one (same m (val w)) ≤ 1
    go false e = let z : one (same m (val v)) ≡ 0 = ap one e in omega (arith, one_le (same m (val w)))
    go true e = also (same m (val w)) refl
      where
        also : (b : Bool) → same m (val w) ≡ b → one (same m (val v)) + one (same m (val w)) ≤ 1
        also true d = absurd (apart (val_inj (sym (same_eq m (val v) e) ∙ same_eq m (val w) d)))
        also false d = let z : one (same m (val w)) ≡ 0 = ap one d in omega (arith, one_le (same m (val v)))

-- in one cell: what is heard is what was to be sent, or it is altered
cell_received : (c : Cell) (m : Message) (v : ℕ)
    → one (holds c (val v)) ≤ one (same m (val v)) + one (arrived c && not (holds c m))
unfolding one holds arrived
cell_received lost m v = zero-le
cell_received (heard k) m v = go (same k m) refl
  where
    go : (b : Bool) → same k m ≡ b → one (same k (val v)) ≤ one (same m (val v)) + one (not (same k m))
    go true e =
        let one_message : one (same k (val v)) ≡ one (same m (val v)) = ap (λ x. one (same x (val v)))
        (same_eq k m e) in omega arith
    go false e =
        let altered : one (not (same k m)) ≡ 1 = ap (λ x. one (not x)) e in omega (arith, one_le (same k (val v)))

cell_heard : (c : Cell) (m : Message) (v : ℕ)
    → one (arrived c) + one (same m (val v)) ≤ one (holds c (val v)) + (1 + one (arrived c && not (holds c m)))
unfolding one holds arrived
cell_heard lost m v = omega (arith, one_le (same m (val v)))
cell_heard (heard k) m v = go (same k m) refl
  where
    go : (b : Bool) → same k m ≡ b → 1 + one (same m (val v)) ≤ one (same k (val v)) + (1 + one (not (same k m)))
    go true e =
        let one_message : one (same k (val v)) ≡ one (same m (val v)) = ap (λ x. one (same x (val v)))
        (same_eq k m e) in omega arith
    go false e =
        let altered : one (not (same k m)) ≡ 1 = ap (λ x. one (not x)) e in omega (arith, one_le (same m (val v)))

cell_safe : (c : Cell) (m : Message) (v : ℕ) → one (same m (val v)) + one (holds c m) ≤ one (holds c (val v)) + 1
unfolding one holds
cell_safe lost m v = omega (arith, one_le (same m (val v)))
cell_safe (heard k) m v = go (same k m) refl
  where
    go : (b : Bool) → same k m ≡ b → one (same m (val v)) + one (same k m) ≤ one (same k (val v)) + 1
    go true e =
        let one_message : one (same k (val v)) ≡ one (same m (val v)) = ap (λ x. one (same x (val v)))
        (same_eq k m e) in omega (arith, one_le (same k m))
    go false e = let altered : one (same k m) ≡ 0 = ap one e in omega (arith, one_le (same m (val v)))

cell_two : (c : Cell) (v w : ℕ) → v ≢ w → one (holds c (val v)) + one (holds c (val w)) ≤ one (arrived c)
unfolding one holds arrived
cell_two lost v w apart = le_refl 0
cell_two (heard k) v w apart = two_messages k v w apart

module _ (n : ℕ) (row : Row) (sent : ℕ → Message) (v : ℕ) where
  -- Lemma 1: |R(v)| <= |Q(v)| + |AHO(p)|
  pub lemma_1 : size n (R row v) ≤ size n (Q sent v) + size n (AHO row sent)
  unfolding R Q AHO HO SHO
  lemma_1 =
      omega (
        arith,
        count_le n (R row v ∷ []) (Q sent v ∷ AHO row sent ∷ [])
            (λ q h. omega (arith, cell_received (row q) (sent q) v)),
      )

  -- Lemma 4's count: of those heard, whoever ought to send v is received as v or is altered
  pub heard_split : size n (HO row) + size n (Q sent v) ≤ size n (R row v) + n + size n (AHO row sent)
  unfolding R Q AHO HO SHO one
  heard_split =
      omega (
        arith,
        size_everyone n,
        count_le n (HO row ∷ Q sent v ∷ []) (R row v ∷ everyone ∷ AHO row sent ∷ [])
            (λ q h. omega (arith, cell_heard (row q) (sent q) v)),
      )

  -- Lemma 6, as Lemma 9 uses it: those who ought to send v and are heard safely are received as v
  pub safely_received : size n (Q sent v) + size n (SHO row sent) ≤ size n (R row v) + n
  unfolding R Q SHO one
  safely_received =
      omega (
        arith,
        size_everyone n,
        count_le n (Q sent v ∷ SHO row sent ∷ []) (R row v ∷ everyone ∷ [])
            (λ q h. omega (arith, cell_safe (row q) (sent q) v)),
      )

module _ (n : ℕ) (v w : ℕ) (apart : v ≢ w) where
  -- Lemma 2's count: no cell holds two values
  pub received_apart : (row : Row) → size n (R row v) + size n (R row w) ≤ size n (HO row)
  unfolding R HO
  received_apart row =
      omega (
        arith,
        count_le n (R row v ∷ R row w ∷ []) (HO row ∷ [])
            (λ q h. omega (arith, cell_two (row q) v w apart)),
      )

  -- Lemma 3's count: nobody ought to send two values
  pub senders_apart : (sent : ℕ → Message) → size n (Q sent v) + size n (Q sent w) ≤ n
  unfolding Q one
  senders_apart sent =
      omega (
        arith,
        size_everyone n,
        count_le n (Q sent v ∷ Q sent w ∷ []) (everyone ∷ []) (λ q h. omega (arith, two_messages (sent q) v w apart)),
      )

-- where all is heard as sent, every sender is in SHO and none in AHO
module _ (n : ℕ) (row : Row) (sent : ℕ → Message) (as_sent : All n (λ q. row q ≡ heard (sent q))) where
  pub sho_as_sent : size n (SHO row sent) ≡ n
  unfolding SHO holds
  sho_as_sent =
      size_all n (SHO row sent) (λ q h. ap (λ c. holds c (sent q)) (as_sent q h) ∙ same_refl (sent q))

  pub aho_as_sent : size n (AHO row sent) ≡ 0
  unfolding AHO HO SHO arrived holds
  aho_as_sent =
      size_none n (AHO row sent)
      (λ q h. ap (λ c. arrived c && not (holds c (sent q))) (as_sent q h) ∙ ap not (same_refl (sent q)))

  -- and a value that all ought to send is received from all
  pub r_as_sent : (v : ℕ) → All n (λ q. sent q ≡ val v) → n ≤ size n (R row v)
  unfolding Q
  r_as_sent v all =
      let senders : size n (Q sent v) ≡ n = size_all n (Q sent v)
      (λ q h. ap (λ x. same x (val v)) (all q h) ∙ same_refl (val v)) in
      omega (arith, safely_received n row sent v, sho_as_sent)
