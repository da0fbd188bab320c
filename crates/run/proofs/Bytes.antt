-- A list of bytes stays one when it is joined or cut: each element of the result is an element of a part, or 0 past the
-- end.
use mathlib.Core.List.{List, [], ◌∷◌, ◌++◌}
use Prim.Native.Nat.{ℕ, zero, suc, ◌+◌, ◌<◌}
use native.Mathlib.Omega.{arith}
use lib.ListN.{get_or, take, drop}
use lib.Seq.{get_or-drop}
use Rattle.run.specs.Number.{base}
use Rattle.run.specs.Bytes.{IsBytes}

pub bytes_nil : IsBytes []
bytes_nil = record { below = λ i. omega arith }

pub bytes_cons : {b : ℕ} {bs : List ℕ} → b < base → IsBytes bs → IsBytes (b ∷ bs)
bytes_cons {b} {bs} h hs = record { below = go }
  where
    go : (i : ℕ) → get_or (b ∷ bs) i 0 < base
    go zero = h
    go (suc i) = hs.below i

pub bytes_tail : {b : ℕ} {bs : List ℕ} → IsBytes (b ∷ bs) → IsBytes bs
bytes_tail h = record { below = λ i. h.below (suc i) }

pub bytes_append : {xs bs : List ℕ} → IsBytes xs → IsBytes bs → IsBytes (xs ++ bs)
bytes_append {xs = []} {bs} hx hb = hb
bytes_append {xs = x ∷ xs} {bs} hx hb = bytes_cons (hx.below 0) (bytes_append (bytes_tail hx) hb)

pub bytes_take : (n : ℕ) {bs : List ℕ} → IsBytes bs → IsBytes (take n bs)
bytes_take zero {bs} h = bytes_nil
bytes_take (suc n) {bs = []} h = bytes_nil
bytes_take (suc n) {bs = b ∷ bs} h = bytes_cons (h.below 0) (bytes_take n (bytes_tail h))

pub bytes_drop : (n : ℕ) {bs : List ℕ} → IsBytes bs → IsBytes (drop n bs)
bytes_drop n h = record { below = λ i. rw get_or-drop (h.below (n + i)) }
