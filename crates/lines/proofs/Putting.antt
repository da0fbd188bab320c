-- Texts put one after the other, and how long they are.
use mathlib.Core.Path.{◌≡◌, refl, sym, ap, ap₂, ◌∙◌}
use mathlib.Core.Bool.{Bool, true, false}
use mathlib.Core.List.{List, [], ◌∷◌, ◌++◌, append_assoc, append-nil}
use Prim.Native.Nat.{ℕ, zero, suc, ◌+◌, ◌-◌, ◌/◌, ◌%◌, ◌≤◌, ◌<◌}
use native.Mathlib.Numerals.{add-one}
use native.Mathlib.Omega.{arith}
use borrow.Author.Tests.{lt-ltb, le-ltb}
use lib.ListN.{length, take, drop, set, length-append, take-append-drop}
use lib.Seq.{take-suc-set, drop-set-lt, drop-drop, take-append-add, drop-append-add}
use borrow.Rule.Slice.PartMut.{put_mid, post_of}
use native.Mathlib.Nat.{le_refl}
use Rattle.std.specs.List.{between}
use Rattle.std.proofs.lemmas.List.{drop_all, length-drop, length-take-le, take-append-le}
use Rattle.std.proofs.lemmas.Slice.{between_to_end}
use Rattle.std.specs.Prelude.{Option}
use Rattle.lines.specs.Text.{Put, PutIf, ten, digit, spelled, entry, entries}

-- nothing is put
pub put_nothing : (b : List ℕ) (at : ℕ) → Put b at [] at b
put_nothing b at = record { ends = omega arith; stands = sym (append-nil (take at b)); behind = refl }

-- one byte is put
pub put_one : (b : List ℕ) (at v : ℕ) → at < length b → Put b at (v ∷ []) (at + 1) (set b at v)
put_one b at v h =
    record { ends = refl; stands = rw (add-one, take-suc-set); behind = drop-set-lt (at + 1) b at v (omega arith) }

module _ {b : List ℕ} {at m : ℕ} {b' : List ℕ} {e : ℕ} {b'' : List ℕ} where
  -- a text, and another behind it
  pub put_then : {s t : List ℕ} → Put b at s m b' → Put b' m t e b'' → Put b at (s ++ t) e b''
  put_then {s} {t} p q =
      record {
        ends = omega (arith, p.ends, q.ends, length-append s t);
        stands = q.stands ∙ ap (λ (l : List ℕ). l ++ t) p.stands ∙ append_assoc (take at b) s t;
        behind = q.behind ∙ further b' ∙ ap (drop (length t)) p.behind ∙ sym (further b);
      }
    where
      further : (l : List ℕ) → drop e l ≡ drop (length t) (drop m l)
      further l = ap (λ (k : ℕ). drop k l) q.ends ∙ sym (drop-drop (length t) m l)

  -- the entries of one station more
  pub put_station : (i : ℕ) (of : ℕ → Option ℕ) (sign : ℕ) → Put b at (entries i of sign) m b'
      → Put b' m (entry (of i) sign) e b'' → Put b at (entries (i + 1) of sign) e b''
  unfolding entries
  put_station i of sign p q = rw (add-one i) (put_then p q)

  -- the digits of a number that has more than one
  pub put_last_digit : {d : ℕ} (most x : ℕ) → Put b at (spelled (most - 1) (x / ten)) m b' → Put b' m (d ∷ []) e b''
      → d ≡ digit (x % ten) → (most ≡ 0 → ⊥) → ten ≤ x → Put b at (spelled most x) e b''
  unfolding spelled
  put_last_digit zero x p q is some large = absurd (some refl)
  put_last_digit (suc most) x p q is some large =
      let less : suc most - 1 ≡ most = omega arith in
      rw (le-ltb x ten large, ← is) (put_then (rw less at p) q)

module _ {b : List ℕ} {at e : ℕ} {b' : List ℕ} where
  -- the digit of a number that has one
  pub put_digit : {d : ℕ} (most x : ℕ) → Put b at (d ∷ []) e b' → d ≡ digit x → (most ≡ 0 → ⊥) → x < ten
      → Put b at (spelled most x) e b'
  unfolding spelled
  put_digit zero x p is some small = absurd (some refl)
  put_digit (suc most) x p is some small = rw (lt-ltb x ten small, ← is) p

-- a text that a part of the buffer, from `at` on, begins with
module _ (b : List ℕ) (at : ℕ) {t : List ℕ} {e : ℕ} {b' : List ℕ} (starts : at ≤ length b)
    (long : length b' ≡ length b - at) (fits : e ≤ length b')
    (p : Put (between at (length b) b) 0 t e b') where
  abbrev rest : List ℕ
  rest = post_of at (length b - at) b

  last : at + e ≡ length (take at b) + e
  last = omega (arith, length-take-le at b starts)

  nothing_behind : rest ≡ []
  nothing_behind = drop_all (length b - at) (drop at b) (omega (arith, length-drop at b))

  pub put_part : Put b at t (at + e) (put_mid at (length b - at) b b')
  put_part =
      record {
        ends = omega (arith, p.ends);
        stands =
            ap (λ (n : ℕ). take n (take at b ++ (b' ++ rest))) last
            ∙ take-append-add (take at b) (b' ++ rest) e
            ∙ ap (λ (l : List ℕ). take at b ++ l) (take-append-le e b' rest fits ∙ p.stands);
        behind =
            ap (λ (n : ℕ). drop n (take at b ++ (b' ++ rest))) last
            ∙ drop-append-add (take at b) (b' ++ rest) e
            ∙ ap (drop e) (ap (λ (l : List ℕ). b' ++ l) nothing_behind ∙ append-nil b')
            ∙ p.behind
            ∙ ap (drop e) (between_to_end b at (length b) (le_refl (length b)))
            ∙ drop-drop e at b;
      }

-- ---- what is put where leaves one end and one buffer
module _ {b : List ℕ} {at : ℕ} {t : List ℕ} {e e' : ℕ} {a a' : List ℕ} where
  pub put_once : Put b at t e a → Put b at t e' a' → (e ≡ e') × (a ≡ a')
  put_once p q =
      let same : e ≡ e' = p.ends ∙ sym q.ends in
      let fronts : take e a ≡ take e a' = p.stands ∙ sym (ap (λ (k : ℕ). take k a') same ∙ q.stands) in
      let rests : drop e a ≡ drop e a' =
      p.behind ∙ sym (ap (λ (k : ℕ). drop k a') same ∙ q.behind ∙ ap (λ (k : ℕ). drop k b) (sym same)) in (
        same,
        sym (take-append-drop e a) ∙ ap₂ (λ (x y : List ℕ). x ++ y) fronts rests ∙ take-append-drop e a',
      )

pub put_if_once : (fits : Bool) (b : List ℕ) (at : ℕ) (t : List ℕ) (e e' : ℕ) (a a' : List ℕ)
    → PutIf fits b at t e a → PutIf fits b at t e' a' → (e ≡ e') × (a ≡ a')
put_if_once true b at t e e' a a' p q = put_once p q
put_if_once false b at t e e' a a' p q = (p.0 ∙ sym q.0, p.1 ∙ sym q.1)
