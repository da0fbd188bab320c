-- A row counted value by value. What is counted so far is the row in which the values still to come are struck out; a
-- turn brings one of them back, and by Leads.antt that changes the answers as `with_most` and `with_least` do. Where
-- nothing is left to strike, the row is whole.
use mathlib.Core.Path.{◌≡◌, refl, sym, ap, ◌∙◌, subst}
use mathlib.Core.Bool.{Bool, true, false, not, ◌&&◌, ◌||◌, cond, false≢true, and-true, and-false}
use mathlib.Core.List.{List}
use Rattle.std.specs.Prelude.{Option, None, Some}
use mathlib.Core.Logic.{◌≢◌}
use Prim.Native.Nat.{ℕ, ◌+◌, ◌-◌, ◌≤◌, ◌<◌}
use native.Mathlib.Nat.{le_refl}
use native.Mathlib.Omega.{arith}
use lib.Count.{ones, count_trailing_zeros}
use lib.Dec.{eqb, leb, ltb}
use borrow.Author.Tests.{lt-ltb, ltb-true, ltb-false, leb-false, eqb-true, eqb-false, eq-eqb, ne_eqb}
use Rattle.paper.specs.Stations.{All, ◌∖◌}
use Rattle.paper.specs.Heard.{val, query, Cell, lost, heard, Row, holds, R}
use Rattle.paper.specs.Rules.{times, smallest, most_often}
use Rattle.paper.proofs.Sets.{same_refl}
use Rattle.paper.proofs.MostOften.{came}
use Rattle.paper.proofs.Passing.{Lowest, lowest_iff, none_passes}
use Rattle.paper.proofs.Pins.{times_alike, smallest_alike, most_often_alike, value_in}
use Rattle.run.specs.Run.{stations}
use Rattle.run.specs.Filled.{filled}
use Rattle.run.proofs.Filled.{filled_below}
use Rattle.hearing.specs.declared.Tally.{Tally}
use Rattle.hearing.specs.Masks.{mask, from}
use Rattle.hearing.specs.Tally.{value_or_0, senders_of, tally}
use Rattle.hearing.specs.Counting.{below, with_most, with_least, value_of, passes_in, among, any, code_of, sent_code}
use Rattle.hearing.proofs.Masks.{mask_cong, mask_none, mask_empty, mask_pos, mask_part, mask_lowest, ones_mask}
use Rattle.hearing.proofs.Leads.{Leads, Positive, leads_iff, leads_none, none_leads, none_passed, each}
use Rattle.hearing.proofs.Leads.{new_leads, stays, old_leads}

-- how often a value came is the number of ones of its senders
pub times_ones : (n : ℕ) (row : Row) (v : ℕ) → times n row v ≡ ones (mask n (R row v))
unfolding times
times_ones n row v = sym (ones_mask n (R row v))

same_tally : {x x' y y' : ℕ} {z z' : Option ℕ} → x ≡ x' → y ≡ y' → z ≡ z'
    → ◌≡◌ {A = Tally} (record { value = x; senders = y; least = z })
    (record { value = x'; senders = y'; least = z' })
same_tally p q r = rw (p, q, r)

-- the row before the value v was counted, and the next, with it
module _ (n : ℕ) (enough : ℕ → Bool) (positive : Positive enough) (row next : Row) (v : ℕ)
    (new : times n row v ≡ 0) (there : 0 < times n next v)
    (others : (w : ℕ) → w ≢ v → mask n (R next w) ≡ mask n (R row w)) where
  other : (w : ℕ) → w ≢ v → times n next w ≡ times n row w
  other w apart = times_ones n next w ∙ ap ones (others w apart) ∙ sym (times_ones n row w)

  abbrev set : ℕ
  set = mask n (R next v)

  -- the tests of `outdoes` and `undercuts`, by the answers so far
  abbrev leading : Option ℕ → Bool
  leading a =
      ltb (ones (senders_of n row a)) (ones set) || eqb (ones (senders_of n row a)) (ones set) && ltb v (value_or_0 a)

  abbrev lower : Option ℕ → Bool
  lower a = enough (ones set) && below v a

  most_step : (a : Option ℕ) → smallest n row (most_often n row) ≡ a
      → smallest n next (most_often n next) ≡ cond (leading a) (Some v) a
  unfolding ones
  most_step None e =
      rw (← times_ones n next v, lt-ltb 0 (times n next v) there)
      ((leads_iff n next v).1 (new_leads (times n row) (times n next) v new there other
      (λ w. omega (arith, leads_none n row e w)) (λ w p. omega (arith, leads_none n row e w))))
  most_step (Some u) e =
      rw (← times_ones n next v, ← times_ones n row u)
      (go (ltb (times n row u) (times n next v)) (eqb (times n row u) (times n next v)) (ltb v u) refl refl refl)
    where
      l : Leads (times n row) u
      l = (leads_iff n row u).0 e

      go : (a b c : Bool) → ltb (times n row u) (times n next v) ≡ a → eqb (times n row u) (times n next v) ≡ b
          → ltb v u ≡ c
          → smallest n next (most_often n next) ≡ cond (a || b && c) (Some v) (Some u)
      go true b c p q r =
          let more = ltb-true (times n row u) (times n next v) p in
          (leads_iff n next v).1
          (new_leads (times n row) (times n next) v new there other (λ w. omega (arith, l.oftenest w))
          (λ w t. omega (arith, l.oftenest w)))
      go false true true p q r =
          let tie = eqb-true (times n row u) (times n next v) q in
          let smaller = ltb-true v u r in
          (leads_iff n next v).1
          (new_leads (times n row) (times n next) v new there other (λ w. omega (arith, l.oftenest w))
          (λ w t. omega (arith, l.first w (t ∙ sym tie))))
      go false true false p q r =
          let few = ltb-false (times n row u) (times n next v) p in
          (leads_iff n next u).1 (old_leads (times n row) (times n next) v new there other u l few
          (λ t. ltb-false v u r))
      go false false c p q r =
          let few = ltb-false (times n row u) (times n next v) p in
          (leads_iff n next u).1
          (old_leads (times n row) (times n next) v new there other u l few
          (λ t. absurd (eqb-false (times n row u) (times n next v) q (sym t))))

  -- v is the smallest where it passes and is below all that did
  now_lowest : enough (times n next v) ≡ true → ((w : ℕ) → enough (times n row w) ≡ true → v ≤ w)
      → Lowest n next enough v
  now_lowest p below =
      record {
        enough = p;
        first = each (times n row) (times n next) v new there other (λ w m. enough m ≡ true → v ≤ w)
            (λ t. le_refl v) below;
      }

  -- the smallest so far stays where v fails or is above it
  still_lowest : (u : ℕ) → Lowest n row enough u → (enough (times n next v) ≡ true → u ≤ v) → Lowest n next enough u
  still_lowest u l above =
      record {
        enough =
            rw (stays (times n row) (times n next) v new there other u (positive (times n row u) l.enough))
            l.enough;
        first = each (times n row) (times n next) v new there other (λ w m. enough m ≡ true → u ≤ w) above l.first;
      }

  least_step : (a : Option ℕ) → smallest n row (λ u. enough (times n row u)) ≡ a
      → smallest n next (λ u. enough (times n next u)) ≡ cond (lower a) (Some v) a
  least_step None e = rw (← times_ones n next v) (go (enough (times n next v)) refl)
    where
      fails : (w : ℕ) → enough (times n row w) ≡ false
      fails = none_passed n row enough positive e

      go : (b : Bool) → enough (times n next v) ≡ b
          → smallest n next (λ u. enough (times n next u)) ≡ cond (b && true) (Some v) None
      go true p =
          (lowest_iff n next enough positive v).1 (now_lowest p (λ w t. absurd (false≢true (sym (fails w) ∙ t))))
      go false p =
          none_passes n next enough
          (each (times n row) (times n next) v new there other (λ w m. enough m ≡ false) p fails)
  least_step (Some u) e = rw (← times_ones n next v) (go (enough (times n next v)) (ltb v u) refl refl)
    where
      l : Lowest n row enough u
      l = (lowest_iff n row enough positive u).0 e

      go : (a b : Bool) → enough (times n next v) ≡ a → ltb v u ≡ b
          → smallest n next (λ u. enough (times n next u)) ≡ cond (a && b) (Some v) (Some u)
      go true true p q =
          let smaller = ltb-true v u q in
          (lowest_iff n next enough positive v).1 (now_lowest p (λ w t. omega (arith, l.first w t)))
      go true false p q = (lowest_iff n next enough positive u).1 (still_lowest u l (λ t. ltb-false v u q))
      go false b p q =
          (lowest_iff n next enough positive u).1 (still_lowest u l (λ t. absurd (false≢true (sym p ∙ t))))

  value_step : (b : Bool) (a : Option ℕ) → cond b v (value_or_0 a) ≡ value_or_0 (cond b (Some v) a)
  value_step true a = refl
  value_step false a = refl

  senders_step : (b : Bool) (a : Option ℕ) → smallest n row (most_often n row) ≡ a
      → cond b set (senders_of n row a) ≡ senders_of n next (cond b (Some v) a)
  senders_step true a e = refl
  senders_step false None e = refl
  senders_step false (Some u) e =
      sym (others u (λ p. let z : times n row u ≡ 0 = rw p new in omega (arith, ((leads_iff n row u).0 e).received)))

  pub turn_to : with_least (with_most (tally n row enough) v (mask n (R next v))) v (mask n (R next v)) enough
      ≡ tally n next enough
  unfolding with_least with_most tally
  turn_to =
      let a = smallest n row (most_often n row) in
      let b = smallest n row (λ u. enough (times n row u)) in
      rw (most_step a refl, least_step b refl)
      (same_tally (value_step (leading a) a) (senders_step (leading a) a refl) refl)

-- a cell and a row without the values that pass a test, and the test without one value
abbrev strike : (ℕ → Bool) → Cell → Cell
strike P lost = lost
strike P (heard query) = heard query
strike P (heard (val v)) = cond (P v) lost (heard (val v))

abbrev pub struck : (ℕ → Bool) → Row → Row
struck P row q = strike P (row q)

infixl 60 ◌without◌
abbrev pub ◌without◌ : (ℕ → Bool) → ℕ → ℕ → Bool
(P without v) w = P w && not (eqb w v)

without_same : (P : ℕ → Bool) (v : ℕ) → (P without v) v ≡ false
without_same P v = rw (eq-eqb v v refl) (and-false (P v))

without_other : (P : ℕ → Bool) (v w : ℕ) → w ≢ v → (P without v) w ≡ P w
without_other P v w apart = rw (ne_eqb w v apart) (and-true (P w))

strike_holds : (P : ℕ → Bool) (c : Cell) (w : ℕ) → holds (strike P c) (val w) ≡ holds c (val w) && not (P w)
unfolding holds
strike_holds P lost w = refl
strike_holds P (heard query) w = refl
strike_holds P (heard (val x)) w = go (P x) (eqb x w) refl refl
  where
    go : (p e : Bool) → P x ≡ p → eqb x w ≡ e → holds (cond (P x) lost (heard (val x))) (val w) ≡ eqb x w && not (P w)
    go true true h i = rw (h, i, subst (λ y. P y ≡ true) (eqb-true x w i) h)
    go true false h i = rw (h, i)
    go false true h i = rw (h, i, subst (λ y. P y ≡ false) (eqb-true x w i) h)
    go false false h i = rw (h, i)

module _ (n : ℕ) (row : Row) (P : ℕ → Bool) where
  pub struck_out : (w : ℕ) → P w ≡ true → times n (struck P row) w ≡ 0
  unfolding R ones
  struck_out w h =
      times_ones n (struck P row) w
      ∙ ap ones (mask_cong n (R (struck P row) w) (λ q. false)
      (λ q l. rw (strike_holds P (row q) w, h) (and-false (holds (row q) (val w)))) ∙ mask_none n)

  struck_in : (w : ℕ) → P w ≡ false → mask n (R (struck P row) w) ≡ mask n (R row w)
  unfolding R
  struck_in w h =
      mask_cong n (R (struck P row) w) (R row w)
      (λ q l. rw (strike_holds P (row q) w, h) (and-true (holds (row q) (val w))))

-- one turn: v comes back, and is struck from what is left
module _ (n : ℕ) (row : Row) (P : ℕ → Bool) where
  struck_next : (v w : ℕ) → w ≢ v → mask n (R (struck (P without v) row) w) ≡ mask n (R (struck P row) w)
  unfolding R
  struck_next v w apart =
      mask_cong n (R (struck (P without v) row) w) (R (struck P row) w)
      (λ q l. strike_holds (P without v) (row q) w
      ∙ ap (λ b. holds (row q) (val w) && not b) (without_other P v w apart) ∙ sym (strike_holds P (row q) w))

  pub turn : (enough : ℕ → Bool) → Positive enough → (v : ℕ) → P v ≡ true → 0 < times n row v
      → with_least (with_most (tally n (struck P row) enough) v (mask n (R row v))) v (mask n (R row v)) enough
      ≡ tally n (struck (P without v) row) enough
  turn enough positive v h pos =
      let back : mask n (R (struck (P without v) row) v) ≡ mask n (R row v) =
      struck_in n row (P without v) v (without_same P v) in
      let there : 0 < times n (struck (P without v) row) v =
      subst (λ m. 0 < m) (times_ones n row v ∙ ap ones (sym back)
      ∙ sym (times_ones n (struck (P without v) row) v)) pos in
      subst (λ m. with_least (with_most (tally n (struck P row) enough) v m) v m enough
      ≡ tally n (struck (P without v) row) enough) back
      (turn_to n enough positive (struck P row) (struck (P without v) row) v (struck_out n row P v h) there
      (struck_next v))

  pub turn_left : (v : ℕ) → P v ≡ true → mask n (among P row) ≡ mask n (R row v) + mask n (among (P without v) row)
  unfolding R
  turn_left v h =
      mask_part n (among P row) (R row v) (λ q l. part (row q))
      ∙ ap (λ m. mask n (R row v) + m) (mask_cong n (among P row ∖ R row v) (among (P without v) row)
      (λ q l. rest (row q)))
    where
      part : (c : Cell) → holds c (val v) ≡ true → passes_in P c ≡ true
      part lost e = absurd (false≢true e)
      part (heard query) e = absurd (false≢true e)
      part (heard (val w)) e = rw (eqb-true w v e) h

      rest : (c : Cell) → passes_in P c && not (holds c (val v)) ≡ passes_in (P without v) c
      rest lost = refl
      rest (heard query) = refl
      rest (heard (val w)) = refl

-- nothing counted yet
pub struck_all : (n : ℕ) (enough : ℕ → Bool) → Positive enough → (row : Row)
    → tally n (struck any row) enough ≡ record { value = 0; senders = 0; least = None }
unfolding tally
struck_all n enough positive row =
    rw (
      none_leads n (struck any row) (λ w. struck_out n row any w refl),
      none_passes n (struck any row) enough (λ w. rw (struck_out n row any w refl) (fails (enough 0) refl)),
    )
  where
    fails : (b : Bool) → enough 0 ≡ b → b ≡ false
    fails true e = absurd (omega (arith, positive 0 e))
    fails false e = refl

-- rows with the same cells have the same count
pub tally_cong : (n : ℕ) (enough : ℕ → Bool) (row other : Row) → All n (λ q. row q ≡ other q)
    → tally n row enough ≡ tally n other enough
unfolding tally R
tally_cong n enough row other at =
    same_tally (ap value_or_0 most) (senders_cong (smallest n row (most_often n row)) ∙ ap (senders_of n other) most)
    least
  where
    alike : All n (λ q. value_in (row q) ≡ value_in (other q))
    alike q h = ap value_in (at q h)

    most : smallest n row (most_often n row) ≡ smallest n other (most_often n other)
    most =
        smallest_alike n row other alike (most_often n row) ∙ ap (smallest n other) (most_often_alike n row other alike)

    least : smallest n row (λ v. enough (times n row v)) ≡ smallest n other (λ v. enough (times n other v))
    least =
        smallest_alike n row other alike (λ v. enough (times n row v))
        ∙ ap (λ (f : ℕ → ℕ). smallest n other (λ v. enough (f v))) (times_alike n row other alike)

    senders_cong : (a : Option ℕ) → senders_of n row a ≡ senders_of n other a
    senders_cong None = refl
    senders_cong (Some v) = mask_cong n (R row v) (R other v) (λ q h. ap (λ c. holds c (val v)) (at q h))

-- all counted
pub struck_none : (n : ℕ) (enough : ℕ → Bool) (row : Row) (P : ℕ → Bool) → mask n (among P row) ≡ 0
    → tally n (struck P row) enough ≡ tally n row enough
struck_none n enough row P e =
    tally_cong n enough (struck P row) row (λ q h. whole (row q) (mask_empty n (among P row) e q h))
  where
    whole : (c : Cell) → passes_in P c ≡ false → strike P c ≡ c
    whole lost f = refl
    whole (heard query) f = refl
    whole (heard (val v)) f = rw f

-- the lowest sender of a set that is left has a value that is left
pub left_value : (P : ℕ → Bool) (c : Cell) → passes_in P c ≡ true
    → (c ≡ heard (val (value_of c))) × (P (value_of c) ≡ true)
left_value P lost e = absurd (false≢true e)
left_value P (heard query) e = absurd (false≢true e)
left_value P (heard (val v)) e = (refl, e)

-- a cell's code tells its value, and one who sent a value that is left is left
code_holds : (c : Cell) (v : ℕ) → eqb (code_of c) (v + 1) ≡ holds c (val v)
unfolding holds
code_holds lost v = ne_eqb 0 (v + 1) (λ e. omega arith)
code_holds (heard query) v = ne_eqb 0 (v + 1) (λ e. omega arith)
code_holds (heard (val w)) v = go (eqb w v) refl
  where
    go : (b : Bool) → eqb w v ≡ b → eqb (w + 1) (v + 1) ≡ b
    go true e = eq-eqb (w + 1) (v + 1) (ap (λ (x : ℕ). x + 1) (eqb-true w v e))
    go false e = ne_eqb (w + 1) (v + 1) (λ h. eqb-false w v e (omega arith))

holder_waits : (P : ℕ → Bool) (c : Cell) (v : ℕ) → holds c (val v) ≡ true → P v ≡ true → passes_in P c ≡ true
unfolding holds
holder_waits P lost v e h = absurd (false≢true e)
holder_waits P (heard query) v e h = absurd (false≢true e)
holder_waits P (heard (val w)) v e h = rw (eqb-true w v e) h

-- the loop's invariant: some values are left, and all others are counted
pub record Counted (n : ℕ) (enough : ℕ → Bool) (row : Row) (left : ℕ) (t : Tally) : Type 0 where
  pub waits : ℕ → Bool
  pub left_is : left ≡ mask n (among waits row)
  pub done : t ≡ tally n (struck waits row) enough

pub starts : (n : ℕ) (enough : ℕ → Bool) → Positive enough → (row : Row) (left : ℕ) → left ≡ mask n (among any row)
    → Counted n enough row left (record { value = 0; senders = 0; least = None })
starts n enough positive row left e =
    record { waits = any; left_is = e; done = sym (struck_all n enough positive row) }

pub ends : {n : ℕ} {enough : ℕ → Bool} {row : Row} {left : ℕ} {t : Tally} → Counted n enough row left t → left ≡ 0
    → t ≡ tally n row enough
ends {n} {enough} {row} c e = c.done ∙ struck_none n enough row c.waits (sym c.left_is ∙ e)

module _ {n : ℕ} {enough : ℕ → Bool} {row : Row} {left : ℕ} {t : Tally} (c : Counted n enough row left t)
    (fits : n ≤ stations) (more : left ≢ 0) where
  next_waits : (count_trailing_zeros stations left < n) × (among c.waits row (count_trailing_zeros stations left) ≡ true)
      × ((i : ℕ) → i < count_trailing_zeros stations left → among c.waits row i ≡ false)
  next_waits = rw c.left_is (mask_lowest n stations (among c.waits row) fits (omega (arith, c.left_is)))

  pub next_below : count_trailing_zeros stations left < n
  next_below = next_waits.0

  -- all who sent its value stand from it on
  module _ (v : ℕ) (codes : List ℕ) (v_is : v ≡ value_of (row (count_trailing_zeros stations left)))
      (codes_are : codes ≡ filled stations n (λ q. code_of (row q)) 0) where
    waits_v : c.waits v ≡ true
    waits_v = rw v_is (left_value c.waits (row (count_trailing_zeros stations left)) next_waits.1).1

    from_next : All n (λ q. from (count_trailing_zeros stations left) (sent_code codes v) q ≡ R row v q)
    unfolding R
    from_next q below =
        rw (codes_are, filled_below stations n (λ q. code_of (row q)) 0 q 0 (omega arith) below, code_holds (row q) v)
        (go (leb (count_trailing_zeros stations left) q) (holds (row q) (val v)) refl refl)
      where
        go : (a b : Bool) → leb (count_trailing_zeros stations left) q ≡ a → holds (row q) (val v) ≡ b → a && b ≡ b
        go true b e h = refl
        go false false e h = refl
        go false true e h =
            absurd (false≢true (sym (next_waits.2 q (leb-false (count_trailing_zeros stations left) q e))
            ∙ holder_waits c.waits (row q) v h waits_v))

    pub senders_all : mask n (from (count_trailing_zeros stations left) (sent_code codes v)) ≡ mask n (R row v)
    senders_all = mask_cong n (from (count_trailing_zeros stations left) (sent_code codes v)) (R row v) from_next

  -- its value, and who sent that
  module _ (v set : ℕ) (v_is : v ≡ value_of (row (count_trailing_zeros stations left))) (set_is : set ≡ mask n (R row v)) where
    at_next : (row (count_trailing_zeros stations left) ≡ heard (val v)) × (c.waits v ≡ true)
    at_next = rw v_is (left_value c.waits (row (count_trailing_zeros stations left)) next_waits.1)

    pub some_senders : (0 < set) × (set ≤ left)
    unfolding R holds
    some_senders = (
      rw set_is (mask_pos n (R row v) (count_trailing_zeros stations left) next_waits.0
          (rw at_next.0 (same_refl (val v)))),
      omega (arith, turn_left n row c.waits v at_next.1, c.left_is),
    )

    pub turns : Positive enough → Counted n enough row (left - set) (with_least (with_most t v set) v set enough)
    turns positive =
        record {
          waits = c.waits without v;
          left_is = omega (arith, turn_left n row c.waits v at_next.1, c.left_is);
          done =
              rw (c.done, set_is) (turn n row c.waits enough positive v at_next.1
              ((came n row v).1 (count_trailing_zeros stations left, next_waits.0, at_next.0)));
        }
