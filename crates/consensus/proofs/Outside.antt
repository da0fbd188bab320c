-- What stands outside n by n: every cell there is lost, so nothing is heard, nothing fires and no bit is set, and an
-- array that is filled below n is right at every place.
use mathlib.Core.Path.{◌≡◌, refl, ap, sym, ◌∙◌}
use mathlib.Core.Bool.{Bool, true, false, ◌&&◌}
use mathlib.Core.List.{List}
use Rattle.std.specs.Prelude.{None}
use Prim.Native.Nat.{ℕ, zero, suc, ◌/◌, ◌%◌, ◌^◌, ◌≤◌, ◌<◌}
use native.Mathlib.Nat.{lt_of_lt_of_le, zero-add}
use native.Mathlib.Omega.{arith}
use lib.Dec.{ltb}
use lib.ListN.{get_or, replicate, get_or-eq_default}
use lib.Pow.{pow_mono, shr_lt}
use borrow.Author.Tests.{le-ltb, ltb-true, ltb-false}
use Rattle.paper.specs.Stations.{Stations, one}
use Rattle.paper.specs.Heard as heard
use Rattle.paper.specs.Setup as setup
use Rattle.paper.specs.Rules as rules
use Rattle.paper.proofs.MostOften.{Received}
use Rattle.paper.proofs.Pins.{no_value_no_firing}
use Rattle.run.specs.Run.{stations}
use Rattle.run.specs.Filled.{filled}
use Rattle.run.proofs.Filled.{length_filled, filled_below, filled_above}
use Rattle.round.specs.Bridge.{heard_in}
use Rattle.hearing.specs.Masks.{mask}
use Rattle.hearing.proofs.Masks.{mask_lt, mask_bit, mask_none, mask_cong}

-- an array filled below k from f, where f has the array's own filling from k up, has f at every place
pub filled_everywhere : {A : Type 0} (k : ℕ) (f : ℕ → A) (d : A) → k ≤ stations → ((i : ℕ) → k ≤ i → f i ≡ d) → (i : ℕ)
    → get_or (filled stations k f d) i d ≡ f i
filled_everywhere k f d few high i = go (ltb i k) (ltb i stations) refl refl
  where
    go : (b c : Bool) → ltb i k ≡ b → ltb i stations ≡ c → get_or (filled stations k f d) i d ≡ f i
    go true c e g = let h = ltb-true i k e in filled_below stations k f d i d (omega arith) h
    go false true e g =
        let h = ltb-false i k e in
        filled_above stations k f d i d (ltb-true i stations g) h ∙ sym (high i h)
    go false false e g =
        let h = ltb-false i stations g in
        get_or-eq_default (filled stations k f d) d (omega (arith, length_filled stations k f d))
        ∙ sym (high i (omega arith))

-- an array of one entry, at every place
pub replicate_everywhere : {A : Type 0} (n : ℕ) (d : A) (i : ℕ) → get_or (replicate n d) i d ≡ d
replicate_everywhere zero d i = refl
replicate_everywhere (suc n) d zero = refl
replicate_everywhere (suc n) d (suc i) = replicate_everywhere n d i

-- cells outside n by n
lost_if : (n : ℕ) (bs : List ℕ) (p q : ℕ) → (ltb p n && ltb q n) ≡ false → heard_in n bs p q ≡ heard.lost
unfolding heard_in
lost_if n bs p q e = rw e

pub no_receiver : (n : ℕ) (bs : List ℕ) (p : ℕ) → n ≤ p → (q : ℕ) → heard_in n bs p q ≡ heard.lost
no_receiver n bs p h q = lost_if n bs p q (rw (le-ltb p n h))

pub no_sender : (n : ℕ) (bs : List ℕ) (p q : ℕ) → n ≤ q → heard_in n bs p q ≡ heard.lost
no_sender n bs p q h = lost_if n bs p q (go (ltb p n) (le-ltb q n h))
  where
    go : (b : Bool) → ltb q n ≡ false → (b && ltb q n) ≡ false
    go true e = e
    go false e = refl

-- a lost cell is in neither set
module _ (row : heard.Row) (q : ℕ) (e : row q ≡ heard.lost) where
  pub lost_ho : heard.HO row q ≡ false
  unfolding heard.HO
  lost_ho = rw e

  pub lost_sho : (sent : ℕ → heard.Message) → heard.SHO row sent q ≡ false
  unfolding heard.SHO
  lost_sho sent = rw e

-- a set with no station from n up: its mask has that station's bit at every place
mask_bits : (n : ℕ) (X : Stations) → ((q : ℕ) → n ≤ q → X q ≡ false) → (q : ℕ) → mask n X / 2 ^ q % 2 ≡ one (X q)
unfolding one
mask_bits n X high q = go (ltb q n) refl
  where
    div_zero : mask n X < 2 ^ q → mask n X / 2 ^ q ≡ 0
    div_zero h = let small : mask n X / 2 ^ q < 1 = shr_lt 0 q (rw (zero-add q) h) in omega arith

    go : (b : Bool) → ltb q n ≡ b → mask n X / 2 ^ q % 2 ≡ one (X q)
    go true e = mask_bit n X q (ltb-true q n e)
    go false e =
        let h = ltb-false q n e in
        let zero : mask n X / 2 ^ q ≡ 0 = div_zero (lt_of_lt_of_le (mask_lt n X) (pow_mono h)) in
        rw (zero, high q h)

-- and a set with no station at all has the mask 0
mask_zero : (n : ℕ) (X : Stations) → ((q : ℕ) → X q ≡ false) → mask n X ≡ 0
mask_zero n X empty = mask_cong n X (λ q. false) (λ q h. empty q) ∙ mask_none n

-- so the masks of sets with nothing outside n by n, in an array, have every bit of every set
pub masks_everywhere : (n : ℕ) (X : ℕ → Stations) → n ≤ stations → ((p : ℕ) → n ≤ p → (q : ℕ) → X p q ≡ false)
    → ((p q : ℕ) → n ≤ q → X p q ≡ false) → (p q : ℕ)
    → get_or (filled stations n (λ r. mask n (X r)) 0) p 0 / 2 ^ q % 2 ≡ one (X p q)
masks_everywhere n X few high right p q =
    ap (λ (m : ℕ). m / 2 ^ q % 2)
    (filled_everywhere n (λ r. mask n (X r)) 0 few (λ r h. mask_zero n (X r) (high r h)) p)
    ∙ mask_bits n (X p) (right p) q

-- a row in which nothing is heard: no value came, so nothing fires, whatever the station holds
pub lost_fired : (S : setup.Setup) (k : rules.Kind) (row : heard.Row) → ((q : ℕ) → row q ≡ heard.lost)
    → rules.fired S k row ≡ None
lost_fired S k row lost = no_value_no_firing S row no_value k
  where
    no_value : (w : ℕ) → ¬ Received S.n row w
    no_value w (q, below, e) = let z : ◌≡◌ {A = ℕ} 0 1 = cc (lost q, e) in absurd (omega arith)
