-- A tape's two parts are cut at one place, so joined they are the tape. An accepted opening is as long as its n asks,
-- and this n is byte 2: whatever stands behind it, it is the tape's opening part.
use mathlib.Core.Path.{◌≡◌, refl, sym, ap, ◌∙◌}
use mathlib.Core.List.{List, [], ◌∷◌, ◌++◌}
use Prim.Native.Nat.{ℕ, ◌-◌, ◌<◌, ◌≤◌, min}
use native.Mathlib.Decide.{dec_le}
use native.Mathlib.Nat.{sub-zero}
use native.Mathlib.Omega.{arith}
use lib.ListN.{length, get_or, take, drop}
use lib.ListN.{length-take, length-drop, take-append-drop, drop_of_length-le, get_or-append}
use lib.Seq.{take_all, take_at, drop_at}
use Rattle.run.specs.declared.record.Record.{Record}
use Rattle.run.specs.Reply.{Accepted}
use Rattle.run.specs.Record.{record_bytes, record_from}
use Rattle.run.specs.Opening.{setup_at, read_setup, setup_in, opening_length, check_opening}
use Rattle.run.specs.Tape.{n_at, opening_size, opening_part, rounds_part}
use Rattle.run.proofs.Records.{record_at_in}
use Rattle.run.proofs.Openings.{opening_accepted}

pub opening_size_is : (tape : List ℕ) → opening_size tape ≡ opening_length (get_or tape n_at 0)
unfolding opening_size
opening_size_is tape = refl

-- the first record tells it, whatever follows: so a reader of a stream knows how much to wait for
pub size_told : (tape : List ℕ) → opening_size (take record_bytes tape) ≡ opening_size tape
unfolding opening_size
size_told [] = refl
size_told (a ∷ []) = refl
size_told (a ∷ b ∷ []) = refl
size_told (a ∷ b ∷ c ∷ rest) = refl

-- ---- the two parts of any tape
module _ (tape : List ℕ) where
  pub parts_join : opening_part tape ++ rounds_part tape ≡ tape
  unfolding opening_part rounds_part
  parts_join = take-append-drop (opening_size tape) tape

  -- the opening part is as long as asked, or it is the whole tape and there are no rounds
  pub opening_asked : opening_size tape ≤ length tape → length (opening_part tape) ≡ opening_size tape
  unfolding opening_part
  opening_asked h = omega (arith, h, length-take (opening_size tape) tape)

  pub opening_whole : length tape ≤ opening_size tape → opening_part tape ≡ tape
  unfolding opening_part
  opening_whole h = take_all (opening_size tape) tape h

  pub rounds_none : length tape ≤ opening_size tape → rounds_part tape ≡ []
  unfolding rounds_part
  rounds_none h = drop_of_length-le tape h

  -- the code cuts where the opening ends, or the tape
  module _ (from : ℕ) (is : from ≡ min (opening_size tape) (length tape)) where
    pub opening_cut : take (from - 0) (drop 0 tape) ≡ opening_part tape
    unfolding opening_part
    opening_cut = rw sub-zero (go (dec_le (opening_size tape) (length tape)))
      where
        go : Dec (opening_size tape ≤ length tape) → take from tape ≡ take (opening_size tape) tape
        go (yes h) = let at : from ≡ opening_size tape = omega (arith, is, h) in rw at
        go (no h) =
            take_all from tape (omega (arith, is, h)) ∙ sym (take_all (opening_size tape) tape (omega (arith, h)))

    pub rounds_cut : take (length tape - from) (drop from tape) ≡ rounds_part tape
    unfolding rounds_part
    rounds_cut =
        take_all (length tape - from) (drop from tape) (omega (arith, length-drop from tape))
        ∙ go (dec_le (opening_size tape) (length tape))
      where
        go : Dec (opening_size tape ≤ length tape) → drop from tape ≡ drop (opening_size tape) tape
        go (yes h) = let at : from ≡ opening_size tape = omega (arith, is, h) in rw at
        go (no h) =
            drop_of_length-le tape {i = from} (omega (arith, is, h))
            ∙ sym (drop_of_length-le tape {i = opening_size tape} (omega (arith, h)))

-- ---- an accepted opening is the opening part of every tape that begins with it
pub setup_n : (bs : List ℕ) → record_bytes ≤ length bs → (setup_in bs).n ≡ get_or bs n_at 0
unfolding read_setup record_from
setup_n bs long = ap (λ (r : Record). r.second) (record_at_in bs setup_at (omega (arith, long)))

pub accepted_size : (bs : List ℕ) → check_opening bs ≡ Accepted → length bs ≡ opening_size bs
accepted_size bs e =
    let whole : length bs ≡ opening_length (setup_in bs).n = ((opening_accepted bs).0 e).whole in
    rw (opening_size_is bs, ← setup_n bs (omega (arith, whole))) whole

module _ (bs rest : List ℕ) (e : check_opening bs ≡ Accepted) where
  size_before : length bs ≡ opening_size (bs ++ rest)
  size_before =
      let long : n_at < length bs = omega (arith, accepted_size bs e, opening_size_is bs) in
      rw (opening_size_is (bs ++ rest), get_or-append bs rest 0 n_at long, ← opening_size_is bs) (accepted_size bs e)

  pub opening_before : opening_part (bs ++ rest) ≡ bs
  unfolding opening_part
  opening_before = take_at bs rest (opening_size (bs ++ rest)) size_before

  pub rounds_behind : rounds_part (bs ++ rest) ≡ rest
  unfolding rounds_part
  rounds_behind = drop_at bs rest (opening_size (bs ++ rest)) size_before
