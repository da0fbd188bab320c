-- The survey of rows is the survey of the round: in a round whose records are all in order each row, read from the
-- bytes or taken from the matrix, spells the cells of its receiver, so that the two rows are the same function, and
-- their sets are the same.
use mathlib.Core.Path.{◌≡◌, refl, ap, ap₂, ◌∙◌, fun_ext}
use mathlib.Core.Bool.{Bool, true, false, cond}
use mathlib.Core.List.{List}
use Prim.Native.Nat.{ℕ, min, ◌≤◌, ◌<◌}
use native.Mathlib.Omega.{arith}
use lib.Dec.{ltb}
use lib.ListN.{length, get_or, replicate, get_or-eq_default}
use borrow.Author.Tests.{lt-ltb, le-ltb, ltb-true, ltb-false}
use Rattle.paper.specs.Heard.{Row}
use Rattle.run.specs.Reply.{Reply}
use Rattle.run.specs.Reply.{Accepted}
use Rattle.run.specs.declared.Run.{Run}
use Rattle.run.specs.Reply.{is_accepted}
use Rattle.run.specs.Run.{stations}
use Rattle.run.specs.Filled.{filled}
use Rattle.run.proofs.Filled.{length_filled, get_or_filled, filled_same, filled_min}
use Rattle.round.specs.declared.Cell.{Cell}
use Rattle.round.specs.declared.Cell.TheVariants.{Lost}
use Rattle.round.specs.declared.Matrix.{Matrix}
use Rattle.hearing.specs.declared.Sent.{Sent}
use Rattle.hearing.specs.declared.Sets.{Sets}
use Rattle.hearing.specs.declared.Survey.{Survey}
use Rattle.round.specs.Bridge.{paper_cell, heard_in, sent_next}
use Rattle.round.specs.ByRow.{cell_read}
use Rattle.round.specs.Reading.{
  votes_next,
  row_part,
  check_reading,
  cells,
  matrix_of,
  cells_of_row,
}
use Rattle.hearing.specs.Survey.{ho_sets, sho_sets, survey_of}
use Rattle.hearing.specs.Surveying.{
  prescribed,
  messages_of,
  row_of,
  sets_of,
  row_in,
  row_sets,
  matrix_sets,
  rows_surveyed,
}
use Rattle.round.proofs.Matrices.{row_spells}
use Rattle.hearing.proofs.Hearing.{sets_next}

-- an array of n cells, read at any place
cell_anywhere : (n : ℕ) (f : ℕ → Cell) (q : ℕ) → n ≤ stations
    → get_or (filled stations n f Lost) q Lost ≡ cond (ltb q n) (f q) Lost
cell_anywhere n f q small = go (ltb q stations) refl
  where
    go : (b : Bool) → ltb q stations ≡ b → get_or (filled stations n f Lost) q Lost ≡ cond (ltb q n) (f q) Lost
    go true e = get_or_filled stations n f Lost q Lost (ltb-true q stations e)
    go false e =
        let past : stations ≤ q = ltb-false q stations e in
        let long : length (filled stations n f Lost) ≤ q = rw length_filled past in
        get_or-eq_default (filled stations n f Lost) Lost long ∙ rw (le-ltb q n (omega arith))

-- a row that is read from the bytes spells the receiver's cells
pub row_heard : (n : ℕ) (bs : List ℕ) (p : ℕ) → n ≤ stations → p < n → row_of (row_in n bs p) ≡ heard_in n bs p
unfolding row_in heard_in cells
row_heard n bs p small below = fun_ext at
  where
    at : (q : ℕ) → row_of (row_in n bs p) q ≡ heard_in n bs p q
    at q =
        ap paper_cell (cell_anywhere n (cell_read (row_part n bs p)) q small) ∙ rw (lt-ltb p n below)

-- and so does its row of the matrix
pub matrix_row : (n : ℕ) (bs : List ℕ) (p : ℕ) → n ≤ stations → p < stations
    → row_of (cells_of_row (matrix_of (cells n bs)) p) ≡ heard_in n bs p
unfolding heard_in
matrix_row n bs p small here = fun_ext (λ q. ap paper_cell (row_spells n bs p q small here))

-- rows that are those of the round have its sets
module _ (run : Run) (bs : List ℕ) (small : run.setup.n ≤ stations) (rows : ℕ → Row)
    (spelled : (p : ℕ) → p < run.setup.n → rows p ≡ heard_in run.setup.n bs p) where
  sets_in : ℕ → Sets
  sets_in p = sets_of (min run.setup.n stations) (rows p) (messages_of (prescribed (votes_next run) run))

  row_next : (p : ℕ) → p < run.setup.n
      → sets_in p ≡ sets_of run.setup.n (heard_in run.setup.n bs p) (sent_next run)
  unfolding sets_in
  row_next p below =
      let all : min run.setup.n stations ≡ run.setup.n = omega arith in
      rw (all, spelled p below) (sets_next run run.setup.n (heard_in run.setup.n bs p) small)

  rows_ho : filled stations run.setup.n (λ p. (sets_in p).ho) 0 ≡ ho_sets run.setup.n bs
  unfolding ho_sets sets_of
  rows_ho = filled_same stations run.setup.n _ _ 0 (λ p h. ap (λ (s : Sets). s.ho) (row_next p h))

  rows_sho : filled stations run.setup.n (λ p. (sets_in p).sho) 0 ≡ sho_sets run run.setup.n bs
  unfolding sho_sets sets_of
  rows_sho = filled_same stations run.setup.n _ _ 0 (λ p h. ap (λ (s : Sets). s.sho) (row_next p h))

-- read row by row from its bytes
module _ (run : Run) (bs : List ℕ) (small : run.setup.n ≤ stations) where
  abbrev n : ℕ
  n = run.setup.n

  abbrev sent : Sent
  sent = prescribed (votes_next run) run

  pub surveyed_ho : filled stations n (λ p. (row_sets n sent bs p).ho) 0 ≡ ho_sets n bs
  unfolding row_sets sets_in
  surveyed_ho = rows_ho run bs small (λ p. row_of (row_in n bs p)) (λ p l. row_heard n bs p small l)

  pub surveyed_sho : filled stations n (λ p. (row_sets n sent bs p).sho) 0 ≡ sho_sets run n bs
  unfolding row_sets sets_in
  surveyed_sho = rows_sho run bs small (λ p. row_of (row_in n bs p)) (λ p l. row_heard n bs p small l)

-- the survey of the matrix is that of the round that was read into it
pub survey_done : (run : Run) (bs : List ℕ) {s : Survey} {sent : Sent} {m : Matrix} → run.setup.n ≤ stations
    → check_reading run bs ≡ Accepted
    → s ≡ rows_surveyed run.setup.n sent m → sent ≡ prescribed (votes_next run) run
    → m ≡ matrix_of (cells run.setup.n bs) → s ≡ survey_of run bs
unfolding rows_surveyed survey_of matrix_sets sets_in
survey_done run bs small good e sends reads =
    let n = run.setup.n in
    let rows : ℕ → Row = λ p. row_of (cells_of_row (matrix_of (cells n bs)) p) in
    let spelled : (p : ℕ) → p < n → rows p ≡ heard_in n bs p = λ p l. matrix_row n bs p small (omega arith) in
    rw (e, sends, reads, good)
    (ap₂ (λ (ho sho : List ℕ). record { reply = Accepted; ho = ho; sho = sho }) (rows_ho run bs small rows spelled)
    (rows_sho run bs small rows spelled))

-- a loop over the array's own places surveys all receivers
pub surveyed_all : (n p : ℕ) (sent : Sent) (m : Matrix) {ho sho : List ℕ} → p ≡ min n stations
    → ho ≡ filled stations p (λ i. (matrix_sets n sent m i).ho) 0
    → sho ≡ filled stations p (λ i. (matrix_sets n sent m i).sho) 0
    → ◌≡◌ {A = Survey} (record { reply = Accepted; ho = ho; sho = sho }) (rows_surveyed n sent m)
unfolding rows_surveyed
surveyed_all n p sent m e h g =
    ap₂ (λ (ho sho : List ℕ). record { reply = Accepted; ho = ho; sho = sho }) (h ∙ all (λ s. s.ho))
    (g ∙ all (λ s. s.sho))
  where
    all : (field : Sets → ℕ)
        → filled stations p (λ i. field (matrix_sets n sent m i)) 0
        ≡ filled stations n (λ i. field (matrix_sets n sent m i)) 0
    all field =
        ap (λ (k : ℕ). filled stations k (λ i. field (matrix_sets n sent m i)) 0) e
        ∙ filled_min stations n (λ i. field (matrix_sets n sent m i)) 0

-- a refused survey gives empty sets
pub survey_refused : (run : Run) (bs : List ℕ) {reply : Reply} → reply ≡ check_reading run bs
    → is_accepted (check_reading run bs) ≡ false
    → ◌≡◌ {A = Survey} (record { reply = reply; ho = replicate stations 0; sho = replicate stations 0 })
    (survey_of run bs)
unfolding survey_of
survey_refused run bs e f = rw (e, f)
