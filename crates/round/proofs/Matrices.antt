-- The matrix: its cells are a table by place, so each law compares two tables place by place. Record k of a round of n
-- stations is that of receiver k / n and sender k % n, and goes to place stations (k / n) + k % n.
use mathlib.Core.Path.{◌≡◌, refl, ap, sym, ◌∙◌}
use mathlib.Core.Logic.{◌≢◌}
use mathlib.Core.Bool.{Bool, true, false, ◌&&◌, cond, and-true}
use mathlib.Core.List.{List}
use Prim.Native.Nat.{ℕ, zero, suc, ◌+◌, ◌*◌, ◌/◌, ◌%◌, ◌<◌, ◌≤◌}
use native.Mathlib.Nat.{mul_assoc}
use native.Mathlib.Omega.{arith}
use borrow.Author.Tests.{lt-ltb, le-ltb, ltb-true, ltb-false, eqb-true, eqb-false}
use lib.Dec.{eqb, ltb}
use Rattle.std.proofs.lemmas.Bool.Decides.{nat_tests}
use Rattle.std.proofs.lemmas.List.{get_or-take, get_or-drop, length-take}
use lib.ListN.{length, get_or, take, drop, length-drop, set, replicate, length-set, length-replicate, get_or-replicate}
use lib.ListN.{get_or-eq_default}
use lib.Seq.{get_or-set_same, get_or-set_other}
use Rattle.run.specs.Record.{record_bytes, record_at}
use Rattle.run.specs.Run.{stations}
use Rattle.run.specs.Filled.{tabulate}
use Rattle.run.proofs.Filled.{length_tabulate, get_or_tabulate, tabulate_of}
use Rattle.run.proofs.Records.{record_at_take, record_at_drop}
use Rattle.round.proofs.Places.{receiver_of, sender_of, number_of, number_below, receiver_below, sender_below}
use Rattle.round.specs.declared.Cell.{Cell}
use Rattle.round.specs.declared.Cell.TheVariants.{Lost}
use Rattle.round.specs.declared.Matrix.{Matrix}
use Rattle.round.specs.Cells.{cell_in}
use Rattle.round.specs.Reading.{numbered, cell_of, cell_number, row_part, cells, matrix_of, cells_of_row, all_lost}

-- ---- tables
module _ {ℓ} {A : Type ℓ} where
  pub tabulate_same : (m : ℕ) (f g : ℕ → A) → ((i : ℕ) → i < m → f i ≡ g i) → tabulate m f ≡ tabulate m g
  unfolding tabulate
  tabulate_same zero f g h = refl
  tabulate_same (suc m) f g h =
      rw (h 0 (omega arith), tabulate_same m (λ i. f (suc i)) (λ i. g (suc i)) (λ i l. h (suc i) (omega arith)))

  pub tabulate_replicate : (m : ℕ) (f : ℕ → A) (d : A) → ((i : ℕ) → i < m → d ≡ f i) → replicate m d ≡ tabulate m f
  tabulate_replicate m f d h =
      tabulate_of d m f (replicate m d) (length-replicate m d) (λ i l. get_or-replicate m i d d l ∙ h i l)

  -- a store at a place where the two tables differ
  pub tabulate_set : (m : ℕ) (f g : ℕ → A) (i : ℕ) (v : A) → i < m → v ≡ g i → ((j : ℕ) → j < m → j ≢ i → f j ≡ g j)
      → set (tabulate m f) i v ≡ tabulate m g
  tabulate_set m f g i v l e other =
      tabulate_of v m g (set (tabulate m f) i v) (simp (length-set, length_tabulate)) (λ j b. at j b (eqb j i) refl)
    where
      at : (j : ℕ) → j < m → (t : Bool) → eqb j i ≡ t → get_or (set (tabulate m f) i v) j v ≡ g j
      at j b true q = rw (eqb-true j i q) (get_or-set_same (tabulate m f) i v v (rw length_tabulate l) ∙ e)
      at j b false q =
          get_or-set_other (tabulate m f) i j v v (eqb-false j i q) ∙ get_or_tabulate m f j v b
          ∙ other j b (eqb-false j i q)

-- ---- the records of a row
-- the row's record q is the round's record n p + q
pub record_in_row : (n : ℕ) (bs : List ℕ) (p q : ℕ) → q < n
    → record_at (row_part n bs p) q ≡ record_at bs (cell_number n p q)
unfolding row_part
record_in_row n bs p q l =
    record_at_take (record_bytes * n) (drop (record_bytes * n * p) bs) q (omega arith)
    ∙ rw (mul_assoc record_bytes n p) (record_at_drop (n * p) bs q)

-- ---- a matrix is known by its cells
abbrev at_place : (ℕ → ℕ → Cell) → ℕ → Cell
at_place f k = f (k / stations) (k % stations)

matrix_cells : (f : ℕ → ℕ → Cell) → (matrix_of f).cells ≡ tabulate (stations * stations) (at_place f)
unfolding matrix_of
matrix_cells f = refl

matrix_is : (f : ℕ → ℕ → Cell) (held : List Cell) → held ≡ tabulate (stations * stations) (at_place f)
    → ◌≡◌ {A = Matrix} (record { cells = held }) (matrix_of f)
unfolding matrix_of
matrix_is f held e = ap (λ (l : List Cell). record { cells = l }) e

pub matrix_same : (f g : ℕ → ℕ → Cell) → ((p q : ℕ) → p < stations → q < stations → f p q ≡ g p q)
    → matrix_of f ≡ matrix_of g
matrix_same f g h =
    matrix_is g (matrix_of f).cells
    (matrix_cells f ∙ tabulate_same (stations * stations) (at_place f) (at_place g)
    (λ k l. h (k / stations) (k % stations) (omega arith) (omega arith)))

pub numbered_of : (f : ℕ → ℕ → Cell) (k : ℕ) → k < stations * stations
    → numbered (matrix_of f) k ≡ f (k / stations) (k % stations)
numbered_of f k l =
    ap (λ (l : List Cell). get_or l k Lost) (matrix_cells f)
    ∙ get_or_tabulate (stations * stations) (at_place f) k Lost l

pub cell_of_matrix : (f : ℕ → ℕ → Cell) (p q : ℕ) → p < stations → q < stations → cell_of (matrix_of f) p q ≡ f p q
cell_of_matrix f p q lp lq =
    let row : (stations * p + q) / stations ≡ p = omega arith in
    let column : (stations * p + q) % stations ≡ q = omega arith in
    numbered_of f (stations * p + q) (omega arith) ∙ rw (row, column)

-- a matrix with all its places is that of its cells
pub matrix_again : (m : Matrix) → length m.cells ≡ stations * stations → m ≡ matrix_of (cell_of m)
matrix_again m len =
    matrix_is (cell_of m) m.cells
    (tabulate_of Lost (stations * stations) (at_place (cell_of m)) m.cells len
    (λ k l. let whole : stations * (k / stations) + k % stations ≡ k = omega arith in rw whole))

-- one that starts as all lost
matrix_lost : (f : ℕ → ℕ → Cell) → ((p q : ℕ) → Lost ≡ f p q) → all_lost ≡ matrix_of f
matrix_lost f h =
    matrix_is f (replicate (stations * stations) Lost)
    (tabulate_replicate (stations * stations) (at_place f) Lost (λ k l. h (k / stations) (k % stations)))

-- a store of cell (p, q)
matrix_set : (f g : ℕ → ℕ → Cell) (p q : ℕ) (c : Cell) → p < stations → q < stations → c ≡ g p q
    → ((i j : ℕ) → (i ≡ p → j ≡ q → ⊥) → f i j ≡ g i j)
    → ◌≡◌ {A = Matrix} (record { cells = set (matrix_of f).cells (stations * p + q) c }) (matrix_of g)
matrix_set f g p q c lp lq here there =
    let row : (stations * p + q) / stations ≡ p = omega arith in
    let column : (stations * p + q) % stations ≡ q = omega arith in
    matrix_is g _
    (ap (λ (l : List Cell). set l (stations * p + q) c) (matrix_cells f)
    ∙ tabulate_set (stations * stations) (at_place f) (at_place g) (stations * p + q) c (omega arith)
    (rw (row, column) here)
    (λ k l other. there (k / stations) (k % stations) (λ e d. other (omega arith))))

-- ---- the matrix filled record by record
cells_are : (n : ℕ) (bs : List ℕ) (p q : ℕ)
    → cells n bs p q ≡ cond (ltb p n && ltb q n) (cell_in (record_at (row_part n bs p) q)) Lost
unfolding cells
cells_are n bs p q = refl

-- cells that are lost outside n by n are the same if they are so inside
inside : (n p q : ℕ) (s t : Bool) (c d : Cell) → (p < n → q < n → s ≡ t) → (p < n → q < n → c ≡ d)
    → cond (ltb p n && ltb q n && s) c Lost ≡ cond (ltb p n && ltb q n && t) d Lost
inside n p q s t c d tests values = go (ltb p n) (ltb q n) refl refl
  where
    go : (x y : Bool) → ltb p n ≡ x → ltb q n ≡ y
        → cond (ltb p n && ltb q n && s) c Lost ≡ cond (ltb p n && ltb q n && t) d Lost
    go false y e f = rw e
    go true false e f = rw (e, f)
    go true true e f = rw (e, f, tests (ltb-true p n e) (ltb-true q n f), values (ltb-true p n e) (ltb-true q n f))

-- the cells of a round within n by n, and outside
pub cell_inside : (n : ℕ) (bs : List ℕ) (p q : ℕ) → p < n → q < n
    → cells n bs p q ≡ cell_in (record_at bs (cell_number n p q))
cell_inside n bs p q lp lq = rw (cells_are, lt-ltb p n lp, lt-ltb q n lq, record_in_row n bs p q lq)

pub cell_outside : (n : ℕ) (bs : List ℕ) (p q : ℕ) → (p < n → q < n → ⊥) → cells n bs p q ≡ Lost
cell_outside n bs p q out = rw cells_are (go (ltb p n) (ltb q n) refl refl)
  where
    go : (x y : Bool) → ltb p n ≡ x → ltb q n ≡ y
        → cond (ltb p n && ltb q n) (cell_in (record_at (row_part n bs p) q)) Lost ≡ Lost
    go false y e f = rw e
    go true false e f = rw (e, f)
    go true true e f = absurd (out (ltb-true p n e) (ltb-true q n f))

-- what is below the next number is below this one or is it
below_next : (i k : ℕ) → i ≢ k → ltb i k ≡ ltb i (k + 1)
below_next i k h = grind (arith, nat_tests)

module _ (n : ℕ) (bs : List ℕ) where
  -- cell (p, q) when the records below k are read
  pub so_far : ℕ → ℕ → ℕ → Cell
  so_far k p q = cond (ltb p n && ltb q n && ltb (cell_number n p q) k) (cell_in (record_at bs (cell_number n p q)))
      Lost

  pub filling_none : all_lost ≡ matrix_of (so_far 0)
  unfolding so_far
  filling_none =
      matrix_lost (so_far 0) (λ p q. rw (le-ltb (cell_number n p q) 0 (omega arith)) (nowhere (ltb p n) (ltb q n) _))
    where
      nowhere : (x y : Bool) (c : Cell) → Lost ≡ cond (x && y && false) c Lost
      nowhere false y c = refl
      nowhere true false c = refl
      nowhere true true c = refl

  pub filling_more : (k : ℕ) (c : Cell) → n ≤ stations → k < n * n → c ≡ cell_in (record_at bs k)
      → ◌≡◌ {A = Matrix} (record { cells = set (matrix_of (so_far k)).cells (stations * (k / n) + k % n) c })
      (matrix_of (so_far (k + 1)))
  unfolding so_far
  filling_more k c small l e =
      let receiver : k / n < n = receiver_below n k l in
      let sender : k % n < n = sender_below n k l in
      matrix_set (so_far k) (so_far (k + 1)) (k / n) (k % n) c (omega arith) (omega arith)
      (rw (number_of n k, lt-ltb (k / n) n receiver, lt-ltb (k % n) n sender, lt-ltb k (k + 1) (omega arith)) e)
      (λ i j other. inside n i j _ _ _ _
      (λ li lj. below_next (cell_number n i j) k
      (λ same. other (rw (← same) (sym (receiver_of n i j lj))) (rw (← same) (sym (sender_of n i j lj)))))
      (λ li lj. refl))

  -- with all records read it has the round's cells
  all_read : (p q : ℕ) → so_far (n * n) p q ≡ cells n bs p q
  unfolding so_far
  all_read p q =
      inside n p q _ true _ (cell_in (record_at (row_part n bs p) q)) (λ lp lq. lt-ltb _ _ (number_below n p q lp lq))
      (λ lp lq. ap cell_in (sym (record_in_row n bs p q lq)))
      ∙ rw and-true (sym (cells_are n bs p q))

  pub filling_done : matrix_of (so_far (n * n)) ≡ matrix_of (cells n bs)
  filling_done = matrix_same (so_far (n * n)) (cells n bs) (λ p q lp lq. all_read p q)

-- ---- a row of a matrix
pub row_past : (m : Matrix) (p : ℕ) → length m.cells ≡ stations * stations → stations * stations ≤ stations * p
    → replicate stations Lost ≡ cells_of_row m p
unfolding cells_of_row
row_past m p len h =
    tabulate_replicate stations (λ q. get_or m.cells (stations * p + q) Lost) Lost
    (λ q l. sym (get_or-eq_default m.cells Lost (omega arith)))

-- one that the matrix has is a part of it
pub row_taken : (m : Matrix) (p k : ℕ) → length m.cells ≡ stations * stations → stations * p < stations * stations
    → k ≡ stations → take k (drop (stations * p) m.cells) ≡ cells_of_row m p
unfolding cells_of_row
row_taken m p k len h whole =
    tabulate_of Lost stations (λ q. get_or m.cells (stations * p + q) Lost) _
    (simp (length-take, length-drop) (omega arith))
    (λ q l. get_or-take k (drop (stations * p) m.cells) q Lost (omega arith)
    ∙ get_or-drop (stations * p) m.cells q Lost)

-- so it holds the matrix's cells, and nothing past them
row_cell : (m : Matrix) (p q : ℕ) → q < stations
    → get_or (cells_of_row m p) q Lost ≡ get_or m.cells (stations * p + q) Lost
unfolding cells_of_row
row_cell m p q l = get_or_tabulate stations (λ q. get_or m.cells (stations * p + q) Lost) q Lost l

row_beyond : (m : Matrix) (p q : ℕ) → stations ≤ q → get_or (cells_of_row m p) q Lost ≡ Lost
unfolding cells_of_row
row_beyond m p q past =
    let long : length (cells_of_row m p) ≤ q =
    rw (length_tabulate stations (λ q. get_or m.cells (stations * p + q) Lost)) past in
    get_or-eq_default (cells_of_row m p) Lost long

-- so a row of the matrix that was read spells the receiver's cells
pub row_spells : (n : ℕ) (bs : List ℕ) (p q : ℕ) → n ≤ stations → p < stations
    → get_or (cells_of_row (matrix_of (cells n bs)) p) q Lost ≡ cells n bs p q
row_spells n bs p q small here = go (ltb q stations) refl
  where
    go : (b : Bool) → ltb q stations ≡ b → get_or (cells_of_row (matrix_of (cells n bs)) p) q Lost ≡ cells n bs p q
    go true e =
        let inside : q < stations = ltb-true q stations e in
        row_cell (matrix_of (cells n bs)) p q inside
        ∙ cell_of_matrix (cells n bs) p q here inside
    go false e =
        let past : stations ≤ q = ltb-false q stations e in
        row_beyond (matrix_of (cells n bs)) p q past
        ∙ sym (cell_outside n bs p q (λ lp lq. omega arith))
