-- A row written in runs of 8 is the row laid over its table row. Assumes nothing.
use mathlib.Core.Path.{◌≡◌, refl, sym, ap, ◌∙◌}
use mathlib.Core.Bool.{Bool, true, false, cond, ◌&&◌, and-false}
use mathlib.Core.List.{List, [], ◌++◌, append-nil}
use Prim.Native.Nat.{ℕ, zero, suc, ◌+◌, ◌-◌, ◌*◌, ◌/◌, ◌%◌, ◌≤◌, ◌<◌}
use native.Mathlib.Nat.{add-zero, zero-add, zero-mul, suc-mul}
use native.Mathlib.Numerals.{add-one}
use native.Mathlib.Omega.{arith}
use borrow.Author.Tests.{eqb-true, leb-true, leb-false, lt-ltb, le-ltb}
use lib.Dec.{eqb, leb, ltb}
use lib.ListN.{length, take, drop, set, get_or, length-take, length-drop, drop_of_length-le, take-append-drop}
use lib.Seq.{take_all, take-set-le, drop-set-add, get_or-take, get_or-drop, length-take-le}
use lib.Ieee.{Float, nan}
use Rattle.std.proofs.lemmas.List.{set-append_right}
use Rattle.std.specs.Simd.{first_chunks}
use Rattle.grid.specs.declared.Grid.{Grid}
use Rattle.layout.specs.Place.{blocks_over, cell_at, run_at, payload_length, corner, in_blocks}
use Rattle.layout.specs.Written.{laid_row}
use Rattle.layout.proofs.Entries.{below_suc, copied, copy_turn}
use Rattle.layout.proofs.Places.{cell_in_row, cell_inside, line_inside}
use Rattle.layout.proofs.Blocks.{blocks_are, blocks_same, set_blocks}
use Rattle.builder.specs.private.Room.{RowRoom}
use Rattle.builder.specs.private.Runs.{laid_runs, stored}

-- the cells of a row's chunks
chunk_cell : (n count k i : ℕ) (xs : List Float) → k < count → i < n → get_or (get_or (first_chunks n count xs) k []) i nan ≡ get_or xs (k * n + i) nan
chunk_cell n zero k i xs h l = absurd (omega arith)
chunk_cell n (suc m) zero i xs h l = get_or-take n xs i nan l ∙ rw (zero-mul n, zero-add i)
chunk_cell n (suc m) (suc k) i xs h l =
    let e : n + (k * n + i) ≡ suc k * n + i = omega (arith, suc-mul k n) in
    chunk_cell n m k i (drop n xs) (omega arith) l ∙ get_or-drop n xs (k * n + i) nan ∙ ap (λ (j : ℕ). get_or xs j nan) e

chunk_length : (n count k : ℕ) (xs : List Float) → k < count → count * n ≤ length xs → length (get_or (first_chunks n count xs) k []) ≡ n
chunk_length n zero k xs h l = absurd (omega arith)
chunk_length n (suc m) zero xs h l = length-take-le n xs (omega (arith, suc-mul m n))
chunk_length n (suc m) (suc k) xs h l = chunk_length n m k (drop n xs) (omega arith) (rw (length-drop n xs) (omega (arith, suc-mul m n)))

module _ (row : List Float) where
  -- ---- runs one after another

  runs_more : (start : ℕ) (t : List Float) (c n : ℕ) → laid_runs start (laid_runs start t row 0 c) row c n ≡ laid_runs start t row 0 (c + n)
  runs_more start t c zero = rw (add-zero c)
  runs_more start t c (suc n) = let e : c + suc n ≡ suc (c + n) = omega arith in rw (runs_more start t c n, e, zero-add (c + n))

  -- a run's cells stand one behind another
  run_stored : (t : List Float) (c n : ℕ) → c % 8 ≡ 0 → n ≤ 8 → stored t (c * 8) row c n ≡ laid_runs 0 t row c n
  unfolding run_at
  run_stored t c zero h k = refl
  run_stored t c (suc n) h k =
      let e : 0 + ((c + n) / 8 * 64 + (c + n) % 8) ≡ c * 8 + n = omega arith in
      rw (run_stored t c n h (omega arith), e)

  -- cells that are those of a row from a column on
  stored_part : (t part : List Float) (at c n : ℕ) → ((i : ℕ) → i < n → get_or part i nan ≡ get_or row (c + i) nan) → stored t at part 0 n ≡ stored t at row c n
  stored_part t part at c zero h = refl
  stored_part t part at c (suc n) h = rw (stored_part t part at c n (λ i l. h i (omega arith)), zero-add n, h n (omega arith))

  -- the kth run, or what is left of it
  pub laid_turn : (t part : List Float) (k n : ℕ) → n ≤ 8 → ((i : ℕ) → i < n → get_or part i nan ≡ get_or row (k * 8 + i) nan)
      → stored (laid_runs 0 t row 0 (k * 8)) (k * 64) part 0 n ≡ laid_runs 0 t row 0 (k * 8 + n)
  laid_turn t part k n h same =
      let place : k * 64 ≡ k * 8 * 8 = omega arith in
      let first : k * 8 % 8 ≡ 0 = omega arith in
      stored_part (laid_runs 0 t row 0 (k * 8)) part (k * 64) (k * 8) n same
      ∙ rw place (run_stored (laid_runs 0 t row 0 (k * 8)) (k * 8) n first h)
      ∙ runs_more 0 t (k * 8) n

  -- the row spliced in at a place is its cells stored there
  spliced : (t : List Float) (at n : ℕ) → at + n ≤ length t → n ≤ length row → take at t ++ copied (drop at t) row n ≡ stored t at row 0 n
  spliced t at zero h k = take-append-drop at t
  spliced t at (suc n) h k =
      let y = get_or row n nan in
      let part = copied (drop at t) row n in
      let turn : set part n y ≡ copied (drop at t) row (n + 1) = copy_turn (drop at t) row n (omega arith) (rw (length-drop at t) (omega arith)) in
      let off : at + n - at ≡ n = omega arith in
      let whole : set (take at t ++ part) (at + n) y ≡ take at t ++ copied (drop at t) row (n + 1)
      = rw (set-append_right (take at t) part at (at + n) y (length-take-le at t (omega arith)) (omega arith), off, turn) in
      sym (rw (add-one n) at whole) ∙ rw (spliced t at n (omega arith) (omega arith), zero-add n)

  pub stored_whole : (t : List Float) (at : ℕ) → at + length row ≤ length t → take at t ++ (row ++ drop (length row) (drop at t)) ≡ stored t at row 0 (length row)
  stored_whole t at h = rw (take_all (length row) row (omega arith)) at (spliced t at (length row) h (omega arith))

  -- the kth of the whole runs, and the rest of the row
  abbrev pub whole_runs : List (List Float)
  whole_runs = first_chunks 8 (length row / 8) row

  pub run_length : (k : ℕ) → k < length row / 8 → length (get_or whole_runs k []) ≡ 8
  run_length k h = chunk_length 8 (length row / 8) k row h (omega arith)

  pub run_laid : (t : List Float) (k : ℕ) → k < length row / 8
      → stored (laid_runs 0 t row 0 (k * 8)) (k * 64) (get_or whole_runs k []) 0 (length (get_or whole_runs k [])) ≡ laid_runs 0 t row 0 ((k + 1) * 8)
  run_laid t k h =
      let next : (k + 1) * 8 ≡ k * 8 + 8 = omega arith in
      rw (run_length k h, next)
      (laid_turn t (get_or whole_runs k []) k 8 (omega arith) (λ i l. chunk_cell 8 (length row / 8) k i row h l))

  pub rest_laid : (t : List Float) (k : ℕ) → k ≡ length row / 8
      → stored (laid_runs 0 t row 0 (k * 8)) (k * 64) (drop (k * 8) row) 0 (length (drop (k * 8) row)) ≡ laid_runs 0 t row 0 (length row)
  rest_laid t k e =
      let all : length row ≡ k * 8 + (length row - k * 8) = omega arith in
      rw (length-drop (k * 8) row)
      (laid_turn t (drop (k * 8) row) k (length row - k * 8) (omega arith) (λ i l. get_or-drop (k * 8) row i nan)
      ∙ ap (λ (n : ℕ). laid_runs 0 t row 0 n) (sym all))

  -- ---- the part of a table from a start on, lent to be written, and the table

  runs_before : (start : ℕ) (t : List Float) (n : ℕ) → take start (laid_runs start t row 0 n) ≡ take start t
  runs_before start t zero = refl
  runs_before start t (suc n) = take-set-le start (laid_runs start t row 0 n) (start + run_at (0 + n)) _ (omega arith) ∙ runs_before start t n

  runs_from : (start : ℕ) (t : List Float) (n : ℕ) → drop start (laid_runs start t row 0 n) ≡ laid_runs 0 (drop start t) row 0 n
  runs_from start t zero = refl
  runs_from start t (suc n) = drop-set-add start (laid_runs start t row 0 n) (run_at (0 + n)) _ ∙ rw (runs_from start t n, zero-add (run_at (0 + n)))

  laid_back : (start : ℕ) (t : List Float) (n : ℕ)
      → take start t ++ (laid_runs 0 (take (length t - start) (drop start t)) row 0 n ++ drop (length t - start) (drop start t)) ≡ laid_runs start t row 0 n
  laid_back start t n =
      let e : length (drop start t) ≤ length t - start = simp length-drop (omega arith) in
      rw (take_all (length t - start) (drop start t) e, drop_of_length-le (drop start t) e, append-nil, ← runs_from start t n, ← runs_before start t n)
      (take-append-drop start (laid_runs start t row 0 n))

  -- ---- a table by its cells

  one_more : (a : Bool) (c n : ℕ) (y : Float)
      → cond (a && eqb c n) (get_or row n nan) (cond (a && ltb c n) (get_or row c nan) y) ≡ cond (a && ltb c (suc n)) (get_or row c nan) y
  one_more false c n y = refl
  one_more true c n y = go (eqb c n) refl
    where
      go : (t : Bool) → eqb c n ≡ t → cond t (get_or row n nan) (cond (ltb c n) (get_or row c nan) y) ≡ cond (ltb c (suc n)) (get_or row c nan) y
      go true e = rw (eqb-true c n e, lt-ltb n (suc n) (omega arith))
      go false e = rw (below_suc c n _ e refl)

  module _ (w len at : ℕ) (f : ℕ → ℕ → Float) where
    laid_blocks : (n : ℕ) → n ≤ blocks_over w * 8
        → laid_runs (cell_at w at 0) (in_blocks w len f) row 0 n ≡ in_blocks w len (λ r c. cond (eqb r at && ltb c n) (get_or row c nan) (f r c))
    laid_blocks zero h = blocks_same w len _ _ (λ r c k l. rw (le-ltb c 0 (omega arith), and-false))
    laid_blocks (suc n) h =
        rw (laid_blocks n (omega arith), zero-add n, ← cell_in_row w at n, set_blocks w len _ at n (get_or row n nan) (omega arith))
        (blocks_same w len _ _ (λ r c k l. one_more (eqb r at) c n (f r c)))

up_to : (c w : ℕ) → ltb c (suc w) ≡ leb c w
up_to c w = go (leb c w) refl
  where
    go : (t : Bool) → leb c w ≡ t → ltb c (suc w) ≡ t
    go true e = lt-ltb c (suc w) (omega (arith, leb-true c w e))
    go false e = le-ltb c (suc w) (leb-false c w e)

-- r cells of the kth run are in the part that is lent where the last of them is
pub part_fits : (k r n m : ℕ) → 0 < r → r ≤ 8 → k * 8 + r ≤ n → ((c : ℕ) → c < n → run_at c < m) → k * 64 + r ≤ m
unfolding run_at
part_fits k r n m some few h inside = let last = inside (k * 8 + r - 1) (omega arith) in omega (arith, last)

-- the row laid over its table row
pub laid_row_lem : (w at start : ℕ) (cells row : List Float) → start ≡ cell_at w at 0 → length row ≡ suc w
    → take start cells ++ (laid_runs 0 (take (length cells - start) (drop start cells)) row 0 (length row) ++ drop (length cells - start) (drop start cells))
    ≡ laid_row w cells at row
unfolding laid_row
laid_row_lem w at start cells row e size =
    let own = blocks_are w (length cells) (corner w cells) cells refl (λ r c k l. refl) in
    let fits : suc w ≤ blocks_over w * 8 = line_inside w w (omega arith) in
    laid_back row start cells (length row)
    ∙ rw (e, size) (
    ap (λ (t : List Float). laid_runs (cell_at w at 0) t row 0 (suc w)) own
    ∙ laid_blocks row w (length cells) at (corner w cells) (suc w) fits
    ∙ blocks_same w (length cells) _ _ (λ r c k l. rw (up_to c w)))

-- the row has room in the part that is lent
pub run_inside : (w h at start c : ℕ) (cells : List Float) → start ≡ cell_at w at 0 → length cells ≡ payload_length w h → at ≤ h → c < suc w
    → run_at c < length (take (length cells - start) (drop start cells))
run_inside w h at start c cells e right inside k =
    rw (length-take, length-drop) (omega (arith, cell_in_row w at c, cell_inside w h at c inside (omega arith)))

-- and its first cell too
pub starts_inside : (g : Grid) (at n t start : ℕ) → RowRoom g at n t → start ≡ cell_at g.width at 0 → start < t
starts_inside g at n t start r e = rw (e, r.table) (cell_inside g.width g.height at 0 r.inside (omega arith))
