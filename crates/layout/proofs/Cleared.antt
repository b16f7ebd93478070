-- A start clears a table row by row, and a row cell by cell from its end. Assumes nothing.
use mathlib.Core.Path.{◌≡◌, refl, ◌∙◌}
use mathlib.Core.Bool.{Bool, true, false, not, cond, ◌&&◌, and-false}
use mathlib.Core.List.{List}
use Prim.Native.Nat.{ℕ, suc, ◌+◌, ◌*◌, ◌≤◌, ◌<◌}
use native.Mathlib.Numerals.{add-one}
use native.Mathlib.Omega.{arith}
use borrow.Author.Tests.{eqb-true, leb-true, leb-false, le-leb, lt-leb, lt-ltb, le-ltb, ltb-false}
use Rattle.std.specs.Int.{div_ceil}
use lib.Dec.{eqb, leb, ltb}
use lib.ListN.{length, set}
use lib.Ieee.{Float}
use Rattle.float.specs.Float.{f64zero}
use Rattle.layout.specs.Place.{blocks_over, cell_at, corner, is_cell, in_blocks}
use Rattle.layout.specs.Written.{cleared_table}
use Rattle.layout.specs.private.Cleared.{first_cleared, cleared_from}
use Rattle.layout.proofs.Entries.{below_suc}
use Rattle.layout.proofs.Places.{line_inside, cells_in_order, row_reached}
use Rattle.layout.proofs.Blocks.{length_blocks, corner_blocks, blocks_are, blocks_same, set_blocks}

-- ---- a row, cell by cell

module _ (w r : ℕ) (t : List Float) (from : ℕ) where
  -- the cells before column n are cleared
  abbrev pub row_cleared : ℕ → List Float
  row_cleared n = in_blocks w (length t) (λ s c. cond (eqb s r && (leb from c && ltb c n)) f64zero (corner w t s c))

  pub clear_start : t ≡ row_cleared from
  clear_start = blocks_are w (length t) _ t refl (λ s c k l. rw (none c, and-false))
    where
      none : (c : ℕ) → leb from c && ltb c from ≡ false
      none c = go (leb from c) refl
        where
          go : (b : Bool) → leb from c ≡ b → b && ltb c from ≡ false
          go true e = le-ltb c from (leb-true from c e)
          go false e = refl

  one_more : (a : Bool) (n c : ℕ) (y : Float) → from ≤ n
      → cond (a && eqb c n) f64zero (cond (a && (leb from c && ltb c n)) f64zero y) ≡ cond (a && (leb from c && ltb c (suc n))) f64zero y
  one_more false n c y h = refl
  one_more true n c y h = go (eqb c n) refl
    where
      go : (b : Bool) → eqb c n ≡ b → cond b f64zero (cond (leb from c && ltb c n) f64zero y) ≡ cond (leb from c && ltb c (suc n)) f64zero y
      go true e = let q = eqb-true c n e in rw (le-leb from c (omega arith), lt-ltb c (suc n) (omega arith))
      go false e = rw (below_suc c n _ e refl)

  pub clear_turn : (n : ℕ) → from ≤ n → n < blocks_over w * 8 → set (row_cleared n) (cell_at w r n) f64zero ≡ row_cleared (n + 1)
  clear_turn n a b =
      rw (add-one n) (set_blocks w (length t) _ r n f64zero b ∙ blocks_same w (length t) _ _ (λ s c k l. one_more (eqb s r) n c (corner w t s c) a))

  pub clear_end : (n : ℕ) → n ≡ blocks_over w * 8 → row_cleared n ≡ cleared_from w t r from
  unfolding cleared_from
  clear_end n e = blocks_same w (length t) _ _ (λ s c k l. rw (lt-ltb c n (omega arith), all (leb from c)))
    where
      all : (b : Bool) → b && true ≡ b
      all true = refl
      all false = refl

-- ---- rows from the first on

-- the column from which a row is cleared, by what is known of the row
pub first_kept : (w h r : ℕ) → leb 1 r && leb r h ≡ true → w + 1 ≡ first_cleared w h r
first_kept w h r e = rw (e, add-one w)

pub first_cleared_lem : (w h r : ℕ) → leb 1 r && leb r h ≡ false → 0 ≡ first_cleared w h r
first_cleared_lem w h r e = rw e

pub first_within : (w h r : ℕ) → first_cleared w h r ≤ blocks_over w * 8
first_within w h r = go (leb 1 r && leb r h)
  where
    go : (t : Bool) → cond t (suc w) 0 ≤ blocks_over w * 8
    go true = line_inside w w (omega arith)
    go false = omega arith

module _ (w h : ℕ) (t : List Float) where
  -- the first n table rows are cleared
  abbrev pub rows_cleared : ℕ → List Float
  rows_cleared n = in_blocks w (length t) (λ r c. cond (ltb r n && not (leb 1 r && is_cell w h r c)) f64zero (corner w t r c))

  pub rows_start : t ≡ rows_cleared 0
  rows_start = blocks_are w (length t) _ t refl (λ r c k l. rw (le-ltb r 0 (omega arith)))

  -- a row is cleared where a start does not keep it
  from_first : (r c : ℕ) (a b d : Bool) → leb 1 r ≡ a → leb r h ≡ b → leb c w ≡ d → leb (cond (a && b) (suc w) 0) c ≡ not (a && (b && d))
  from_first r c true true true ea eb ed = lt-leb (suc w) c (omega (arith, leb-true c w ed))
  from_first r c true true false ea eb ed = le-leb (suc w) c (leb-false c w ed)
  from_first r c true false d ea eb ed = le-leb 0 c (omega arith)
  from_first r c false b d ea eb ed = le-leb 0 c (omega arith)

  row_more : (n r c : ℕ) (t : Bool) → eqb r n ≡ t → (y : Float)
      → cond (t && leb (first_cleared w h n) c) f64zero (cond (ltb r n && not (leb 1 r && is_cell w h r c)) f64zero y)
      ≡ cond (ltb r (suc n) && not (leb 1 r && is_cell w h r c)) f64zero y
  row_more n r c true e y =
      rw (eqb-true r n e, le-ltb n n (omega arith), lt-ltb n (suc n) (omega arith), from_first n c _ _ _ refl refl refl)
  row_more n r c false e y = rw (below_suc r n _ e refl)

  pub rows_turn : (n : ℕ) → cleared_from w (rows_cleared n) n (first_cleared w h n) ≡ rows_cleared (n + 1)
  unfolding cleared_from
  rows_turn n =
      rw (length_blocks w (length t) _, add-one n)
      (blocks_same w (length t) _ _ (λ r c k l. rw (corner_blocks w (length t) _ r c k l) (row_more n r c _ refl (corner w t r c))))

  either : (b : Bool) (x y : Float) → cond (not b) x y ≡ cond b y x
  either true x y = refl
  either false x y = refl

  pub rows_end : (n : ℕ) → length t ≤ cell_at w n 0 → rows_cleared n ≡ cleared_table w h t
  unfolding cleared_table
  rows_end n l = blocks_same w (length t) _ _ (λ r c k i. rw (before r c i) (either (leb 1 r && is_cell w h r c) f64zero (corner w t r c)))
    where
      before : (r c : ℕ) → cell_at w r c < length t → ltb r n ≡ true
      before r c i = go (ltb r n) refl
        where
          go : (b : Bool) → ltb r n ≡ b → ltb r n ≡ true
          go true e = e
          go false e = absurd (omega (arith, cells_in_order w n r 0 c (ltb-false r n e) (omega arith)))

  -- the rows of so many whole rows of blocks are all that there are
  pub rows_whole : (rows n b : ℕ) → rows ≡ n * 8 → b ≡ blocks_over w → n ≡ div_ceil (length t) (b * 64) → rows_cleared rows ≡ cleared_table w h t
  unfolding cleared_table
  rows_whole rows n b er eb e =
      blocks_same w (length t) _ _
      (λ r c k i. rw (lt-ltb r rows (rw er (row_reached w (length t) n b eb e r c i))) (either (leb 1 r && is_cell w h r c) f64zero (corner w t r c)))
