-- The parts of a call put together: what each callee leaves, and the call's own definition. Assumes nothing.
use mathlib.Core.Path.{◌≡◌, refl, sym, ap, ◌∙◌}
use mathlib.Core.Bool.{Bool, true, false, not}
use mathlib.Core.List.{List}
use Prim.Native.Nat.{ℕ, zero, suc, ◌+◌, ◌/◌, ◌%◌, ◌≤◌, ◌<◌}
use native.Mathlib.Numerals.{add-one}
use borrow.Author.Tests.{eq-eqb, ne_eqb}
use lib.Dec.{eqb}
use lib.ListN.{length, replicate}
use lib.Ieee.{Float}
use Rattle.refusal.proofs.Chains.{refused_by, never, answered_passed, left_alone, refused_as}
use Rattle.refusal.specs.declared.Refusal.{Refusal}
use Rattle.refusal.specs.Refusal.{Outcome, answered, refused, first, passed, outcome, unless_refused, not_its_makers, number_of}
use Rattle.digest.specs.Digest.{first_digest, digest_of}
use Rattle.raster.specs.declared.CellTallies.{CellTallies}
use Rattle.raster.specs.Raster.{sanitised_row, row_tallies, plus_tallies, held_tallies, no_tallies}
use Rattle.grid.specs.declared.Grid.{Grid}
use Rattle.grid.specs.Grid.{limit, valid_grid}
use Rattle.float.specs.Float.{f64zero}
use Rattle.layout.specs.Written.{cleared_table, laid_row}
use Rattle.decimation.specs.declared.Decimation.{Decimation}
use Rattle.decimation.specs.Decimation.{factor_refusal, decimation_new, valid_decimation}
use Rattle.decimation.proofs.Factors.{Made, decimation_made, framed}
use Rattle.sweep.specs.Sweep.{acc_after, corr_after}
use Rattle.builder.specs.declared.Builder.{Builder}
use Rattle.builder.specs.Rows.{coarse_filled, handed_on}
use Rattle.builder.specs.Build.{Lengths, Buffers, buffers, lengths_of, lent_refusal, start_refusal, first_builder, cleared_buffers, start_call, row_refusal}
use Rattle.builder.specs.Build.{builder_after, coarse_after, table_after, buffers_after, row_call, row_left}
use Rattle.builder.specs.private.Room.{Room, RowRoom}
use Rattle.builder.proofs.Builders.{Taken, start_goes_on, row_passed}
use Rattle.builder.proofs.Kept.{acc_wide, coarse_wide, row_room, completed_inside, swept_room, rows_fit, tallies_fit}
use Rattle.builder.proofs.HandedRows.{length_coarse_filled, length_handed_on}

-- ---- a start

-- a decimation that is refused refuses the start
pub begin_barred : (g : Grid) (k nodata : ℕ) (lent : Lengths) (n : ℕ) → refused n ≡ decimation_new g k
    → refused n ≡ outcome (start_refusal g k lent) (first_builder g k nodata)
unfolding decimation_new start_refusal
begin_barred g k nodata lent n e = go (valid_grid g) (factor_refusal g k) _ _ _ e
  where
    go : (v : Bool) (f r : ℕ) (a : Decimation) (b : Builder) → refused n ≡ outcome (first (not v) not_its_makers f) a
        → refused n ≡ outcome (first (not v) not_its_makers (unless_refused f r f)) b
    go false f r a b e = ap refused (let z : n ≡ not_its_makers = cc in z)
    go true zero r a b e = never e
    go true (suc f) r a b e = ap refused (let z : n ≡ suc f = cc in z)

-- with a decimation, by what the lengths give
module _ (g : Grid) (k nodata : ℕ) (lent : Lengths) (d : Decimation) (e : answered d ≡ decimation_new g k) where
  made : Made g k d
  made = decimation_made g k d (sym e)

  number : lent_refusal d lent passed ≡ start_refusal g k lent
  number = ap (λ (x : Decimation). lent_refusal x lent passed) made.is ∙ sym (start_goes_on g k lent made.source made.factored)

  pub begin_refused : (r : Refusal) → number_of r ≡ lent_refusal d lent passed
      → refused (number_of r) ≡ outcome (start_refusal g k lent) (first_builder g k nodata)
  begin_refused r n = refused_as r (start_refusal g k lent) (first_builder g k nodata) (n ∙ number)

  pub begun : passed ≡ lent_refusal d lent passed
      → answered (record { decimation = d; nodata = nodata; rows = 0; digest = first_digest; tallies = no_tallies })
      ≡ outcome (start_refusal g k lent) (first_builder g k nodata)
  unfolding first_builder
  begun n = rw (← number, ← n, ← made.is)

pub made_valid : (g : Grid) (k : ℕ) (d : Decimation) → answered d ≡ decimation_new g k → valid_decimation d ≡ true
made_valid g k d e = (decimation_made g k d (sym e)).valid

-- what a refused call leaves
pub left_refused : {A B : Type 0} (n m : ℕ) (a : B) (x y : A) → refused m ≡ outcome n a → y ≡ unless_refused n x y
left_refused zero m a x y e = never e
left_refused (suc n) m a x y e = refl

-- ---- a row that its checks pass

module _ (b : Builder) (row : List ℕ) (m : Buffers) (e : passed ≡ row_refusal b (length row) (lengths_of m)) where
  own : Taken b row m
  own = row_passed b row m (sym e)

  pub row_next : b.rows + 1 ≤ limit
  row_next = rows_fit b row m own

  -- what is left of it has room for the row handed on
  pub room_left : (left : List Float) → left ≡ acc_after (sanitised_row b.nodata row) m.acc m.corr
      → Room b.decimation (length left) (length m.coarse) (length m.table) × (b.rows < b.decimation.source.height)
  room_left left is = (swept_room b row m own left is, own.left)

  pub row_taken : (row' : List ℕ) (acc corr coarse table : List Float) (more t : CellTallies) (digest : ℕ)
      → more ≡ row_tallies b.nodata row
      → row' ≡ sanitised_row b.nodata row
      → t ≡ held_tallies (plus_tallies b.tallies more)
      → digest ≡ digest_of b.digest (sanitised_row b.nodata row)
      → acc ≡ acc_after (sanitised_row b.nodata row) m.acc m.corr
      → corr ≡ corr_after (sanitised_row b.nodata row) m.acc m.corr
      → coarse ≡ coarse_after b acc m.coarse
      → table ≡ table_after b acc m.coarse m.table
      → (answered (record { decimation = b.decimation; nodata = b.nodata; rows = b.rows + 1; digest = digest; tallies = t }) ≡ (row_call b row m).answer)
      × (row' ≡ row_left b row m)
      × (buffers acc corr coarse table ≡ (row_call b row m).buffers)
  unfolding row_call row_left builder_after buffers_after
  row_taken row' acc corr coarse table more t digest em er et ed ea ec eo eb =
      let fit = tallies_fit b row m own in
      rw (← e, eb, eo, ec, ea, ed, et, em, er, fit, add-one b.rows) (refl, refl, refl)

-- ---- the row handed on

module _ (b : Builder) (acc coarse table : List Float) where
  completed : (b.rows + 1) % b.decimation.factor ≡ 0 → eqb (suc b.rows % b.decimation.factor) 0 ≡ true
  completed d = eq-eqb _ 0 (rw (add-one b.rows) at d)

  pub coarse_handed : (coarse' : List Float) → (b.rows + 1) % b.decimation.factor ≡ 0
      → coarse' ≡ coarse_filled acc coarse b.decimation.factor → coarse' ≡ coarse_after b acc coarse
  unfolding coarse_after
  coarse_handed coarse' d e = rw (completed d) e

  pub table_handed : (coarse' row table' : List Float) → (b.rows + 1) % b.decimation.factor ≡ 0
      → coarse' ≡ coarse_filled acc coarse b.decimation.factor
      → row ≡ handed_on acc coarse' b.decimation.factor (b.decimation.grid.width + 1)
      → table' ≡ laid_row b.decimation.grid.width table ((b.rows + 1) / b.decimation.factor) row
      → table' ≡ table_after b acc coarse table
  unfolding table_after
  table_handed coarse' row table' d eo er et = rw (completed d, et, er, eo, add-one b.rows, add-one b.decimation.grid.width)

  -- the row has a place in the table
  pub row_placed : (coarse' row : List Float) → Room b.decimation (length acc) (length coarse) (length table) → b.rows < b.decimation.source.height
      → coarse' ≡ coarse_filled acc coarse b.decimation.factor
      → row ≡ handed_on acc coarse' b.decimation.factor (b.decimation.grid.width + 1)
      → RowRoom b.decimation.grid ((b.rows + 1) / b.decimation.factor) (length row) (length table)
  row_placed coarse' row r l eo er =
      let d = b.decimation in
      let filled = ap length eo ∙ length_coarse_filled acc coarse d.factor in
      let full : length row ≡ suc d.grid.width = ap length er
      ∙ rw (add-one d.grid.width) (length_handed_on _ _ _ _ (acc_wide d _ _ _ r) (rw filled (coarse_wide d _ _ _ r))) in
      row_room d _ _ _ r _ _ (rw (add-one b.rows) (completed_inside d b.rows (framed d r.valid) l)) full

  not_completed : ((b.rows + 1) % b.decimation.factor ≡ 0 → ⊥) → eqb (suc b.rows % b.decimation.factor) 0 ≡ false
  not_completed h = ne_eqb _ 0 (rw (add-one b.rows) at h)

  pub coarse_left : ((b.rows + 1) % b.decimation.factor ≡ 0 → ⊥) → coarse ≡ coarse_after b acc coarse
  unfolding coarse_after
  coarse_left h = rw (not_completed h)

  pub table_left : ((b.rows + 1) % b.decimation.factor ≡ 0 → ⊥) → table ≡ table_after b acc coarse table
  unfolding table_after
  table_left h = rw (not_completed h)

  -- both together
  pub handed_on_lem : (coarse' row table' : List Float) → (b.rows + 1) % b.decimation.factor ≡ 0
      → coarse' ≡ coarse_filled acc coarse b.decimation.factor
      → row ≡ handed_on acc coarse' b.decimation.factor (b.decimation.grid.width + 1)
      → table' ≡ laid_row b.decimation.grid.width table ((b.rows + 1) / b.decimation.factor) row
      → (coarse' ≡ coarse_after b acc coarse) × (table' ≡ table_after b acc coarse table)
  handed_on_lem coarse' row table' d eo er et = (coarse_handed coarse' d eo, table_handed coarse' row table' d eo er et)

  pub not_handed_on : ((b.rows + 1) % b.decimation.factor ≡ 0 → ⊥) → (coarse ≡ coarse_after b acc coarse) × (table ≡ table_after b acc coarse table)
  not_handed_on h = (coarse_left h, table_left h)

-- o being what the lengths give
module _ (g : Grid) (k nodata : ℕ) (m : Buffers) (o : Outcome Builder)
    (e : o ≡ outcome (start_refusal g k (lengths_of m)) (first_builder g k nodata)) where
  pub start_refused : (n : ℕ) → o ≡ refused n → (o ≡ (start_call g k nodata m).answer) × (m ≡ (start_call g k nodata m).buffers)
  unfolding start_call
  start_refused n r = (e, sym (left_alone (start_refusal g k (lengths_of m)) _ m (λ z. never (rw z at (sym r ∙ e)))))

  module _ (b : Builder) (a : o ≡ answered b) where
    is : (start_refusal g k (lengths_of m) ≡ 0) × (first_builder g k nodata ≡ b)
    is = answered_passed (start_refusal g k (lengths_of m)) (first_builder g k nodata) b (sym e ∙ a)

    pub started : (acc corr table : List Float)
        → acc ≡ replicate (length m.acc) f64zero
        → corr ≡ replicate (length m.corr) f64zero
        → table ≡ cleared_table b.decimation.grid.width b.decimation.grid.height m.table
        → (answered b ≡ (start_call g k nodata m).answer) × (buffers acc corr m.coarse table ≡ (start_call g k nodata m).buffers)
    unfolding start_call first_builder cleared_buffers
    started acc corr table ea ec et =
        let own = ap (λ (x : Builder). x.decimation.grid) is.1 in
        (sym a ∙ e, rw (is.0, own, et, ea, ec))

-- n being the number that a row's checks give
module _ (b : Builder) (row : List ℕ) (m : Buffers) (n : ℕ) (e : n ≡ row_refusal b (length row) (lengths_of m)) where
  pub row_refused : (n ≡ 0 → ⊥) → (refused n ≡ (row_call b row m).answer) × (row ≡ row_left b row m) × (m ≡ (row_call b row m).buffers)
  unfolding row_call row_left
  row_refused h =
      rw (← e) (refused_by n (builder_after b row) h, sym (left_alone n (sanitised_row b.nodata row) row h), sym (left_alone n (buffers_after b row m) m h))
