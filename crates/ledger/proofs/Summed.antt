-- Accumulator, corrections and table hold units of the cells so far; a start brings it about, and a row keeps it so. Assumes nothing.
use Prim.Native.Nat.{ℕ, suc, ◌+◌, ◌*◌, ◌/◌, ◌%◌, ◌^◌, ◌≤◌}
use native.Mathlib.Nat.{le_trans, mul-le-mul_right, div-mul-le_self, div-add-mod', zero-mul, zero-div, eq-or-lt_of_le}
use native.Mathlib.Decide.{ℕ_discrete}
use native.Mathlib.Omega.{arith}
use mathlib.Core.Path.{◌≡◌, sym, ap, ◌∙◌}
use mathlib.Core.Logic.{inl, inr}
use mathlib.Core.List.{List, [], ◌∷◌, ◌++◌, map}
use lib.ListN.{length, get_or, take, replicate}
use lib.Ieee.{Float, nan}
use Rattle.float.specs.Float.{f64zero}
use Rattle.raster.specs.Raster.{sanitised_row}
use Rattle.exact.specs.Units.{f64units}
use Rattle.exact.proofs.Units.{units_zero}
use Rattle.builder.specs.declared.Builder.{Builder}
use Rattle.layout.specs.Place.{corner}
use Rattle.decimation.specs.declared.Decimation.{Decimation}
use Rattle.sweep.specs.Sweep.{acc_after, corr_after}
use Rattle.builder.specs.private.Room.{Sized}
use Rattle.builder.specs.Build.{Buffers, lengths_of, cleared_buffers, completed_row, buffers_after}
use Rattle.decimation.proofs.Factors.{Framed}
use Rattle.builder.proofs.Builders.{builder_framed, Taken}
use Rattle.builder.proofs.Kept.{length_cells}
use Rattle.area.specs.Area.{sum_to, cell_in, sum_of}
use Rattle.area.proofs.Asked.{prefix, table_of}
use Rattle.area.proofs.Rectangle.{prefix_mono_col}
use Rattle.area.proofs.Rows.{prefix_front, prefix_after, length_snoc}
use Rattle.area.proofs.Divide.{div_suc_same, div_suc_next}
use Rattle.ledger.specs.Ledger.{Every}
use Rattle.ledger.proofs.Cells.{people, IsPeople}
use Rattle.ledger.proofs.Sweep.{columns, get_or_listed, listed_ext, listed_same, row_swept}
use Rattle.ledger.proofs.OfTable.{first_row_lem, table_kept, row_completed, others_stay}

-- P are the people of the rows so far, of w * k columns; the table has the rows that are complete, one for every k source rows, and row 0
pub record Summed (s k w : ℕ) (P : List (List ℕ)) (m : Buffers) : Type 0 where
  pub acc : m.acc ≡ columns s (w * k) (λ j. prefix (cell_in P) (length P) j)
  pub corr : m.corr ≡ columns s (w * k) (λ _. 0)
  pub table : (r c : ℕ) → r ≤ length P / k → c ≤ w → corner w m.table r c ≡ f64units s (table_of k (cell_in P) r c)

-- ---- at first

pub summed_start : (s : ℕ) (d : Decimation) (m : Buffers) → d.grid.width * d.factor ≡ d.source.width → Sized d (lengths_of m)
    → Summed s d.factor d.grid.width [] (cleared_buffers d.grid m)
unfolding cleared_buffers prefix sum_to
summed_start s d m wide l = record {
  acc = zeros (length m.acc) l.acc;
  corr = zeros (length m.corr) l.corr;
  table = λ i j a b. let first : i ≡ 0 = omega (arith, zero-div d.factor) in rw (first, zero-mul d.factor) (first_row_lem d m l j b ∙ sym (units_zero s));
}
  where
    zeros : (n : ℕ) → n ≡ suc d.source.width → replicate n f64zero ≡ columns s (d.grid.width * d.factor) (λ _. 0)
    zeros n e = rw (e, ← wide, ← units_zero s) (listed_same (suc (d.grid.width * d.factor)) (f64units s 0))

-- ---- a row that is taken in

module _ {s : ℕ} (S : s ≤ 1074) {b : Builder} {row : List ℕ} {m : Buffers} (t : Taken b row m) {P : List (List ℕ)} (rows : length P ≡ b.rows)
    (cells : Every (IsPeople s) (sanitised_row b.nodata row)) (h : Summed s b.decimation.factor b.decimation.grid.width P m) where
  abbrev k : ℕ
  k = b.decimation.factor

  abbrev w : ℕ
  w = b.decimation.grid.width

  abbrev xs : List ℕ
  xs = sanitised_row b.nodata row

  -- the people of the new row, and of all
  abbrev R : List ℕ
  R = map (people s) xs

  abbrev P' : List (List ℕ)
  P' = P ++ R ∷ []

  framed : Framed b.decimation
  framed = builder_framed b t.valid

  module _ (small : prefix (cell_in P') (suc (length P)) b.decimation.source.width ≤ 2 ^ 53) where
    now : (acc_after xs m.acc m.corr ≡ columns s (w * k) (λ j. prefix (cell_in P') (length P') j))
        × (corr_after xs m.acc m.corr ≡ columns s (w * k) (λ _. 0))
    now =
        let sized : length xs ≡ w * k = length_cells b row m t ∙ sym framed.wide in
        let bound : (j : ℕ) → j ≤ length xs → prefix (cell_in P) (length P) j + sum_of (take j R) ≤ 2 ^ 53 =
        λ j i. rw (← prefix_after P R j) (le_trans (prefix_mono_col (cell_in P') (suc (length P)) (omega (arith, sized, framed.wide))) small) in
        let q = row_swept s S xs (λ j. prefix (cell_in P) (length P) j) cells bound in
        rw (h.acc, h.corr, ← sized) (
          q.0
              ∙ listed_ext (suc (length xs)) _ _
              (λ j i. ap (f64units s) (sym (prefix_after P R j) ∙ ap (λ (n : ℕ). prefix (cell_in P') n j) (sym (length_snoc P R)))),
          q.1,
        )

    -- the complete rows stay
    kept : (i j : ℕ) → i ≤ b.rows / k → j ≤ w → corner w m.table i j ≡ f64units s (table_of k (cell_in P') i j)
    kept i j a e =
        h.table i j (rw rows a) e
        ∙ ap (f64units s) (sym (prefix_front P (R ∷ []) (i * k) (j * k) (le_trans (mul-le-mul_right k a) (rw rows (div-mul-le_self b.rows k)))))

    -- and the one that the row completes is every k-th cell of the accumulator
    new : suc b.rows % k ≡ 0 → (j : ℕ) → j ≤ w
        → corner w (buffers_after b row m).table (completed_row b) j ≡ f64units s (table_of k (cell_in P') (completed_row b) j)
    unfolding buffers_after
    new q j a =
        let count : length P' ≡ completed_row b * k = length_snoc P R ∙ omega (arith, rows, div-add-mod' (suc b.rows) k) in
        row_completed t q j a
        ∙ ap (λ (y : List Float). get_or y (j * k) nan) now.0
        ∙ get_or_listed (suc (w * k)) (λ i. f64units s (prefix (cell_in P') (length P') i)) (j * k) (omega (arith, mul-le-mul_right k a))
        ∙ ap (λ (x : ℕ). f64units s (prefix (cell_in P') x (j * k))) count

    table_row : (i j : ℕ) → i ≤ completed_row b → j ≤ w → corner w (buffers_after b row m).table i j ≡ f64units s (table_of k (cell_in P') i j)
    table_row i j a e = elim (ℕ_discrete (suc b.rows % k) 0) [
      | no q ↦ rw (table_kept t q) (kept i j (rw (div_suc_same b.rows k framed.some q) at a) e)
      | yes q ↦ elim (eq-or-lt_of_le a) [
        | inl z ↦ rw z (new q j e)
        | inr z ↦ others_stay t q i j (λ y. omega arith) e ∙ kept i j (omega (arith, div_suc_next b.rows k framed.some q)) e
      ]
    ]

    pub summed_row : Summed s b.decimation.factor b.decimation.grid.width (P ++ map (people s) (sanitised_row b.nodata row) ∷ [])
        (buffers_after b row m)
    unfolding buffers_after
    summed_row = record { acc = now.0; corr = now.1; table = rw (length_snoc P R, rows) table_row }
