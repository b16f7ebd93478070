-- A sanitised cell is finite, not negative, and +0.0 unless populated (document 02, C-12). Assumes nothing.
use mathlib.Core.Path.{◌≡◌, refl, sym}
use mathlib.Core.Bool.{Bool, true, false, cond, false≢true}
use mathlib.Core.Logic.{◌⊎◌, inl, inr}
use Prim.Native.Nat.{ℕ, zero, suc, ◌*◌, ◌<◌}
use native.Mathlib.Nat.{zero-mul}
use native.Mathlib.Omega.{arith}
use borrow.Author.Tests.{le-ltb, ltb-true}
use lib.Dec.{T, eqb, lt→ltb}
use lib.Ieee.{Float, nan, inf, fin, lt, eq, of_bits, up, down}
use lib.Ieee.Positive.{positive, positive-finite}
use lib.Ieee.Scale.{finite}
use Rattle.float.specs.Float.{f64zero}
use Rattle.raster.specs.declared.CellKind.{CellKind}
use Rattle.raster.specs.declared.CellKind.TheVariants.{Nodata, Negative, Zero, Populated, Unbounded}
use Rattle.raster.specs.Raster.{cell_value, kind_of, kept_as, sanitised}

-- a number above 0, other than +infinity, is finite and above zero
above : (x : Float) → eq x (inf false) ≡ false → lt f64zero x ≡ true → T (positive x)
unfolding eq lt of_bits
above nan n e = absurd (false≢true e)
above (inf true) n e = absurd (false≢true e)
above (inf false) n e = absurd (false≢true (sym n))
above (fin true m d) n e = absurd (false≢true e)
above (fin false zero d) n e =
    let h : 0 * 1 * down d < 0 * up d * 1 = ltb-true _ _ e in
    absurd (omega (arith, zero-mul (up d)))
above (fin false (suc m) d) n e = lt→ltb 0 (suc m) (omega arith)

-- and not below it
positive_not_negative : (x : Float) → T (positive x) → lt x f64zero ≡ false
unfolding lt of_bits
positive_not_negative nan p = absurd p
positive_not_negative (inf s) p = absurd p
positive_not_negative (fin true m e) p = absurd p
positive_not_negative (fin false m e) p = le-ltb (m * up e * 1) (0 * 1 * down e) (omega (arith, zero-mul (down e)))

-- a cell of kind k that stays as it was lent
pub record Kept (k : CellKind) (b : ℕ) : Type 0 where
  pub populated : k ≡ Populated
  pub above : T (positive (cell_value b))
  pub same : kept_as k b ≡ b

module _ (nodata b : ℕ) where
  -- any other becomes +0.0
  pub sanitised_is : (sanitised nodata b ≡ 0) ⊎ Kept (kind_of nodata b) b
  unfolding kind_of
  sanitised_is = go (eqb b nodata) (eq (cell_value b) (inf false)) (lt (cell_value b) f64zero) (lt f64zero (cell_value b)) refl refl
    where
      kind : Bool → Bool → Bool → Bool → CellKind
      kind p q r s = cond p Nodata (cond q Unbounded (cond r Negative (cond s Populated Zero)))

      go : (p q r s : Bool) → eq (cell_value b) (inf false) ≡ q → lt f64zero (cell_value b) ≡ s → (kept_as (kind p q r s) b ≡ 0) ⊎ Kept (kind p q r s) b
      go true q r s n e = inl refl
      go false true r s n e = inl refl
      go false false true s n e = inl refl
      go false false false true n e = inr (record { populated = refl; above = above (cell_value b) n e; same = refl })
      go false false false false n e = inl refl

  pub sanitised_finite : T (finite (cell_value (sanitised nodata b)))
  unfolding of_bits
  sanitised_finite = go sanitised_is
    where
      go : (sanitised nodata b ≡ 0) ⊎ Kept (kind_of nodata b) b → T (finite (cell_value (sanitised nodata b)))
      go (inl z) = rw z tt
      go (inr k) = rw k.same (positive-finite (cell_value b) k.above)

  pub sanitised_not_negative : lt (cell_value (sanitised nodata b)) f64zero ≡ false
  unfolding lt of_bits
  sanitised_not_negative = go sanitised_is
    where
      go : (sanitised nodata b ≡ 0) ⊎ Kept (kind_of nodata b) b → lt (cell_value (sanitised nodata b)) f64zero ≡ false
      go (inl z) = rw z refl
      go (inr k) = rw k.same (positive_not_negative (cell_value b) k.above)

  pub sanitised_zero : (kind_of nodata b ≡ Populated → ⊥) → sanitised nodata b ≡ 0
  sanitised_zero n = go sanitised_is
    where
      go : (sanitised nodata b ≡ 0) ⊎ Kept (kind_of nodata b) b → sanitised nodata b ≡ 0
      go (inl z) = z
      go (inr k) = absurd (n k.populated)
