-- What all rows of a cap share, and what all cells of a row share, worked out once. Over a cap's own terms each test here is the test of Cap.antt:
-- proofs/SameTests.antt.
use Rattle.std.specs.Prelude.{Bool, false, cond, ◌||◌, ℕ, min, Float}
use Rattle.std.specs.Float.{binary64}
use Rattle.std.specs.Float.Ieee.{add, sub, mul, div, neg, le, eq, is_nan, to_unsigned}
use Rattle.float.specs.Float.{f64zero, f64one, f64two, f64of, magnitude}
use Rattle.stand_ins.specs.StandIns.{sin_of, cos_of, acos_of, to_radians, to_degrees}
use Rattle.geodesy.specs.Sphere.{square, angle_of}
use Rattle.cap.specs.Walks.{walked}
use Rattle.cap.specs.Cap.{closing}
use Rattle.cap.specs.declared.Cap.{Cap}
use Rattle.cap.specs.declared.CapTerms.{CapTerms}
use Rattle.cap.specs.declared.RowTerms.{RowTerms}

-- sin² of half the longitude that so many columns span
unfoldable pub lon_term : Float → ℕ → Float
lon_term step cells = square (sin_of (div binary64 (to_radians (sub binary64 (mul binary64 (f64of cells) step) f64zero)) f64two))

-- what all rows of a cap share
unfoldable pub cap_terms : Cap → CapTerms
cap_terms cap =
    let φ₀ = to_radians cap.centre_lat in
    record {
      angle_rad = cap.angle_rad;
      lon_step = cap.lon_step;
      closing = closing cap.width;
      lat_rad = φ₀;
      lat_sine = sin_of φ₀;
      lat_cosine = cos_of φ₀;
      angle_cosine = cos_of cap.angle_rad;
      meridian_term = lon_term cap.lon_step 0;
    }

-- what all cells of the row at lat share: sin² of half the latitudes' difference, and the product of the cosines
unfoldable pub row_terms : CapTerms → Float → RowTerms
row_terms cap lat =
    let φ = to_radians lat in
    record {
      lat_rad = φ;
      lat_term = square (sin_of (div binary64 (sub binary64 φ cap.lat_rad) f64two));
      cosines = mul binary64 cap.lat_cosine (cos_of φ);
    }

-- the haversine's two terms, sin² of half the latitudes' and of half the longitudes' difference, give a distance of at most the angle
unfoldable pub within_angle : CapTerms → RowTerms → Float → Bool
within_angle cap row term =
    cond (eq cap.angle_rad f64zero) false
    (le (angle_of (add binary64 row.lat_term (mul binary64 row.cosines term))) cap.angle_rad)

-- `contained`, `reached`, `edge_ratio`, `estimated` and `half_width` by what is shared
unfoldable pub contained_by : CapTerms → RowTerms → ℕ → Bool
contained_by cap row cells = within_angle cap row (lon_term cap.lon_step cells)

unfoldable pub reached_by : CapTerms → Float → Bool
reached_by cap lat = within_angle cap (row_terms cap lat) cap.meridian_term

unfoldable pub edge_ratio_by : CapTerms → RowTerms → Float
edge_ratio_by cap row = div binary64 (sub binary64 cap.angle_cosine (mul binary64 cap.lat_sine (sin_of row.lat_rad))) row.cosines

unfoldable pub edge_columns_by : CapTerms → Float → Float
edge_columns_by cap ratio = div binary64 (to_degrees (acos_of ratio)) (magnitude cap.lon_step)

unfoldable pub estimated_by : CapTerms → RowTerms → ℕ
estimated_by cap row =
    let ratio = edge_ratio_by cap row in
    let columns = edge_columns_by cap ratio in
    cond (le f64one ratio) 0
    (cond (le ratio (neg f64one) || is_nan ratio) cap.closing
    (cond (is_nan columns || le (f64of cap.closing) columns) cap.closing (to_unsigned 32 columns)))

unfoldable pub half_width_by : CapTerms → Float → ℕ
half_width_by cap lat =
    let row = row_terms cap lat in
    walked (contained_by cap row) cap.closing (min (estimated_by cap row) cap.closing)
