-- Document 01, 'Kernel and circle' (`Cap` of kernel.rs): a spherical cap, what it contains, and the half-width of a row.
use Rattle.std.specs.Prelude.{Bool, false, cond, ◌||◌, ℕ, ◌/◌, min, Float}
use Rattle.std.specs.Float.{binary64}
use Rattle.std.specs.Float.Ieee.{sub, mul, div, neg, le, eq, is_nan, to_unsigned}
use Rattle.float.specs.Float.{f64zero, f64one, f64of, magnitude}
use Rattle.stand_ins.specs.StandIns.{sin_of, cos_of, acos_of, to_radians, to_degrees}
use Rattle.geodesy.specs.Sphere.{distance_rad}
use Rattle.geodesy.specs.declared.LatLon.{LatLon}
use Rattle.cap.specs.declared.Cap.{Cap}
use Rattle.cap.specs.Walks.{walked}

-- closing is width / 2, floored
abbrev pub closing : ℕ → ℕ
closing width = width / 2

-- `contains`: the distance from the centre to the cell so many columns along the row at lat is at most the angle; an angle of 0 contains nothing
unfoldable pub contained : Cap → Float → ℕ → Bool
contained cap lat cells =
    let centre : LatLon = record { lat = cap.centre_lat; lon = f64zero } in
    let along : LatLon = record { lat = lat; lon = mul binary64 (f64of cells) cap.lon_step } in
    cond (eq cap.angle_rad f64zero) false (le (distance_rad centre along) cap.angle_rad)

-- `reaches`: the cell on the cap's own meridian is in
unfoldable pub reached : Cap → Float → Bool
reached cap lat = contained cap lat 0

-- the cosine of the longitude at which the cap's edge crosses the row: (cos θ − sin φ₀ sin φ) / (cos φ₀ cos φ)
unfoldable pub edge_ratio : Cap → Float → Float
edge_ratio cap lat =
    let φ₀ = to_radians cap.centre_lat in
    let φ = to_radians lat in
    div binary64 (sub binary64 (cos_of cap.angle_rad) (mul binary64 (sin_of φ₀) (sin_of φ))) (mul binary64 (cos_of φ₀) (cos_of φ))

-- the arccosine of the ratio, in columns
unfoldable pub edge_columns : Cap → Float → Float
edge_columns cap ratio = div binary64 (to_degrees (acos_of ratio)) (magnitude cap.lon_step)

-- `estimate`: 0 at a ratio of 1 or more; closing at −1 or less and for a NaN ratio, before acos; else the whole columns, below closing
unfoldable pub estimated : Cap → Float → ℕ
estimated cap lat =
    let ratio = edge_ratio cap lat in
    let columns = edge_columns cap ratio in
    let close = closing cap.width in
    cond (le f64one ratio) 0
    (cond (le ratio (neg f64one) || is_nan ratio) close
    (cond (is_nan columns || le (f64of close) columns) close (to_unsigned 32 columns)))

-- the half-width h at which the walk from the estimate stops
unfoldable pub half_width : Cap → Float → ℕ
half_width cap lat = walked (contained cap lat) (closing cap.width) (min (estimated cap lat) (closing cap.width))
