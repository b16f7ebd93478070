-- Over a cap's own terms, each test by what is shared is the cap's. Assumes nothing.
use mathlib.Core.Path.{◌≡◌, refl}
use Rattle.geodesy.specs.Sphere.{haversine, distance_rad}
use Rattle.cap.specs.Cap.{contained, reached, edge_ratio, edge_columns, estimated, half_width}
use Rattle.cap.specs.Terms.{lon_term, cap_terms, row_terms, within_angle, contained_by, reached_by, edge_ratio_by, edge_columns_by, estimated_by, half_width_by}
use Rattle.cap.specs.declared.Cap.{Cap}

module _ (cap : Cap) where
  pub reached_same : reached_by (cap_terms cap) ≡ reached cap
  unfolding reached_by within_angle row_terms cap_terms lon_term reached contained distance_rad haversine
  reached_same = refl

  pub half_width_same : half_width_by (cap_terms cap) ≡ half_width cap
  unfolding half_width_by half_width contained_by within_angle estimated_by edge_ratio_by edge_columns_by row_terms cap_terms lon_term contained distance_rad haversine
      estimated edge_ratio edge_columns
  half_width_same = refl
