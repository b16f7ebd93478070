-- What a grid that has passed gives, and what an accepted header does.
use Rattle.std.specs.Prelude.{List, ◌≡◌, true, ℕ, ◌+◌, ◌*◌, ◌≤◌, length}
use Rattle.refusal.specs.Refusal.{answered}
use Rattle.sections.specs.Sections.{sections_apart}
use Rattle.grid.specs.declared.Grid.{Grid}
use Rattle.layout.specs.Place.{payload_length}
use Rattle.decimation.specs.Decimation.{decimation_new}
use Rattle.card.specs.declared.Header.{Header}
use Rattle.card.specs.Card.{row_bytes, circle_bytes}

-- at most 2 ^ 20 columns and 2 ^ 20 rows, so that no byte's offset wraps
abbrev pub FewCells : Grid → Type 0
FewCells g = g.width * g.height ≤ 1099511627776

-- its card, its source table and its sections have their sizes, its sections are apart, and its decimation was made
pub record Accepted (card : List ℕ) (h : Header) : Type 0 where
  pub whole : length card ≤ 65536
  pub small : payload_length h.decimation.source.width h.decimation.source.height ≤ 8192
  pub rows : h.rows_at + 4 * (h.decimation.source.width * h.decimation.source.height) ≤ length card
  pub circles : h.circles_at + 16 * h.circles ≤ length card
  pub apart : sections_apart (row_bytes h) (circle_bytes h) ≡ true
  pub made : decimation_new h.decimation.source h.decimation.factor ≡ answered h.decimation
