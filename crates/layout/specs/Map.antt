-- Document 02, C-16: the full map, from row layout to blocks and from blocks to row layout.
use Rattle.std.specs.Prelude.{◌≡◌, false, not, cond, ◌&&◌, List, ℕ, suc, ◌*◌, ◌/◌, ◌%◌, ◌<◌, Float}
use Rattle.refusal.specs.Refusal.{Outcome, first, passed, outcome, unless_refused, not_its_makers, wrong_table_length}
use Rattle.float.specs.Float.{f64zero}
use Rattle.grid.specs.declared.Grid.{Grid}
use Rattle.grid.specs.Grid.{valid_grid}
use Rattle.layout.specs.Entries.{entries}
use Rattle.layout.specs.Place.{blocks_over, payload_length, corner, right_table, is_cell, in_blocks}
use Rattle.layout.specs.Rows.{row_length, row_corner, right_rows}

-- row layout to blocks, with +0.0 past the edge
unfoldable pub to_blocks : ℕ → ℕ → List Float → List Float
to_blocks width height rows =
    in_blocks width (payload_length width height) (λ r c. cond (is_cell width height r c) (row_corner width rows r c) f64zero)

-- blocks to row layout
unfoldable pub to_rows : ℕ → ℕ → List Float → List Float
to_rows width height blocks = entries (row_length width height) (λ q. corner width blocks (q / suc width) (q % suc width))

-- all that is past the edge is +0.0
abbrev pub EdgeZero : ℕ → ℕ → List Float → Type 0
EdgeZero width height blocks =
    (r c : ℕ) → r < blocks_over height * 8 → c < blocks_over width * 8 → is_cell width height r c ≡ false → corner width blocks r c ≡ f64zero

-- ---- the two calls: 22 for the grid, then 11 for either length

unfoldable pub map_refusal : Grid → List Float → List Float → ℕ
map_refusal g rows blocks = first (not (valid_grid g)) not_its_makers (first (not (right_rows g rows && right_table g blocks)) wrong_table_length passed)

-- what a call gives, and what it leaves in the buffer that it writes; the other is only read
pub record MapCall : Type 0 where
  pub answer : Outcome (Unit {0})
  pub written : List Float

unfoldable pub to_blocks_call : Grid → List Float → List Float → MapCall
to_blocks_call g rows blocks =
    let n = map_refusal g rows blocks in
    record { answer = outcome n tt; written = unless_refused n (to_blocks g.width g.height rows) blocks }

unfoldable pub to_rows_call : Grid → List Float → List Float → MapCall
to_rows_call g blocks rows =
    let n = map_refusal g rows blocks in
    record { answer = outcome n tt; written = unless_refused n (to_rows g.width g.height blocks) rows }
