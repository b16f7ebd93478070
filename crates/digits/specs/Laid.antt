-- A text laid over a lent slice from an offset on: what lies past the slice's end is dropped while the offset goes on.
use Rattle.std.specs.Prelude.{◌≡◌, ℕ, ◌+◌, ◌≤◌, min, List, length}
use Rattle.std.specs.Borrow.{MutBor}
use Rattle.std.proofs.lemmas.List.Edits.{sets}
use Rattle.digits.specs.declared.Page.{Page}

-- `text` was laid over `before` from the offset `at` on, byte by byte, which left `after`; `end` is the offset behind it, or
-- 2 ^ 64 - 1, the last that there is. No slice is longer than that.
pub record Laid (before : List ℕ) (at : ℕ) (text : List ℕ) (after : List ℕ) (end : ℕ) : Type 0 where
  pub left : after ≡ sets before at text
  pub next : end ≡ min (at + length text) 18446744073709551615
  pub room : length before ≤ 18446744073709551615

-- `text` was laid over the page's slice at its place, which left the page as `after`, over the same slice
pub record Lays (before : Page) (text : List ℕ) (after : Page) : Type 0 where
  pub same : after.out.ghost_name ≡ before.out.ghost_name
  pub laid : Laid before.out.now before.at text after.out.now after.at

-- the page lies over the slice that was lent, and begins at the offset
pub record Begins (lent : MutBor (List ℕ)) (at : ℕ) (page : Page) : Type 0 where
  pub same : page.out.ghost_name ≡ lent.ghost_name
  pub now : page.out.now ≡ lent.now
  pub place : page.at ≡ at
