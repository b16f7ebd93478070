-- The card's build is a counter that follows the ledger, row by row. Assumes nothing.
use Prim.Native.Nat.{ℕ, zero, suc, ◌≤◌, ◌<◌}
use native.Mathlib.Omega.{arith}
use mathlib.Core.Path.{◌≡◌, refl, ap, ◌∙◌}
use mathlib.Core.List.{List, [], ◌∷◌, ◌++◌}
use borrow.Author.Tests.{eq-eqb, ne_eqb}
use lib.ListN.{length}
use Rattle.grid.specs.declared.Grid.{Grid}
use Rattle.decimation.specs.declared.Decimation.{Decimation}
use Rattle.decimation.specs.Decimation.{coarse_grid}
use Rattle.decimation.proofs.Factors.{decimation_made}
use Rattle.builder.specs.Build.{start_call, first_builder}
use Rattle.builder.proofs.Builders.{Taken}
use Rattle.area.proofs.Rows.{length_snoc}
use Rattle.ledger.specs.Ledger.{Call, row, Ledger, opened, entered, ledger_refusal, ledger_step, ledger_after}
use Rattle.ledger.specs.Counter.{Counter}
use Rattle.ledger.proofs.Following.{builder_at, Follows, follows_start, follows_row}
use Rattle.card.specs.declared.Header.{Header}
use Rattle.card.specs.Card.{row_at}
use Rattle.card.specs.private.Accepted.{Accepted}
use Rattle.card.proofs.Rows.{row_length_lem}
use Rattle.report.specs.Printed.{empty_buffers, built_from}
use Rattle.report.proofs.Building.{starts}
use Rattle.display.specs.Display.{row_calls, ledger_of}

-- ---- the ledger, one call more

after_one_more : (g : Grid) (nodata : ℕ) (l : Ledger) (calls : List Call) (call : Call)
    → ledger_after g nodata l (calls ++ call ∷ []) ≡ ledger_step g nodata (ledger_after g nodata l calls) call
after_one_more g nodata l [] call = refl
after_one_more g nodata l (c ∷ calls) call = after_one_more g nodata (ledger_step g nodata l c) calls call

-- a row that is the ledger's next goes in
enters : (g : Grid) (nodata : ℕ) (l : Ledger) (r : List ℕ) → length l.cells < g.height → length r ≡ g.width
    → ledger_step g nodata l (row r) ≡ entered nodata l r
unfolding ledger_step ledger_refusal
enters g nodata l r left size = rw (ne_eqb (length l.cells) g.height (λ e. omega (arith, left)), eq-eqb (length r) g.width size)

module _ (card : List ℕ) (h : Header) (a : Accepted card h) where
  abbrev d : Decimation
  d = h.decimation

  abbrev g : Grid
  g = h.decimation.source

  abbrev k : ℕ
  k = h.decimation.factor

  -- builder and buffers after n rows, as a counter
  abbrev pub counter_of : ℕ → Counter
  counter_of n = record { builder = (built_from card h n).builder; lent = (built_from card h n).lent }

  -- the coarse grid is the source's at the factor
  pub own_grid : coarse_grid h.decimation.source h.decimation.factor ≡ h.decimation.grid
  own_grid = (decimation_made g k d a.made).grid

  first_row_lem : Follows g k h.nodata opened (counter_of 0)
  unfolding start_call
  first_row_lem = rw (starts a, own_grid) at (follows_start g k h.nodata (empty_buffers d) (first_builder g k h.nodata) (rw (starts a)))

  module _ (n : ℕ) (f : Follows g k h.nodata (ledger_of card h n) (counter_of n)) (all : length (ledger_of card h n).cells ≡ n) (left : n < g.height) where
    abbrev l : Ledger
    l = ledger_of card h n

    next : ledger_of card h (suc n) ≡ entered h.nodata l (row_at card h n)
    next =
        after_one_more g h.nodata opened (row_calls card h n) (row (row_at card h n))
        ∙ enters g h.nodata l (row_at card h n) (rw all left) (row_length_lem card h n)

    taken : Taken (builder_at g k h.nodata l) (row_at card h n) (counter_of n).lent
    taken = record { valid = f.valid; lengths = f.lengths; left = rw all left; size = row_length_lem card h n }

    follows_next : Follows g k h.nodata (ledger_of card h (suc n)) (counter_of (suc n))
    follows_next = rw next (follows_row f taken)

    one_more : length (ledger_of card h (suc n)).cells ≡ suc n
    one_more = rw next (length_snoc l.cells _ ∙ ap suc all)

  -- the counter follows the ledger, and n rows are in
  pub follows : (n : ℕ) → n ≤ h.decimation.source.height
      → Follows h.decimation.source h.decimation.factor h.nodata (ledger_of card h n) (counter_of n) × (length (ledger_of card h n).cells ≡ n)
  follows zero p = (first_row_lem, refl)
  follows (suc n) p =
      let before = follows n (omega arith) in
      (follows_next n before.0 before.1 (omega arith), one_more n before.0 before.1 (omega arith))
