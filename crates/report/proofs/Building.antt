-- The build of an accepted card: no call of the builder is refused, and each leaves what `built_from` has. Assumes nothing.
use mathlib.Core.Path.{◌≡◌, refl, sym, subst, ap, ◌∙◌}
use mathlib.Core.Bool.{true}
use mathlib.Core.List.{List}
use Prim.Native.Nat.{ℕ, zero, suc, ◌+◌, ◌*◌, ◌≤◌, ◌<◌}
use native.Mathlib.Numerals.{add-one}
use native.Mathlib.Omega.{arith}
use lib.ListN.{length, length-replicate}
use Rattle.refusal.specs.Refusal.{answered, refused, passed}
use Rattle.refusal.proofs.Chains.{never, answered_same}
use Rattle.raster.specs.Raster.{cells_of}
use Rattle.grid.specs.declared.Grid.{Grid}
use Rattle.layout.specs.Place.{payload_length}
use Rattle.decimation.specs.declared.Decimation.{Decimation}
use Rattle.decimation.specs.Decimation.{coarse_grid, decimation_of}
use Rattle.builder.specs.declared.Builder.{Builder}
use Rattle.builder.specs.Build.{Buffers, lengths_of, valid_builder, first_builder, cleared_buffers, start_refusal, start_call}
use Rattle.builder.specs.Build.{row_call, builder_after, buffers_after, finish_call}
use Rattle.builder.specs.private.Room.{Sized}
use Rattle.builder.proofs.Builders.{standing, Taken, lent_goes_on, start_goes_on, row_passes, finish_passes, first_valid, next_valid}
use Rattle.builder.proofs.Kept.{sized_cleared, sized_after}
use Rattle.card.specs.declared.Header.{Header}
use Rattle.card.specs.Card.{row_at}
use Rattle.card.specs.private.Accepted.{Accepted}
use Rattle.report.specs.Printed.{empty_buffers, built_from}
use Rattle.report.specs.private.Steps.{whole_build, Finished}
use Rattle.card.proofs.Rows.{row_length_lem}
use Rattle.report.proofs.Sizes.{made}

-- ---- the buffers that a build begins with

pub empty_sized : (d : Decimation) → Sized d (lengths_of (empty_buffers d))
unfolding empty_buffers
empty_sized d = record { acc = length-replicate _ _; corr = length-replicate _ _; coarse = length-replicate _ _; table = length-replicate _ _ }

-- ---- builder and buffers after n rows

-- as so many rows leave them
pub record BuiltRows (card : List ℕ) (h : Header) (n : ℕ) (b : Builder) (m : Buffers) : Type 0 where
  pub builder : b ≡ (built_from card h n).builder
  pub lent : m ≡ (built_from card h n).lent

record Going (d : Decimation) (n : ℕ) (b : Builder) (m : Buffers) : Type 0 where
  decimation : b.decimation ≡ d
  rows : b.rows ≡ n
  valid : valid_builder b ≡ true
  lengths : Sized b.decimation (lengths_of m)

module _ {card : List ℕ} {h : Header} (a : Accepted card h) where
  abbrev d : Decimation
  d = h.decimation

  begun : Going d 0 (built_from card h 0).builder (built_from card h 0).lent
  unfolding first_builder
  begun =
      let p = made a in
      let m = cleared_buffers d.grid (empty_buffers d) in
      record {
        decimation = sym p.is;
        rows = refl;
        valid = first_valid d.source d.factor h.nodata p.source p.factored;
        lengths = subst (λ (x : Decimation). Sized x (lengths_of m)) p.is (sized_cleared d (empty_buffers d) (empty_sized d));
      }

  module _ (n : ℕ) (b : Builder) (m : Buffers) (s : Going d n b m) (l : n < d.source.height) where
    taken : Taken b (row_at card h n) m
    taken = record { valid = s.valid; lengths = s.lengths; left = rw (s.rows, s.decimation) l; size = rw s.decimation (row_length_lem card h n) }

    onward : Going d (suc n) (builder_after b (row_at card h n)) (buffers_after b (row_at card h n) m)
    unfolding builder_after
    onward =
        record {
          decimation = s.decimation;
          rows = ap suc s.rows;
          valid = next_valid b (row_at card h n) m taken;
          lengths = sized_after b (row_at card h n) m taken;
        }

  going : (n : ℕ) → n ≤ d.source.height → Going d n (built_from card h n).builder (built_from card h n).lent
  going zero l = begun
  going (suc n) l = onward n (built_from card h n).builder (built_from card h n).lent (going n (omega arith)) (omega arith)

  -- ---- a start on buffers of zeros

  pub starts : start_refusal d.source d.factor (lengths_of (empty_buffers d)) ≡ 0
  starts =
      let p = made a in
      let lent = lengths_of (empty_buffers d) in
      start_goes_on d.source d.factor lent p.source p.factored
      ∙ lent_goes_on (decimation_of d.source d.factor) lent passed (subst (λ (x : Decimation). Sized x lent) p.is (empty_sized d))

  pub never_refused : {A : Type 0} {m : Buffers} {n : ℕ} → m ≡ empty_buffers d → refused n ≡ (start_call d.source d.factor h.nodata m).answer → A
  unfolding start_call
  never_refused e p = never (rw (e, starts) at p)

  pub started : {m left : Buffers} {b : Builder} → m ≡ empty_buffers d → answered b ≡ (start_call d.source d.factor h.nodata m).answer
      → left ≡ (start_call d.source d.factor h.nodata m).buffers → BuiltRows card h 0 b left
  unfolding start_call
  started e p q =
      let grid : coarse_grid d.source d.factor ≡ d.grid = ap (λ (x : Decimation). x.grid) (sym (made a).is) in
      let cleared = rw (e, starts) at q ∙ ap (λ (x : Grid). cleared_buffers x (empty_buffers d)) grid in
      record { builder = answered_same (rw (e, starts) at p); lent = cleared }

  -- ---- a row call

  called : (n : ℕ) {b : Builder} {m : Buffers} {row : List ℕ} → b ≡ (built_from card h n).builder → m ≡ (built_from card h n).lent
      → n < d.source.height → row ≡ row_at card h n
      → ((row_call b row m).answer ≡ answered (built_from card h (n + 1)).builder) × ((row_call b row m).buffers ≡ (built_from card h (n + 1)).lent)
  unfolding row_call
  called n p q l e =
      let b₀ = (built_from card h n).builder in
      let m₀ = (built_from card h n).lent in
      let passes = row_passes b₀ (row_at card h n) m₀ (taken n b₀ m₀ (going n (omega arith)) l) in
      rw (add-one, p, q, e, passes) (refl, refl)

  module _ {n : ℕ} {b : Builder} {m : Buffers} {row : List ℕ} (s : BuiltRows card h n b m) (l : n < d.source.height) (r : row ≡ row_at card h n) where
    pub row_taken : {next : Builder} {left : Buffers} → answered next ≡ (row_call b row m).answer → left ≡ (row_call b row m).buffers
        → BuiltRows card h (n + 1) next left
    row_taken p q = let call = called n s.builder s.lent l r in record { builder = answered_same (p ∙ call.0); lent = q ∙ call.1 }

    pub row_never_refused : {A : Type 0} {k : ℕ} → refused k ≡ (row_call b row m).answer → A
    row_never_refused p = never (p ∙ (called n s.builder s.lent l r).0)

  -- ---- with every row in

  whole : Going d d.source.height (whole_build card h).builder (whole_build card h).lent
  whole = going d.source.height (omega arith)

  -- a finish
  pub finished : {b : Builder} {m : Buffers} → BuiltRows card h d.source.height b m → Finished card h (finish_call b m) m.table
  unfolding finish_call
  finished s =
      let b₀ = (whole_build card h).builder in
      let m₀ = (whole_build card h).lent in
      let passes = finish_passes b₀ m₀ (record { valid = whole.valid; lengths = whole.lengths; rows = rw (whole.rows, whole.decimation) }) in
      record { table = rw (s.builder, s.lent, passes); filled = ap (λ (x : Buffers). x.table) s.lent }

  -- the table that the rows leave
  pub table_filled : length (whole_build card h).lent.table ≡ payload_length d.grid.width d.grid.height
  table_filled = (subst (λ (x : Decimation). Sized x (lengths_of (whole_build card h).lent)) whole.decimation whole.lengths).table

  -- each cell of the rows is tallied once
  pub all_tallied : cells_of (whole_build card h).builder.tallies ≡ d.source.height * d.source.width
  all_tallied = rw (whole.rows, whole.decimation) at (standing (whole_build card h).builder whole.valid).tallied
