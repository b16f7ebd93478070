-- The rows of a card. Assumes nothing.
use mathlib.Core.Path.{◌≡◌, refl, ap}
use mathlib.Core.List.{List}
use Prim.Native.Nat.{ℕ, zero, suc, ◌+◌, ◌*◌}
use lib.ListN.{length}
use Rattle.card.specs.Words.{words_at}
use Rattle.card.specs.Card.{row_at}
use Rattle.card.specs.declared.Header.{Header}

words_length : (card : List ℕ) (at n : ℕ) → length (words_at card at n) ≡ n
words_length card at zero = refl
words_length card at (suc n) = ap suc (words_length card (at + 4) n)

-- a row has width words
pub row_length_lem : (card : List ℕ) (h : Header) (i : ℕ) → length (row_at card h i) ≡ h.decimation.source.width
unfolding row_at
row_length_lem card h i = words_length card (h.rows_at + 4 * (i * h.decimation.source.width)) h.decimation.source.width
