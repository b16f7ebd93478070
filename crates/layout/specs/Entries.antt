-- A list by its entries.
use Rattle.std.specs.Prelude.{List, [], ◌∷◌, ℕ, zero, suc, Float}

abbrev pub entries_from : (ℕ → Float) → ℕ → ℕ → List Float
entries_from f i zero = []
entries_from f i (suc n) = f i ∷ entries_from f (suc i) n

-- the list of f 0 to f (n − 1)
unfoldable pub entries : ℕ → (ℕ → Float) → List Float
entries n f = entries_from f 0 n
