-- The first n entries of a list, from i on, and the test of all of them. Assumes nothing.
use mathlib.Core.Path.{◌≡◌, refl}
use mathlib.Core.Bool.{true}
use mathlib.Core.List.{List, [], ◌∷◌}
use Prim.Native.Nat.{ℕ, zero, suc, ◌<◌, ◌≤◌}
use native.Mathlib.Omega.{arith}
use borrow.Author.Tests.{le-leb, leb-true}
use lib.Dec.{leb}
use lib.ListN.{length, take, drop, get_or, length-take, drop_of_length-le}
use lib.Seq.{drop-cons, get_or-take, length-take-le}
use Rattle.std.proofs.lemmas.Bool.{and_parts}
use Rattle.kernel.specs.Kernel.{all_within}

-- one of them, and those after it
pub entries_next : (n i : ℕ) (l : List ℕ) → i < n → n ≤ length l → drop i (take n l) ≡ get_or l i 0 ∷ drop (suc i) (take n l)
entries_next n i l h k =
    let room : i < length (take n l) = rw (length-take-le n l k) h in
    rw (drop-cons (take n l) i 0 room, get_or-take n l i 0 h)

pub entries_end : (n i : ℕ) (l : List ℕ) → n ≤ i → drop i (take n l) ≡ []
entries_end n i l h =
    let few : length (take n l) ≤ i = omega (arith, length-take n l) in
    drop_of_length-le (take n l) few

-- ---- the test, entry by entry

pub each_within : (most : ℕ) (l : List ℕ) (i : ℕ) → all_within most l ≡ true → i < length l → get_or l i 0 ≤ most
each_within most [] i e h = absurd (omega arith)
each_within most (x ∷ l) zero e h = leb-true x most (and_parts (leb x most) (all_within most l) e).0
each_within most (x ∷ l) (suc i) e h = each_within most l i (and_parts (leb x most) (all_within most l) e).1 (omega arith)

pub all_within_lem : (most : ℕ) (l : List ℕ) → ((i : ℕ) → i < length l → get_or l i 0 ≤ most) → all_within most l ≡ true
all_within_lem most [] h = refl
all_within_lem most (x ∷ l) h = rw (le-leb x most (h 0 (omega arith))) (all_within_lem most l (λ i q. h (suc i) (omega arith)))
