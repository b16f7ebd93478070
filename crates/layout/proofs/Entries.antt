-- A list by its entries. Assumes nothing.
use mathlib.Core.Path.{◌≡◌, refl, sym, ap, ◌∙◌}
use mathlib.Core.Bool.{Bool, true, false}
use mathlib.Core.List.{List, ◌++◌, append-nil}
use Prim.Native.Nat.{ℕ, zero, suc, ◌+◌, ◌<◌, ◌≤◌}
use native.Mathlib.Nat.{add-zero, zero-add}
use native.Mathlib.Numerals.{add-one, lt_of_le_of_ne}
use native.Mathlib.Omega.{arith}
use borrow.Author.Tests.{eqb-false, ltb-true, ltb-false, lt-ltb, le-ltb}
use lib.Dec.{eqb, ltb}
use lib.ListN.{length, take, drop, set, get_or, drop_of_length-le}
use lib.Seq.{ext_get_or, drop-cons, take-suc, take_all, append_snoc, set_at, length-take-le}
use lib.Ieee.{Float, nan}
use Rattle.layout.specs.Entries.{entries_from, entries}

module _ (f : ℕ → Float) where
  length_from : (i n : ℕ) → length (entries_from f i n) ≡ n
  length_from i zero = refl
  length_from i (suc n) = ap suc (length_from (suc i) n)

  get_or_from : (i n k : ℕ) → k < n → get_or (entries_from f i n) k nan ≡ f (i + k)
  get_or_from i zero k h = absurd (omega arith)
  get_or_from i (suc n) zero h = rw (add-zero i)
  get_or_from i (suc n) (suc k) h = get_or_from (suc i) n k (omega arith) ∙ ap f (omega arith)

  pub length_entries : (n : ℕ) → length (entries n f) ≡ n
  unfolding entries
  length_entries n = length_from 0 n

  pub get_or_entries : (n k : ℕ) → k < n → get_or (entries n f) k nan ≡ f k
  unfolding entries
  get_or_entries n k h = get_or_from 0 n k h ∙ rw (zero-add k)

  -- a list with those entries is that list
  pub entries_are : (n : ℕ) (l : List Float) → length l ≡ n → ((k : ℕ) → k < n → get_or l k nan ≡ f k) → l ≡ entries n f
  entries_are n l e h =
      ext_get_or nan l (entries n f) (e ∙ sym (length_entries n)) (λ k i. h k (omega arith) ∙ sym (get_or_entries n k (omega arith)))

-- ---- a list written over another from the front: the first i entries are done

abbrev pub copied : List Float → List Float → ℕ → List Float
copied dst src i = take i src ++ drop i dst

pub copy_turn : (dst src : List Float) (i : ℕ) → i < length src → i < length dst → set (copied dst src i) i (get_or src i nan) ≡ copied dst src (i + 1)
copy_turn dst src i hs hd = rw (add-one, drop-cons dst i nan hd, set_at _ _ _ _ i (length-take-le i src (omega arith)), take-suc src i nan hs, append_snoc)

pub copy_end : (dst src : List Float) (i : ℕ) → length src ≤ i → length dst ≤ i → copied dst src i ≡ src
copy_end dst src i hs hd = rw (take_all i src hs, drop_of_length-le dst hd, append-nil)

-- by the entries of what is written
module _ (f : ℕ → Float) (dst : List Float) where
  pub entries_turn : (i : ℕ) (x : Float) → i < length dst → x ≡ f i
      → set (copied dst (entries (length dst) f) i) i x ≡ copied dst (entries (length dst) f) (i + 1)
  entries_turn i x h e =
      let own = get_or_entries f (length dst) i h in
      rw (e, ← own) (copy_turn dst (entries (length dst) f) i (rw (length_entries f (length dst)) h) h)

  pub entries_end : (i : ℕ) → length dst ≤ i → copied dst (entries (length dst) f) i ≡ entries (length dst) f
  entries_end i h = copy_end dst (entries (length dst) f) i (rw (length_entries f (length dst)) h) h

-- ---- tests of one number more

-- below n + 1 is below n, or n
pub below_suc : (d n : ℕ) (t : Bool) → eqb d n ≡ false → ltb d n ≡ t → ltb d (suc n) ≡ t
below_suc d n true h e = lt-ltb d (suc n) (omega (arith, ltb-true d n e))
below_suc d n false h e = le-ltb d (suc n) (lt_of_le_of_ne (ltb-false d n e) (λ z. eqb-false d n h (sym z)))
