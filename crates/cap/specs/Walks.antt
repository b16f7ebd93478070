-- Document 01, 'Kernel and circle': the walks over a row's columns, for any test p of a column's number. A walk is handed the test of the number that
-- it looks at next, so that nothing past the first that fails is asked.
use Rattle.std.specs.Prelude.{◌≡◌, Bool, true, false, ◌⊎◌, ℕ, zero, suc, ◌-◌, ◌≤◌}

-- up from h while the next number is in, n steps at most; b says whether the next one is
abbrev pub climb : (ℕ → Bool) → ℕ → Bool → ℕ → ℕ
climb p zero b h = h
climb p (suc n) false h = h
climb p (suc n) true h = climb p n (p (suc (suc h))) (suc h)

-- down from h to the first number that is in, or to 0; b says whether h is
abbrev pub descend : (ℕ → Bool) → Bool → ℕ → ℕ
descend p b zero = zero
descend p true (suc h) = suc h
descend p false (suc h) = descend p (p h) h

-- up from h while the next number is in, to closing at most
unfoldable pub climbed : (ℕ → Bool) → ℕ → ℕ → ℕ
climbed p closing h = climb p (closing - h) (p (suc h)) h

-- down from h to the first number that is in, or to 0
unfoldable pub descended : (ℕ → Bool) → ℕ → ℕ
descended p h = descend p (p h) h

-- the half-width at which the walk from start stops: up while the next column is contained, then down until a column is, or to 0
unfoldable pub walked : (ℕ → Bool) → ℕ → ℕ → ℕ
walked p closing start = descended p (climbed p closing start)

-- 'h is 0 or column h is contained, and h is closing or column h + 1 isn't'
pub record Stopped (p : ℕ → Bool) (closing h : ℕ) : Type 0 where
  pub in_or_none : (h ≡ 0) ⊎ (p h ≡ true)
  pub next_out : (h ≡ closing) ⊎ (p (suc h) ≡ false)
  pub closed : h ≤ closing
