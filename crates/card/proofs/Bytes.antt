-- Little-endian words, byte by byte. Assumes nothing.
use mir.Syntax.{w32, w64}
use mathlib.Core.Path.{◌≡◌, refl, subst, ◌∙◌}
use mathlib.Core.List.{List, [], ◌∷◌}
use Prim.Native.Nat.{ℕ, zero, suc, ◌+◌, ◌*◌, ◌<◌}
use native.Mathlib.Nat.{add_assoc}
use native.Mathlib.Omega.{arith}
use denote.Param.Members.{Mut}
use lib.Dec.{lit<}
use lib.ListN.{take, drop, get_or}
use lib.Seq.{get_or-drop, drop-drop}
use Rattle.std.specs.Array.{IsFromFnResultFrom}
use Rattle.std.specs.Fn.{Called}
use Rattle.std.specs.Int.{from_le_bytes}
use Rattle.card.specs.Words.{little_endian, u32_at, u64_at}

four : (l : List ℕ) → little_endian (take 4 l) ≡ get_or l 0 0 + 256 * (get_or l 1 0 + 256 * (get_or l 2 0 + 256 * get_or l 3 0))
four [] = refl
four (a ∷ []) = omega arith
four (a ∷ b ∷ []) = omega arith
four (a ∷ b ∷ c ∷ []) = omega arith
four (a ∷ b ∷ c ∷ d ∷ l) = omega arith

pub u32_bytes : (l : List ℕ) (i : ℕ)
    → u32_at l i ≡ get_or l (i + 0) 0 + 256 * (get_or l (i + 1) 0 + 256 * (get_or l (i + 2) 0 + 256 * get_or l (i + 3) 0))
unfolding u32_at
u32_bytes l i = rw (← get_or-drop i l 0 0, ← get_or-drop i l 1 0, ← get_or-drop i l 2 0, ← get_or-drop i l 3 0) (four (drop i l))

eight : (l : List ℕ) → little_endian (take 8 l) ≡ little_endian (take 4 l) + 4294967296 * little_endian (take 4 (drop 4 l))
eight [] = refl
eight (a ∷ []) = omega arith
eight (a ∷ b ∷ []) = omega arith
eight (a ∷ b ∷ c ∷ []) = omega arith
eight (a ∷ b ∷ c ∷ d ∷ l) = omega arith

pub u64_words : (l : List ℕ) (i : ℕ) → u64_at l i ≡ u32_at l i + 4294967296 * u32_at l (i + 4)
unfolding u32_at u64_at
u64_words l i = eight (drop i l) ∙ rw (drop-drop 4 i l)

-- the elements of an array that a closure gave which stays as it is, and gives h of each index
pub each_given : {F B : Type 0} (g : Mut F (ℕ × Unit {0}) B) (f : F) (h : ℕ → B)
    → ((i : ℕ) (y : B) (q : F) → Called g f (i, tt) y q → (q ≡ f) × (y ≡ h i))
    → (ys : List B) (i n : ℕ) → IsFromFnResultFrom g f ys i n → (k j : ℕ) (d : B) → k < n → i + k ≡ j → get_or ys j d ≡ h j
each_given g f h s ys i zero e k j d l p = absurd (omega arith)
each_given g f h s ys i (suc n) e zero j d l p =
    let q : j ≡ i = omega arith in
    rw q (e.2.1 d ∙ (s i e.1 e.0 e.3).1)
each_given {F} g f h s ys i (suc n) e (suc k) j d l p =
    let same = (s i e.1 e.0 e.3).0 in
    each_given g f h s ys (i + 1) n (subst (λ (w : F). IsFromFnResultFrom g w ys (i + 1) n) same e.4) k j d (omega arith) (omega arith)

-- ---- words as the library makes them of bytes that are those of the card from a place on

module _ (l : List ℕ) (i : ℕ) (bs : List ℕ) where
  pub u32_joined : ((k : ℕ) → k < 4 → get_or bs k 0 ≡ get_or l (i + k) 0) → from_le_bytes w32 bs ≡ u32_at l i
  u32_joined h = omega (arith, u32_bytes l i, h 0 (lit< tt), h 1 (lit< tt), h 2 (lit< tt), h 3 (lit< tt))

  pub u64_joined : ((k : ℕ) → k < 8 → get_or bs k 0 ≡ get_or l (i + k) 0) → from_le_bytes w64 bs ≡ u64_at l i
  u64_joined h =
      let later : (k : ℕ) → 4 + k < 8 → get_or bs (4 + k) 0 ≡ get_or l (i + 4 + k) 0 = λ k p. rw add_assoc (h (4 + k) p) in
      omega (
        arith,
        u64_words l i,
        u32_bytes l i,
        u32_bytes l (i + 4),
        h 0 (lit< tt),
        h 1 (lit< tt),
        h 2 (lit< tt),
        h 3 (lit< tt),
        later 0 (lit< tt),
        later 1 (lit< tt),
        later 2 (lit< tt),
        later 3 (lit< tt),
      )
