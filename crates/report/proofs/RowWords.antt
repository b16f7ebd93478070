-- The rows of a card, word by word. Assumes nothing.
use mathlib.Core.Path.{◌≡◌, ◌∙◌}
use mathlib.Core.List.{List, ◌++◌}
use Prim.Native.Nat.{ℕ, suc, ◌+◌, ◌-◌, ◌*◌, ◌<◌, ◌≤◌}
use native.Mathlib.Nat.{add-mul, mul_comm, one-mul, mul-le-mul, le_refl}
use native.Mathlib.Numerals.{add-one}
use native.Mathlib.Omega.{arith}
use lib.ListN.{length, take, set}
use lib.Seq.{take-suc-set, append_snoc}
use Rattle.card.specs.Words.{u32_at, words_at}
use Rattle.card.specs.declared.Header.{Header}
use Rattle.card.specs.private.Accepted.{Accepted}

-- one more word is written
pub words_turn : (card row : List ℕ) (at i n v : ℕ) → i < length row → v ≡ u32_at card (at + 4 * i)
    → take (i + 1) (set row i v) ++ words_at card (at + 4 * (i + 1)) n ≡ take i row ++ words_at card (at + 4 * i) (suc n)
words_turn card row at i n v h e =
    let s : at + 4 * (i + 1) ≡ at + 4 * i + 4 = omega arith in
    rw (e, s, add-one, take-suc-set row i, append_snoc)

-- those so far and those to come are still the n from `at` on
pub words_whole : (card row : List ℕ) (at i n v : ℕ) → i < length row → i < n → v ≡ u32_at card (at + 4 * i)
    → take i row ++ words_at card (at + 4 * i) (n - i) ≡ words_at card at n
    → take (i + 1) (set row i v) ++ words_at card (at + 4 * (i + 1)) (n - (i + 1)) ≡ words_at card at n
words_whole card row at i n v h l e before =
    let left : n - i ≡ suc (n - (i + 1)) = omega arith in
    words_turn card row at i (n - (i + 1)) v h e ∙ rw left at before

-- a row of n words lies within the card
pub row_inside : {card : List ℕ} {h : Header} (i n : ℕ) → Accepted card h → i < h.decimation.source.height → n ≡ h.decimation.source.width
    → h.rows_at + 4 * (i * n) + 4 * n ≤ 65536
row_inside {h = h} i n a l e =
    let w = h.decimation.source.width in
    let p : (i + 1) * w ≤ h.decimation.source.height * w = mul-le-mul (omega arith) (le_refl w) in
    let q : (i + 1) * w ≡ i * w + w = simp (add-mul, one-mul) in
    rw e (omega (arith, p, q, mul_comm w h.decimation.source.height, a.rows, a.whole))
