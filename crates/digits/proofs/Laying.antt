-- Texts laid over a slice, one behind another. Assumes nothing.
use Rattle.std.proofs.Common.{◌≡◌, ℕ, suc, ◌+◌, ◌≤◌, min, List, [], ◌∷◌, ◌++◌, length, set, sym, refl, ap, ◌∙◌, ⊎_elim, append_assoc, add-zero, add-suc, suc-add, eq-or-lt_of_le, arith, length-append}
use lib.Seq.{sets, set_out, length-sets}
use Rattle.digits.specs.Laid.{Laid, Lays}
use Rattle.digits.specs.declared.Page.{Page}

-- text laid over text goes on where the first ended
sets_append : (l : List ℕ) (i : ℕ) (xs ys : List ℕ) → sets (sets l i xs) (i + length xs) ys ≡ sets l i (xs ++ ys)
sets_append l i [] ys = rw (add-zero i)
sets_append l i (x ∷ xs) ys = rw (add-suc, ← suc-add) (sets_append (set l i x) (suc i) xs ys)

-- past the end nothing is laid
sets_past : (l : List ℕ) (i : ℕ) (xs : List ℕ) → length l ≤ i → sets l i xs ≡ l
sets_past l i [] h = refl
sets_past l i (x ∷ xs) h = rw (set_out l i x h) (sets_past l (suc i) xs (omega arith))

-- the last offset serves for every one past it
sets_last : (l : List ℕ) (i p last : ℕ) → length l ≤ last → p ≡ min i last → (xs : List ℕ) → sets l p xs ≡ sets l i xs
sets_last l i p last h e xs =
    ⊎_elim (λ q. ap (λ (k : ℕ). sets l k xs) q) (λ q. sets_past l p xs (omega arith) ∙ sym (sets_past l i xs (omega arith)))
    (eq-or-lt_of_le {n = p} {m = i} (omega arith))

capped : (at x y last p r : ℕ) → p ≡ min (at + x) last → r ≡ min (p + y) last → r ≡ min (at + (x + y)) last
capped at x y last p r e f = omega arith

pub laid_then : {o m e : List ℕ} {at p r : ℕ} {xs ys : List ℕ} → Laid o at xs m p → Laid m p ys e r → Laid o at (xs ++ ys) e r
laid_then {o} {m} {e} {at} {p} {r} {xs} {ys} a b =
    record {
      left = b.left ∙ sets_last m (at + length xs) p 18446744073709551615 b.room a.next ys ∙ rw a.left (sets_append o at xs ys);
      next = rw (length-append xs ys) (capped at (length xs) (length ys) 18446744073709551615 p r a.next b.next);
      room = a.room;
    }

-- the same, where the second text is of two parts
pub laid_parts : {o m e : List ℕ} {at p r : ℕ} {xs : List ℕ} (ys zs : List ℕ) → Laid o at xs m p → Laid m p (ys ++ zs) e r → Laid o at (xs ++ ys ++ zs) e r
laid_parts {xs = xs} ys zs a b = rw (← append_assoc xs ys zs) at (laid_then a b)

pub laid_none : (o : List ℕ) (at : ℕ) → length o ≤ 18446744073709551615 → at ≤ 18446744073709551615 → Laid o at [] o at
laid_none o at h k = record { left = refl; next = omega arith; room = h }

-- one byte past the slice's end
pub laid_out : (o : List ℕ) (at v r : ℕ) → r ≡ min (at + 1) 18446744073709551615 → length o ≤ 18446744073709551615 → length o ≤ at → Laid o at (v ∷ []) o r
laid_out o at v r e h p = record { left = sym (set_out o at v p); next = e; room = h }

pub laid_length : {o e : List ℕ} {at r : ℕ} {xs : List ℕ} → Laid o at xs e r → length e ≡ length o
laid_length {o} {e} {at} {r} {xs} a = rw a.left (length-sets o at xs)

-- a text short enough, laid from the front on: the offset behind it is its length
pub laid_whole : {o e : List ℕ} {r : ℕ} {xs : List ℕ} → Laid o 0 xs e r → length xs ≤ 18446744073709551615 → r ≡ length xs
laid_whole a h = omega (arith, a.next)

-- the same of a page: text on text
pub lays_then : {o m e : Page} {xs ys : List ℕ} → Lays o xs m → Lays m ys e → Lays o (xs ++ ys) e
lays_then a b = record { same = b.same ∙ a.same; laid = laid_then a.laid b.laid }

pub lays_parts : {o m e : Page} {xs : List ℕ} (ys zs : List ℕ) → Lays o xs m → Lays m (ys ++ zs) e → Lays o (xs ++ ys ++ zs) e
lays_parts ys zs a b = record { same = b.same ∙ a.same; laid = laid_parts ys zs a.laid b.laid }

pub lays_none : (o : Page) → length o.out.now ≤ 18446744073709551615 → o.at ≤ 18446744073709551615 → Lays o [] o
lays_none o h k = record { same = refl; laid = laid_none _ _ h k }
