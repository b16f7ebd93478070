-- What the radius calls make, no call refuses as a record that its maker couldn't give (22). Assumes nothing.
use mathlib.Core.Path.{◌≡◌, refl, sym, ◌∙◌}
use mathlib.Core.Bool.{Bool, true, false, not, ◌&&◌, ◌||◌, cond, false≢true, and-false}
use Prim.Native.Nat.{ℕ, zero, suc, ◌+◌, ◌*◌, ◌^◌, ◌≤◌, ◌<◌}
use native.Mathlib.Nat.{zero-mul, mul-pos}
use native.Mathlib.Omega.{arith}
use borrow.Author.Tests.{ltb-false, le-ltb, ne_eqb}
use lib.Dec.{eqb, ltb}
use lib.IntN.{ℤ}
use lib.Ieee.{Float, nan, inf, fin, binary64, add, lt, le, eq, up, down, round, of_int, of_bits}
use lib.Ieee.Back.{round_whole}
use lib.Ieee.Exact.{HasValue}
use lib.Ieee.Fits.{up_pos, down_pos}
use lib.Ieee.Scale.{finite}
use Rattle.refusal.specs.Refusal.{answered, first, passed, radius_not_finite, radius_below_zero, not_its_makers}
use Rattle.refusal.proofs.Chains.{answered_passed}
use Rattle.float.specs.Float.{f64zero, f64max, f64of, larger}
use Rattle.radius.specs.declared.RadiusKm.{RadiusKm}
use Rattle.radius.specs.Radius.{radius_refusal, radius_new, valid_radius, widened, widened_by}

-- what `valid_radius` tests
record IsLength (km : Float) : Type 0 where
  bounded : finite km ≡ true
  signless : lt km f64zero ≡ false

is_valid_lem : {km : Float} → IsLength km → valid_radius (record { 0 = km }) ≡ true
unfolding valid_radius radius_refusal
is_valid_lem l = simp (l.bounded, l.signless)

tested : (f l : Bool) → eqb (first (not f) radius_not_finite (first l radius_below_zero passed)) 0 ≡ true → (f ≡ true) × (l ≡ false)
tested true false e = (refl, refl)
tested true true e = absurd (false≢true e)
tested false l e = absurd (false≢true e)

is_length : (r : RadiusKm) → valid_radius r ≡ true → IsLength r.0
unfolding valid_radius radius_refusal
is_length r e =
    let h = tested (finite r.0) (lt r.0 f64zero) e in
    record { bounded = h.0; signless = h.1 }

-- ---- `new`
pub new_valid : (km r : Float) → radius_new km ≡ answered r → valid_radius (record { 0 = r }) ≡ true
unfolding radius_new valid_radius
new_valid km r e =
    let h = answered_passed (radius_refusal km) km r e in
    rw (← h.1, h.0)

-- ---- `from_u32`
plus_sign : (m : ℕ) (e : ℤ) → lt (fin false m e) f64zero ≡ false
unfolding lt of_bits
plus_sign m e = le-ltb (m * up e * 1) (0 * down e) (omega (arith, zero-mul (down e)))

whole : (x : Float) (n : ℕ) → HasValue x false n 1 → IsLength x
whole nan n v = absurd v
whole (inf s) n v = absurd v
whole (fin true m e) n v = absurd (false≢true (sym v.0))
whole (fin false m e) n v = record { bounded = refl; signless = plus_sign m e }

pub from_u32_valid : (n : ℕ) → n < 2 ^ 32 → valid_radius (record { 0 = f64of n }) ≡ true
unfolding of_int
from_u32_valid n l = is_valid_lem (whole (round binary64 false n 1) n (round_whole binary64 false n (omega arith)))

-- ---- `widened_by`
minus_sign : (m : ℕ) (e : ℤ) → lt (fin true m e) f64zero ≡ false → m * up e ≡ 0
unfolding lt of_bits
minus_sign m e l =
    let h : m * up e * 1 + 0 * down e ≤ 0 = ltb-false _ _ l in
    omega (arith, zero-mul (down e))

-- `le` of a value above 0, and of a zero, with one below it
above : (a b : ℕ) → 0 < b → eqb a b && (false || eqb a 0) ≡ false
above zero b p = simp (ne_eqb 0 b (omega arith))
above (suc a) b p = simp (ne_eqb (suc a) 0 (omega arith), and-false)

level : (a b : ℕ) → a ≡ 0 → 0 < b → ltb b a || (eqb a b && (true || eqb a 0)) ≡ false
level a b z p = simp (le-ltb b a (omega arith), ne_eqb a b (omega arith))

-- what is no less than a length is not below 0
onward : (x y : Float) → IsLength x → finite y ≡ true → le x y ≡ true → lt y f64zero ≡ false
unfolding lt le eq of_bits
onward x nan l f h = refl
onward x (inf s) l f h = absurd (false≢true f)
onward x (fin false n d) l f h = plus_sign n d
onward x (fin true zero d) l f h = simp (zero-mul)
onward nan (fin true (suc n) d) l f h = absurd (false≢true l.bounded)
onward (inf s) (fin true (suc n) d) l f h = absurd (false≢true l.bounded)
onward (fin false m e) (fin true (suc n) d) l f h =
    let p : 0 < suc n * up d * down e = mul-pos (mul-pos (omega arith) (up_pos d)) (down_pos e) in
    absurd (false≢true (sym (above (m * up e * down d) _ p) ∙ h))
onward (fin true m e) (fin true (suc n) d) l f h =
    let p : 0 < suc n * up d * down e = mul-pos (mul-pos (omega arith) (up_pos d)) (down_pos e) in
    let z : m * up e * down d ≡ 0 = rw (minus_sign m e l.signless) (zero-mul (down d)) in
    absurd (false≢true (sym (level (m * up e * down d) _ z p) ∙ h))

wider : (f o : Bool) (km w : Float) → finite w ≡ f → le km w ≡ o → IsLength km → IsLength (cond f (cond o w km) f64max)
unfolding lt of_bits
wider false o km w e g l = record { bounded = refl; signless = refl }
wider true false km w e g l = l
wider true true km w e g l = record { bounded = e; signless = onward km w l e g }

accepted : (v : Bool) → eqb (first (not v) not_its_makers passed) 0 ≡ true → v ≡ true
accepted true e = refl
accepted false e = absurd (false≢true e)

pub widened_valid : (r : RadiusKm) (more x : Float) → widened_by r more ≡ answered x → valid_radius (record { 0 = x }) ≡ true
unfolding widened_by widened larger
widened_valid r more x e =
    let h = answered_passed (first (not (valid_radius r)) not_its_makers passed) (widened r.0 more) x e in
    let l = is_length r (accepted (valid_radius r) (rw h.0)) in
    rw (← h.1) (is_valid_lem (wider _ _ r.0 (add binary64 r.0 more) refl refl l))
