-- Document 01, 'Geodesy': the stand-ins for sine, cosine, arctangent and arccosine. Each operation is rounded; each loop runs downward in k.
use Rattle.std.specs.Prelude.{◌≡◌, cond, ℕ, zero, suc, ◌+◌, ◌-◌, ◌*◌, Float}
use Rattle.std.specs.Float.{binary64}
use Rattle.std.specs.Float.Ieee.{add, sub, mul, div, le, of_bits}
use Rattle.float.specs.Constants.{f64one, f64two, f64four, f64p21, f64p180}
use Rattle.float.specs.Float.{f64of}
use Rattle.sqrt.specs.Sqrt.{sqrt_of}

-- PI, 3.141592653589793
abbrev pub pi : Float
pi = of_bits binary64 0x4009_21fb_5444_2d18

-- the square root, correctly rounded
abbrev pub root : Float → Float
root x = sqrt_of binary64 x

-- a loop downward: s after the turns k, k − 1, .., 1
abbrev pub downward : {S : Type 0} → (ℕ → S → S) → ℕ → S → S
downward turn zero s = s
downward turn (suc k) s = downward turn k (turn (suc k) s)

-- each call at k and s gives what `turn` gives
abbrev pub IsTurn : {S : Type 0} → (ℕ → S → S → Type 0) → (ℕ → S → S) → Type 0
IsTurn {S} gives turn = (k : ℕ) (s r : S) → gives k s r → r ≡ turn k s

-- one turn of sin: s = 1 − (z / (2k(2k+1)))·s
unfoldable pub sine_term : Float → ℕ → Float → Float
sine_term z k s = sub binary64 f64one (mul binary64 (div binary64 z (f64of (2 * k * (2 * k + 1)))) s)

-- sin x: z = x·x, s = 1; k = 10 down to 1; x·s
unfoldable pub sin_of : Float → Float
sin_of x = mul binary64 x (downward (sine_term (mul binary64 x x)) 10 f64one)

-- one turn of cos: c = 1 − (z / ((2k−1)(2k)))·c
unfoldable pub cosine_term : Float → ℕ → Float → Float
cosine_term z k c = sub binary64 f64one (mul binary64 (div binary64 z (f64of ((2 * k - 1) * (2 * k)))) c)

-- cos x: z = x·x, c = 1; k = 15 down to 1; c
unfoldable pub cos_of : Float → Float
cos_of x = downward (cosine_term (mul binary64 x x)) 15 f64one

-- one turn of A: a = 1/(2k+1) − w·a
unfoldable pub arctan_term : Float → ℕ → Float → Float
arctan_term w k a = sub binary64 (div binary64 f64one (f64of (2 * k + 1))) (mul binary64 w a)

-- a = 1/21; k = 9 down to 1, and 0 last
unfoldable pub arctan_series : Float → Float
arctan_series w = arctan_term w 0 (downward (arctan_term w) 9 (div binary64 f64one f64p21))

-- the tangent of half the angle: t / (1 + √(1 + t·t))
unfoldable pub halved : Float → Float
halved t = div binary64 t (add binary64 f64one (root (add binary64 f64one (mul binary64 t t))))

-- A(t): twice halved; w = t·t; 4·(t·a)
unfoldable pub arctan_of : Float → Float
arctan_of t =
    let u = halved (halved t) in
    mul binary64 f64four (mul binary64 u (arctan_series (mul binary64 u u)))

-- atan2(y, x): A(y/x) if y ≤ x, else PI/2 − A(x/y)
unfoldable pub atan2_of : Float → Float → Float
atan2_of y x =
    cond (le y x) (arctan_of (div binary64 y x)) (sub binary64 (div binary64 pi f64two) (arctan_of (div binary64 x y)))

-- acos r: 2·atan2(√(1−r), √(1+r))
unfoldable pub acos_of : Float → Float
acos_of r = mul binary64 f64two (atan2_of (root (sub binary64 f64one r)) (root (add binary64 f64one r)))

-- to radians: times (PI / 180)
unfoldable pub to_radians : Float → Float
to_radians degrees = mul binary64 degrees (div binary64 pi f64p180)

-- to degrees: times (180 / PI)
unfoldable pub to_degrees : Float → Float
to_degrees radians = mul binary64 radians (div binary64 f64p180 pi)
