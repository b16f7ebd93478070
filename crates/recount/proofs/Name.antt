-- A name of two ASCII bytes is text.
use Rattle.std.proofs.Common.{rules, arith, ℕ, zero, suc, [], ◌∷◌, ◌<◌}
use Rattle.std.specs.Prelude.{Result, Ok, Err}
use Rattle.std.specs.Result.{MatchResult, IsOk}
use Rattle.std.specs.Str.{IsAscii, IsUtf8}
use Rattle.std.proofs.lemmas.Str.{IsUtf8-from_ascii}

two_ascii : (a b : ℕ) → a < 128 → b < 128 → IsAscii (a ∷ b ∷ [])
two_ascii a b p q zero = p
two_ascii a b p q (suc zero) = q
two_ascii a b p q (suc (suc i)) = omega arith

pub is_text : {T E : Type 0} (a b : ℕ) (r : Result T E) (P : T → Type 0) (Q : E → Type 0) → a < 128 → b < 128 → MatchResult r P (λ e. ¬ (IsUtf8 (a ∷ b ∷ [])) × Q e) → IsOk r
is_text a b (Ok x) P Q p q m = search rules
is_text a b (Err e) P Q p q m = absurd (m.0 (IsUtf8-from_ascii _ (two_ascii a b p q)))
