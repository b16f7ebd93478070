-- A law that the proof of `downward` cites. Assumes nothing.
use Rattle.std.proofs.Common.{◌≡◌, ℕ, zero, suc, ◌+◌, ◌-◌, ◌<◌, arith}
use Rattle.stand_ins.specs.StandIns.{downward}

-- past the turn k, the turns that are left give what all of them give
pub step : {S : Type 0} (turn : ℕ → S → S) (k : ℕ) (s : S) {r : S} → 0 < k → r ≡ turn (k - 1 + 1) s → downward turn (k - 1) r ≡ downward turn k s
step turn zero s l e = absurd (omega arith)
step turn (suc k) s l e =
    let m : suc k - 1 ≡ k = omega arith in
    let n : suc k - 1 + 1 ≡ suc k = omega arith in
    rw (e, n, m)
