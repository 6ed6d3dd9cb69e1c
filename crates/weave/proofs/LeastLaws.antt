-- The last of five feeds.
use Prim.Native.Nat.{ℕ, zero, suc, ◌<◌}
use native.Mathlib.Omega.{arith}
use mathlib.Core.Path.{◌≡◌, refl}

-- a number below 5 that is none of the first four
pub last_of_five : (i : ℕ) → i < 5 → (i ≡ 0 → ⊥) → (i ≡ 1 → ⊥) → (i ≡ 2 → ⊥) → (i ≡ 3 → ⊥) → i ≡ 4
last_of_five zero h a b c d = absurd (a refl)
last_of_five (suc zero) h a b c d = absurd (b refl)
last_of_five (suc (suc zero)) h a b c d = absurd (c refl)
last_of_five (suc (suc (suc zero))) h a b c d = absurd (d refl)
last_of_five (suc (suc (suc (suc i)))) h a b c d = omega arith
