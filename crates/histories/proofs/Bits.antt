-- The bits of AND, OR and NOT, and of the bytes 00 and ff. Assumes nothing.
use mathlib.Core.Path.{◌≡◌, refl, ap, ◌∙◌}
use mathlib.Core.Bool.{true, false, not, ◌&&◌, ◌||◌}
use Prim.Native.Nat.{ℕ, zero, suc, ◌+◌, ◌-◌, ◌/◌, ◌%◌, ◌^◌, ◌<◌, min, max}
use native.Mathlib.Nat.{mod-lt}
use native.Mathlib.Omega.{arith}
use lib.Dec.{eqb}
use lib.Bits.{bit_and, bit_or, and_shr, or_shr}
use Rattle.cell.specs.Rules.{not8}
use Rattle.cell.proofs.Disjoint.{and_odd, or_odd}
use Rattle.histories.specs.History.{bit_of}

-- a digit's test
digit_and : (a b : ℕ) → a < 2 → b < 2 → eqb (min a b) 1 ≡ (eqb a 1 && eqb b 1)
digit_and zero zero h k = refl
digit_and zero (suc zero) h k = refl
digit_and zero (suc (suc b)) h k = absurd (omega arith)
digit_and (suc zero) zero h k = refl
digit_and (suc zero) (suc zero) h k = refl
digit_and (suc zero) (suc (suc b)) h k = absurd (omega arith)
digit_and (suc (suc a)) b h k = absurd (omega arith)

digit_or : (a b : ℕ) → a < 2 → b < 2 → eqb (max a b) 1 ≡ (eqb a 1 || eqb b 1)
digit_or zero zero h k = refl
digit_or zero (suc zero) h k = refl
digit_or zero (suc (suc b)) h k = absurd (omega arith)
digit_or (suc zero) zero h k = refl
digit_or (suc zero) (suc zero) h k = refl
digit_or (suc zero) (suc (suc b)) h k = absurd (omega arith)
digit_or (suc (suc a)) b h k = absurd (omega arith)

pub bit_and_lem : (a b j : ℕ) → bit_of (bit_and a b) j ≡ (bit_of a j && bit_of b j)
bit_and_lem a b j =
    ap (λ (n : ℕ). eqb n 1) (ap (λ (n : ℕ). n % 2) (and_shr a b j) ∙ and_odd (a / 2 ^ j) (b / 2 ^ j))
    ∙ digit_and (a / 2 ^ j % 2) (b / 2 ^ j % 2) (mod-lt _ (omega arith)) (mod-lt _ (omega arith))

pub bit_or_lem : (a b j : ℕ) → bit_of (bit_or a b) j ≡ (bit_of a j || bit_of b j)
bit_or_lem a b j =
    ap (λ (n : ℕ). eqb n 1) (ap (λ (n : ℕ). n % 2) (or_shr a b j) ∙ or_odd (a / 2 ^ j) (b / 2 ^ j))
    ∙ digit_or (a / 2 ^ j % 2) (b / 2 ^ j % 2) (mod-lt _ (omega arith)) (mod-lt _ (omega arith))

-- what holds of each of the eight bits
pub eight : (P : ℕ → Type 0) → P 0 → P 1 → P 2 → P 3 → P 4 → P 5 → P 6 → P 7 → (j : ℕ) → j < 8 → P j
eight P a b c d e f g h zero l = a
eight P a b c d e f g h (suc zero) l = b
eight P a b c d e f g h (suc (suc zero)) l = c
eight P a b c d e f g h (suc (suc (suc zero))) l = d
eight P a b c d e f g h (suc (suc (suc (suc zero)))) l = e
eight P a b c d e f g h (suc (suc (suc (suc (suc zero))))) l = f
eight P a b c d e f g h (suc (suc (suc (suc (suc (suc zero)))))) l = g
eight P a b c d e f g h (suc (suc (suc (suc (suc (suc (suc zero))))))) l = h
eight P a b c d e f g h (suc (suc (suc (suc (suc (suc (suc (suc j)))))))) l = absurd (omega arith)

pub bit_zero : (j : ℕ) → j < 8 → bit_of 0 j ≡ false
bit_zero = eight (λ (j : ℕ). bit_of 0 j ≡ false) refl refl refl refl refl refl refl refl

pub bit_ff : (j : ℕ) → j < 8 → bit_of 255 j ≡ true
bit_ff = eight (λ (j : ℕ). bit_of 255 j ≡ true) refl refl refl refl refl refl refl refl

digit_not : (a b : ℕ) → a + b ≡ 1 → eqb a 1 ≡ not (eqb b 1)
digit_not zero zero h = absurd (omega arith)
digit_not zero (suc zero) h = refl
digit_not zero (suc (suc b)) h = absurd (omega arith)
digit_not (suc zero) zero h = refl
digit_not (suc zero) (suc b) h = absurd (omega arith)
digit_not (suc (suc a)) b h = absurd (omega arith)

-- NOT is of a byte: past it 255 - d has no bits, while d may have any
pub bit_not : (d j : ℕ) → d < 256 → j < 8 → bit_of (not8 d) j ≡ not (bit_of d j)
bit_not d j h l =
    eight (λ (n : ℕ). bit_of (255 - d) n ≡ not (bit_of d n))
    (digit_not ((255 - d) / 1 % 2) (d / 1 % 2) (omega arith))
    (digit_not ((255 - d) / 2 % 2) (d / 2 % 2) (omega arith))
    (digit_not ((255 - d) / 4 % 2) (d / 4 % 2) (omega arith))
    (digit_not ((255 - d) / 8 % 2) (d / 8 % 2) (omega arith))
    (digit_not ((255 - d) / 16 % 2) (d / 16 % 2) (omega arith))
    (digit_not ((255 - d) / 32 % 2) (d / 32 % 2) (omega arith))
    (digit_not ((255 - d) / 64 % 2) (d / 64 % 2) (omega arith))
    (digit_not ((255 - d) / 128 % 2) (d / 128 % 2) (omega arith)) j l
