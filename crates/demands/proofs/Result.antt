-- What the sixteen bytes of the result say: its line or stamp and its field, where they are below 2^32, can be got back.
use mathlib.Core.Path.{◌≡◌, sym, ap, ◌∙◌}
use mathlib.Core.List.{List}
use Prim.Native.Nat.{ℕ, ◌≤◌, ◌+◌, ◌*◌, ◌/◌, ◌%◌}
use native.Mathlib.Omega.{arith}
use lib.ListN.{get_or}
use Rattle.field.specs.Decimal.{largest}
use Rattle.buffers.specs.Buffers.{result_bytes}

-- 'four bytes each, low byte first': the number that four bytes stand for
abbrev pub word_of : ℕ → ℕ → ℕ → ℕ → ℕ
word_of p q r s = p + 256 * q + 65536 * r + 16777216 * s

low : (a : ℕ) → a % 65536 ≡ a % 256 + 256 * (a / 256 % 256)
low a = omega arith

high : (a : ℕ) → a ≤ largest → a / 65536 ≡ a / 65536 % 256 + 256 * (a / 16777216 % 256)
high a h = omega arith

pub word_back : (a : ℕ) → a ≤ largest → a ≡ word_of (a % 256) (a / 256 % 256) (a / 65536 % 256) (a / 16777216 % 256)
word_back a h = omega (arith, low a, high a h)

-- below 2^32 no two numbers have the same four bytes
bytes_one : (a b : ℕ) → a ≤ largest → b ≤ largest → a % 256 ≡ b % 256 → a / 256 % 256 ≡ b / 256 % 256 → a / 65536 % 256 ≡ b / 65536 % 256 → a / 16777216 % 256 ≡ b / 16777216 % 256 → a ≡ b
bytes_one a b h k p q r s = word_back a h ∙ (λ i. word_of (p i) (q i) (r i) (s i)) ∙ sym (word_back b k)

-- so the result says its line or stamp, and its field
module _ (a n c f a' n' c' f' : ℕ) (e : result_bytes a n c f ≡ result_bytes a' n' c' f') where
  at : (k : ℕ) → get_or (result_bytes a n c f) k 0 ≡ get_or (result_bytes a' n' c' f') k 0
  at k = ap (λ (l : List ℕ). get_or l k 0) e

  pub number_one : n ≤ largest → n' ≤ largest → n ≡ n'
  unfolding result_bytes
  number_one h k = bytes_one n n' h k (at 4) (at 5) (at 6) (at 7)

  pub field_one : f ≤ largest → f' ≤ largest → f ≡ f'
  unfolding result_bytes
  field_one h k = bytes_one f f' h k (at 12) (at 13) (at 14) (at 15)
