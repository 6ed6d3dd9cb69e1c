-- The numbers that the result holds, read back.
use Prim.Native.Nat.{ℕ, ◌+◌, ◌*◌, ◌/◌, ◌%◌, ◌≤◌}
use native.Mathlib.Omega.{arith}
use mathlib.Core.Path.{◌≡◌}
use Rattle.field.specs.Decimal.{largest}
use Rattle.buffers.specs.Buffers.{result_bytes}
use Rattle.demands.proofs.Result.{word_back}
use Rattle.listing.specs.Bytes.{number_at, answer_in, place_in, count_in, field_in}

-- four bytes, low byte first, are that number
pub four_back : (a : ℕ) → a ≤ largest → a % 256 + 256 * (a / 256 % 256 + 256 * (a / 65536 % 256 + 256 * (a / 16777216 % 256))) ≡ a
four_back a h = omega (arith, word_back a h)

module _ (a n c k : ℕ) where
  pub answer_back : a ≤ largest → answer_in (result_bytes a n c k) ≡ a
  unfolding number_at result_bytes
  answer_back h = four_back a h

  pub place_back : n ≤ largest → place_in (result_bytes a n c k) ≡ n
  unfolding number_at result_bytes
  place_back h = four_back n h

  pub count_back : c ≤ largest → count_in (result_bytes a n c k) ≡ c
  unfolding number_at result_bytes
  count_back h = four_back c h

  pub field_back : k ≤ largest → field_in (result_bytes a n c k) ≡ k
  unfolding number_at result_bytes
  field_back h = four_back k h
