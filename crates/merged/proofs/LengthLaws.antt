-- How long a record's line is, part by part.
use Prim.Native.Nat.{ℕ, zero, suc, ◌+◌, ◌*◌, ◌^◌, ◌/◌, ◌%◌, ◌≤◌, ◌<◌}
use native.Mathlib.Nat.{pow-suc}
use native.Mathlib.Omega.{arith}
use mathlib.Core.Path.{◌≡◌, sym, ap}
use mathlib.Core.List.{[], ◌∷◌}
use lib.ListN.{length, length-append}
use Rattle.record.specs.declared.Record.{Record}
use Rattle.field.specs.Decimal.{largest, decimal}
use Rattle.field.proofs.SpellingLaws.{decimal_split, decimal_last}
use Rattle.line.specs.Records.{spelled_event, spelled}
use Rattle.line.proofs.OutputLaws.{parts, spelled_length_max}
use Rattle.merged.specs.Writing.{longest}

-- ---- digits
pub digits_of_zero : length (decimal 0) ≡ 1
digits_of_zero = sym (ap length (decimal_last 0 (omega arith)))

power_some : (k : ℕ) → 1 ≤ 10 ^ k
power_some zero = omega arith
power_some (suc k) = omega (arith, pow-suc 10 k, power_some k)

pub digits_by_power : (k n : ℕ) → 10 ^ k ≤ n → n < 10 * 10 ^ k → length (decimal n) ≡ 1 + k
digits_by_power zero n l h = sym (ap length (decimal_last n (omega arith)))
digits_by_power (suc k) n l h =
    let p = pow-suc 10 k in
    let some = power_some k in
    omega (
      arith,
      ap length (decimal_split n (omega arith)),
      length-append (decimal (n / 10)) ((48 + n % 10) ∷ []),
      digits_by_power k (n / 10) (omega arith) (omega arith),
    )

-- ---- the line
pub line_counted : (x : Record) {d e : ℕ} → x.stamp ≤ largest → d ≡ length (decimal x.stamp) → e ≡ length (spelled_event x.event) → (d + 1 + e ≡ length (spelled x)) × (d + 1 + e ≤ longest)
line_counted x {d} {e} h p q = let z : d + 1 + e ≡ length (spelled x) = omega (arith, parts x) in (z, omega (arith, spelled_length_max x h))
