use Rattle.std.specs.Prelude.{◌≡◌, ◌-◌, None, length, drop}
use Rattle.field.proofs.DecimalLaws.{decimal_from}
use Rattle.field.proofs.decimal.read_decimal.Given as goal

abbrev pub invariant-loop-byte : goal.invariant-loop-byte
invariant-loop-byte l = decimal_from l.number None l.initial.at (drop l.initial.at l.text) ≡ decimal_from l.number l.so_far l.at (drop l.at l.text)

abbrev pub decreases-loop-byte : goal.decreases-loop-byte
decreases-loop-byte l = length l.text - l.at
