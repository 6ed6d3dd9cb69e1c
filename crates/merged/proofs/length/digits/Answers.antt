use Rattle.std.proofs.Common.{sym}
use Rattle.merged.proofs.LengthLaws.{digits_of_zero, digits_by_power}
use Rattle.merged.proofs.length.digits.Goals as goal

pub returns-then-value-eq0 : goal.returns-then-value-eq0
returns-then-value-eq0 c = rw c.if-value-eq0.true (sym digits_of_zero)

pub returns : goal.returns
returns c = sym (digits_by_power _ _ c.ilog10.ensures.power_le c.ilog10.ensures.next_power_gt)
