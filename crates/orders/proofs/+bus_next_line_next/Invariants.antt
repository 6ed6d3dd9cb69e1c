use Rattle.std.proofs.Common.{ℕ, ◌+◌, ◌-◌}
use Rattle.orders.specs.declared.tying.Tied.{Tied}
use Rattle.orders.proofs.+bus_next_line_next.Given as goal

-- the records that are left: the measure of both
abbrev left : Tied → ℕ → ℕ → ℕ
left h ib il = (h.buses.count - ib) + (h.lines.count - il)

abbrev pub decreases-bus_next : goal.decreases-bus_next
decreases-bus_next l = left l.tied l.ib l.il

abbrev pub decreases-line_next : goal.decreases-line_next
decreases-line_next l = left l.tied l.ib l.il
