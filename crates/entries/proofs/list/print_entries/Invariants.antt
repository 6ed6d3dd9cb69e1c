-- `entries::list::print_entries`: what is still to be printed from here is what was to be printed at the start.
use Rattle.std.proofs.Common.{◌-◌}
use Rattle.entries.proofs.Walk.{Still}
use Rattle.entries.proofs.list.print_entries.Given as goal

abbrev pub invariant-loop-passed : goal.invariant-loop-passed
invariant-loop-passed l = Still l.list l.fn.out l.number (l.number - l._passed) l.from l.at l.out
