-- All bytes before k are done.
use Rattle.std.proofs.Common.{◌≡◌}
use Rattle.law.specs.Places.{done}
use Rattle.times.specs.Put.{entry_from}
use Rattle.times.proofs.write_entries.Given as goal

abbrev pub invariant-loop-k : goal.invariant-loop-k
invariant-loop-k l = l.table ≡ done (entry_from l.first l.many l.stamp) l.k l.fn.table
