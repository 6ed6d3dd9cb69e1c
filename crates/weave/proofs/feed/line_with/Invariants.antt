use Rattle.std.proofs.Common.{◌≤◌}
use Rattle.weave.proofs.PassLaws.{Passing}
use Rattle.weave.proofs.feed.line_with.Given as goal

abbrev pub invariant-loop-k : goal.invariant-loop-k
invariant-loop-k l = record { passing : Passing l.trace l.letter l.from l.start l.k; behind : l.from ≤ l.start }
