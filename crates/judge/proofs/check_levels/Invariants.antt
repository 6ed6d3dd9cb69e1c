use Rattle.std.proofs.Common.{length, ◌-◌}
use Rattle.judge.proofs.CheckLaws.{Sofar}
use Rattle.judge.proofs.check_levels.Given as goal

abbrev pub invariant-loop-at : goal.invariant-loop-at
invariant-loop-at l = Sofar l.levels l.trace l.first l.l l.at l.last l.number l.place

abbrev pub decreases-loop-at : goal.decreases-loop-at
decreases-loop-at l = length l.levels - l.at
