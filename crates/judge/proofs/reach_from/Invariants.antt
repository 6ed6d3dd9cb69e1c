use Rattle.std.proofs.Common.{length, ◌-◌}
use Rattle.judge.proofs.ReachLaws.{Still}
use Rattle.judge.proofs.reach_from.Given as goal

abbrev pub invariant-loop-at : goal.invariant-loop-at
invariant-loop-at l = Still l.trace l.from l.t l.at

abbrev pub decreases-loop-at : goal.decreases-loop-at
decreases-loop-at l = length l.trace - l.at
