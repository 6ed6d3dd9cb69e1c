use Rattle.std.proofs.Common.{length, ◌-◌, ◌≤◌}
use Rattle.merged.proofs.CountLaws.{CountingTaken}
use Rattle.merged.proofs.length.taken_length.Given as goal

abbrev pub invariant-loop-at : goal.invariant-loop-at
invariant-loop-at l = (l.sum ≤ l.at) × (l.sum ≤ length l.trace) × CountingTaken l.trace l.from l.at l.sum

abbrev pub decreases-loop-at : goal.decreases-loop-at
decreases-loop-at l = length l.trace - l.at
