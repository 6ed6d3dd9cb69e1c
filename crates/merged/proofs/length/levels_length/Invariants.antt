use Rattle.std.proofs.Common.{length, ◌-◌, ◌*◌, ◌≤◌}
use Rattle.merged.specs.Writing.{longest}
use Rattle.merged.proofs.CountLaws.{CountingLevels}
use Rattle.merged.proofs.length.levels_length.Given as goal

abbrev pub invariant-loop-at : goal.invariant-loop-at
invariant-loop-at l =
    (l.sum ≤ longest * 4 * l.at) × (l.sum ≤ longest * 4 * length l.levels) × CountingLevels l.levels l.initial.last l.from l.at l.last l.flash l.wires l.sum

abbrev pub decreases-loop-at : goal.decreases-loop-at
decreases-loop-at l = length l.levels - l.at
