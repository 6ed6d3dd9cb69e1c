use Rattle.std.specs.Prelude.{◌≤◌, ◌-◌, length}
use Rattle.text.proofs.Standing.{So}
use Rattle.text.proofs.checking.check_text.Given as goal

abbrev pub invariant-loop-at : goal.invariant-loop-at
invariant-loop-at l = (l.at ≤ length l.text) × (l.number ≤ l.at) × So l.text l.board l.at l.number l.last l.buses

abbrev pub decreases-loop-at : goal.decreases-loop-at
decreases-loop-at l = length l.text - l.at
