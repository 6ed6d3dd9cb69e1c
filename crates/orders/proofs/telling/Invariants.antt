use Rattle.orders.proofs.LineStates.{Retelling}
use Rattle.orders.proofs.telling.Given as goal

abbrev pub invariant-loop-rec : goal.invariant-loop-rec
invariant-loop-rec l = Retelling l.rec-items l.initial.told.lines l.told l.rec-index
