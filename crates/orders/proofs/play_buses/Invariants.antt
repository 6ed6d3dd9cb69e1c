use Rattle.orders.proofs.Stamp.{Playing}
use Rattle.orders.proofs.play_buses.Given as goal

abbrev pub invariant-loop-i : goal.invariant-loop-i
invariant-loop-i l = Playing l.fn.tied l.rec-items l.initial.cur l.replies l.cur l.i
