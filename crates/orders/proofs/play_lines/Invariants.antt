use Rattle.orders.proofs.Stamp.{Lining}
use Rattle.orders.proofs.play_lines.Given as goal

abbrev pub invariant-loop-rec : goal.invariant-loop-rec
invariant-loop-rec l = Lining l.fn.tied l.rec-items l.initial.cur l.cur l.rec-index
