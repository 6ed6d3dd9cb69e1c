use Rattle.orders.proofs.Stamp.{lining_goes, lining_ends}
use Rattle.orders.proofs.play_lines.Goals as goal

pub loop-rec-preserved : goal.loop-rec-preserved
loop-rec-preserved c = lining_goes c.args.tied _ _ _ _ c.loop-rec.invariant _ _ c.play-step.ensures c.loop-rec-test.true

pub returns : goal.returns
returns c = lining_ends c.args.tied _ _ _ _ c.loop-rec.invariant c.as_slice-rec-items.ensures c.loop-rec-test.false
