use Rattle.std.proofs.Common.{refl}
use Rattle.orders.proofs.LineStates.{retelling_goes, retelling_ends}
use Rattle.orders.proofs.telling.Goals as goal

pub loop-rec-preserved : goal.loop-rec-preserved
loop-rec-preserved c =
    rw c.tell-told.ensures (retelling_goes c.args.tied _ c.as_slice-rec-items.ensures _ _ _ c.loop-rec.invariant _ c.loop-rec-test.true)

pub returns : goal.returns
returns c = retelling_ends c.args.tied _ c.as_slice-rec-items.ensures _ _ _ c.loop-rec.invariant c.loop-rec-test.false _ refl refl refl
