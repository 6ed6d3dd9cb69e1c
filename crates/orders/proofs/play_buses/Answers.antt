use Rattle.std.proofs.Common.{refl}
use Rattle.orders.proofs.Stamp.{playing_goes, playing_ends}
use Rattle.orders.proofs.play_buses.Goals as goal

pub loop-i-preserved : goal.loop-i-preserved
loop-i-preserved c = playing_goes _ _ c.as_slice-rec-items.ensures _ _ _ _ c.loop-i.invariant _ _ c.play-step.ensures c.loop-i-test.true

pub returns : goal.returns
returns c = playing_ends _ _ c.as_slice-rec-items.ensures _ _ _ _ c.loop-i.invariant c.loop-i-test.false c.loop-i.auto.i-end _ refl refl
