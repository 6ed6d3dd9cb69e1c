use Rattle.std.proofs.Common.{refl}
use Rattle.orders.proofs.Stamp.{referred}
use Rattle.orders.proofs.reference.Goals as goal

pub returns : goal.returns
returns c = referred _ _ _ _ c.play_buses-played.ensures c.play_lines.ensures _ refl refl
