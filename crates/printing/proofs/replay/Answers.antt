use Rattle.printing.proofs.Lent.{lent_parts, left_for}
use Rattle.printing.proofs.replay.Goals as goal

pub returns : goal.returns
returns c = left_for (lent_parts _ _ _ _ _ _ _ _ c.fill.ensures.1 c.fill-2.ensures.1 c.requires.0 c.requires.1 c.requires.2) c.hazelcrook_replay.ensures
