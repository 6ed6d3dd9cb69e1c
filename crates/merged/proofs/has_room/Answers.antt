use Rattle.merged.proofs.CallLaws.{room_counted}
use Rattle.merged.proofs.has_room.Goals as goal

pub returns : goal.returns
returns c = room_counted c.levels_length-decoded.ensures.0 c.taken_length-taken.ensures.0
