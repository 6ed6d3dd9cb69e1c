use Rattle.entries.proofs.Putting.{put_address}
use Rattle.entries.proofs.lines.put_address.Goals as goal

pub returns : goal.returns
returns c = put_address _ _ _ _ c.hex.ensures c.hex-2.ensures c.hex-3.ensures
