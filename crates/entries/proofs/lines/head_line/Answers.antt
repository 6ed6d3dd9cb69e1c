use Rattle.entries.proofs.Putting.{put_head}
use Rattle.entries.proofs.lines.head_line.Goals as goal

pub returns : goal.returns
returns c = put_head _ _ _ _ c.new.ensures c.put_kind.ensures c.word-s.ensures c.put_address.ensures c.put_end.ensures
