use Rattle.merged.proofs.CallLaws.{text_refused, text_all}
use Rattle.merged.proofs.write_text.Goals as goal

pub returns-in_default : goal.returns-in_default
returns-in_default c = text_refused c.write_board.ensures _ c.in_default.is

pub returns : goal.returns
returns c = text_all c.write_board.ensures c.in-Ok.is c.write_all.ensures
