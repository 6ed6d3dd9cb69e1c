use Rattle.field.proofs.Answers.{tells_got}
use Rattle.field.proofs.Reading.{got_none, got_one}
use Rattle.listing.proofs.Walk.{behind_board, no_board_lem}
use Rattle.listing.proofs.list_records.Goals as goal

pub returns-in_default : goal.returns-in_default
returns-in_default c = no_board_lem (got_none tells_got c.read_board.ensures c.in_default.is)

pub returns : goal.returns
returns c = behind_board (got_one tells_got c.read_board.ensures _ _ c.in-Ok.is) c.list_from.ensures
