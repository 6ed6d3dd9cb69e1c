use Rattle.field.proofs.Answers.{tells_got, tells_past, refused}
use Rattle.field.proofs.Reading.{got_one, as_told}
use Rattle.line.proofs.BoardLaws.{board_1, board_2, board_3, board_4, board_all}
use Rattle.line.proofs.boards.read_board.Goals as goal

pub returns-in_err-c1 : goal.returns-in_err-c1
returns-in_err-c1 c = let n = refused tells_past c.read_word.ensures c.in_err-c1.was c.from_residual.ensures.1 in as_told n.same (board_1 n.none)

pub returns-in_err-c2 : goal.returns-in_err-c2
returns-in_err-c2 c = let n = refused tells_past c.read_end.ensures c.in_err-c2.was c.from_residual-in_err-c2.ensures.1 in as_told n.same (board_2 (got_one tells_past c.read_word.ensures tt _ c.in_ok-c1.was) n.none)

pub returns-in_err-status : goal.returns-in_err-status
returns-in_err-status c = let n = refused tells_got c.read_status.ensures c.in_err-status.was c.from_residual-in_err-status.ensures.1 in as_told n.same (board_3 (got_one tells_past c.read_word.ensures tt _ c.in_ok-c1.was) (got_one tells_past c.read_end.ensures tt _ c.in_ok-c2.was) n.none)

pub returns-in_err-c4 : goal.returns-in_err-c4
returns-in_err-c4 c = let n = refused tells_past c.read_end-2.ensures c.in_err-c4.was c.from_residual-in_err-c4.ensures.1 in as_told n.same (board_4 (got_one tells_past c.read_word.ensures tt _ c.in_ok-c1.was) (got_one tells_past c.read_end.ensures tt _ c.in_ok-c2.was) (got_one tells_got c.read_status.ensures _ _ c.in_ok-status.was) n.none)

pub returns : goal.returns
returns c = board_all (got_one tells_past c.read_word.ensures tt _ c.in_ok-c1.was) (got_one tells_past c.read_end.ensures tt _ c.in_ok-c2.was) (got_one tells_got c.read_status.ensures _ _ c.in_ok-status.was) (got_one tells_past c.read_end-2.ensures tt _ c.in_ok-c4.was) c.read_places.ensures
