use Rattle.field.proofs.Answers.{tells_got, tells_past, refused}
use Rattle.field.proofs.Reading.{got_one, as_told}
use Rattle.line.proofs.FlashLaws.{pair_1, pair_2, pair_3, pair_4, pair_all}
use Rattle.line.proofs.channel_f.read_pair.Goals as goal

pub returns-in_err-si : goal.returns-in_err-si
returns-in_err-si c = let n = refused tells_got c.read_hex.ensures c.in_err-si.was c.from_residual.ensures.1 in as_told n.same (pair_1 n.none)

pub returns-in_err-c2 : goal.returns-in_err-c2
returns-in_err-c2 c = let n = refused tells_past c.read_end.ensures c.in_err-c2.was c.from_residual-in_err-c2.ensures.1 in as_told n.same (pair_2 (got_one tells_got c.read_hex.ensures _ _ c.in_ok-si.was) n.none)

pub returns-in_err-so : goal.returns-in_err-so
returns-in_err-so c = let n = refused tells_got c.read_hex-2.ensures c.in_err-so.was c.from_residual-in_err-so.ensures.1 in as_told n.same (pair_3 (got_one tells_got c.read_hex.ensures _ _ c.in_ok-si.was) (got_one tells_past c.read_end.ensures tt _ c.in_ok-c2.was) n.none)

pub returns-in_err-c4 : goal.returns-in_err-c4
returns-in_err-c4 c = let n = refused tells_past c.read_end-2.ensures c.in_err-c4.was c.from_residual-in_err-c4.ensures.1 in as_told n.same (pair_4 (got_one tells_got c.read_hex.ensures _ _ c.in_ok-si.was) (got_one tells_past c.read_end.ensures tt _ c.in_ok-c2.was) (got_one tells_got c.read_hex-2.ensures _ _ c.in_ok-so.was) n.none)

pub returns : goal.returns
returns c = pair_all (got_one tells_got c.read_hex.ensures _ _ c.in_ok-si.was) (got_one tells_past c.read_end.ensures tt _ c.in_ok-c2.was) (got_one tells_got c.read_hex-2.ensures _ _ c.in_ok-so.was) (got_one tells_past c.read_end-2.ensures tt _ c.in_ok-c4.was)
