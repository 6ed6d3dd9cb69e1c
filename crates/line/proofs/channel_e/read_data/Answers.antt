use Rattle.field.proofs.Answers.{tells_got, tells_past, refused}
use Rattle.field.proofs.Reading.{got_one, as_told}
use Rattle.line.proofs.EepromLaws.{data_1, data_2, data_3, data_4, data_all}
use Rattle.line.proofs.channel_e.read_data.Goals as goal

pub returns-in_err-byte : goal.returns-in_err-byte
returns-in_err-byte c = let n = refused tells_got c.read_hex.ensures c.in_err-byte.was c.from_residual.ensures.1 in as_told n.same (data_1 n.none)

pub returns-in_err-c2 : goal.returns-in_err-c2
returns-in_err-c2 c = let n = refused tells_past c.read_end.ensures c.in_err-c2.was c.from_residual-in_err-c2.ensures.1 in as_told n.same (data_2 (got_one tells_got c.read_hex.ensures _ _ c.in_ok-byte.was) n.none)

pub returns-in_err-bit : goal.returns-in_err-bit
returns-in_err-bit c = let n = refused tells_got c.read_digit.ensures c.in_err-bit.was c.from_residual-in_err-bit.ensures.1 in as_told n.same (data_3 (got_one tells_got c.read_hex.ensures _ _ c.in_ok-byte.was) (got_one tells_past c.read_end.ensures tt _ c.in_ok-c2.was) n.none)

pub returns-in_err-c4 : goal.returns-in_err-c4
returns-in_err-c4 c = let n = refused tells_past c.read_end-2.ensures c.in_err-c4.was c.from_residual-in_err-c4.ensures.1 in as_told n.same (data_4 (got_one tells_got c.read_hex.ensures _ _ c.in_ok-byte.was) (got_one tells_past c.read_end.ensures tt _ c.in_ok-c2.was) (got_one tells_got c.read_digit.ensures _ _ c.in_ok-bit.was) n.none)

pub returns : goal.returns
returns c = data_all (got_one tells_got c.read_hex.ensures _ _ c.in_ok-byte.was) (got_one tells_past c.read_end.ensures tt _ c.in_ok-c2.was) (got_one tells_got c.read_digit.ensures _ _ c.in_ok-bit.was) (got_one tells_past c.read_end-2.ensures tt _ c.in_ok-c4.was)
