use Rattle.field.proofs.Answers.{tells_got, tells_past, refused}
use Rattle.field.proofs.Reading.{got_one, as_told}
use Rattle.line.proofs.RecordLaws.{record_1, record_2, record_3, record_all}
use Rattle.line.proofs.records.read_record.Goals as goal

pub returns-in_err-stamp : goal.returns-in_err-stamp
returns-in_err-stamp c = let n = refused tells_got c.read_decimal.ensures c.in_err-stamp.was c.from_residual.ensures.1 in as_told n.same (record_1 n.none)

pub returns-in_err-c2 : goal.returns-in_err-c2
returns-in_err-c2 c = let n = refused tells_past c.read_end.ensures c.in_err-c2.was c.from_residual-in_err-c2.ensures.1 in as_told n.same (record_2 (got_one tells_got c.read_decimal.ensures _ _ c.in_ok-stamp.was) n.none)

pub returns-in_err-event : goal.returns-in_err-event
returns-in_err-event c = let n = refused tells_got c.read_event.ensures c.in_err-event.was c.from_residual-in_err-event.ensures.1 in as_told n.same (record_3 (got_one tells_got c.read_decimal.ensures _ _ c.in_ok-stamp.was) (got_one tells_past c.read_end.ensures tt _ c.in_ok-c2.was) n.none)

pub returns : goal.returns
returns c = record_all (got_one tells_got c.read_decimal.ensures _ _ c.in_ok-stamp.was) (got_one tells_past c.read_end.ensures tt _ c.in_ok-c2.was) (got_one tells_got c.read_event.ensures _ _ c.in_ok-event.was)
