use Rattle.record.specs.declared.LineEvent.TheVariants.{SupplyOn, SupplyOff, LockOn, LockOff}
use Rattle.field.proofs.Answers.{tells_past, refused}
use Rattle.field.proofs.Reading.{got_none, got_one, as_told}
use Rattle.line.proofs.LineLaws.{line_none, line_last}
use Rattle.line.proofs.channel_l.read_line.Goals as goal

pub returns-in-Ok : goal.returns-in-Ok
returns-in-Ok c = line_last SupplyOn (got_one tells_past c.read_word.ensures tt _ c.in-Ok.is) c.read_last.ensures

pub returns-in-Ok-read_word : goal.returns-in-Ok-read_word
returns-in-Ok-read_word c = line_last SupplyOff (got_one tells_past c.read_word-2.ensures tt _ c.in-Ok-read_word.is) c.read_last-in-Ok-read_word.ensures

pub returns-in-Ok-read_word-2 : goal.returns-in-Ok-read_word-2
returns-in-Ok-read_word-2 c = line_last LockOn (got_one tells_past c.read_word-3.ensures tt _ c.in-Ok-read_word-2.is) c.read_last-in-Ok-read_word-2.ensures

pub returns-in_err-n : goal.returns-in_err-n
returns-in_err-n c = let n = refused tells_past c.read_word-4.ensures c.in_err-n.was c.from_residual.ensures.1 in as_told n.same (line_none (got_none tells_past c.read_word.ensures c.in_default.is) (got_none tells_past c.read_word-2.ensures c.in_default-read_word.is) (got_none tells_past c.read_word-3.ensures c.in_default-read_word-2.is) n.none)

pub returns : goal.returns
returns c = line_last LockOff (got_one tells_past c.read_word-4.ensures tt _ c.in_ok-n.was) c.read_last-2.ensures
