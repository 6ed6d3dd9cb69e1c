use Rattle.record.specs.declared.Event.TheVariants.{Flash, Eeprom, Line}
use Rattle.record.specs.declared.FlashEvent.{FlashEvent}
use Rattle.record.specs.declared.EepromEvent.{EepromEvent}
use Rattle.record.specs.declared.LineEvent.{LineEvent}
use Rattle.field.proofs.Answers.{tells_past, refused}
use Rattle.field.proofs.Reading.{got_none, got_one, as_told}
use Rattle.line.proofs.RecordLaws.{event_none, event_tab, event_flash, event_eeprom, event_line}
use Rattle.line.proofs.records.read_event.Goals as goal

pub returns-in_err-m : goal.returns-in_err-m
returns-in_err-m c = let n = refused tells_past c.read_end.ensures c.in_err-m.was c.from_residual.ensures.1 in as_told n.same (event_tab (Flash FlashEvent.End) (got_one tells_past c.read_word.ensures tt _ c.in-Ok.is) n.none)

pub returns-in-Ok : goal.returns-in-Ok
returns-in-Ok c = event_flash (got_one tells_past c.read_word.ensures tt _ c.in-Ok.is) (got_one tells_past c.read_end.ensures tt _ c.in_ok-m.was) c.read_flash.ensures

pub returns-in_err-m-2 : goal.returns-in_err-m-2
returns-in_err-m-2 c = let n = refused tells_past c.read_end-in-Ok-read_word.ensures c.in_err-m-2.was c.from_residual-in_err-m-2.ensures.1 in as_told n.same (event_tab (Eeprom EepromEvent.End) (got_one tells_past c.read_word-2.ensures tt _ c.in-Ok-read_word.is) n.none)

pub returns-in-Ok-read_word : goal.returns-in-Ok-read_word
returns-in-Ok-read_word c = event_eeprom (got_one tells_past c.read_word-2.ensures tt _ c.in-Ok-read_word.is) (got_one tells_past c.read_end-in-Ok-read_word.ensures tt _ c.in_ok-m-2.was) c.read_eeprom.ensures

pub returns-in_err-n : goal.returns-in_err-n
returns-in_err-n c = let n = refused tells_past c.read_word-3.ensures c.in_err-n.was c.from_residual-in_err-n.ensures.1 in as_told n.same (event_none (got_none tells_past c.read_word.ensures c.in_default.is) (got_none tells_past c.read_word-2.ensures c.in_default-read_word.is) n.none)

pub returns-in_err-m-3 : goal.returns-in_err-m-3
returns-in_err-m-3 c = let n = refused tells_past c.read_end-2.ensures c.in_err-m-3.was c.from_residual-in_err-m-3.ensures.1 in as_told n.same (event_tab (Line LineEvent.SupplyOn) (got_one tells_past c.read_word-3.ensures tt _ c.in_ok-n.was) n.none)

pub returns : goal.returns
returns c = event_line (got_one tells_past c.read_word-3.ensures tt _ c.in_ok-n.was) (got_one tells_past c.read_end-2.ensures tt _ c.in_ok-m-3.was) c.read_line.ensures
