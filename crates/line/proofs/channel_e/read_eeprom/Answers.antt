use Rattle.field.proofs.Answers.{tells_past, refused}
use Rattle.field.proofs.Reading.{got_none, got_one, as_told}
use Rattle.line.proofs.EepromLaws.{eeprom_none, eeprom_tab, eeprom_b, eeprom_sta, eeprom_sto, eeprom_end_lem, eeprom_cut}
use Rattle.line.proofs.channel_e.read_eeprom.Goals as goal

pub returns-in_err-m : goal.returns-in_err-m
returns-in_err-m c = let n = refused tells_past c.read_end.ensures c.in_err-m.was c.from_residual.ensures.1 in as_told n.same (eeprom_tab (got_one tells_past c.read_word.ensures tt _ c.in-Ok.is) n.none)

pub returns-in-Ok : goal.returns-in-Ok
returns-in-Ok c = eeprom_b (got_one tells_past c.read_word.ensures tt _ c.in-Ok.is) (got_one tells_past c.read_end.ensures tt _ c.in_ok-m.was) c.read_data.ensures

pub returns-in-Ok-read_word : goal.returns-in-Ok-read_word
returns-in-Ok-read_word c = eeprom_sta (got_one tells_past c.read_word-2.ensures tt _ c.in-Ok-read_word.is) c.read_last.ensures

pub returns-in-Ok-read_word-2 : goal.returns-in-Ok-read_word-2
returns-in-Ok-read_word-2 c = eeprom_sto (got_one tells_past c.read_word-3.ensures tt _ c.in-Ok-read_word-2.is) c.read_last-in-Ok-read_word-2.ensures

pub returns-in-Ok-read_word-3 : goal.returns-in-Ok-read_word-3
returns-in-Ok-read_word-3 c = eeprom_end_lem (got_one tells_past c.read_word-4.ensures tt _ c.in-Ok-read_word-3.is) c.read_last-in-Ok-read_word-3.ensures

pub returns-in_err-n : goal.returns-in_err-n
returns-in_err-n c = let n = refused tells_past c.read_word-5.ensures c.in_err-n.was c.from_residual-in_err-n.ensures.1 in as_told n.same (eeprom_none (got_none tells_past c.read_word-2.ensures c.in_default-read_word.is) n.none (got_none tells_past c.read_word-3.ensures c.in_default-read_word-2.is) (got_none tells_past c.read_word-4.ensures c.in_default-read_word-3.is) (got_none tells_past c.read_word.ensures c.in_default.is))

pub returns : goal.returns
returns c = eeprom_cut (got_one tells_past c.read_word-5.ensures tt _ c.in_ok-n.was) c.read_last-2.ensures
