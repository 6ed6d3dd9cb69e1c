-- The listing of pages written is what is printed of its text.
use native.Mathlib.Omega.{arith}
use mathlib.Core.Path.{◌≡◌, refl, sym, ap, ◌∙◌}
use mathlib.Core.Bool.{false}
use mathlib.Core.List.{List, [], ◌∷◌, ◌++◌}
use lib.Dec.{eqb}
use Rattle.law.specs.Lists.{RisingFrom, from_rising, all_append}
use Rattle.law.specs.Words.{filter, keep, pick, All}
use Rattle.meaning.specs.Meaning as meaning
use Rattle.meaning.specs.Meaning.{F, E, L, Means, Crowded, crowded, after, outcome}
use Rattle.meaning.proofs.Onward.{goes_on}
use Rattle.meaning.proofs.Steps.{means_crowded}
use Rattle.record.specs.declared.Record.{Record}
use Rattle.record.specs.declared.Reply.{Reply}
use Rattle.record.specs.declared.EepromEvent.TheVariants as eeprom
use Rattle.record.specs.declared.FlashEvent.TheVariants as flash
use Rattle.record.specs.declared.LineEvent.TheVariants as line
use Rattle.image.specs.Images.{Images}
use Rattle.field.specs.Hex.{hex_digit, hex_field}
use Rattle.field.specs.Digit.{digit_field}
use Rattle.field.specs.Decimal.{digits_in, decimal}
use Rattle.line.specs.ChannelE.{spelled_eeprom}
use Rattle.line.specs.ChannelF.{spelled_flash}
use Rattle.line.specs.ChannelL.{spelled_line}
use Rattle.line.specs.Records.{spelled_event, spelled, RecordOk}
use Rattle.line.specs.Boards.{spelled_places, spelled_board}
use Rattle.controls.specs.Play.{moved_of}
use Rattle.times.specs.Times.{never, written, Times}
use Rattle.machine.specs.Effects.{flash_after, eeprom_after}
use Rattle.machine.specs.Machine.{Machine, machine_at_start, on_machine, play_on}
use Rattle.text.specs.Buses as buses
use Rattle.text.specs.Texts.{spelled_all, spelled_trace, Readable}
use Rattle.record.specs.Records.{on_f, on_e, on_l}
use Rattle.demands.specs.Bench.{plain}
use Rattle.demands.proofs.FourTexts.{plain_ok}
use Rattle.demands.proofs.OneStamp.{one_channel, stamp_passes}
use Rattle.listing.specs.Lines.{stop_line}
use Rattle.listing.specs.Pages.{pages_heading, page_line, time_line, lines_below, written_lines}
use Rattle.printing.specs.Printed.{images_from, all_taken, verdict_line, pages_printed_of}
use Rattle.printing.specs.Example.{no_dumps, written_text, written_listing, WrittenPrinted}
use Rattle.printing.proofs.Some.{played_printed}

-- ---- the records, stamp by stamp
abbrev enables : List Record
enables = on_f 10 flash.Select ∷ on_f 10 (flash.Byte 0x06 0xff) ∷ on_f 10 flash.Deselect ∷ []

abbrev programs : List Record
programs =
    on_f 11 flash.Select ∷ on_f 11 (flash.Byte 0x02 0xff) ∷ on_f 11 (flash.Byte 0x00 0xff) ∷ on_f 11 (flash.Byte 0x03 0xff) ∷ on_f 11 (flash.Byte 0x00 0xff) ∷ on_f 11 (flash.Byte 0xaa 0xff) ∷ on_f 11 flash.Deselect ∷ []

abbrev writes : List Record
writes = on_e 20 eeprom.Start ∷ on_e 20 (eeprom.Byte 0xa0 false) ∷ on_e 20 (eeprom.Byte 0x00 false) ∷ on_e 20 (eeprom.Byte 0x40 false) ∷ on_e 20 (eeprom.Byte 0x55 false) ∷ on_e 20 eeprom.Stop ∷ []

abbrev write_ends_lem : List Record
write_ends_lem = on_e 30 eeprom.End ∷ []

abbrev program_ends : List Record
program_ends = on_f 40 flash.End ∷ []

abbrev three : List Record
three = on_l 50 line.LockOn ∷ on_l 50 line.LockOff ∷ on_l 50 line.LockOn ∷ []

abbrev all : List Record
all = enables ++ (programs ++ (writes ++ (write_ends_lem ++ (program_ends ++ three))))

abbrev later : List Record
later = writes ++ (write_ends_lem ++ (program_ends ++ three))

in_range : All RecordOk all
unfolding All
in_range = all_append RecordOk (enables ++ programs) later (omega arith) (omega arith)

readable : Readable written_text plain all
unfolding RisingFrom buses.after spelled_trace spelled_all spelled spelled_event spelled_eeprom spelled_flash spelled_line spelled_board spelled_places hex_field hex_digit digit_field decimal digits_in
readable = record {
  board = plain_ok;
  fits = in_range;
  acceptable = record { never_back = from_rising (λ (r : Record). r.stamp) 0 all (omega arith); possible = (_, refl) };
  is = refl;
}

-- ---- page 3 and page 1 are written, and no other
abbrev these : Times
these = record { flash = λ n. pick (eqb n 3) (written 40) never; eeprom = λ n. pick (eqb n 1) (written 30) never }

lines : pages_heading ++ (written_lines these ++ stop_line 6 50) ≡ written_listing
unfolding pages_heading written_lines lines_below time_line page_line stop_line decimal digits_in
lines = refl

-- ---- what they make of the machine
module _ (x : Images) where
  abbrev enabled : Machine
  enabled = after (on_machine plain) enables (machine_at_start plain x)

  abbrev programming : Machine
  programming = after (on_machine plain) programs enabled

  abbrev writing : Machine
  writing = after (on_machine plain) writes programming

  abbrev stored : Machine
  stored = after (on_machine plain) write_ends_lem writing

  abbrev programmed : Machine
  programmed = after (on_machine plain) program_ends stored

  abbrev answer : meaning.Answer Machine Reply
  answer =
      goes_on (outcome (on_machine plain) enables (machine_at_start plain x))
      (goes_on (outcome (on_machine plain) programs enabled)
      (goes_on (outcome (on_machine plain) writes programming)
      (goes_on (outcome (on_machine plain) write_ends_lem writing)
      (goes_on (outcome (on_machine plain) program_ends stored)
      (meaning.stopped crowded 50 (outcome (on_machine plain) [] programmed))))))

  answered : Means (on_machine plain) all (machine_at_start plain x) answer
  unfolding filter keep All Crowded after play_on moved_of flash_after eeprom_after
  answered =
      let six = means_crowded (on_machine plain) three [] 50 (refl, (refl, (refl, tt))) tt programmed refl (L, omega arith) in
      let five = stamp_passes (on_machine plain) program_ends three 40 (refl, tt) (omega arith) refl stored refl (one_channel (on_machine plain) F program_ends (refl, tt) stored) refl _ six in
      let four = stamp_passes (on_machine plain) write_ends_lem (program_ends ++ three) 30 (refl, tt) (omega arith) refl writing refl (one_channel (on_machine plain) E write_ends_lem (refl, tt) writing) refl _ five in
      let three-on = stamp_passes (on_machine plain) writes (write_ends_lem ++ (program_ends ++ three)) 20 (refl, (refl, (refl, (refl, (refl, (refl, tt)))))) (omega arith) refl programming refl
      (one_channel (on_machine plain) E writes (refl, (refl, (refl, (refl, (refl, (refl, tt)))))) programming) refl _ four in
      let two = stamp_passes (on_machine plain) programs later 11 (refl, (refl, (refl, (refl, (refl, (refl, (refl, tt))))))) (omega arith) refl enabled refl
      (one_channel (on_machine plain) F programs (refl, (refl, (refl, (refl, (refl, (refl, (refl, tt))))))) enabled) refl _ three-on in
      stamp_passes (on_machine plain) enables (programs ++ later) 10 (refl, (refl, (refl, tt))) (omega arith) refl (machine_at_start plain x) refl
      (one_channel (on_machine plain) F enables (refl, (refl, (refl, tt))) (machine_at_start plain x)) refl _ two

  times_are : programmed.times ≡ these
  unfolding after play_on moved_of
  times_are = refl

  listed : written_listing ≡ pages_printed_of plain all answer
  unfolding pages_printed_of verdict_line goes_on after
  listed = sym (ap (λ (y : Times). pages_heading ++ (written_lines y ++ stop_line 6 50)) times_are ∙ lines)

pub written_printed : WrittenPrinted
unfolding all_taken
written_printed = played_printed pages_printed_of written_text no_dumps refl refl plain all readable written_listing (answer (images_from no_dumps), answered (images_from no_dumps), listed (images_from no_dumps))
