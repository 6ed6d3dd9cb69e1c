-- The listing of a stop is what is printed of its text.
use native.Mathlib.Omega.{arith}
use mathlib.Core.Path.{◌≡◌, refl}
use mathlib.Core.List.{List, [], ◌∷◌, ◌++◌}
use Rattle.law.specs.Words.{filter, keep, All, Rising}
use Rattle.meaning.specs.Meaning as meaning
use Rattle.meaning.specs.Meaning.{F, L, Means, Crowded, crowded, after, outcome, replies}
use Rattle.meaning.specs.Listing.{laid}
use Rattle.meaning.proofs.Onward.{goes_on}
use Rattle.meaning.proofs.Steps.{means_crowded}
use Rattle.record.specs.declared.Record.{Record}
use Rattle.record.specs.declared.Reply.{Reply}
use Rattle.record.specs.declared.FlashEvent.TheVariants as flash
use Rattle.record.specs.declared.LineEvent.TheVariants as line
use Rattle.image.specs.Images.{Images}
use Rattle.field.specs.Hex.{hex_digit, hex_field}
use Rattle.field.specs.Digit.{digit_field}
use Rattle.field.specs.Decimal.{digits_in, decimal}
use Rattle.line.specs.ChannelF.{spelled_flash}
use Rattle.line.specs.ChannelL.{spelled_line}
use Rattle.line.specs.Records.{spelled_event, spelled}
use Rattle.line.specs.Boards.{spelled_places, spelled_board}
use Rattle.controls.specs.Play.{moved_of}
use Rattle.machine.specs.Effects.{flash_after, eeprom_after}
use Rattle.machine.specs.Replies.{delivered, compared}
use Rattle.machine.specs.Machine.{Machine, machine_at_start, on_machine, play_on, says_on}
use Rattle.text.specs.Buses as buses
use Rattle.text.specs.Texts.{spelled_all, spelled_trace, Readable}
use Rattle.record.specs.Records.{on_f, on_l}
use Rattle.demands.specs.Bench.{plain}
use Rattle.demands.proofs.OneStamp.{one_channel, stamp_passes}
use Rattle.listing.specs.Lines.{heading, reply_text, match_text, record_line, stop_line}
use Rattle.printing.specs.Printed.{images_from, all_taken, lines_from, verdict_line, printed_of}
use Rattle.printing.specs.Example.{no_dumps, stop_text, stop_listing, StopPrinted}
use Rattle.printing.proofs.Some.{played_printed}

abbrev opens : List Record
opens = on_f 10 flash.Select ∷ []

abbrev closes : List Record
closes = on_f 15 flash.Deselect ∷ []

abbrev three : List Record
three = on_l 20 line.LockOn ∷ on_l 20 line.LockOff ∷ on_l 20 line.LockOn ∷ []

abbrev all : List Record
all = opens ++ (closes ++ three)

readable : Readable stop_text plain all
unfolding All Rising buses.after spelled_trace spelled_all spelled spelled_event spelled_flash spelled_line spelled_board spelled_places hex_field hex_digit digit_field decimal digits_in
readable = record {
  board = ((omega arith, refl, refl), ((omega arith, omega arith, omega arith), (omega arith, omega arith, omega arith)));
  fits = omega arith;
  acceptable = record { never_back = omega arith; possible = (_, refl) };
  is = refl;
}

module _ (x : Images) where
  abbrev opened : Machine
  opened = after (on_machine plain) opens (machine_at_start plain x)

  abbrev closed : Machine
  closed = after (on_machine plain) closes opened

  abbrev answer : meaning.Answer Machine Reply
  answer = goes_on (outcome (on_machine plain) opens (machine_at_start plain x)) (goes_on (outcome (on_machine plain) closes opened) (meaning.stopped crowded 20 (outcome (on_machine plain) [] closed)))

  answered : Means (on_machine plain) all (machine_at_start plain x) answer
  unfolding filter keep All Crowded after play_on moved_of flash_after eeprom_after
  answered =
      let last = means_crowded (on_machine plain) three [] 20 (refl, (refl, (refl, tt))) tt closed refl (L, omega arith) in
      let next = stamp_passes (on_machine plain) closes three 15 (refl, tt) (omega arith, (omega arith, (omega arith, tt))) refl opened refl
      (one_channel (on_machine plain) F closes (refl, tt) opened) refl _ last in
      stamp_passes (on_machine plain) opens (closes ++ three) 10 (refl, tt) (omega arith, (omega arith, (omega arith, (omega arith, tt)))) refl (machine_at_start plain x) refl
      (one_channel (on_machine plain) F opens (refl, tt) (machine_at_start plain x)) refl _ next

  listed : stop_listing ≡ printed_of plain all answer
  unfolding heading printed_of verdict_line lines_from stop_line record_line reply_text match_text decimal digits_in goes_on filter keep laid replies after play_on says_on moved_of delivered compared flash_after eeprom_after
  listed = refl

pub stop_printed : StopPrinted
unfolding all_taken
stop_printed = played_printed printed_of stop_text no_dumps refl refl plain all readable stop_listing (answer (images_from no_dumps), answered (images_from no_dumps), listed (images_from no_dumps))
