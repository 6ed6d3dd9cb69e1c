-- What the readers of a line's parts promise. From a later field on, the number of the first bad field is told of the fields that are left.
use Rattle.std.specs.Prelude.{◌<◌, ℕ, Bool, List, ◌++◌, drop}
use Rattle.record.specs.Status.{StatusOk}
use Rattle.record.specs.declared.Board.{Board}
use Rattle.record.specs.declared.Event.{Event}
use Rattle.record.specs.declared.FlashEvent.{FlashEvent}
use Rattle.record.specs.declared.EepromEvent.{EepromEvent}
use Rattle.field.specs.Ends.{lf, tab}
use Rattle.field.specs.Hex.{hex_field}
use Rattle.field.specs.Reads.{Reads}
use Rattle.field.specs.Read.{Read, got, bad_field}
use Rattle.field.specs.Readers.{end_number}
use Rattle.line.specs.Boards.{PlacesOk, spelled_places}
use Rattle.line.specs.ChannelE.{EepromOk, bit_digit, spelled_eeprom}
use Rattle.line.specs.ChannelF.{FlashOk, spelled_flash}
use Rattle.line.specs.ChannelL.{spelled_line}
use Rattle.line.specs.Places.{pair_places, data_places, flash_places, eeprom_places, line_places, event_places, after_status, bad_from}
use Rattle.line.specs.Records.{EventOk, spelled_event}

-- ---- the board's
abbrev pub ReadsStatus : List ℕ → ℕ → Read ℕ → Type 0
ReadsStatus = Reads hex_field StatusOk got (bad_field 2)

-- the board with a status that was read before
abbrev pub board_with : ℕ → ℕ × ℕ → Board
board_with s x = record { status = s; sector = x.0; address = x.1 }

abbrev pub ReadsPlaces : ℕ → List ℕ → ℕ → Read Board → Type 0
ReadsPlaces s text at = Reads spelled_places PlacesOk (λ x p. got (board_with s x) p) (bad_field (bad_from (λ _. after_status) 3 (drop at text))) text at

-- ---- an event's
-- the LF after the word of an event that has no fields
abbrev pub ReadsLast : Event → List ℕ → ℕ → Read Event → Type 0
ReadsLast e text at = Reads {A = Unit {0}} (λ _. lf) (λ _. Unit {0}) (λ _ p. got e p) (bad_field (end_number 3 text at)) text at

unfoldable pub spelled_bit : Bool → List ℕ
spelled_bit a = tab ++ (bit_digit a ++ lf)

-- a byte and its acknowledge bit
unfoldable pub spelled_data : ℕ × Bool → List ℕ
spelled_data x = hex_field x.0 ++ spelled_bit x.1

abbrev pub DataOk : ℕ × Bool → Type 0
DataOk x = x.0 < 256

abbrev pub ReadsData : List ℕ → ℕ → Read Event → Type 0
ReadsData text at = Reads spelled_data DataOk (λ x p. got (Event.Eeprom (EepromEvent.Byte x.0 x.1)) p) (bad_field (bad_from (λ _. data_places) 4 (drop at text))) text at

abbrev pub ReadsEeprom : List ℕ → ℕ → Read Event → Type 0
ReadsEeprom text at = Reads spelled_eeprom EepromOk (λ x p. got (Event.Eeprom x) p) (bad_field (bad_from eeprom_places 3 (drop at text))) text at

-- SI and SO, one byte each way
unfoldable pub spelled_pair : ℕ × ℕ → List ℕ
spelled_pair x = hex_field x.0 ++ (tab ++ (hex_field x.1 ++ lf))

abbrev pub PairOk : ℕ × ℕ → Type 0
PairOk x = (x.0 < 256) × (x.1 < 256)

abbrev pub ReadsPair : List ℕ → ℕ → Read Event → Type 0
ReadsPair text at = Reads spelled_pair PairOk (λ x p. got (Event.Flash (FlashEvent.Byte x.0 x.1)) p) (bad_field (bad_from (λ _. pair_places) 4 (drop at text))) text at

abbrev pub ReadsFlash : List ℕ → ℕ → Read Event → Type 0
ReadsFlash text at = Reads spelled_flash FlashOk (λ x p. got (Event.Flash x) p) (bad_field (bad_from flash_places 3 (drop at text))) text at

abbrev pub ReadsLine : List ℕ → ℕ → Read Event → Type 0
ReadsLine text at = Reads spelled_line (λ _. Unit {0}) (λ x p. got (Event.Line x) p) (bad_field (bad_from (λ _. line_places) 3 (drop at text))) text at

abbrev pub ReadsEvent : List ℕ → ℕ → Read Event → Type 0
ReadsEvent text at = Reads spelled_event EventOk got (bad_field (bad_from event_places 2 (drop at text))) text at
