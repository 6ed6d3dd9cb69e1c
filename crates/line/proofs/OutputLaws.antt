-- A line that was put together is copied out; how long lines are.
use Rattle.std.proofs.Common.{rules}
use Prim.Native.Nat.{ℕ, ◌+◌, ◌≤◌, ◌<◌}
use native.Mathlib.Omega.{arith}
use mathlib.Core.Path.{◌≡◌, refl, ap, subst, ◌∙◌}
use mathlib.Core.List.{List, ◌++◌}
use lib.ListN.{length, drop, length-append}
use borrow.Author.Tests.{lt-ltb, le-ltb}
use Rattle.record.specs.declared.FlashEvent.{FlashEvent}
use Rattle.record.specs.declared.EepromEvent.{EepromEvent}
use Rattle.record.specs.declared.LineEvent.{LineEvent}
use Rattle.record.specs.declared.Event.{Event}
use Rattle.record.specs.declared.Record.{Record}
use Rattle.record.specs.declared.Board.{Board}
use Rattle.field.specs.Decimal.{largest, decimal}
use Rattle.field.specs.Ends.{tab}
use Rattle.field.specs.Hex.{hex_field}
use Rattle.field.specs.Digit.{digit_field}
use Rattle.field.specs.Spelling.{no_bytes, put_all}
use Rattle.field.proofs.SpellingLaws.{holds, digits_count}
use Rattle.line.specs.ChannelF.{spelled_flash}
use Rattle.line.specs.ChannelE.{spelled_eeprom}
use Rattle.line.specs.ChannelL.{spelled_line}
use Rattle.line.specs.Records.{spelled_event, spelled}
use Rattle.line.specs.Boards.{spelled_board, spelled_places, BoardOk, WroteBoard}
use Rattle.line.specs.Output.{on_paper, Wrote}
use Rattle.std.specs.Prelude.{Result, Ok, Err}
use Rattle.line.specs.declared.output.WriteError.{WriteError}

-- ---- copying
pub wrote_not : (w old : List ℕ) → length old < length w → Wrote w old old (Err WriteError.TooShort)
wrote_not w old h = record { answer = simp (lt-ltb (length old) (length w) h); content = simp (lt-ltb (length old) (length w) h) }

pub wrote_all : (w old new : List ℕ) (n : ℕ) → n ≡ length w → n ≤ length old → new ≡ w ++ drop n old → Wrote w old new (Ok n)
wrote_all w old new n e h p = record {
  answer = simp (le-ltb (length old) (length w) (omega arith)) (ap (λ (k : ℕ). on_paper (Ok k)) e);
  content = simp (le-ltb (length old) (length w) (omega arith)) (p ∙ ap (λ (k : ℕ). w ++ drop k old) e);
}

pub wrote_as : {u v old new : List ℕ} {r : Result ℕ WriteError} → u ≡ v → Wrote u old new r → Wrote v old new r
wrote_as {u} {v} {old} {new} {r} e p = subst (λ (l : List ℕ). Wrote l old new r) e p

pub wrote_board_not : (b : Board) (old : List ℕ) → (BoardOk b → ⊥) → WroteBoard b old old (Err WriteError.OutOfRange)
wrote_board_not b old n = record { out_of_range = λ m. (refl, refl); in_range = λ o. absurd (n o) }

pub wrote_board : {b : Board} {old new : List ℕ} {r : Result ℕ WriteError} → BoardOk b → Wrote (spelled_board b) old new r → WroteBoard b old new r
wrote_board o w = record { out_of_range = λ n. absurd (n o); in_range = λ p. w }

-- ---- how long lines are
flash_length_lem : (e : FlashEvent) → (4 ≤ length (spelled_flash e)) × (length (spelled_flash e) ≤ 8)
unfolding spelled_flash hex_field
flash_length_lem e = search rules

eeprom_length_lem : (e : EepromEvent) → (4 ≤ length (spelled_eeprom e)) × (length (spelled_eeprom e) ≤ 7)
unfolding spelled_eeprom hex_field
eeprom_length_lem e = search rules

line_length_lem : (e : LineEvent) → (3 ≤ length (spelled_line e)) × (length (spelled_line e) ≤ 5)
unfolding spelled_line
line_length_lem e = search rules

event_length : (e : Event) → (5 ≤ length (spelled_event e)) × (length (spelled_event e) ≤ 10)
unfolding spelled_event
event_length e = search (rules, flash_length_lem, eeprom_length_lem, line_length_lem)

-- a record's line: the stamp's digits, a tab, the event
pub parts : (r : Record) → length (spelled r) ≡ length (decimal r.stamp) + 1 + length (spelled_event r.event)
unfolding spelled
parts r = omega (arith, length-append (decimal r.stamp) (tab ++ spelled_event r.event))

-- a record's line has 7 to 21 bytes
pub spelled_length_min : (r : Record) → r.stamp ≤ largest → 7 ≤ length (spelled r)
spelled_length_min r h = omega (arith, parts r, digits_count r.stamp h, event_length r.event)

pub spelled_length_max : (r : Record) → r.stamp ≤ largest → length (spelled r) ≤ 21
spelled_length_max r h = omega (arith, parts r, digits_count r.stamp h, event_length r.event)

-- a board's line has 13
pub board_length : (b : Board) → length (spelled_board b) ≡ 13
unfolding spelled_board spelled_places hex_field digit_field
board_length b = refl

-- ---- a line put together from nothing holds just its bytes
pub fits_board : (b : Board) {s : List ℕ} → s ≡ put_all no_bytes (spelled_board b) → s ≡ spelled_board b
fits_board b e = holds (spelled_board b) e (omega (arith, board_length b))

pub fits_record : (r : Record) {s : List ℕ} → r.stamp ≤ largest → s ≡ put_all no_bytes (spelled r) → s ≡ spelled r
fits_record r h e = holds (spelled r) e (omega (arith, spelled_length_max r h))
