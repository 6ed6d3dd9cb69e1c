-- The controls as each chip sees them: the chip and the two lines.
use mathlib.Core.Path.{◌≡◌, refl, sym}
use mathlib.Core.Bool.{true}
use Prim.Native.Nat.{ℕ}
use Rattle.tied.specs.Control.{Control, Lawful}
use Rattle.tied.proofs.Through.{through, through_lawful}
use Rattle.law.specs.Choice.{true_not_false}
use Rattle.law.specs.Words.{pick}
use Rattle.meaning.specs.Meaning.{F, E, L, same}
use Rattle.meaning.proofs.Chips.{heard, Sees, Beside}
use Rattle.record.specs.declared.Board.{Board}
use Rattle.record.specs.declared.Record.{Record}
use Rattle.record.specs.declared.Event.{Event}
use Rattle.record.specs.declared.Event.TheVariants as event
use Rattle.record.specs.declared.FlashEvent.{FlashEvent}
use Rattle.record.specs.declared.FlashEvent.TheVariants as flash-event
use Rattle.record.specs.declared.EepromEvent.{EepromEvent}
use Rattle.record.specs.declared.EepromEvent.TheVariants as eeprom-event
use Rattle.record.specs.declared.LineEvent.{LineEvent}
use Rattle.record.specs.declared.LineEvent.TheVariants as line-event
use Rattle.record.specs.declared.Skeleton.{Skeleton}
use Rattle.controls.specs.declared.Controls.{Controls}
use Rattle.controls.specs.Play.{moved_of, start_of, event_moved}
use Rattle.flash.specs.Side as flash-side
use Rattle.flash.specs.Told as flash-told
use Rattle.flash.proofs.Laws as flash-laws
use Rattle.eeprom.specs.Side as eeprom-side
use Rattle.eeprom.specs.Told as eeprom-told
use Rattle.eeprom.proofs.Laws as eeprom-laws
use Rattle.machine.specs.Machine.{channel_of, on_controls}
use Rattle.controls.specs.Sides.{flash_side, eeprom_side}

-- the event of a channel's record; what stands for the others never counts
abbrev pub flash_event : Event → FlashEvent
flash_event (event.Flash e) = e
flash_event (event.Eeprom e) = flash-event.End
flash_event (event.Line e) = flash-event.End

abbrev pub eeprom_event : Event → EepromEvent
eeprom_event (event.Flash e) = eeprom-event.End
eeprom_event (event.Eeprom e) = e
eeprom_event (event.Line e) = eeprom-event.End

abbrev pub line_event : Event → LineEvent
line_event (event.Flash e) = line-event.SupplyOn
line_event (event.Eeprom e) = line-event.SupplyOn
line_event (event.Line e) = e

-- the chips as controls over records
abbrev pub flash_over : Board → Control flash-side.Side Record Record Skeleton flash-told.Running flash-told.Told
flash_over b = through (flash-told.flash_control b.sector) (λ (r : Record). flash_event r.event) (λ (r : Record). line_event r.event)

abbrev pub eeprom_over : Board → Control eeprom-side.Side Record Record Skeleton eeprom-told.Writing eeprom-told.Told
eeprom_over b = through (eeprom-told.eeprom_control b.address) (λ (r : Record). eeprom_event r.event) (λ (r : Record). line_event r.event)

pub flash_over_lawful : (b : Board) → Lawful (flash_over b)
flash_over_lawful b = through_lawful (flash-told.flash_control b.sector) (λ (r : Record). flash_event r.event) (λ (r : Record). line_event r.event) (flash-laws.flash_lawful b.sector)

pub eeprom_over_lawful : (b : Board) → Lawful (eeprom_over b)
eeprom_over_lawful b = through_lawful (eeprom-told.eeprom_control b.address) (λ (r : Record). eeprom_event r.event) (λ (r : Record). line_event r.event) (eeprom-laws.eeprom_lawful b.address)

module _ (b : Board) where
  -- ---- the flash: the controls without it, and a row for each event: what it sees, what it says, and what its record leaves
  abbrev pub flash_rest : Controls → Controls
  flash_rest c = record { flash = (start_of b).flash; eeprom = c.eeprom; lines = c.lines }

  flash_row : (v : Event) (stamp : ℕ) (c : Controls) →
      (flash_side (event_moved b c v).controls ≡ heard (flash_over b).bus (flash_over b).line (same F (channel_of v)) (same L (channel_of v)) (flash_side c) (record { stamp = stamp; event = v }))
      × (same F (channel_of v) ≡ true → (event_moved b c v).reply ≡ (flash_over b).skel (flash_side c) (record { stamp = stamp; event = v }))
      × (flash_rest (event_moved b c v).controls ≡ pick (same F (channel_of v)) (flash_rest c) (flash_rest (event_moved b (flash_rest c) v).controls))
  unfolding heard
  flash_row (event.Flash e) t c = (refl, (λ i. refl), refl)
  flash_row (event.Eeprom e) t c = (refl, (λ i. absurd (true_not_false (sym i))), refl)
  flash_row (event.Line e) t c = (refl, (λ i. absurd (true_not_false (sym i))), refl)

  pub flash_seen_lem : Sees (on_controls b) F flash_side (flash_over b).bus (flash_over b).skel (flash_over b).line
  unfolding moved_of
  flash_seen_lem = record { apart = refl; plays = λ c r. (flash_row r.event r.stamp c).0; says = λ c r. (flash_row r.event r.stamp c).1 }

  pub flash_beside : Beside (on_controls b) F flash_side flash_rest
  unfolding moved_of
  flash_beside = record { plays = λ c r. (flash_row r.event r.stamp c).2; all = λ c d f e i. record { flash = (f i).chip; eeprom = (e i).eeprom; lines = (e i).lines } }

  -- ---- the EEPROM
  abbrev pub eeprom_rest : Controls → Controls
  eeprom_rest c = record { flash = c.flash; eeprom = (start_of b).eeprom; lines = c.lines }

  eeprom_row : (v : Event) (stamp : ℕ) (c : Controls) →
      (eeprom_side (event_moved b c v).controls ≡ heard (eeprom_over b).bus (eeprom_over b).line (same E (channel_of v)) (same L (channel_of v)) (eeprom_side c) (record { stamp = stamp; event = v }))
      × (same E (channel_of v) ≡ true → (event_moved b c v).reply ≡ (eeprom_over b).skel (eeprom_side c) (record { stamp = stamp; event = v }))
      × (eeprom_rest (event_moved b c v).controls ≡ pick (same E (channel_of v)) (eeprom_rest c) (eeprom_rest (event_moved b (eeprom_rest c) v).controls))
  unfolding heard
  eeprom_row (event.Flash e) t c = (refl, (λ i. absurd (true_not_false (sym i))), refl)
  eeprom_row (event.Eeprom e) t c = (refl, (λ i. refl), refl)
  eeprom_row (event.Line e) t c = (refl, (λ i. absurd (true_not_false (sym i))), refl)

  pub eeprom_seen_lem : Sees (on_controls b) E eeprom_side (eeprom_over b).bus (eeprom_over b).skel (eeprom_over b).line
  unfolding moved_of
  eeprom_seen_lem = record { apart = refl; plays = λ c r. (eeprom_row r.event r.stamp c).0; says = λ c r. (eeprom_row r.event r.stamp c).1 }

  pub eeprom_beside : Beside (on_controls b) E eeprom_side eeprom_rest
  unfolding moved_of
  eeprom_beside = record { plays = λ c r. (eeprom_row r.event r.stamp c).2; all = λ c d e f i. record { flash = (f i).flash; eeprom = (e i).chip; lines = (f i).lines } }
