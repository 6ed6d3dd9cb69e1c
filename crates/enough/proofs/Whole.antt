-- The machine, played at one stamp, as each chip sees it: the chip, the two lines, and the chip's image with its pages' times.
use mathlib.Core.Path.{◌≡◌, refl, sym, ap, ◌∙◌}
use mathlib.Core.Bool.{true}
use Prim.Native.Nat.{ℕ}
use Rattle.law.specs.Choice.{true_not_false}
use Rattle.tied.proofs.Parts as parts
use Rattle.tied.proofs.Parts.{bus_with, reply_with, line_with}
use Rattle.meaning.specs.Meaning.{F, E, L, same}
use Rattle.meaning.proofs.Chips.{heard, Sees}
use Rattle.record.specs.declared.Board.{Board}
use Rattle.record.specs.declared.Record.{Record}
use Rattle.record.specs.declared.Event.{Event}
use Rattle.record.specs.declared.Event.TheVariants as event
use Rattle.record.specs.declared.Skeleton.TheVariants.{Silent}
use Rattle.controls.specs.declared.Controls.{Controls}
use Rattle.controls.specs.Play.{moved_of, event_moved}
use Rattle.flash.specs.Side as flash-side
use Rattle.eeprom.specs.Side as eeprom-side
use Rattle.times.specs.Times.{times_after}
use Rattle.machine.specs.Effects.{flash_after, eeprom_after, images_after, touched_by}
use Rattle.machine.specs.Replies.{delivered}
use Rattle.machine.specs.Machine.{Machine, machine_of, image_for, play_on, says_on, channel_of}
use Rattle.enough.proofs.Sides.{flash_over, eeprom_over, flash_over_lawful, eeprom_over_lawful, flash_rest, eeprom_rest, flash_seen_lem, eeprom_seen_lem, flash_beside, eeprom_beside}
use Rattle.controls.specs.Sides.{flash_side, eeprom_side}
use Rattle.enough.proofs.AtStamp.{at_stamp}
use Rattle.enough.proofs.OneChip.{OneChip, see, deliver_plain, reads}
use Rattle.machine.proofs.Memory.{Memory}
use Rattle.enough.proofs.Effects.{flash_effects, eeprom_effects, flash_bus_lem, flash_line, eeprom_bus_lem, eeprom_line}

abbrev pub flash_memory : Machine → Memory
flash_memory m = record { image = m.images.flash; times = m.times.flash }

abbrev pub eeprom_memory : Machine → Memory
eeprom_memory m = record { image = m.images.eeprom; times = m.times.eeprom }

abbrev pub see_flash : Machine → parts.Part flash-side.Side Memory
see_flash = see flash_side flash_memory

abbrev pub see_eeprom : Machine → parts.Part eeprom-side.Side Memory
see_eeprom = see eeprom_side eeprom_memory

pub seen_all : (m n : Machine) → see_flash m ≡ see_flash n → see_eeprom m ≡ see_eeprom n → m ≡ n
seen_all m n f e i = record {
  controls = record { flash = (f i).control.chip; eeprom = (e i).control.chip; lines = (f i).control.lines };
  images = record { flash = (f i).image.image; eeprom = (e i).image.image };
  times = record { flash = (f i).image.times; eeprom = (e i).image.times };
}

module _ (b : Board) where
  module _ (t : ℕ) where
    -- the machine after an event at the stamp
    abbrev after : Event → Machine → Machine
    after v m =
        let k = event_moved b m.controls v in
        machine_of k.controls (images_after b m.controls v k.reply m.images) (times_after t (touched_by b m.controls v k.reply) m.times)

    -- ---- the flash's part: a row for each event, what it sees and what it says
    flash_row : (v : Event) (stamp : ℕ) (m : Machine) →
        (see_flash (after v m) ≡ heard (bus_with (flash_over b) (flash_effects b t)) (line_with (flash_over b) (flash_effects b t)) (same F (channel_of v)) (same L (channel_of v)) (see_flash m) (record { stamp = stamp; event = v }))
        × (same F (channel_of v) ≡ true →
        delivered (image_for v m.images) (event_moved b m.controls v).reply ≡ reply_with (flash_over b) (flash_effects b t) (see_flash m) (record { stamp = stamp; event = v }))
    unfolding heard flash_after
    flash_row (event.Flash e) u m =
        let h = flash_bus_lem b t (flash-side.side_says b.sector (flash_side m.controls) e) m.controls.flash (flash_memory m) in
        ((λ j. record { control = flash-side.side_bus b.sector (flash_side m.controls) e; image = h j }), λ i. refl)
    flash_row (event.Eeprom e) u m = (refl, λ i. absurd (true_not_false (sym i)))
    flash_row (event.Line e) u m =
        let h = flash_line b t e m.controls.flash m.controls.lines (flash_memory m) in
        ((λ j. record { control = flash-side.side_line (flash_side m.controls) e; image = h j }), λ i. absurd (true_not_false (sym i)))

    flash_whole : Sees (at_stamp b t) F see_flash (bus_with (flash_over b) (flash_effects b t)) (reply_with (flash_over b) (flash_effects b t)) (line_with (flash_over b) (flash_effects b t))
    unfolding play_on says_on moved_of
    flash_whole = record { apart = refl; plays = λ m r. (flash_row r.event r.stamp m).0; says = λ m r. (flash_row r.event r.stamp m).1 }

    -- ---- the EEPROM's part
    eeprom_row : (v : Event) (stamp : ℕ) (m : Machine) →
        (see_eeprom (after v m) ≡ heard (bus_with (eeprom_over b) (eeprom_effects t)) (line_with (eeprom_over b) (eeprom_effects t)) (same E (channel_of v)) (same L (channel_of v)) (see_eeprom m) (record { stamp = stamp; event = v }))
        × (same E (channel_of v) ≡ true →
        delivered (image_for v m.images) (event_moved b m.controls v).reply ≡ reply_with (eeprom_over b) (eeprom_effects t) (see_eeprom m) (record { stamp = stamp; event = v }))
    unfolding heard eeprom_after
    eeprom_row (event.Flash e) u m = (refl, λ i. absurd (true_not_false (sym i)))
    eeprom_row (event.Eeprom e) u m =
        let h = eeprom_bus_lem b t (eeprom-side.side_says b.address (eeprom_side m.controls) e) m.controls.eeprom (eeprom_memory m) in
        ((λ j. record { control = eeprom-side.side_bus b.address (eeprom_side m.controls) e; image = h j }), λ i. refl)
    eeprom_row (event.Line e) u m =
        let h = eeprom_line b t e m.controls.eeprom m.controls.lines (eeprom_memory m) in
        ((λ j. record { control = eeprom-side.side_line (eeprom_side m.controls) e; image = h j }), λ i. absurd (true_not_false (sym i)))

    eeprom_whole : Sees (at_stamp b t) E see_eeprom (bus_with (eeprom_over b) (eeprom_effects t)) (reply_with (eeprom_over b) (eeprom_effects t)) (line_with (eeprom_over b) (eeprom_effects t))
    unfolding play_on says_on moved_of
    eeprom_whole = record { apart = refl; plays = λ m r. (eeprom_row r.event r.stamp m).0; says = λ m r. (eeprom_row r.event r.stamp m).1 }

    -- ---- each chip decides by its control
    pub flash_chip : OneChip b t F (flash_over b) (flash_effects b t) flash_side flash_memory (flash_rest b)
    flash_chip = record {
      lawful = flash_over_lawful b;
      plain = λ r k i j. deliver_plain r k i.image j.image;
      reads = λ r k h i. reads r k h i.image;
      controls = flash_seen_lem b;
      beside = flash_beside b;
      whole = flash_whole;
    }

    pub eeprom_chip : OneChip b t E (eeprom_over b) (eeprom_effects t) eeprom_side eeprom_memory (eeprom_rest b)
    eeprom_chip = record {
      lawful = eeprom_over_lawful b;
      plain = λ r k i j. deliver_plain r k i.image j.image;
      reads = λ r k h i. reads r k h i.image;
      controls = eeprom_seen_lem b;
      beside = eeprom_beside b;
      whole = eeprom_whole;
    }

  -- ---- the lines say nothing
  pub line_silent : (v : Event) (c : Controls) → same L (channel_of v) ≡ true → (event_moved b c v).reply ≡ Silent
  line_silent (event.Flash e) c i = absurd (true_not_false (sym i))
  line_silent (event.Eeprom e) c i = absurd (true_not_false (sym i))
  line_silent (event.Line e) c i = refl

  pub quiet : (m n : Machine) (r : Record) → same L (channel_of r.event) ≡ true → says_on b m r ≡ says_on b n r
  unfolding says_on moved_of delivered
  quiet m n r i =
      ap (delivered (image_for r.event m.images)) (line_silent r.event m.controls i)
      ∙ sym (ap (delivered (image_for r.event n.images)) (line_silent r.event n.controls i))
