-- Believed: What a history of the chips is that fits the records of a trace (document 02, request 8/12). In a history every bit has a value: what the trace leaves open, it chooses. Only its start asks for a mask.
use Rattle.std.specs.Prelude.{◌≡◌, Bool, true, false, ◌&&◌, List, ℕ, suc, ◌/◌, ◌%◌, ◌^◌, ◌<◌, eqb, get_or, Option, None, Some}
use Rattle.law.specs.Words.{pick}
use Rattle.meaning.specs.Meaning.{Rules, Allowed, after, outcome}
use Rattle.meaning.specs.Listing.{shown_at}
use Rattle.record.specs.declared.Board.{Board}
use Rattle.record.specs.declared.Chip.{Chip}
use Rattle.record.specs.declared.Chip.TheVariants as chip
use Rattle.record.specs.declared.Record.{Record}
use Rattle.record.specs.declared.Event.{Event}
use Rattle.record.specs.declared.Event.TheVariants as event
use Rattle.record.specs.declared.Skeleton.{Skeleton}
use Rattle.record.specs.declared.Skeleton.TheVariants as skeleton
use Rattle.page.specs.Geometry.{flash_page, eeprom_page}
use Rattle.page.specs.Rolling.{sent_place}
use Rattle.image.specs.Image.{cell_at}
use Rattle.image.specs.Images.{Images, per_chip, image_at, kept_bytes, page_size}
use Rattle.flash.specs.declared.FlashCycle.{FlashCycle}
use Rattle.flash.specs.declared.FlashCycle.TheVariants.{Program, SectorErase, ChipErase, WriteStatus}
use Rattle.eeprom.specs.declared.Sent.{Sent}
use Rattle.controls.specs.declared.Controls.{Controls}
use Rattle.controls.specs.Play.{start_of, moved_of, lost_of}
use Rattle.machine.specs.declared.effects.Stroke.{Stroke}
use Rattle.machine.specs.declared.effects.Stroke.TheVariants.{Nothing, Whole, Cut}
use Rattle.machine.specs.Effects.{stroke_for}
use Rattle.machine.specs.Machine.{channel_of, writes_page}

-- bit j of a byte, 0 the lowest
abbrev pub bit_of : ℕ → ℕ → Bool
bit_of x j = eqb (x / 2 ^ j % 2) 1

-- ---- what becomes of a byte at a record
pub data Fate : Type 0 where
  stays : Fate
  -- a cycle ended: it programs the data's byte, erases, or stores the data's byte
  programs : ℕ → Fate
  erases : Fate
  stores : ℕ → Fate
  -- one was cut: a program of the data's byte; an erase or an EEPROM page write
  old_or_new : ℕ → Fate
  any_value : Fate

-- Bit j of it, from what it was and what is chosen for it. 'In a cut program it chooses, bit by bit, old or new; in a cut erase or a cut EEPROM page, any value for each bit'
abbrev pub becomes : Fate → ℕ → Bool → Bool → Bool
becomes stays j chosen old = old
becomes (programs d) j chosen old = old && bit_of d j
becomes erases j chosen old = true
becomes (stores d) j chosen old = bit_of d j
becomes (old_or_new d) j chosen old = pick chosen old (old && bit_of d j)
becomes any_value j chosen old = chosen

-- a byte on a page that the flash's cycle touches; d is the data's byte for its place, ff where none was sent
abbrev pub flash_fate : Stroke → Option FlashCycle → ℕ → Fate
flash_fate Nothing cycle d = stays
flash_fate Whole None d = stays
flash_fate Whole (Some (Program n)) d = programs d
flash_fate Whole (Some (SectorErase sector)) d = erases
flash_fate Whole (Some ChipErase) d = erases
flash_fate Whole (Some (WriteStatus bits)) d = stays
flash_fate Cut None d = stays
flash_fate Cut (Some (Program n)) d = old_or_new d
flash_fate Cut (Some (SectorErase sector)) d = any_value
flash_fate Cut (Some ChipErase) d = any_value
flash_fate Cut (Some (WriteStatus bits)) d = stays

-- place q of the page that the EEPROM's cycle touches: at `end` the bytes sent are put in, at `off` the whole page is open
abbrev pub eeprom_fate : Stroke → Option Sent → List ℕ → ℕ → Fate
eeprom_fate Nothing cycle page q = stays
eeprom_fate Whole None page q = stays
eeprom_fate Whole (Some s) page q = pick (sent_place eeprom_page s.first s.count q) (stores (get_or page q 0)) stays
eeprom_fate Cut None page q = stays
eeprom_fate Cut (Some s) page q = any_value

-- place k of a chip at the record r, which the controls c meet: on a page on which no cycle ends or is cut it stays
unfoldable pub fate_at : Board → Controls → Record → Chip → ℕ → Fate
fate_at b c r chip k =
    let stroke = stroke_for chip c.lines r.event (moved_of b c r).reply in
    let flash = flash_fate stroke c.flash.cycle (get_or c.flash.page (k % flash_page) 0) in
    let eeprom = eeprom_fate stroke c.eeprom.cycle c.eeprom.page (k % eeprom_page) in
    pick (writes_page b c r chip (k / page_size chip)) (per_chip flash eeprom chip) stays

-- ---- the chips in a history
-- what both chips really hold: bit j of the byte at place k
abbrev pub Bits : Type 0
Bits = Chip → ℕ → ℕ → Bool

-- with their controls, and with what is chosen at each record still to come
pub record Real : Type 0 where
  pub controls : Controls
  pub bits : Bits
  pub choices : ℕ → Bits

-- the controls move by their rules, each bit by its byte's fate
unfoldable pub play_real : Board → Real → Record → Real
play_real b s r = record {
  controls = (moved_of b s.controls r).controls;
  bits = λ chip k j. becomes (fate_at b s.controls r chip k) j (s.choices 0 chip k j) (s.bits chip k j);
  choices = λ n. s.choices (suc n);
}

-- what a chip replies to a record: a byte, bit by bit, or none
pub data RealReply : Type 0 where
  byte : (ℕ → Bool) → RealReply
  no_byte : RealReply

-- a byte that is read is the one that the chip holds at the place
abbrev pub delivered_real : (ℕ → ℕ → Bool) → Skeleton → RealReply
delivered_real held skeleton.Silent = no_byte
delivered_real held (skeleton.Given x) = byte (bit_of x)
delivered_real held (skeleton.Fetch p) = byte (held p)
delivered_real held skeleton.Ack = no_byte
delivered_real held skeleton.NoAck = no_byte
delivered_real held skeleton.Starts = no_byte
delivered_real held skeleton.Ends = no_byte
delivered_real held skeleton.NoCycle = no_byte

-- the chip on whose bus a record is; a line record reads none
abbrev pub bus_of : Event → Chip
bus_of (event.Flash e) = chip.Flash
bus_of (event.Eeprom e) = chip.Eeprom
bus_of (event.Line e) = chip.Flash

unfoldable pub says_real : Board → Real → Record → RealReply
says_real b s r = delivered_real (s.bits (bus_of r.event)) (moved_of b s.controls r).reply

-- the rules of a history, as demand 3 has those of the machine
abbrev pub on_real : Board → Rules Record Real RealReply
on_real b = record {
  channel = λ r. channel_of r.event;
  stamp = λ r. r.stamp;
  play = play_real b;
  says = says_real b;
  lost = λ s. lost_of s.controls;
}

-- ---- a history
-- bits that the images may stand for: one that they do not mark is as they show it
unfoldable pub StandFor : Images → Bits → Type 0
StandFor x held =
    (chip : Chip) (k j : ℕ) → k < kept_bytes chip → j < 8 → bit_of (cell_at (image_at chip x) k).mask j ≡ false → held chip k j ≡ bit_of (cell_at (image_at chip x) k).value j

-- of the records rs, from the images x: an allowed order; 'any start value for a bit doubtful at the start', and the shown one for every other; and the choices
pub record History (b : Board) (rs : List Record) (x : Images) : Type 0 where
  pub order : List Record
  pub allowed : Allowed (on_real b) rs order
  pub first : Bits
  pub stands : StandFor x first
  pub choices : ℕ → Bits

module _ {b : Board} {rs : List Record} {x : Images} (h : History b rs x) where
  abbrev pub begins : Real
  begins = record { controls = start_of b; bits = h.first; choices = h.choices }

  -- the bits that it ends with
  abbrev pub ends : Bits
  ends = (after (on_real b) h.order begins).bits

  -- what is replied in it to record n of rs, counted from 0
  abbrev pub replied : ℕ → RealReply
  replied n = get_or (shown_at (on_real b) rs (outcome (on_real b) h.order begins)) n no_byte
