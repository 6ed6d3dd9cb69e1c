-- Believed: The machine as demand 3 speaks of it: what one record does to controls, images and times, and its reply.
use Rattle.std.specs.Prelude.{Bool, ℕ}
use Rattle.meaning.specs.Meaning.{Channel, F, E, L, Rules}
use Rattle.record.specs.declared.Board.{Board}
use Rattle.record.specs.declared.Chip.{Chip}
use Rattle.record.specs.declared.Record.{Record}
use Rattle.record.specs.declared.Event.{Event}
use Rattle.record.specs.declared.Event.TheVariants as event
use Rattle.record.specs.declared.Reply.{Reply}
use Rattle.record.specs.declared.Skeleton.{Skeleton}
use Rattle.controls.specs.declared.Controls.{Controls}
use Rattle.controls.specs.Play.{start_of, moved_of, lost_of}
use Rattle.image.specs.Image.{Image}
use Rattle.image.specs.Images.{Images, per_chip}
use Rattle.times.specs.Times.{reaches, Times, never_written, times_after}
use Rattle.machine.specs.Effects.{images_after, touched_by}
use Rattle.machine.specs.Replies.{delivered}

-- 'Demand 3's state gains these stamps' (request 1/12)
pub record Machine : Type 0 where
  pub controls : Controls
  pub images : Images
  pub times : Times

abbrev pub machine_of : Controls → Images → Times → Machine
machine_of c x y = record { controls = c; images = x; times = y }

-- 'Bytes and doubt': the start, with the images as they are lent; no page has been written yet
abbrev pub machine_at_start : Board → Images → Machine
machine_at_start b x = machine_of (start_of b) x never_written

abbrev pub channel_of : Event → Channel
channel_of (event.Flash e) = F
channel_of (event.Eeprom e) = E
channel_of (event.Line e) = L

-- the image that an event's reply is delivered from; a line record reads none
abbrev pub image_for : Event → Images → Image
image_for (event.Flash e) x = x.flash
image_for (event.Eeprom e) x = x.eeprom
image_for (event.Line e) x = x.flash

-- does the record r, met by the controls c, end or cut a cycle on page n of the chip?
abbrev pub writes_page : Board → Controls → Record → Chip → ℕ → Bool
writes_page b c r chip n =
    let x = touched_by b c r.event (moved_of b c r).reply in
    reaches (per_chip x.flash x.eeprom chip) n

unfoldable pub play_on : Board → Machine → Record → Machine
play_on b m r =
    machine_of (moved_of b m.controls r).controls (images_after b m.controls r.event (moved_of b m.controls r).reply m.images)
    (times_after r.stamp (touched_by b m.controls r.event (moved_of b m.controls r).reply) m.times)

unfoldable pub says_on : Board → Machine → Record → Reply
says_on b m r = delivered (image_for r.event m.images) (moved_of b m.controls r).reply

-- the machine that demand 3 is about
abbrev pub on_machine : Board → Rules Record Machine Reply
on_machine b = record {
  channel = λ r. channel_of r.event;
  stamp = λ r. r.stamp;
  play = play_on b;
  says = says_on b;
  lost = λ m. lost_of m.controls;
}

-- and the controls by themselves: no image, no page's time, and a byte that is read is told by its place
abbrev pub on_controls : Board → Rules Record Controls Skeleton
on_controls b = record {
  channel = λ r. channel_of r.event;
  stamp = λ r. r.stamp;
  play = λ c r. (moved_of b c r).controls;
  says = λ c r. (moved_of b c r).reply;
  lost = lost_of;
}
