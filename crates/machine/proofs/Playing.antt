-- What the calls of `play` make together.
use mathlib.Core.Path.{◌≡◌, ap, ◌∙◌}
use Rattle.record.specs.declared.Board.{Board}
use Rattle.record.specs.declared.Chip.{Chip}
use Rattle.record.specs.declared.Record.{Record}
use Rattle.record.specs.declared.Reply.{Reply}
use Rattle.controls.specs.declared.Controls.{Controls}
use Rattle.controls.specs.declared.Moved.{Moved}
use Rattle.controls.specs.Play.{moved_of}
use Rattle.image.specs.Images.{Images}
use Rattle.times.specs.declared.Pages.{Pages}
use Rattle.times.specs.Times.{on_pages}
use Rattle.machine.specs.declared.effects.Stroke.{Stroke}
use Rattle.machine.specs.Effects.{stroke_for, stroke_pages, flash_pages, flash_touched, eeprom_pages, eeprom_touched, program_by, erase_by, store_by, sent_in, flash_after, eeprom_after}
use Rattle.machine.specs.Replies.{delivered}
use Rattle.machine.specs.Machine.{image_for}
use Rattle.machine.specs.Turn.{turn, turn_of}

module _ (b : Board) (c : Controls) (r : Record) (x : Images) (m : Moved) (moved : m ≡ moved_of b c r) where
  pub turned : (y : Images) (d : Reply) (s : Stroke) (p : Pages) (u : Stroke) (q : Pages) → d ≡ delivered (image_for r.event x) m.reply →
      s ≡ stroke_for Chip.Flash c.lines r.event m.reply → p ≡ stroke_pages s (flash_pages b.sector c.flash.cycle c.flash.status) →
      y.flash ≡ on_pages (program_by s c.flash.page) (erase_by s) p x.flash →
      u ≡ stroke_for Chip.Eeprom c.lines r.event m.reply → q ≡ stroke_pages u (eeprom_pages c.eeprom.cycle) →
      y.eeprom ≡ on_pages (store_by u (sent_in c.eeprom.cycle) c.eeprom.page) (λ i. i) q x.eeprom →
      turn m.controls y d (record { flash = p; eeprom = q }) ≡ turn_of b c x r
  unfolding turn_of flash_after eeprom_after
  turned y d s p u q hd hs hp hf hu hq he =
      let k = ap (λ (k : Moved). k.controls) moved in
      let s' = hs ∙ ap (λ (k : Moved). stroke_for Chip.Flash c.lines r.event k.reply) moved in
      let u' = hu ∙ ap (λ (k : Moved). stroke_for Chip.Eeprom c.lines r.event k.reply) moved in
      let p' = hp ∙ ap (λ (t : Stroke). flash_touched t b.sector c.flash) s' in
      let q' = hq ∙ ap (λ (t : Stroke). eeprom_touched t c.eeprom) u' in
      let g = hf ∙ (λ i. on_pages (program_by (s' i) c.flash.page) (erase_by (s' i)) (p' i) x.flash) in
      let h = he ∙ (λ i. on_pages (store_by (u' i) (sent_in c.eeprom.cycle) c.eeprom.page) (λ z. z) (q' i) x.eeprom) in
      let e = hd ∙ ap (λ (k : Moved). delivered (image_for r.event x) k.reply) moved in
      λ i. turn (k i) (record { flash = g i; eeprom = h i }) (e i) (record { flash = p' i; eeprom = q' i })
