-- What one record does on the lent images: what `play` gives back and leaves.
use Rattle.record.specs.declared.Board.{Board}
use Rattle.record.specs.declared.Record.{Record}
use Rattle.record.specs.declared.Reply.{Reply}
use Rattle.controls.specs.declared.Controls.{Controls}
use Rattle.controls.specs.Play.{moved_of}
use Rattle.image.specs.Images.{Images}
use Rattle.times.specs.declared.Touched.{Touched}
use Rattle.machine.specs.Effects.{images_after, touched_by}
use Rattle.machine.specs.Replies.{delivered}
use Rattle.machine.specs.Machine.{image_for}

-- the controls and the images after the record, its reply, and the pages that it touches
pub record Turn : Type 0 where
  pub controls : Controls
  pub images : Images
  pub reply : Reply
  pub touched : Touched

abbrev pub turn : Controls → Images → Reply → Touched → Turn
turn c x y t = record { controls = c; images = x; reply = y; touched = t }

unfoldable pub turn_of : Board → Controls → Images → Record → Turn
turn_of b c x r =
    let m = moved_of b c r in
    turn m.controls (images_after b c r.event m.reply x) (delivered (image_for r.event x) m.reply) (touched_by b c r.event m.reply)
