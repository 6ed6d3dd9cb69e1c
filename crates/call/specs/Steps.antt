-- The desk while records are played as they are written: the controls and the images, the table of times, the replies so far, how many there are, and how many disagree.
use Rattle.std.specs.Prelude.{List, [], ◌∷◌, ℕ, ◌+◌}
use Rattle.record.specs.declared.Board.{Board}
use Rattle.record.specs.declared.Record.{Record}
use Rattle.controls.specs.declared.Controls.{Controls}
use Rattle.image.specs.Images.{Images}
use Rattle.times.specs.Put.{times_with}
use Rattle.machine.specs.Replies.{compared}
use Rattle.machine.specs.Turn.{turn_of}
use Rattle.buffers.specs.Put.{replies_with}
use Rattle.call.specs.Play.{reply_line, twos}

pub record Desk : Type 0 where
  pub controls : Controls
  pub images : Images
  pub times : List ℕ
  pub replies : List ℕ
  pub number : ℕ
  pub count : ℕ

abbrev pub desk_of : Controls → Images → List ℕ → List ℕ → ℕ → ℕ → Desk
desk_of c x times replies number count =
    record { controls = c; images = x; times = times; replies = replies; number = number; count = count }

unfoldable pub step_desk : Board → Desk → Record → Desk
step_desk b d r =
    let t = turn_of b d.controls d.images r in
    desk_of t.controls t.images (times_with r.stamp t.touched d.times) (replies_with d.number (reply_line r t.reply) d.replies)
    (d.number + 1) (d.count + twos (compared r.event t.reply))

unfoldable pub run_desk : Board → List Record → Desk → Desk
run_desk b [] d = d
run_desk b (r ∷ rs) d = run_desk b rs (step_desk b d r)
