-- The desk as the code holds it: what it is while records are played, and what stays of it.
use Rattle.std.specs.Prelude.{◌≡◌, ℕ, ◌+◌, List, length}
use Rattle.record.specs.declared.Record.{Record}
use Rattle.record.specs.declared.Reply.{Reply}
use Rattle.times.specs.declared.Touched.{Touched}
use Rattle.times.specs.Put.{times_with}
use Rattle.buffers.specs.Buffers.{Buffers}
use Rattle.buffers.specs.Put.{replies_with}
use Rattle.controls.specs.declared.Controls.{Controls}
use Rattle.machine.specs.declared.LentImages.{LentImages}
use Rattle.machine.specs.Lent.{images_in}
use Rattle.machine.specs.Lent as lent
use Rattle.machine.specs.Replies.{compared}
use Rattle.call.specs.Play.{reply_line, twos}
use Rattle.call.specs.Steps.{desk_of}
use Rattle.call.specs.Steps as steps
use Rattle.desk.specs.declared.Desk.{Desk}

-- what it holds, with the controls
abbrev pub desk_in : Controls → Desk → steps.Desk
desk_in c d = desk_of c (images_in d.images.now) d.times.now d.replies.now d.number d.count

-- still the same board and the same buffers, each as long as it was
pub record Keeps (old new : Desk) : Type 0 where
  pub same_board : new.board ≡ old.board
  pub same_images : new.images.ghost_name ≡ old.images.ghost_name
  pub images : lent.Keeps old.images.now new.images.now
  pub same_times : new.times.ghost_name ≡ old.times.ghost_name
  pub same_replies : new.replies.ghost_name ≡ old.replies.ghost_name
  pub times_long : length new.times.now ≡ length old.times.now
  pub replies_long : length new.replies.now ≡ length old.replies.now

-- a record's reply and the pages that it touched are noted; no image changes
pub record Notes (r : Record) (y : Reply) (p : Touched) (old new : Desk) : Type 0 where
  pub images : new.images.now ≡ old.images.now
  pub times : new.times.now ≡ times_with r.stamp p old.times.now
  pub replies : new.replies.now ≡ replies_with old.number (reply_line r y) old.replies.now
  pub number : new.number ≡ old.number + 1
  pub count : new.count ≡ old.count + twos (compared r.event y)

-- nothing was played yet
pub record IsFresh (d : Desk) : Type 0 where
  pub none_played : d.number ≡ 0
  pub none_disagree : d.count ≡ 0

-- all that a replay leaves
abbrev pub buffers_left : LentImages → List ℕ → List ℕ → List ℕ → Buffers
buffers_left x times replies result = record { images = images_in x; times = times; replies = replies; result = result }
