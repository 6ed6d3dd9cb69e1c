use Rattle.std.proofs.Common.{length, ◌-◌, ◌≤◌, ◌*◌}
use Rattle.machine.specs.Lent.{images_in}
use Rattle.walk.proofs.Loop.{ComesTo}
use Rattle.desk.specs.Desk.{desk_in, Keeps}
use Rattle.desk.proofs.Desk.run.Given as goal

abbrev pub invariant-loop-place : goal.invariant-loop-place
invariant-loop-place l = record {
  keeps : Keeps l.initial.self l.self;
  numbered : l.self.number ≤ 3 * l.place;
  counted : l.self.count ≤ 3 * l.place;
  comes : ComesTo l.text l.first l.initial.self.board (images_in l.initial.self.images.now) l.initial.self.times.now l.initial.self.replies.now l.place (desk_in l.cur l.self);
}

abbrev pub decreases-loop-place : goal.decreases-loop-place
decreases-loop-place l = length l.text - l.place
