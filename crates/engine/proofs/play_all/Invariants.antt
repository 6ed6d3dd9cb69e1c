use Rattle.machine.specs.Lent.{images_in, Keeps}
use Rattle.engine.proofs.PlayLaws.{Ongoing}
use Rattle.engine.proofs.play_all.Given as goal

abbrev pub invariant-loop-rec : goal.invariant-loop-rec
invariant-loop-rec l = record {
  can : (goal.iterator-loop-rec).can_next l.rec-iterator;
  ends : (goal.iterator-loop-rec).is_finite l.rec-iterator;
  keeps : Keeps l.initial.images l.images;
  ongoing : Ongoing l.fn.left l.board (images_in l.initial.images) l.rec-iterator l.cur (images_in l.images);
}
