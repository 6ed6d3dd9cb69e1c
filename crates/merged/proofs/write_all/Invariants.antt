use Rattle.std.proofs.Common.{length, ◌≡◌}
use Rattle.merged.proofs.LoopLaws.{Going}
use Rattle.merged.proofs.write_all.Given as goal

abbrev pub invariant-loop-rec : goal.invariant-loop-rec
invariant-loop-rec l = record {
  can : (goal.iterator-loop-rec).can_next l.rec-iterator;
  ends : (goal.iterator-loop-rec).is_finite l.rec-iterator;
  same : length l.output ≡ length l.initial.output;
  going : Going l.fn.left l.from l.initial.output l.rec-iterator l.at l.output;
}
