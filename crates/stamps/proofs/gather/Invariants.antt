use Rattle.std.specs.Prelude.{◌≡◌, ◌-◌, length}
use Rattle.stamps.proofs.Turns.{Gathering}
use Rattle.stamps.proofs.gather.Given as goal

abbrev pub invariant-loop-rec : goal.invariant-loop-rec
invariant-loop-rec l = record {
  here : l.reader.text.now ≡ l.text;
  at : l.reader.at ≡ l.g.next;
  so_far : Gathering l.text l.stamp l.initial.g l.g;
}

abbrev pub decreases-loop-rec : goal.decreases-loop-rec
decreases-loop-rec l = length l.text - l.g.next
