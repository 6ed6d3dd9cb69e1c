use Rattle.std.proofs.Common.{◌≡◌, get_or, nat_lt}
use Rattle.std.specs.List.{IsFirstBest}
use Rattle.weave.proofs.first_least.Given as goal

abbrev pub invariant-loop-k : goal.invariant-loop-k
invariant-loop-k l = record {
  best : IsFirstBest nat_lt l.numbers l.k l.best;
  is : l.least ≡ get_or l.numbers l.best 0;
}
