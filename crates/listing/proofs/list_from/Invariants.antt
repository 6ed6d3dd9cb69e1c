use Rattle.listing.proofs.Walk.{So}
use Rattle.listing.proofs.list_from.Given as goal

abbrev pub invariant-loop-k : goal.invariant-loop-k
invariant-loop-k l = So l.text l.initial.place l.replies l.initial.out l.initial.at l.out l.at l.place l.k
