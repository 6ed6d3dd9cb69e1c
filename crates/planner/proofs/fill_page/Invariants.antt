-- `planner::fill_page`: the places passed have their bytes.
use Rattle.std.proofs.Common.{◌≡◌, get_or}
use Rattle.law.specs.Places.{done}
use Rattle.planner.proofs.fill_page.Given as goal

abbrev pub invariant-loop-q : goal.invariant-loop-q
invariant-loop-q l = l.part ≡ done (λ i x. get_or l.bytes i 0) l.q l.fn.part
