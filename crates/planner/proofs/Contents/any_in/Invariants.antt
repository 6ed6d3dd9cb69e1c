-- Whether the test holds of any place passed.
use Rattle.std.proofs.Common.{◌≡◌, ◌+◌, get_or}
use Rattle.fewest.specs.Below.{any_below}
use Rattle.fewest.specs.Plan.{holds}
use Rattle.planner.proofs.Contents.any_in.Given as goal

abbrev pub invariant-loop-q : goal.invariant-loop-q
invariant-loop-q l = l.some ≡ any_below l.q (λ i. holds l.test (get_or l.self.present.now (l.first + i) 0) (get_or l.self.wanted.now (l.first + i) 0))
