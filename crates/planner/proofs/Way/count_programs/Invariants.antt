-- Of the sectors passed, `count` is the sum.
use Rattle.std.proofs.Common.{◌≡◌, ◌*◌, ◌≤◌}
use Rattle.page.specs.Geometry.{sector_pages}
use Rattle.fewest.specs.Below.{sum_below}
use Rattle.fewest.specs.Plan.{pages_of, test_in}
use Rattle.planner.proofs.Way.count_programs.Given as goal

abbrev pub invariant-loop-s : goal.invariant-loop-s
invariant-loop-s l =
    (l.count ≤ sector_pages * l.s) × (l.count ≡ sum_below l.s (λ i. pages_of l.self.contents.present.now l.self.contents.wanted.now (test_in l.self.contents.present.now l.self.contents.wanted.now l.self.status l.self.chip i) i))
