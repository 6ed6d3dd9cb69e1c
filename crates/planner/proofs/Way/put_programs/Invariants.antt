-- The entries of the sectors passed are laid.
use Rattle.fewest.specs.Plan.{test_in, sector_programs}
use Rattle.planner.proofs.Laying.{laid_at, laid_so}
use Rattle.planner.proofs.Way.put_programs.Given as goal

abbrev pub invariant-loop-s : goal.invariant-loop-s
invariant-loop-s l =
    laid_at (λ i. sector_programs l.self.contents.present.now l.self.contents.wanted.now (test_in l.self.contents.present.now l.self.contents.wanted.now l.self.status l.self.chip i) i) l.first l.fn.list l.s l.at
    × laid_so (λ i. sector_programs l.self.contents.present.now l.self.contents.wanted.now (test_in l.self.contents.present.now l.self.contents.wanted.now l.self.status l.self.chip i) i) l.first l.fn.list l.s l.list
