-- The entries of the sectors passed are laid.
use Rattle.fewest.specs.Plan.{erase_of}
use Rattle.planner.proofs.Laying.{laid_at, laid_so}
use Rattle.planner.proofs.Contents.put_sector_erases.Given as goal

abbrev pub invariant-loop-s : goal.invariant-loop-s
invariant-loop-s l =
    laid_at (erase_of l.self.present.now l.self.wanted.now) 0 l.fn.list l.s l.at × laid_so (erase_of l.self.present.now l.self.wanted.now) 0 l.fn.list l.s l.list
