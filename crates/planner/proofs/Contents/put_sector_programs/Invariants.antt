-- The entries of the pages passed are laid.
use Rattle.std.proofs.Common.{◌+◌, ◌*◌}
use Rattle.page.specs.Geometry.{sector_pages}
use Rattle.fewest.specs.Plan.{program_if}
use Rattle.planner.proofs.Laying.{laid_at, laid_so}
use Rattle.planner.proofs.Contents.put_sector_programs.Given as goal

abbrev pub invariant-loop-j : goal.invariant-loop-j
invariant-loop-j l =
    laid_at (λ i. program_if l.self.present.now l.self.wanted.now l.test (sector_pages * l.s + i)) l.first l.fn.list l.j l.at
    × laid_so (λ i. program_if l.self.present.now l.self.wanted.now l.test (sector_pages * l.s + i)) l.first l.fn.list l.j l.list
