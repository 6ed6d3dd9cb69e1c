-- What is printed does not reach beyond the output.
use lib.Seq.{length-take-le}
use mathlib.Core.Path.{sym}
use Rattle.entries.proofs.Printing.{within}
use Rattle.plan.proofs.run.Goals as goal

pub slice_bounds-out-end : goal.slice_bounds-out-end
slice_bounds-out-end g c = within c.print_plan-n.ensures

pub slice_bounds-write_all-end : goal.slice_bounds-write_all-end
slice_bounds-write_all-end g c = sym (length-take-le _ _ (within c.print_plan-n.ensures))
