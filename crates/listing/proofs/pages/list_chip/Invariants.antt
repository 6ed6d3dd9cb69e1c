use Rattle.std.proofs.Common.{◌+◌}
use Rattle.listing.specs.Pages.{lines_below, time_at}
use Rattle.listing.specs.Writing.{ListsLines}
use Rattle.times.specs.Times.{first_entry}
use Rattle.listing.proofs.pages.list_chip.Given as goal

abbrev pub invariant-loop-n : goal.invariant-loop-n
invariant-loop-n l = ListsLines (lines_below l.chip (λ k. time_at l.table (first_entry l.chip + k)) l.n) l.initial.out l.initial.at l.n l.out l.at
