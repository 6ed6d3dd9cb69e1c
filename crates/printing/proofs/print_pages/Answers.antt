use Rattle.printing.proofs.Dumped.{prints_pages}
use Rattle.printing.proofs.print_pages.Goals as goal

pub returns-clause-printed : goal.returns-clause-printed
returns-clause-printed c = prints_pages c.replay.ensures c.list_pages.ensures
