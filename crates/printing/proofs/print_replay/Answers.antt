use Rattle.printing.proofs.Dumped.{prints_records}
use Rattle.printing.proofs.print_replay.Goals as goal

pub returns-clause-printed : goal.returns-clause-printed
returns-clause-printed c = prints_records c.replay.ensures c.list.ensures
