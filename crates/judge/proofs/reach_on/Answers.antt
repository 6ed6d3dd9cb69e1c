use Rattle.judge.proofs.ReachLaws.{reach_further}
use Rattle.judge.proofs.reach_on.Goals as goal

pub returns-in_default : goal.returns-in_default
returns-in_default c = reach_further c.reach_from.ensures
