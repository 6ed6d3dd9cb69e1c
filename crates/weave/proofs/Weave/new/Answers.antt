use Rattle.std.proofs.Common.{rules}
use Rattle.weave.proofs.StartLaws.{start_law}
use Rattle.weave.proofs.Weave.new.Goals as goal

pub returns-clause-starts : goal.returns-clause-starts
returns-clause-starts c =
    rw c.number_ahead.ensures (rw c.number_ahead-2.ensures (rw c.number_ahead-3.ensures (rw c.number_ahead-4.ensures (rw c.number_ahead-5.ensures (
    start_law (search rules) (search rules) (search rules) (search rules) (search rules))))))
