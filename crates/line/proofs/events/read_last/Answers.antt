use Rattle.field.proofs.Answers.{tells_past, refused}
use Rattle.field.proofs.Reading.{none, as_told}
use Rattle.line.proofs.events.read_last.Goals as goal

pub returns-in_err-next : goal.returns-in_err-next
returns-in_err-next c = let n = refused tells_past c.read_end.ensures c.in_err-next.was c.from_residual.ensures.1 in as_told n.same (none n.none)
