use Rattle.orders.proofs.LineStates.{settled_tied}
use Rattle.orders.proofs.Passing.{all_pass}
use Rattle.law.specs.Choice.{via}
use Rattle.orders.specs.LineStates.{of_line}
use Rattle.record.specs.declared.Record.{Record}
use Rattle.orders.proofs.agree.Goals as goal

pub returns-then-own : goal.returns-then-own
returns-then-own c = settled_tied _ _ _ c.telling.ensures (all_pass (λ (r : Record). of_line r.event) _ (via c.own.ensures c.if-own.true)) c.tried.ensures
