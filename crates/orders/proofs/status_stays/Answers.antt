use Rattle.std.proofs.Common.{sym, ◌∙◌}
use Rattle.law.specs.Choice.{via, true_not_false}
use Rattle.record.specs.declared.Record.{Record}
use Rattle.orders.specs.LineStates.{of_line}
use Rattle.orders.specs.Lost.{is_off}
use Rattle.orders.proofs.Passing.{all_pass}
use Rattle.orders.proofs.Lost.{tied_stay}
use Rattle.orders.proofs.status_stays.Goals as goal
use Rattle.orders.proofs.status_stays.Goals.{then-own, else-own}

pub returns-then-own-2 : goal.returns-then-own-2
returns-then-own-2 c = λ e. elim c.if-own.branch [
  | then-own w ↦
      tied_stay c.args.flash c.args.eeprom
      (all_pass (λ (r : Record). of_line r.event) _ (via c.own.ensures w.if-own.true))
      (all_pass (λ (r : Record). of_line r.event) _ (via w.own-then-own.ensures (via w.value-is c.if-own-2.true)))
      (all_pass (λ (r : Record). is_off r.event) _ (via c.none_off.ensures e))
  | else-own w ↦ absurd (true_not_false (sym c.if-own-2.true ∙ w.value-is ∙ w.if-own.false))
]
