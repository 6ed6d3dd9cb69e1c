use Rattle.std.proofs.Common.{rules, sym, ◌∙◌}
use Rattle.field.proofs.DecimalLaws.{answers, at_push, at_bad, at_end}
use Rattle.field.proofs.decimal.read_decimal.Goals.{in-Some+in_default-push, in_default}
use Rattle.field.proofs.decimal.read_decimal.Goals as goal

pub loop-byte-preserved : goal.loop-byte-preserved
loop-byte-preserved c = c.loop-byte.invariant ∙ at_push _ _ _ _ _ (search rules) c.in-Some.ensures.lookup.1 _ (sym c.push.ensures ∙ c.in-Some-push.is)

pub returns : goal.returns
returns c =
    answers _ _ _ _ (c.loop-byte.invariant
    ∙ elim c.match-get.branch [
      | in-Some+in_default-push w ↦ at_bad _ _ _ _ _ (search rules) w.in-Some.ensures.lookup.1 (sym w.push.ensures ∙ w.in_default-push.is)
      | in_default w ↦ at_end _ _ _ _ (search rules)
    ]
    ∙ sym c.stopped.ensures)
