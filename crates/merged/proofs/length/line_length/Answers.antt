use Rattle.std.proofs.Common.{◌≤◌, arith, rules}
use Rattle.field.specs.Decimal.{largest}
use Rattle.field.proofs.SpellingLaws.{digits_count}
use Rattle.merged.proofs.LengthLaws.{line_counted}
use Rattle.merged.proofs.length.line_length.Goals as goal

pub overflow_add-result : goal.overflow_add-result
overflow_add-result c = let small : c.args.rec.stamp ≤ largest = search rules in omega (arith, c.digits.ensures, digits_count _ small)

pub overflow_add-result-2 : goal.overflow_add-result-2
overflow_add-result-2 c =
    let small : c.args.rec.stamp ≤ largest = search rules in
    omega (arith, (line_counted c.args.rec small c.digits.ensures c.event_length.ensures).1)

pub returns : goal.returns
returns c = let small : c.args.rec.stamp ≤ largest = search rules in line_counted c.args.rec small c.digits.ensures c.event_length.ensures
