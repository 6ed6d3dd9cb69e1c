use Rattle.std.proofs.Common.{arith}
use Rattle.merged.proofs.CountLaws.{nothing_given, one_given, two_given}
use Rattle.merged.proofs.length.out_length.Goals as goal

pub returns-in-Nothing : goal.returns-in-Nothing
returns-in-Nothing c = (nothing_given _ c.in-Nothing.is, omega arith)

pub returns-in-One : goal.returns-in-One
returns-in-One c = (one_given _ c.in-One.is c.line_length.ensures.0, omega (arith, c.line_length.ensures.1))

pub returns-in-Two : goal.returns-in-Two
returns-in-Two c =
    (two_given _ c.in-Two.is c.line_length-in-Two.ensures.0 c.line_length-in-Two-2.ensures.0, omega (arith, c.line_length-in-Two.ensures.1, c.line_length-in-Two-2.ensures.1))
