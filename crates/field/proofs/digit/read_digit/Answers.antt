use Rattle.std.proofs.Common.{rules, arith, ◌≤◌}
use Rattle.std.proofs.lemmas.Grind.{get_or_default_zero}
use Rattle.field.proofs.DigitLaws.{digit_short, digit_out, digit_good}
use Rattle.field.proofs.Reading.{none, got_is}
use Rattle.field.proofs.digit.read_digit.Goals as goal

pub returns-in_default : goal.returns-in_default
returns-in_default c = none (digit_short _ _ _ _ (search rules))

pub returns-then-not-is_ascii_digit : goal.returns-then-not-is_ascii_digit
returns-then-not-is_ascii_digit c =
    let z = get_or_default_zero c.args.text.now c.args.c.at c.in-Some.field-0.now (search rules) in
    none (digit_out _ _ _ _ (λ d o e. grind (arith, c.in-Some.ensures.lookup, c.if-not-is_ascii_digit.ensures.cases)))

pub returns-then-digit-low : goal.returns-then-digit-low
returns-then-digit-low c =
    let z = get_or_default_zero c.args.text.now c.args.c.at c.in-Some.field-0.now (search rules) in
    none (digit_out _ _ _ _ (λ d o e. omega (arith, c.in-Some.ensures.lookup)))

pub returns : goal.returns
returns c =
    let z = get_or_default_zero c.args.text.now c.args.c.at c.in-Some.field-0.now (search rules) in
    let y : 48 ≤ c.in-Some.field-0.now = omega (arith, c.if-not-is_ascii_digit.ensures.cases) in
    got_is (digit_good _ _ _ _ _ (search rules) (omega (arith, c.in-Some.ensures.lookup)) (omega (arith, c.if-not-is_ascii_digit.ensures.cases)))
