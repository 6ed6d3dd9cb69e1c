use Rattle.field.proofs.spelling.Spelling.+decimal.Given as goal

abbrev pub decreases-decimal : goal.decreases-decimal
decreases-decimal l = l.value
