use Rattle.std.proofs.Common.{true, false, arith}
use Rattle.level.proofs.FlagLaws.{flag_short, flag_end, flag_digit, flag_is}
use Rattle.level.proofs.reader.read_flag.Goals as goal

pub returns-then-text-at : goal.returns-then-text-at
returns-then-text-at c = flag_short _ _ _ (omega arith)

pub returns-then-text-at-lt2 : goal.returns-then-text-at-lt2
returns-then-text-at-lt2 c = flag_short _ _ _ (omega arith)

pub returns-then-text-at-2 : goal.returns-then-text-at-2
returns-then-text-at-2 c = flag_end _ _ _ c.if-text-at-2.true

pub returns-then-text-at-eq48 : goal.returns-then-text-at-eq48
returns-then-text-at-eq48 c = flag_is _ _ _ false (omega arith) c.if-text-at-2.false c.if-text-at-eq48.true

pub returns-then-text-at-eq49 : goal.returns-then-text-at-eq49
returns-then-text-at-eq49 c = flag_is _ _ _ true (omega arith) c.if-text-at-2.false c.if-text-at-eq49.true

pub returns : goal.returns
returns c = flag_digit _ _ _ c.if-text-at-eq48.false c.if-text-at-eq49.false
