use Rattle.std.proofs.Common.{arith}
use Rattle.law.specs.Choice.{via}
use Rattle.field.proofs.Reading.{got_none, got_one}
use Rattle.field.proofs.Answers.{tells_got}
use Rattle.text.proofs.Standing.{got_record_place}
use Rattle.merged.proofs.CountLaws.{taken_none, taken_end, taken_next, taken_passed}
use Rattle.merged.proofs.length.taken_length.Goals as goal

pub returns-in_default : goal.returns-in_default
returns-in_default c = (
  taken_none c.loop-at.invariant.2 c.loop-at-test.true (got_none tells_got c.record_at.ensures c.in_default.is),
  omega (arith, c.loop-at.invariant.1, c.requires),
)

pub loop-at-smaller-then-is_taken : goal.loop-at-smaller-then-is_taken
loop-at-smaller-then-is_taken c = let l = got_record_place (got_one tells_got c.record_at.ensures _ _ c.in-Ok.is) in omega arith

pub loop-at-preserved-then-is_taken : goal.loop-at-preserved-then-is_taken
loop-at-preserved-then-is_taken c =
    let g = got_one tells_got c.record_at.ensures _ _ c.in-Ok.is in
    let l = got_record_place g in
    (omega (arith, c.loop-at.invariant.0), omega (arith, c.loop-at.invariant.0), taken_next c.loop-at.invariant.2 g (via c.is_taken.ensures c.if-is_taken.true))

pub loop-at-smaller : goal.loop-at-smaller
loop-at-smaller c = let l = got_record_place (got_one tells_got c.record_at.ensures _ _ c.in-Ok.is) in omega arith

pub loop-at-preserved : goal.loop-at-preserved
loop-at-preserved c =
    let g = got_one tells_got c.record_at.ensures _ _ c.in-Ok.is in
    let l = got_record_place g in
    (omega (arith, c.loop-at.invariant.0), c.loop-at.invariant.1, taken_passed c.loop-at.invariant.2 g (via c.is_taken.ensures c.if-is_taken.false))

pub returns : goal.returns
returns c = (taken_end c.loop-at.invariant.2 c.loop-at-test.false, omega (arith, c.loop-at.invariant.1, c.requires))
