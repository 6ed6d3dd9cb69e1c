use Rattle.std.proofs.Common.{arith}
use Rattle.field.proofs.Reading.{got_none, got_one}
use Rattle.level.proofs.LevelLaws.{tells_level}
use Rattle.capture.proofs.OneByOne.{some_level, behind}
use Rattle.capture.specs.OneByOne.{levels}
use Rattle.merged.proofs.CountLaws.{levels_none, levels_end, levels_next}
use Rattle.merged.proofs.length.levels_length.Goals as goal

pub returns-in_default : goal.returns-in_default
returns-in_default c = (
  levels_none c.loop-at.invariant.2 c.loop-at-test.true (got_none tells_level c.read_level.ensures c.in_default.is),
  omega (arith, c.loop-at.invariant.1, c.requires),
)

pub loop-at-smaller : goal.loop-at-smaller
unfolding levels
loop-at-smaller c = let l = behind some_level (got_one tells_level c.read_level.ensures _ _ c.in-Some.is) in omega arith

pub loop-at-preserved : goal.loop-at-preserved
unfolding levels
loop-at-preserved c =
    let g = got_one tells_level c.read_level.ensures _ _ c.in-Some.is in
    let l = behind some_level g in (
      omega (arith, c.loop-at.invariant.0, c.out_length.ensures.1, c.out_length-in-loop-at.ensures.1),
      omega (arith, c.loop-at.invariant.0, c.out_length.ensures.1, c.out_length-in-loop-at.ensures.1),
      levels_next c.loop-at.invariant.2 g c.turn-of_flash.ensures c.turn-of_wires.ensures c.out_length.ensures.0 c.out_length-in-loop-at.ensures.0,
    )

pub returns : goal.returns
returns c = (levels_end c.loop-at.invariant.2 c.loop-at-test.false, omega (arith, c.loop-at.invariant.1, c.requires))
