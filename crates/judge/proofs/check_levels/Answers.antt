use Rattle.std.proofs.Common.{arith, ap, ◌∙◌}
use Rattle.field.proofs.Reading.{got_none, got_one}
use Rattle.level.proofs.LevelLaws.{tells_level}
use Rattle.capture.specs.Captures.{first_fault, later_fault}
use Rattle.capture.specs.OneByOne.{levels}
use Rattle.capture.proofs.OneByOne.{some_level, behind}
use Rattle.judge.proofs.CheckLaws.{first_none, first_bad_lem, first_good, later_none, later_bad, later_good, check_end}
use Rattle.judge.proofs.check_levels.Goals as goal

pub returns-in_default : goal.returns-in_default
returns-in_default c = first_none (got_none tells_level c.read_level.ensures c.in_default.is)

pub returns-in-Err : goal.returns-in-Err
returns-in-Err c =
    first_bad_lem (got_one tells_level c.read_level.ensures _ _ c.in-Some.is) c.reach_from-start.ensures
    (c.first_fault.ensures ∙ ap (first_fault c.in-Some.l) c.hits.ensures) c.in-Err.is

pub loop-at-init : goal.loop-at-init
loop-at-init c =
    first_good (got_one tells_level c.read_level.ensures _ _ c.in-Some.is) c.reach_from-start.ensures
    (c.first_fault.ensures ∙ ap (first_fault c.in-Some.l) c.hits.ensures) c.in_default-first_fault.is

pub returns-in_default-read_level : goal.returns-in_default-read_level
returns-in_default-read_level c =
    later_none c.loop-at.invariant c.loop-at-test.true (got_none tells_level c.read_level-in-loop-at.ensures c.in_default-read_level.is)

pub returns-in-Err-later_fault : goal.returns-in-Err-later_fault
returns-in-Err-later_fault c =
    later_bad c.loop-at.invariant (got_one tells_level c.read_level-in-loop-at.ensures _ _ c.in-Some-read_level.is) c.reach_on-here.ensures
    (c.later_fault.ensures ∙ ap (later_fault c.loop-at.last c.in-Some-read_level.k) c.hits-in-loop-at.ensures) c.in-Err-later_fault.is

pub overflow_add-number : goal.overflow_add-number
unfolding levels
overflow_add-number c =
    let w = behind some_level (got_one tells_level c.read_level-in-loop-at.ensures _ _ c.in-Some-read_level.is) in
    omega (arith, c.loop-at.invariant.small)

pub loop-at-smaller : goal.loop-at-smaller
unfolding levels
loop-at-smaller c = let w = behind some_level (got_one tells_level c.read_level-in-loop-at.ensures _ _ c.in-Some-read_level.is) in omega arith

pub loop-at-preserved : goal.loop-at-preserved
loop-at-preserved c =
    later_good c.loop-at.invariant (got_one tells_level c.read_level-in-loop-at.ensures _ _ c.in-Some-read_level.is) c.reach_on-here.ensures
    (c.later_fault.ensures ∙ ap (later_fault c.loop-at.last c.in-Some-read_level.k) c.hits-in-loop-at.ensures) c.in_default-later_fault.is

pub returns : goal.returns
returns c = check_end c.loop-at.invariant (got_one tells_level c.read_level.ensures _ _ c.in-Some.is) c.loop-at-test.false
