use Rattle.std.proofs.Common.{arith}
use Rattle.field.proofs.Reading.{got_none, got_one}
use Rattle.level.proofs.LevelLaws.{tells_level}
use Rattle.capture.specs.OneByOne.{levels}
use Rattle.capture.proofs.OneByOne.{some_level, behind}
use Rattle.weave.proofs.FeedLaws.{levels_found, levels_none, levels_end, levels_on}
use Rattle.weave.proofs.feed.BehindSource.next.Goals as goal

pub returns-then-levels-at : goal.returns-then-levels-at
returns-then-levels-at c = levels_end c.lines.invariant c.in-Nothing.is c.if-levels-at.true

pub returns-in_err-line : goal.returns-in_err-line
returns-in_err-line c =
    rw c.from_residual.ensures (levels_none c.lines.invariant c.in-Nothing.is c.if-levels-at.false (got_none tells_level c.read_level.ensures c.in_err-line.was))

pub lines-smaller : goal.lines-smaller
unfolding levels
lines-smaller c = let l = behind some_level (got_one tells_level c.read_level.ensures _ _ c.in_ok-line.was) in omega arith

pub lines-preserved : goal.lines-preserved
lines-preserved c = levels_on c.lines.invariant c.in-Nothing.is (got_one tells_level c.read_level.ensures _ _ c.in_ok-line.was) c.turn-turn.ensures

pub returns : goal.returns
returns c = levels_found c.lines.invariant c.in_default.not-Nothing c.give.ensures
