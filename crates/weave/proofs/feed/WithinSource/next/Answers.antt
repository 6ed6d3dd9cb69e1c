use Rattle.std.proofs.Common.{arith}
use Rattle.law.specs.Choice.{via}
use Rattle.field.proofs.Reading.{got_none, got_one}
use Rattle.field.proofs.Answers.{tells_got}
use Rattle.text.proofs.Standing.{got_record_place}
use Rattle.weave.proofs.FeedLaws.{trace_pass, trace_none, trace_end, trace_found, trace_on}
use Rattle.weave.proofs.feed.WithinSource.next.Goals as goal

pub returns-in_default : goal.returns-in_default
returns-in_default c = trace_none c.loop-at.invariant c.loop-at-test.true (got_none tells_got c.record_at.ensures c.in_default.is)

pub returns-then-is_of : goal.returns-then-is_of
returns-then-is_of c = trace_found c.loop-at.invariant (got_one tells_got c.record_at.ensures _ _ c.in-Ok.is) (via c.is_of.ensures c.if-is_of.true)

pub loop-at-smaller : goal.loop-at-smaller
loop-at-smaller c =
    let l = got_record_place (got_one tells_got c.record_at.ensures _ _ c.in-Ok.is) in omega (arith, c.line_with-at-in-loop-at.ensures.1)

pub loop-at-preserved : goal.loop-at-preserved
loop-at-preserved c =
    trace_pass (trace_on c.loop-at.invariant (got_one tells_got c.record_at.ensures _ _ c.in-Ok.is) (via c.is_of.ensures c.if-is_of.false))
    c.letter_of-letter.ensures c.line_with-at-in-loop-at.ensures.0

pub returns : goal.returns
returns c = trace_end c.loop-at.invariant c.loop-at-test.false
