use native.Mathlib.Omega.{arith}
use Rattle.field.proofs.Answers.{tells_got}
use Rattle.field.proofs.Reading.{got_none, got_one}
use Rattle.listing.proofs.Which.{beyond}
use Rattle.listing.proofs.Walk.{begun, over, unplayed, onward}
use Rattle.listing.proofs.list_from.Goals as goal

pub loop-k-init : goal.loop-k-init
loop-k-init c = begun _ _ _ _ _

pub returns-in_default : goal.returns-in_default
returns-in_default c = over c.loop-k.invariant (λ r o s. absurd (got_none tells_got c.record_at.ensures c.in_default.is r o s))

pub returns-then-not-was_played : goal.returns-then-not-was_played
returns-then-not-was_played c = unplayed c.loop-k.invariant c.reply_at-reply.ensures c.was_played.ensures c.if-not-was_played.true

pub loop-k-preserved : goal.loop-k-preserved
loop-k-preserved c = onward c.loop-k.invariant c.reply_at-reply.ensures c.was_played.ensures c.if-not-was_played.false (got_one tells_got c.record_at.ensures _ _ c.in-Ok.is) c.match_at.ensures c.loop-k-test.true c.record_line-line.ensures c.copy_line-at.ensures.0 c.copy_line-at.ensures.1

pub returns-after-loop-k : goal.returns-after-loop-k
returns-after-loop-k c = over c.loop-k.invariant (λ r o s. beyond _ _ (omega arith))
