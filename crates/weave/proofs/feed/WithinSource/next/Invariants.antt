use Rattle.std.proofs.Common.{length, ◌-◌}
use Rattle.weave.proofs.FeedLaws.{StillTrace}
use Rattle.weave.proofs.feed.WithinSource.next.Given as goal

abbrev pub invariant-loop-at : goal.invariant-loop-at
invariant-loop-at l = StillTrace l.trace l.part l.fn.self.at l.at

abbrev pub decreases-loop-at : goal.decreases-loop-at
decreases-loop-at l = length l.trace - l.at
