use Rattle.std.proofs.Common.{length, ◌-◌}
use Rattle.weave.specs.Feeding.{behind_of}
use Rattle.weave.proofs.FeedLaws.{Still}
use Rattle.weave.proofs.feed.BehindSource.next.Given as goal

abbrev pub invariant-lines : goal.invariant-lines
invariant-lines l = Still l.levels l.fn.self (behind_of l.at l.last l.bits l.more)

abbrev pub decreases-lines : goal.decreases-lines
decreases-lines l = length l.levels - l.at
