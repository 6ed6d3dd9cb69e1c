-- What `==` says of two skeleton replies: whether they are the same.
use mathlib.Core.Path.{◌≡◌}
use Rattle.std.proofs.Common.{rules}
use Rattle.law.specs.Deciding.{Decides}
use Rattle.record.specs.declared.Skeleton.{Skeleton}
use Rattle.record.specs.contracts.SkeletonPartialEq.TheImpl as skeleton-eq

pub skeleton_decides : (a b : Skeleton) → Decides (skeleton-eq.ghosts.eq a b) (a ≡ b)
skeleton_decides a b = search rules
