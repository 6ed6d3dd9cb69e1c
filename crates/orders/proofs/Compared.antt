-- What `==` says of controls, and `!=` of skeleton replies.
use mathlib.Core.Path.{◌≡◌}
use mathlib.Core.Bool.{Bool, true, false, not}
use borrow.Author.Tests.{not-true, not-false}
use Rattle.law.specs.Choice.{via}
use Rattle.law.specs.Deciding.{Decides}
use Rattle.record.specs.declared.Skeleton.{Skeleton}
use Rattle.record.specs.contracts.SkeletonPartialEq.TheImpl as skeleton-eq
use Rattle.record.proofs.Compared.{skeleton_decides}
use Rattle.controls.specs.declared.Controls.{Controls}
use Rattle.controls.specs.contracts.ControlsPartialEq.TheImpl as controls-eq
use Rattle.controls.proofs.Compared.{controls_decides}

pub same_controls : {r : Bool} (a b : Controls) → r ≡ controls-eq.ghosts.eq a b → Decides r (a ≡ b)
same_controls a b e = rw e (controls_decides a b)

module _ {r : Bool} (a b : Skeleton) (e : r ≡ not (skeleton-eq.ghosts.eq a b)) where
  pub other_reply : r ≡ true → a ≡ b → ⊥
  other_reply t = (skeleton_decides a b).fails (not-true _ (via e t))

  pub same_reply : r ≡ false → a ≡ b
  same_reply t = (skeleton_decides a b).holds (not-false _ (via e t))
