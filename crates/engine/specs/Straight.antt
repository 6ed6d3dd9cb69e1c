-- The records that are left are played in their order.
use Rattle.std.specs.Prelude.{◌≤◌, ◌≡◌, List, length}
use Rattle.meaning.specs.Meaning.{after}
use Rattle.record.specs.declared.Board.{Board}
use Rattle.record.specs.declared.Record.{Record}
use Rattle.image.specs.Images.{Images}
use Rattle.machine.specs.Machine.{machine_at_start, on_machine}
use Rattle.capture.specs.Most.{most}
use Rattle.weave.specs.declared.Weave.{Weave}
use Rattle.weave.specs.Weaving.{Left}

-- from the images x they lead to y
pub record PlaysAll (w : Weave) (b : Board) (x y : Images) : Type 0 where
  pub plays : (m : List Record) → Left w m → length m ≤ most → y ≡ (after (on_machine b) m (machine_at_start b x)).images
