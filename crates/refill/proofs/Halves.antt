-- The flash's half of the machine, its control and the watched sector's image, and how the replay's rules play records of channel F on it. Assumes nothing.
use Prim.Native.Nat.{ℕ, ◌+◌}
use mathlib.Core.Bool.{Bool, true}
use mathlib.Core.List.{List, [], ◌∷◌}
use Rattle.record.specs.declared.FlashEvent.{FlashEvent}
use Rattle.record.specs.declared.Lines.{Lines}
use Rattle.record.specs.declared.Skeleton.{Skeleton}
use Rattle.flash.specs.declared.Flash.{Flash}
use Rattle.flash.specs.declared.FlashCycle.{FlashCycle}
use Rattle.flash.specs.declared.FlashFrame.TheVariants.{Idle, Command}
use Rattle.flash.specs.declared.LockFact.{LockFact}
use Rattle.flash.specs.declared.Op.{Op}
use Rattle.std.specs.Prelude.{Option, Some, None}
use Rattle.flash.specs.Cycle.{blank}
use Rattle.flash.specs.Step.{step_of}
use Rattle.image.specs.Image.{Image}
use Rattle.machine.specs.declared.effects.Stroke.TheVariants.{Whole}
use Rattle.machine.specs.Effects.{stroke_of, flash_after}

pub record Half : Type 0 where
  pub chip : Flash
  pub image : Image

abbrev pub half : Flash → Image → Half
half f i = record { chip = f; image = i }

module _ (lines : Lines) (watched : ℕ) where
  -- one record of channel F, by the replay's rules
  abbrev pub moved : Half → FlashEvent → Half
  moved h e =
      half (step_of h.chip e lines watched).chip (flash_after (stroke_of (step_of h.chip e lines watched).reply) watched h.chip h.image)

  unfoldable pub played : List FlashEvent → Half → Half
  played [] h = h
  played (e ∷ es) h = played es (moved h e)

  -- the replies, each counted as f says
  unfoldable pub tally : (Skeleton → ℕ) → List FlashEvent → Half → ℕ
  tally f [] h = 0
  tally f (e ∷ es) h = f (step_of h.chip e lines watched).reply + tally f es (moved h e)

-- supply on
abbrev pub powered : Bool → Lines
powered lock = record { supply = true; lock = lock }

-- idle, with a known status; and in a cycle
abbrev pub in_cycle : Option FlashCycle → List ℕ → ℕ → Flash
in_cycle c page status = record { frame = Idle; cycle = c; status = Some status; page = page }

abbrev pub idle : ℕ → Flash
idle status = in_cycle None blank status

-- in a command's frame, with so many bytes in
abbrev pub in_command : Op → ℕ → ℕ → LockFact → ℕ → List ℕ → Flash
in_command o count place fact status page =
    record { frame = Command o (record { count = count; place = place }) fact; cycle = None; status = Some status; page = page }

-- what a whole cycle makes of the image
abbrev pub whole_of : ℕ → FlashCycle → List ℕ → ℕ → Image → Image
whole_of watched c page status i = flash_after Whole watched (in_cycle (Some c) page status) i
