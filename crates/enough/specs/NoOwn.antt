-- Believed: The last writing times 'add no difference of their own at one stamp' (document 02, request 1/12): what is claimed of them.
use Rattle.std.specs.Prelude.{◌≡◌, List, ℕ, ◌<◌}
use Rattle.law.specs.Words.{All}
use Rattle.meaning.specs.Meaning.{Channel, Outcome, Allowed, after, outcome}
use Rattle.record.specs.declared.Board.{Board}
use Rattle.record.specs.declared.Record.{Record}
use Rattle.record.specs.declared.Reply.{Reply}
use Rattle.image.specs.Images.{Images}
use Rattle.machine.specs.Machine.{Machine, machine_at_start, on_machine}

-- two orders end alike in all else: in the controls, in the images, and in each channel's replies
pub record AllElse (v w : Outcome Machine Reply) : Type 0 where
  pub controls : v.state.controls ≡ w.state.controls
  pub images : v.state.images ≡ w.state.images
  pub replies : (c : Channel) → v.replies c ≡ w.replies c

-- p the records of one stamp, played from m: where two allowed orders of them end alike in all else, they leave the same time for every page of both chips
abbrev pub TimesFollow : Board → Machine → Type 0
TimesFollow b m = (t : ℕ) (p o q : List Record) → All (λ (r : Record). r.stamp ≡ t) p → Allowed (on_machine b) p o → Allowed (on_machine b) p q →
    AllElse (outcome (on_machine b) o m) (outcome (on_machine b) q m) → (outcome (on_machine b) o m).state.times ≡ (outcome (on_machine b) q m).state.times

-- so it is of every machine that any records reach from the start, whatever the images held; a board's status is a byte
abbrev pub NoOwnDifference : Type 0
NoOwnDifference = (b : Board) → b.status < 256 → (x : Images) (rs : List Record) → TimesFollow b (after (on_machine b) rs (machine_at_start b x))
