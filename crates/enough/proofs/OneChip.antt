-- One chip of the machine, decided by its control: what the orders of a stamp give on the machine, played at that stamp, is what they give on the chip's part, and that is what they give on the controls.
use mathlib.Core.Path.{◌≡◌, refl, sym, ap, subst, ◌∙◌}
use mathlib.Core.Bool.{Bool, true, false}
use mathlib.Core.List.{List}
use Prim.Native.Nat.{ℕ}
use Rattle.tied.specs.Orders
use Rattle.tied.specs.Control.{Control, Lawful, fetches}
use Rattle.tied.proofs.Parts as parts
use Rattle.tied.proofs.Parts.{Effects, bus_with, reply_with, line_with, skeletons_are_enough, all_is_enough, one_part, one_delivered, one_told}
use Rattle.law.specs.Words.{All}
use Rattle.meaning.specs.Meaning.{Channel, L, of, Allowed, Alike, after, replies}
use Rattle.meaning.proofs.Allowing.{in_channel}
use Rattle.meaning.proofs.Chips.{heard, Sees, Beside, ordered, sees, hears, chip_agrees, chip_decided, whole_part, part_whole}
use Rattle.record.specs.declared.Board.{Board}
use Rattle.record.specs.declared.Record.{Record}
use Rattle.record.specs.declared.Reply.{Reply}
use Rattle.record.specs.declared.Reply.TheVariants as reply
use Rattle.record.specs.declared.Skeleton.{Skeleton}
use Rattle.record.specs.declared.Skeleton.TheVariants.{Silent, Given, Fetch, Ack, NoAck, Starts, Ends, NoCycle}
use Rattle.record.specs.Told.{skeleton_kind, Telling}
use Rattle.controls.specs.declared.Controls.{Controls}
use Rattle.image.specs.Image.{Image}
use Rattle.orders.specs.Stamp.{played}
use Rattle.orders.specs.Verdicts.{OrdersAgree}
use Rattle.machine.specs.Replies.{delivered}
use Rattle.machine.specs.Machine.{Machine, on_machine, on_controls}
use Rattle.enough.proofs.AtStamp.{at_stamp}
use Rattle.machine.proofs.Memory.{Memory}

-- ---- replies
-- only a fetched byte depends on the image
pub deliver_plain : (r : Record) (k : Skeleton) (i j : Image) → (skeleton_kind k ≡ fetches → ⊥) → delivered i k ≡ delivered j k
unfolding delivered
deliver_plain r Silent i j n = refl
deliver_plain r (Given x) i j n = refl
deliver_plain r (Fetch p) i j n = absurd (n refl)
deliver_plain r Ack i j n = refl
deliver_plain r NoAck i j n = refl
deliver_plain r Starts i j n = refl
deliver_plain r Ends i j n = refl
deliver_plain r NoCycle i j n = refl

-- a delivered byte was given, or fetched from the place that was told
abbrev read_byte : Skeleton → ℕ → Skeleton
read_byte Silent v = Given v
read_byte (Given x) v = Given v
read_byte (Fetch p) v = Fetch p
read_byte Ack v = Given v
read_byte NoAck v = Given v
read_byte Starts v = Given v
read_byte Ends v = Given v
read_byte NoCycle v = Given v

abbrev read : Record → Skeleton → Reply → Skeleton
read r h reply.NotPlayed = Silent
read r h reply.Silent = Silent
read r h (reply.Byte v m) = read_byte h v
read r h reply.Ack = Ack
read r h reply.NoAck = NoAck
read r h reply.Starts = Starts
read r h reply.Ends = Ends
read r h reply.NoCycle = NoCycle

pub reads : (r : Record) (k h : Skeleton) (i : Image) → Telling k h → read r h (delivered i k) ≡ k
unfolding delivered Telling
reads r Silent h i t = refl
reads r (Given x) h i t = rw t refl
reads r (Fetch p) h i t = rw t refl
reads r Ack h i t = refl
reads r NoAck h i t = refl
reads r Starts h i t = refl
reads r Ends h i t = refl
reads r NoCycle h i t = refl

-- ---- the chip: its channel, its control and its memory
-- what it sees of the machine
abbrev pub see : {C : Type 0} (side : Controls → C) (memory : Machine → Memory) → Machine → parts.Part C Memory
see side memory m = record { control = side m.controls; image = memory m }

module _ (b : Board) (t : ℕ) (c : Channel) {C Run Told : Type 0} (X : Control C Record Record Skeleton Run Told) (Y : Effects Record Skeleton Reply Memory Run) (side : Controls → C) (memory : Machine → Memory) (rest : Controls → Controls) where
  pub record OneChip : Type 0 where
    pub lawful : Lawful X
    pub plain : (r : Record) (k : Skeleton) (i j : Memory) → (X.kind k ≡ fetches → ⊥) → Y.deliver i r k ≡ Y.deliver j r k
    pub reads : (r : Record) (k h : Skeleton) (i : Memory) → X.Telling k h → read r h (Y.deliver i r k) ≡ k
    pub controls : Sees (on_controls b) c side X.bus X.skel X.line
    pub beside : Beside (on_controls b) c side rest
    pub whole : Sees (at_stamp b t) c (see side memory) (bus_with X Y) (reply_with X Y) (line_with X Y)

module _ {b : Board} {t : ℕ} {c : Channel} {C Run Told : Type 0} {X : Control C Record Record Skeleton Run Told} {Y : Effects Record Skeleton Reply Memory Run} {side : Controls → C} {memory : Machine → Memory} {rest : Controls → Controls}
    (Z : OneChip b t c X Y side memory rest) where
  -- it stays good
  good_heard : (x y : Bool) (w : C) (r : Record) → X.Good w → X.Good (heard X.bus X.line x y w r)
  unfolding heard
  good_heard true y w r g = Z.lawful.good_bus w r g
  good_heard false true w r g = Z.lawful.good_line w r g
  good_heard false false w r g = g

  pub chip_good : (s : Controls) (r : Record) → X.Good (side s) → X.Good (side (played b s r))
  chip_good s r g = subst X.Good (sym (Z.controls.plays s r)) (good_heard _ _ (side s) r g)

  module _ (p : List Record) (m : Machine) (good : X.Good (side m.controls)) where
    -- where its orders with the lines agree on the controls, it sees and says the same in any two allowed orders
    pub chip_alike : OrdersAgree b (of (on_machine b) c p) (of (on_machine b) L p) m.controls → (o q : List Record) → Allowed (at_stamp b t) p o → Allowed (at_stamp b t) p q →
        (see side memory (after (at_stamp b t) o m) ≡ see side memory (after (at_stamp b t) q m)) × (replies (at_stamp b t) c o m ≡ replies (at_stamp b t) c q m)
    unfolding OrdersAgree
    chip_alike h =
        chip_agrees (at_stamp b t) c _ _ _ _ Z.whole p m
        (skeletons_are_enough X Y Z.lawful Z.plain _ _ (see side memory m) good
        (whole_part (on_controls b) c side _ _ _ Z.controls _ _ (in_channel (on_machine b) c p) (in_channel (on_machine b) L p) m.controls h))

    -- and where all allowed orders of one stamp end alike on the machine, its orders agree on the controls
    pub alike_chip : All (λ (r : Record). r.stamp ≡ t) p → Alike (at_stamp b t) p m → OrdersAgree b (of (on_machine b) c p) (of (on_machine b) L p) m.controls
    unfolding OrdersAgree
    alike_chip hp h =
        part_whole (on_controls b) c side _ _ _ Z.controls rest Z.beside _ _ (in_channel (on_machine b) c p) (in_channel (on_machine b) L p) m.controls
        (all_is_enough X Y Z.lawful Z.plain read Z.reads _ _ (see side memory m) good (chip_decided (at_stamp b t) c _ _ _ _ Z.whole p t hp m h))

  -- two lists with the same records of the chip, in any order with the lines'
  module _ (o q : List Record) (same-records : of (on_machine b) c o ≡ of (on_machine b) c q) (m : Machine) (good : X.Good (side m.controls)) where
    -- the chip says the same in both on the machine: then its skeletons on the controls are the same
    pub told_alike : replies (at_stamp b t) c o m ≡ replies (at_stamp b t) c q m → replies (on_controls b) c o m.controls ≡ replies (on_controls b) c q m.controls
    told_alike h =
        hears (on_controls b) c _ _ _ _ Z.controls o m.controls
        ∙ one_told X Y Z.lawful Z.plain read Z.reads (ordered (on_machine b) c o) (ordered (on_machine b) c q) (see side memory m) good same-records
        (sym (hears (at_stamp b t) c _ _ _ _ Z.whole o m) ∙ h ∙ hears (at_stamp b t) c _ _ _ _ Z.whole q m)
        ∙ sym (hears (on_controls b) c _ _ _ _ Z.controls q m.controls)

    -- and where its skeletons are the same, so is what it says; with its last control, so is its memory
    module _ (h : replies (on_controls b) c o m.controls ≡ replies (on_controls b) c q m.controls) where
      abbrev skeletons_of : List Record → List Skeleton
      skeletons_of l = Orders.replies X.bus X.skel X.line (ordered (on_machine b) c l) (side m.controls)

      skeletons_alike : skeletons_of o ≡ skeletons_of q
      skeletons_alike = sym (hears (on_controls b) c _ _ _ _ Z.controls o m.controls) ∙ h ∙ hears (on_controls b) c _ _ _ _ Z.controls q m.controls

      pub said_alike : replies (at_stamp b t) c o m ≡ replies (at_stamp b t) c q m
      said_alike =
          hears (at_stamp b t) c _ _ _ _ Z.whole o m
          ∙ one_delivered X Y Z.lawful Z.plain (ordered (on_machine b) c o) (ordered (on_machine b) c q) (see side memory m) good same-records skeletons_alike
          ∙ sym (hears (at_stamp b t) c _ _ _ _ Z.whole q m)

      pub seen_alike : side (after (at_stamp b t) o m).controls ≡ side (after (at_stamp b t) q m).controls → see side memory (after (at_stamp b t) o m) ≡ see side memory (after (at_stamp b t) q m)
      seen_alike k =
          let at-o = sees (at_stamp b t) c _ _ _ _ Z.whole o m in
          let at-q = sees (at_stamp b t) c _ _ _ _ Z.whole q m in
          at-o
          ∙ one_part X Y Z.lawful Z.plain (ordered (on_machine b) c o) (ordered (on_machine b) c q) (see side memory m) good same-records skeletons_alike
          (sym (ap (λ (y : parts.Part C Memory). y.control) at-o) ∙ k ∙ ap (λ (y : parts.Part C Memory). y.control) at-q)
          ∙ sym at-q
