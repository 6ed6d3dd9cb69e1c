-- A history beside the machine: something holds of a kept bit's value and mark and of the history's bit (`Bit`); what each fate keeps of it (`turn`), every record keeps, and so every reply has it. Once for all such relations.
use mathlib.Core.Path.{◌≡◌, sym, ap, subst}
use mathlib.Core.Bool.{Bool, false}
use mathlib.Core.List.{List}
use Prim.Native.Nat.{ℕ, suc, ◌<◌}
use Rattle.law.specs.Words.{All}
use Rattle.meaning.specs.Meaning.{after, outcome}
use Rattle.meaning.specs.Listing.{shown_at}
use Rattle.meaning.proofs.Alongside.{Pairwise, after_follows, shown_like}
use Rattle.record.specs.declared.Board.{Board}
use Rattle.record.specs.declared.Chip.{Chip}
use Rattle.record.specs.declared.Record.{Record}
use Rattle.record.specs.declared.Event.{Event}
use Rattle.record.specs.declared.Event.TheVariants as event
use Rattle.record.specs.declared.FlashEvent.{FlashEvent}
use Rattle.record.specs.declared.FlashEvent.TheVariants.{Select, Byte, Cut, Deselect, End}
use Rattle.record.specs.declared.Skeleton.{Skeleton}
use Rattle.record.specs.declared.Skeleton.TheVariants as skeleton
use Rattle.record.specs.declared.Reply.{Reply}
use Rattle.record.specs.declared.Reply.TheVariants as reply
use Rattle.line.specs.ChannelF.{FlashOk}
use Rattle.line.specs.Records.{EventOk}
use Rattle.cell.specs.declared.Cell.{Cell}
use Rattle.image.specs.Image.{Image, cell_at}
use Rattle.image.specs.Images.{image_at, kept_bytes, Kept}
use Rattle.flash.proofs.Within.{Sends, BytePage, bytes_step, bytes_line, Fetches}
use Rattle.controls.specs.declared.Controls.{Controls}
use Rattle.controls.specs.Play.{event_moved, moved_of, lost_of}
use Rattle.machine.specs.Replies.{delivered}
use Rattle.machine.specs.Machine.{Machine, image_for, on_machine, play_on, says_on}
use Rattle.enough.specs.Enough.{Good}
use Rattle.enough.proofs.Enough.{good_play}
use Rattle.histories.specs.History.{bit_of, Fate, becomes, fate_at, Real, play_real, RealReply, byte, no_byte, delivered_real, bus_of, says_real, on_real}
use Rattle.histories.proofs.Bits.{bit_zero}
use Rattle.histories.proofs.OneBit.{Turns}
use Rattle.histories.proofs.Places.{place_turns, images_kept}
use Rattle.histories.proofs.Fetched.{fetches}

-- ---- a machine on the way: each image has its length, a PROGRAM's data are bytes, and the controls are reached
pub record Sound (m : Machine) : Type 0 where
  pub kept : Kept m.images
  pub bytes : BytePage m.controls.flash.page
  pub good : Good m.controls

-- records whose bytes are bytes
abbrev pub Ok : Record → Type 0
Ok r = EventOk r.event

sends : (e : FlashEvent) → FlashOk e → Sends e
sends Select h = tt
sends (Byte si so) h = h.0
sends Cut h = tt
sends Deselect h = tt
sends End h = tt

bytes_moved : (b : Board) (c : Controls) (v : Event) → EventOk v → BytePage c.flash.page → BytePage (event_moved b c v).controls.flash.page
bytes_moved b c (event.Flash e) k h = bytes_step c.flash e c.lines b.sector (sends e k) h
bytes_moved b c (event.Eeprom e) k h = h
bytes_moved b c (event.Line e) k h = bytes_line c.flash e c.lines h

pub sound_play : (b : Board) (m : Machine) (r : Record) → Ok r → Sound m → Sound (play_on b m r)
unfolding play_on moved_of
sound_play b m r k s = record {
  kept = images_kept b m.controls r m.images s.kept;
  bytes = bytes_moved b m.controls r.event k s.bytes;
  good = good_play b m r s.good;
}

-- what a record makes of the kept byte at a place
pub turns : (b : Board) (m : Machine) (r : Record) → Sound m → (chip : Chip) (k : ℕ) → k < kept_bytes chip →
    Turns (fate_at b m.controls r chip k) (cell_at (image_at chip m.images) k) (cell_at (image_at chip (play_on b m r).images) k)
unfolding play_on
turns b m r s chip k l = place_turns b m.controls r m.images s.kept s.bytes chip k l

module _ (Bit : Bool → Bool → Bool → Type 0) where
  -- of the eight bits of a byte
  abbrev pub EachBit : Cell → (ℕ → Bool) → Type 0
  EachBit c w = (j : ℕ) → j < 8 → Bit (bit_of c.value j) (bit_of c.mask j) (w j)

  -- of what the machine replies and what is replied in a history: a byte stands to a byte, all else to none
  unfoldable pub Like : Reply → RealReply → Type 0
  Like (reply.Byte v m) (byte w) = EachBit (record { value = v; mask = m }) w
  Like (reply.Byte v m) no_byte = ⊥
  Like reply.NotPlayed (byte w) = ⊥
  Like reply.NotPlayed no_byte = Unit {0}
  Like reply.Silent (byte w) = ⊥
  Like reply.Silent no_byte = Unit {0}
  Like reply.Ack (byte w) = ⊥
  Like reply.Ack no_byte = Unit {0}
  Like reply.NoAck (byte w) = ⊥
  Like reply.NoAck no_byte = Unit {0}
  Like reply.Starts (byte w) = ⊥
  Like reply.Starts no_byte = Unit {0}
  Like reply.Ends (byte w) = ⊥
  Like reply.Ends no_byte = Unit {0}
  Like reply.NoCycle (byte w) = ⊥
  Like reply.NoCycle no_byte = Unit {0}

  module _ (b : Board) (Chosen : Bool → Type 0)
      (turn : (f : Fate) (c d : Cell) → Turns f c d → (j : ℕ) → j < 8 → (x chosen : Bool) → Chosen chosen → Bit (bit_of c.value j) (bit_of c.mask j) x → Bit (bit_of d.value j) (bit_of d.mask j) (becomes f j chosen x))
      (sure : (v : Bool) → Bit v false v) where
    pub record Follows (m : Machine) (s : Real) : Type 0 where
      pub sound : Sound m
      pub moved : s.controls ≡ m.controls
      pub bits : (chip : Chip) (k : ℕ) → k < kept_bytes chip → EachBit (cell_at (image_at chip m.images) k) (s.bits chip k)
      pub chosen : (n : ℕ) (chip : Chip) (k j : ℕ) → Chosen (s.choices n chip k j)

    plays : (r : Record) → Ok r → (m : Machine) (s : Real) → Follows m s → Follows (play_on b m r) (play_real b s r)
    unfolding play_real play_on
    plays r k m s h = record {
      sound = sound_play b m r k h.sound;
      moved = ap (λ (c : Controls). (moved_of b c r).controls) h.moved;
      bits = λ chip n l j q.
          subst (λ (c : Controls). Bit (bit_of (cell_at (image_at chip (play_on b m r).images) n).value j) (bit_of (cell_at (image_at chip (play_on b m r).images) n).mask j) (becomes (fate_at b c r chip n) j (s.choices 0 chip n j) (s.bits chip n j)))
          (sym h.moved)
          (turn (fate_at b m.controls r chip n) (cell_at (image_at chip m.images) n) (cell_at (image_at chip (play_on b m r).images) n) (turns b m r h.sound chip n l) j q
          (s.bits chip n j) (s.choices 0 chip n j) (h.chosen 0 chip n j) (h.bits chip n l j q));
      chosen = λ n. h.chosen (suc n);
    }

    -- a given byte is sure, a fetched one stands at a place that is kept
    given : (v : ℕ) → EachBit (record { value = v; mask = 0 }) (bit_of v)
    given v j l = subst (λ (t : Bool). Bit (bit_of v j) t (bit_of v j)) (sym (bit_zero j l)) (sure (bit_of v j))

    deliver_like : (n : ℕ) (i : Image) (held : ℕ → ℕ → Bool) → ((k : ℕ) → k < n → EachBit (cell_at i k) (held k)) → (k : Skeleton) → Fetches n k → Like (delivered i k) (delivered_real held k)
    unfolding delivered Like
    deliver_like n i held h skeleton.Silent l = tt
    deliver_like n i held h (skeleton.Given v) l = given v
    deliver_like n i held h (skeleton.Fetch p) l = h p l
    deliver_like n i held h skeleton.Ack l = tt
    deliver_like n i held h skeleton.NoAck l = tt
    deliver_like n i held h skeleton.Starts l = tt
    deliver_like n i held h skeleton.Ends l = tt
    deliver_like n i held h skeleton.NoCycle l = tt

    event_like : (v : Event) (m : Machine) (s : Real) → Follows m s → Like (delivered (image_for v m.images) (event_moved b m.controls v).reply) (delivered_real (s.bits (bus_of v)) (event_moved b m.controls v).reply)
    event_like (event.Flash e) m s h = deliver_like (kept_bytes Chip.Flash) _ _ (h.bits Chip.Flash) _ (fetches b m.controls h.sound.good (event.Flash e))
    event_like (event.Eeprom e) m s h = deliver_like (kept_bytes Chip.Eeprom) _ _ (h.bits Chip.Eeprom) _ (fetches b m.controls h.sound.good (event.Eeprom e))
    event_like (event.Line e) m s h = deliver_like (kept_bytes Chip.Flash) _ _ (h.bits Chip.Flash) _ (fetches b m.controls h.sound.good (event.Line e))

    tells : (r : Record) (m : Machine) (s : Real) → Follows m s → Like (says_on b m r) (says_real b s r)
    unfolding says_on says_real moved_of
    tells r m s h =
        subst (λ (c : Controls). Like (says_on b m r) (delivered_real (s.bits (bus_of r.event)) (event_moved b c r.event).reply)) (sym h.moved) (event_like r.event m s h)

    -- along an order, and line by line
    pub ends_follow : (o : List Record) → All Ok o → (m : Machine) (s : Real) → Follows m s → Follows (after (on_machine b) o m) (after (on_real b) o s)
    ends_follow = after_follows (on_machine b) (play_real b) (says_real b) (λ s. lost_of s.controls) Like Ok Follows plays tells

    pub shows_like : (rs o : List Record) → All Ok o → (m : Machine) (s : Real) → Follows m s → Pairwise Like (shown_at (on_machine b) rs (outcome (on_machine b) o m)) (shown_at (on_real b) rs (outcome (on_real b) o s))
    shows_like = shown_like (on_machine b) (play_real b) (says_real b) (λ s. lost_of s.controls) Like Ok Follows plays tells
