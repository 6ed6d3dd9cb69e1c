-- What the bus records and their skeleton replies alone tell of the chip, whatever the lines did between them, and the chip as a control.
-- By it two orders of one stamp's records are compared without an image.
use Rattle.std.specs.Prelude.{ℕ, ◌%◌, false, ◌≡◌, List, Option, Some, None}
use Rattle.tied.specs.Control.{Control, Cycle, idle, runs}
use Rattle.record.specs.Told.{skeleton_kind, Telling}
use Rattle.record.specs.declared.Skeleton.{Skeleton}
use Rattle.record.specs.declared.Skeleton.TheVariants.{Silent, Given, Fetch, Ack, NoAck, Starts, Ends, NoCycle}
use Rattle.record.specs.declared.EepromEvent.{EepromEvent}
use Rattle.record.specs.declared.EepromEvent.TheVariants.{Start, Byte, Cut, Stop, End}
use Rattle.record.specs.declared.LineEvent.{LineEvent}
use Rattle.eeprom.specs.Chip.{blank, place_of}
use Rattle.eeprom.specs.Write.{next_in_page, put_byte, counted, sent_by}
use Rattle.eeprom.specs.Frame.{opened_by, address_of, fetch_of, moved_on}
use Rattle.eeprom.specs.Side.{Side, side_bus, side_says, side_line}
use Rattle.eeprom.specs.Good.{count_of, Good}
use Rattle.eeprom.specs.declared.Sent.{Sent}
use Rattle.eeprom.specs.declared.EepromFrame.{EepromFrame}
use Rattle.eeprom.specs.declared.EepromFrame.TheVariants.{Idle, Void, Opened, Addressed, Half, Taking, Reading}
use Rattle.eeprom.specs.declared.Eeprom.{Eeprom}

-- ---- a cycle with all that its effect depends on
pub record Writing : Type 0 where
  pub sent : Sent
  pub bytes : List ℕ

abbrev pub runs_in : Option Sent → List ℕ → Cycle Writing
runs_in None page = idle
runs_in (Some s) page = runs (record { sent = s; bytes = page })

abbrev pub runs_of : Eeprom → Cycle Writing
runs_of x = runs_in x.cycle x.page

-- ---- what is told: the frame, the counter, and the data so far
pub record Told : Type 0 where
  pub frame : EepromFrame
  pub counter : Option ℕ
  pub page : List ℕ

-- an acknowledged byte is the next one of the frame
abbrev pub told_ack : EepromFrame → Told → ℕ → Told
told_ack Idle t b = t
told_ack Void t b = t
told_ack (Opened barred) t b = record { frame = opened_by b; counter = t.counter; page = blank }
told_ack Addressed t b = record { frame = Half (b % 128); counter = t.counter; page = blank }
told_ack (Half high) t b = record { frame = Taking 0; counter = Some (address_of high b); page = blank }
told_ack (Taking n) t b =
    record {
      frame = Taking (counted n);
      counter = Some (next_in_page (place_of t.counter));
      page = put_byte (place_of t.counter) b t.page;
    }
told_ack Reading t b = t

-- a byte that is fetched moves the counter on; silence and a missing acknowledge tell nothing
abbrev pub told_byte : Told → ℕ → Skeleton → Told
told_byte t b Silent = t
told_byte t b (Given v) = t
told_byte t b (Fetch p) = record { frame = t.frame; counter = moved_on t.counter; page = t.page }
told_byte t b Ack = told_ack t.frame t b
told_byte t b NoAck = t
told_byte t b Starts = t
told_byte t b Ends = t
told_byte t b NoCycle = t

-- that a `sta` came in a cycle is not told: the reply to the address byte tells it
abbrev pub told : Told → EepromEvent → Skeleton → Told
told t Start r = record { frame = Opened false; counter = t.counter; page = t.page }
told t (Byte b bit) r = told_byte t b r
told t Cut r = record { frame = Void; counter = t.counter; page = t.page }
told t Stop r = record { frame = Idle; counter = t.counter; page = t.page }
told t End r = t

-- the cycle that a `sto` starts
abbrev pub cycle_told : Told → EepromEvent → Writing
cycle_told t e = record { sent = sent_by (place_of t.counter) (count_of t.frame); bytes = t.page }

-- the place from which a byte is about to be read
abbrev pub hint_in : EepromFrame → Option ℕ → Skeleton
hint_in Idle n = Silent
hint_in Void n = Silent
hint_in (Opened barred) n = Silent
hint_in Addressed n = Silent
hint_in (Half high) n = Silent
hint_in (Taking k) n = Silent
hint_in Reading n = fetch_of n

abbrev pub hint_told : Told → EepromEvent → Skeleton
hint_told t Start = Silent
hint_told t (Byte b bit) = hint_in t.frame t.counter
hint_told t Cut = Silent
hint_told t Stop = Silent
hint_told t End = Silent

-- ---- the chip's frame is idle, void or the told one, with the told data
abbrev pub FrameTold : EepromFrame → List ℕ → Told → Type 0
FrameTold Idle page t = Unit {0}
FrameTold Void page t = Unit {0}
FrameTold (Opened barred) page t = t.frame ≡ Opened false
FrameTold Addressed page t = t.frame ≡ Addressed
FrameTold (Half high) page t = t.frame ≡ Half high
FrameTold (Taking n) page t = (t.frame ≡ Taking n) × (t.page ≡ page)
FrameTold Reading page t = t.frame ≡ Reading

-- its counter is lost or the told one
abbrev pub CounterTold : Option ℕ → Option ℕ → Type 0
CounterTold None m = Unit {0}
CounterTold (Some p) m = m ≡ Some p

pub record Tracks (x : Eeprom) (t : Told) : Type 0 where
  pub frame_told : FrameTold x.frame x.page t
  pub counter_told : CounterTold x.counter t.counter

-- ---- the chip as a control
abbrev pub eeprom_control : ℕ → Control Side EepromEvent LineEvent Skeleton Writing Told
eeprom_control wired = record {
  bus = side_bus wired;
  skel = side_says wired;
  line = side_line;
  running = λ s. runs_of s.chip;
  kind = skeleton_kind;
  next = told;
  cycle_of = cycle_told;
  Tracks = λ s t. Tracks s.chip t;
  Good = Good;
  hint = hint_told;
  Telling = Telling;
}
