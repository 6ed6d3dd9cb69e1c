-- What every state keeps that is reached from the start.
use Rattle.std.specs.Prelude.{ℕ, ◌+◌, ◌/◌, ◌%◌, ◌<◌, ◌≤◌, true, false, ◌≡◌, List, length, get_or, Option, Some, None}
use Rattle.page.specs.Geometry.{eeprom_page, eeprom_size}
use Rattle.page.specs.Rolling.{sent_place}
use Rattle.eeprom.specs.Chip.{place_of}
use Rattle.eeprom.specs.Write.{sent_by}
use Rattle.eeprom.specs.Side.{Side}
use Rattle.eeprom.specs.declared.Sent.{Sent}
use Rattle.eeprom.specs.declared.EepromFrame.{EepromFrame}
use Rattle.eeprom.specs.declared.EepromFrame.TheVariants.{Idle, Void, Opened, Addressed, Half, Taking, Reading}
use Rattle.eeprom.specs.declared.Eeprom.{Eeprom}

-- the counter is lost or a place of the chip
abbrev pub CounterGood : Option ℕ → Type 0
CounterGood None = Unit {0}
CounterGood (Some p) = p < eeprom_size

abbrev pub Known : Option ℕ → Type 0
Known None = ⊥
Known (Some p) = Unit {0}

-- with no cycle: a frame that takes data has a counter
abbrev pub FrameGood : EepromFrame → Option ℕ → Type 0
FrameGood Idle n = Unit {0}
FrameGood Void n = Unit {0}
FrameGood (Opened barred) n = Unit {0}
FrameGood Addressed n = Unit {0}
FrameGood (Half high) n = high < 128
FrameGood (Taking k) n = (k ≤ eeprom_page) × Known n
FrameGood Reading n = Unit {0}

-- in a cycle: no write frame, no read frame
abbrev pub Waits : EepromFrame → Type 0
Waits Idle = Unit {0}
Waits Void = Unit {0}
Waits (Opened true) = Unit {0}
Waits (Opened false) = ⊥
Waits Addressed = ⊥
Waits (Half high) = ⊥
Waits (Taking k) = ⊥
Waits Reading = ⊥

abbrev pub FrameIn : Option Sent → EepromFrame → Option ℕ → Type 0
FrameIn None f n = FrameGood f n
FrameIn (Some s) f n = Waits f

-- the places of a cycle, one or more of one page, and the place p of the counter: one past the last, in the page's own rolling
pub record SentGood (s : Sent) (p : ℕ) : Type 0 where
  pub in_chip_lem : s.page < eeprom_size / eeprom_page
  pub in_page_lem : s.first < eeprom_page
  pub some : 1 ≤ s.count
  pub no_more : s.count ≤ eeprom_page
  pub all : eeprom_page ≤ s.count → s.first ≡ 0
  pub here : p / eeprom_page ≡ s.page
  pub past : s.count < eeprom_page → p % eeprom_page ≡ (s.first + s.count) % eeprom_page

abbrev pub CycleIn : Option Sent → Option ℕ → Type 0
CycleIn None n = Unit {0}
CycleIn (Some s) n = SentGood s (place_of n)

-- the data bytes that a frame has
abbrev pub count_of : EepromFrame → ℕ
count_of Idle = 0
count_of Void = 0
count_of (Opened barred) = 0
count_of Addressed = 0
count_of (Half high) = 0
count_of (Taking k) = k
count_of Reading = 0

-- the places for which the page holds bytes
abbrev pub sent_in : Option Sent → EepromFrame → Option ℕ → Sent
sent_in None f n = sent_by (place_of n) (count_of f)
sent_in (Some s) f n = s

-- a chip, by its parts: the page holds 0 where nothing was sent
pub record Fields (f : EepromFrame) (c : Option Sent) (n : Option ℕ) (p : List ℕ) : Type 0 where
  pub in_frame : FrameIn c f n
  pub in_cycle_lem : CycleIn c n
  pub in_counter : CounterGood n
  pub long : length p ≡ eeprom_page
  pub empty : (q : ℕ) → q < eeprom_page → sent_place eeprom_page (sent_in c f n).first (sent_in c f n).count q ≡ false → get_or p q 0 ≡ 0

abbrev pub ChipGood : Eeprom → Type 0
ChipGood x = Fields x.frame x.cycle x.counter x.page

-- no frame is open
abbrev pub Shut : EepromFrame → Type 0
Shut Idle = Unit {0}
Shut Void = Unit {0}
Shut (Opened barred) = ⊥
Shut Addressed = ⊥
Shut (Half high) = ⊥
Shut (Taking k) = ⊥
Shut Reading = ⊥

-- with the supply off no cycle runs, the counter is lost and no frame is open
pub record Dark (x : Eeprom) : Type 0 where
  pub shut : Shut x.frame
  pub none : x.cycle ≡ None
  pub lost : x.counter ≡ None

pub record Good (s : Side) : Type 0 where
  pub chip_good : ChipGood s.chip
  pub dark : s.lines.supply ≡ false → Dark s.chip
