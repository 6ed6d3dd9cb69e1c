-- Believed: The bytes of a frame with the supply on (document 01, 'EEPROM rules').
use Rattle.std.specs.Prelude.{ℕ, ◌+◌, ◌-◌, ◌*◌, ◌/◌, ◌%◌, Bool, true, false, eqb, Option, Some, None}
use Rattle.law.specs.Words.{pick}
use Rattle.page.specs.Geometry.{eeprom_size}
use Rattle.page.specs.Rolling.{rolled_in}
use Rattle.record.specs.declared.Skeleton.{Skeleton}
use Rattle.record.specs.declared.Skeleton.TheVariants.{Silent, Fetch, Ack, NoAck}
use Rattle.eeprom.specs.Chip.{answered, in_frame, silent_in, place_of}
use Rattle.eeprom.specs.Write.{next_in_page, put_byte, counted}
use Rattle.eeprom.specs.declared.EepromFrame.{EepromFrame}
use Rattle.eeprom.specs.declared.EepromFrame.TheVariants.{Idle, Void, Opened, Addressed, Half, Taking, Reading}
use Rattle.eeprom.specs.declared.Eeprom.{Eeprom}
use Rattle.eeprom.specs.declared.EepromStep.{EepromStep}

-- ---- the address byte
-- 1010 A2 A1 A0 R/W
abbrev pub own_address : ℕ → ℕ → Bool
own_address b wired = eqb (b / 2) (0b1010000 + wired % 8)

-- the frame that R/W asks for
abbrev pub opened_by : ℕ → EepromFrame
opened_by b = pick (eqb (b % 2) 1) Reading Addressed

-- the chip's own address is acknowledged; after a `sta` in a cycle it gets no acknowledge and voids the frame; another address is silent and voids it
abbrev pub address_byte : Eeprom → Bool → ℕ → ℕ → EepromStep
address_byte x barred b wired =
    pick (own_address b wired)
    (pick barred (answered (in_frame x Void) NoAck) (answered (in_frame x (opened_by b)) Ack))
    (silent_in x Void)

-- ---- Write
-- two address bytes, the top bit ignored
abbrev pub address_of : ℕ → ℕ → ℕ
address_of high low = (high * 256 + low) % eeprom_size

abbrev pub high_byte : Eeprom → ℕ → EepromStep
high_byte x b = answered (in_frame x (Half (b % 128))) Ack

-- taken when both are in
abbrev pub low_byte : Eeprom → ℕ → ℕ → EepromStep
low_byte x high b = answered (record { frame = Taking 0; cycle = x.cycle; counter = Some (address_of high b); page = x.page }) Ack

-- data goes to the counter's place, and the counter, in the page's own rolling, past it; it is acknowledged whatever the lock
abbrev pub data_byte : Eeprom → ℕ → ℕ → EepromStep
data_byte x n b =
    answered
    (record {
      frame = Taking (counted n);
      cycle = x.cycle;
      counter = Some (next_in_page (place_of x.counter));
      page = put_byte (place_of x.counter) b x.page;
    })
    Ack

-- ---- Read
-- the byte at the counter; a lost counter gives silence
abbrev pub fetch_of : Option ℕ → Skeleton
fetch_of None = Silent
fetch_of (Some p) = Fetch p

-- which then goes on, 7fff to 0000
abbrev pub moved_on : Option ℕ → Option ℕ
moved_on None = None
moved_on (Some p) = Some (rolled_in (eeprom_size - 1) p)

-- a 1 acknowledge bit voids the frame
abbrev pub after_read : Bool → EepromFrame
after_read true = Void
after_read false = Reading

abbrev pub read_byte : Eeprom → Bool → EepromStep
read_byte x bit = answered (record { frame = after_read bit; cycle = x.cycle; counter = moved_on x.counter; page = x.page }) (fetch_of x.counter)

-- ---- a byte, by the frame; a void frame is silent
abbrev pub byte_in : EepromFrame → Eeprom → ℕ → Bool → ℕ → EepromStep
byte_in Idle x b bit wired = answered x Silent
byte_in Void x b bit wired = answered x Silent
byte_in (Opened barred) x b bit wired = address_byte x barred b wired
byte_in Addressed x b bit wired = high_byte x b
byte_in (Half high) x b bit wired = low_byte x high b
byte_in (Taking n) x b bit wired = data_byte x n b
byte_in Reading x b bit wired = read_byte x bit

abbrev pub byte_of : Eeprom → ℕ → Bool → ℕ → EepromStep
byte_of x b bit wired = byte_in x.frame x b bit wired
