-- Worked captures of each bus, by computation: a line has its place as its stamp, and the other bus rests. Assumes nothing.
use Prim.Native.Nat.{ℕ, zero, suc}
use mathlib.Core.Bool.{Bool, true, false}
use mathlib.Core.Path.{◌≡◌, refl}
use mathlib.Core.List.{List, [], ◌∷◌, ◌++◌}
use Rattle.record.specs.declared.Event.TheVariants.{Flash, Eeprom}
use Rattle.record.specs.declared.FlashEvent.{FlashEvent}
use Rattle.record.specs.declared.EepromEvent.{EepromEvent}
use Rattle.record.specs.declared.Record.{Record}
use Rattle.level.specs.declared.Spi.{Spi}
use Rattle.level.specs.declared.Wires.{Wires}
use Rattle.level.specs.declared.Level.{Level}
use Rattle.decode.specs.Bits.{events_of}
use Rattle.decode.specs.Decoded.{record_at, decoded_by, decoded_from, flash_of, eeprom_of}

abbrev pin : ℕ → Bool
pin zero = false
pin (suc n) = true

-- ---- the flash: CS, SCK, SI, SO, HOLD
abbrev spi : ℕ → ℕ → ℕ → ℕ → ℕ → Spi
spi cs sck si so hold = record { cs = pin cs; sck = pin sck; si = pin si; so = pin so; hold = pin hold }

abbrev flash_lines : ℕ → List Spi → List Level
flash_lines t [] = []
flash_lines t (s ∷ ss) = record { stamp = t; spi = s; wires = record { scl = true; sda = true } } ∷ flash_lines (suc t) ss

-- SI and SO stand, and a clock comes
abbrev clock : ℕ → ℕ → ℕ → List Spi
clock hold si so = spi 0 0 si so hold ∷ spi 0 1 si so hold ∷ spi 0 0 si so hold ∷ []

-- the halves of a byte with SI 05h and SO a3h
abbrev high : List Spi
high = clock 1 0 1 ++ (clock 1 0 0 ++ (clock 1 0 1 ++ clock 1 0 0))

abbrev low : List Spi
low = clock 1 0 0 ++ (clock 1 1 0 ++ (clock 1 0 1 ++ clock 1 1 1))

abbrev selected : List Spi → List Level
selected ss = flash_lines 0 (spi 1 0 0 0 1 ∷ spi 0 0 0 0 1 ∷ ss ++ (spi 1 0 0 0 1 ∷ []))

abbrev f : ℕ → FlashEvent → Record
f t e = record_at t (Flash e)

pub byte : flash_of (selected (high ++ low)) ≡ f 1 FlashEvent.Select ∷ f 24 (FlashEvent.Byte 5 163) ∷ f 26 FlashEvent.Deselect ∷ []
unfolding decoded_by decoded_from events_of
byte = refl

pub part : flash_of (selected high) ≡ f 1 FlashEvent.Select ∷ f 14 FlashEvent.Cut ∷ f 14 FlashEvent.Deselect ∷ []
unfolding decoded_by decoded_from events_of
part = refl

-- two clocks with HOLD low
pub held : flash_of (selected (high ++ (clock 0 1 1 ++ (clock 0 1 1 ++ low)))) ≡ f 1 FlashEvent.Select ∷ f 30 (FlashEvent.Byte 5 163) ∷ f 32 FlashEvent.Deselect ∷ []
unfolding decoded_by decoded_from events_of
held = refl

-- ---- the two wires: SCL, SDA
abbrev wires : ℕ → ℕ → Wires
wires scl sda = record { scl = pin scl; sda = pin sda }

abbrev wire_lines : ℕ → List Wires → List Level
wire_lines t [] = []
wire_lines t (w ∷ ws) = record { stamp = t; spi = spi 1 0 0 0 1; wires = w } ∷ wire_lines (suc t) ws

abbrev bits : List ℕ → List Wires
bits [] = []
bits (b ∷ bs) = wires 0 b ∷ wires 1 b ∷ wires 0 b ∷ bits bs

abbrev a1 : List Wires
a1 = bits (1 ∷ 0 ∷ 1 ∷ 0 ∷ 0 ∷ 0 ∷ 0 ∷ 1 ∷ [])

-- each with the rise of SCL before it, so in a clock's high time
abbrev start : List Wires
start = wires 0 1 ∷ wires 1 1 ∷ wires 1 0 ∷ wires 0 0 ∷ []

abbrev stop : List Wires
stop = wires 0 0 ∷ wires 1 0 ∷ wires 1 1 ∷ []

abbrev opened : List Wires → List Level
opened ws = wire_lines 0 (wires 1 1 ∷ start ++ (ws ++ stop))

abbrev e : ℕ → EepromEvent → Record
e t x = record_at t (Eeprom x)

pub acknowledged : eeprom_of (opened (a1 ++ bits (0 ∷ []))) ≡ e 3 EepromEvent.Start ∷ e 31 (EepromEvent.Byte 161 false) ∷ e 34 EepromEvent.Stop ∷ []
unfolding decoded_by decoded_from events_of
acknowledged = refl

pub no_ninth : eeprom_of (opened a1) ≡ e 3 EepromEvent.Start ∷ e 31 EepromEvent.Cut ∷ e 31 EepromEvent.Stop ∷ []
unfolding decoded_by decoded_from events_of
no_ninth = refl

-- the clock of the second start is no bit of the second byte, and after the first no part
pub repeated : eeprom_of (opened (a1 ++ (bits (0 ∷ []) ++ (start ++ (a1 ++ bits (1 ∷ []))))))
    ≡ e 3 EepromEvent.Start ∷ e 31 (EepromEvent.Byte 161 false) ∷ e 34 EepromEvent.Start ∷ e 62 (EepromEvent.Byte 161 true) ∷ e 65 EepromEvent.Stop ∷ []
unfolding decoded_by decoded_from events_of
repeated = refl

-- with no start open clocks and stops are passed over
pub closed : eeprom_of (wire_lines 0 (wires 1 1 ∷ a1 ++ stop)) ≡ []
unfolding decoded_by decoded_from events_of
closed = refl

-- a part left at the end of the capture is dropped
pub dropped : eeprom_of (wire_lines 0 (wires 1 1 ∷ start ++ a1)) ≡ e 3 EepromEvent.Start ∷ []
unfolding decoded_by decoded_from events_of
dropped = refl
