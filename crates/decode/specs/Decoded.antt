-- Believed: The records of a capture, of either bus (document 02, request 4/12: 'A record bears the stamp of its last edge; each channel keeps capture order'; 'a part left at the end of the capture is dropped').
use Rattle.std.specs.Prelude.{ℕ, List, [], ◌∷◌, ◌++◌, map}
use Rattle.record.specs.declared.Event.{Event}
use Rattle.record.specs.declared.Record.{Record}
use Rattle.level.specs.declared.Level.{Level}
use Rattle.decode.specs.declared.Turn.{Turn}
use Rattle.decode.specs.declared.flash_bits.FlashBits.{FlashBits}
use Rattle.decode.specs.declared.wire_bits.WireBits.{WireBits}
use Rattle.decode.specs.declared.bits.Bits.{Bits}
use Rattle.decode.specs.Bits.{events_of}
use Rattle.decode.specs.FlashLevels.{no_bits, flash_turn}
use Rattle.decode.specs.WireLevels.{at_rest, wire_turn}

abbrev pub of_flash : Turn FlashBits → Turn Bits
of_flash t = record { bits = Bits.Flash t.bits; out = t.out }

abbrev pub of_wires : Turn WireBits → Turn Bits
of_wires t = record { bits = Bits.Wires t.bits; out = t.out }

-- from one line of the capture to the next, on the lines of the bus that is decoded
abbrev pub turn_of : Bits → Level → Level → Turn Bits
turn_of (Bits.Flash s) a b = of_flash (flash_turn s a.spi b.spi)
turn_of (Bits.Wires s) a b = of_wires (wire_turn s a.wires b.wires)

abbrev pub record_at : ℕ → Event → Record
record_at t e = record { stamp = t; event = e }

-- what is given at the stamp t
abbrev pub records_at : ℕ → List Event → List Record
records_at t es = map (record_at t) es

-- the records of the lines ls after the line a, with the bits so far
unfoldable pub decoded_from : Bits → Level → List Level → List Record
decoded_from s a [] = []
decoded_from s a (b ∷ ls) = records_at b.stamp (events_of (turn_of s a b).out) ++ decoded_from (turn_of s a b).bits b ls

-- the first line gives no record
unfoldable pub decoded_by : Bits → List Level → List Record
decoded_by s [] = []
decoded_by s (a ∷ ls) = decoded_from s a ls

abbrev pub flash_start : Bits
flash_start = Bits.Flash no_bits

abbrev pub wires_start : Bits
wires_start = Bits.Wires at_rest

abbrev pub flash_of : List Level → List Record
flash_of ls = decoded_by flash_start ls

abbrev pub eeprom_of : List Level → List Record
eeprom_of ls = decoded_by wires_start ls
