-- Believed: The two wires (document 02, request 4/12: 'start and stop where SDA moves with SCL high; the ninth clock is the acknowledge. A two-wire bit has the level of the clock's rise and
-- counts at its fall, so a clock in whose high time a start or stop comes is no bit. A part of a byte gives `cut`, as do eight clocks without the ninth; clocks and stops with no start open are passed over').
use Rattle.std.specs.Prelude.{Bool, Option, Some, None, ◌+◌, ltb, eqb}
use Rattle.law.specs.Words.{pick}
use Rattle.record.specs.declared.Event.TheVariants.{Eeprom}
use Rattle.record.specs.declared.EepromEvent.{EepromEvent}
use Rattle.record.specs.declared.EepromEvent.TheVariants.{Start, Byte, Cut, Stop}
use Rattle.level.specs.declared.Wires.{Wires}
use Rattle.level.specs.Rest.{falls, rises}
use Rattle.decode.specs.declared.Out.{Out}
use Rattle.decode.specs.declared.Out.TheVariants.{Nothing, One, Two}
use Rattle.decode.specs.declared.Turn.{Turn}
use Rattle.decode.specs.declared.wire_bits.BytePart.{BytePart}
use Rattle.decode.specs.declared.wire_bits.WireBits.{WireBits}
use Rattle.decode.specs.Bits.{pushed}

-- no bit of a byte yet
abbrev pub no_part : BytePart
no_part = record { count = 0; value = 0 }

-- no start is open, no clock is high whose rise was seen
abbrev pub at_rest : WireBits
at_rest = record { link = None; clock = None }

abbrev pub wire_turned : Option BytePart → Option Bool → Out → Turn WireBits
wire_turned p k o = record { bits = record { link = p; clock = k }; out = o }

-- a start or a stop after 1 to 8 bits of a byte gives `cut` first
abbrev pub after_part : BytePart → EepromEvent → Out
after_part p e = pick (eqb p.count 0) (One (Eeprom e)) (Two (Eeprom Cut) (Eeprom e))

-- a start, also where one is open; the clock that is high is no bit
abbrev pub start_turn : Option BytePart → Turn WireBits
start_turn None = wire_turned (Some no_part) None (One (Eeprom Start))
start_turn (Some p) = wire_turned (Some no_part) None (after_part p Start)

-- a stop; with no start open it is passed over
abbrev pub stop_turn : Option BytePart → Turn WireBits
stop_turn None = wire_turned None None Nothing
stop_turn (Some p) = wire_turned None None (after_part p Stop)

-- a bit counts, where a start is open: the ninth is the acknowledge, 1 is not acknowledged
abbrev pub bit_turn : Option BytePart → Bool → Turn WireBits
bit_turn None level = wire_turned None None Nothing
bit_turn (Some p) level =
    pick (ltb p.count 8) (wire_turned (Some (record { count = p.count + 1; value = pushed p.value level })) None Nothing)
    (wire_turned (Some no_part) None (One (Eeprom (Byte p.value level))))

-- SCL falls: its bit counts, with the level of its rise
abbrev pub fall_turn : Option BytePart → Option Bool → Turn WireBits
fall_turn p None = wire_turned p None Nothing
fall_turn p (Some level) = bit_turn p level

-- SCL stays high: SDA falls in a start and rises in a stop
abbrev pub high_turn : Option BytePart → Option Bool → Bool → Bool → Turn WireBits
high_turn p k a b = pick (falls a b) (start_turn p) (pick (rises a b) (stop_turn p) (wire_turned p k Nothing))

-- from one line of the capture to the next
abbrev pub wire_turn : WireBits → Wires → Wires → Turn WireBits
wire_turn s a b =
    pick (falls a.scl b.scl) (fall_turn s.link s.clock)
    (pick (rises a.scl b.scl) (wire_turned s.link (Some b.sda) Nothing)
    (pick b.scl (high_turn s.link s.clock a.sda b.sda) (wire_turned s.link s.clock Nothing)))
