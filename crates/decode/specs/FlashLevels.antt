-- Believed: The flash's lines (document 02, request 4/12: 'flash bits on the rising clock in mode 0, most significant first, clocks ignored while HOLD is low', 'A part of a byte gives `cut`').
use Rattle.std.specs.Prelude.{Bool, ◌+◌, ltb, eqb}
use Rattle.law.specs.Words.{pick}
use Rattle.record.specs.declared.Event.TheVariants.{Flash}
use Rattle.record.specs.declared.FlashEvent.TheVariants.{Select, Byte, Cut, Deselect}
use Rattle.level.specs.declared.Spi.{Spi}
use Rattle.level.specs.Rest.{falls, rises}
use Rattle.decode.specs.declared.Out.{Out}
use Rattle.decode.specs.declared.Out.TheVariants.{Nothing, One, Two}
use Rattle.decode.specs.declared.flash_bits.FlashBits.{FlashBits}
use Rattle.decode.specs.declared.Turn.{Turn}
use Rattle.decode.specs.Bits.{pushed}

-- no bit of a byte yet
abbrev pub no_bits : FlashBits
no_bits = record { count = 0; si = 0; so = 0 }

abbrev pub flash_turned : FlashBits → Out → Turn FlashBits
flash_turned s o = record { bits = s; out = o }

-- a clock that counts, with SI and SO as they are on its line: the eighth completes the byte
abbrev pub flash_clock : FlashBits → Bool → Bool → Turn FlashBits
flash_clock s si so =
    pick (ltb s.count 7) (flash_turned (record { count = s.count + 1; si = pushed s.si si; so = pushed s.so so }) Nothing)
    (flash_turned no_bits (One (Flash (Byte (pushed s.si si) (pushed s.so so)))))

-- CS rises: after 1 to 7 clocks `cut`, then `des`
abbrev pub flash_ends : FlashBits → Turn FlashBits
flash_ends s = pick (eqb s.count 0) (flash_turned no_bits (One (Flash Deselect))) (flash_turned no_bits (Two (Flash Cut) (Flash Deselect)))

-- CS is low: the clock counts where it rises and HOLD is high
abbrev pub flash_low : FlashBits → Spi → Spi → Turn FlashBits
flash_low s a b = pick (rises a.sck b.sck) (pick b.hold (flash_clock s b.si b.so) (flash_turned s Nothing)) (flash_turned s Nothing)

-- from one line of the capture to the next: `sel` at CS's fall, `des` at its rise, clocks while it is low
abbrev pub flash_turn : FlashBits → Spi → Spi → Turn FlashBits
flash_turn s a b =
    pick (falls a.cs b.cs) (flash_turned no_bits (One (Flash Select)))
    (pick (rises a.cs b.cs) (flash_ends s)
    (pick b.cs (flash_turned s Nothing) (flash_low s a b)))
