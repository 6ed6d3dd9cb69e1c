-- Believed: What the first line must show, and what must not change together (document 02, request 4/12, refusals 12 and 13).
use Rattle.std.specs.Prelude.{Bool, true, false}
use Rattle.law.specs.Words.{pick}
use Rattle.level.specs.declared.Spi.{Spi}
use Rattle.level.specs.declared.Wires.{Wires}
use Rattle.level.specs.declared.Level.{Level}

-- a level of 1 before and of 0 now, or the other way round
abbrev pub falls : Bool → Bool → Bool
falls a b = pick a (pick b false true) false

abbrev pub rises : Bool → Bool → Bool
rises a b = pick a false b

abbrev pub changes : Bool → Bool → Bool
changes a b = pick (falls a b) true (rises a b)

-- 'The first line must show CS, HOLD, SCL and SDA at 1 and SCK at 0'
abbrev pub resting : Level → Bool
resting l = pick l.spi.cs (pick l.spi.hold (pick l.wires.scl (pick l.wires.sda (pick l.spi.sck false true) false) false) false) false

-- 'SCK changes together with CS, SI or HOLD'
abbrev pub spi_clash : Spi → Spi → Bool
spi_clash a b =
    pick (changes a.sck b.sck) (pick (changes a.cs b.cs) true (pick (changes a.si b.si) true (changes a.hold b.hold))) false

-- 'or SCL with SDA'
abbrev pub wires_clash : Wires → Wires → Bool
wires_clash a b = pick (changes a.scl b.scl) (changes a.sda b.sda) false

-- refusal 13, of a line and the next
abbrev pub clash : Level → Level → Bool
clash a b = pick (spi_clash a.spi b.spi) true (wires_clash a.wires b.wires)
