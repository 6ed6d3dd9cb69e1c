-- A level line has one spelling, and a place of a text one level line at most.
use Prim.Native.Nat.{ℕ, ◌+◌, ◌/◌, ◌%◌, ◌≤◌, ◌<◌}
use native.Mathlib.Omega.{arith}
use mathlib.Core.Bool.{Bool}
use mathlib.Core.Logic.{⊎_elim}
use mathlib.Core.Path.{◌≡◌, refl, sym, ap, subst, ◌∙◌}
use mathlib.Core.List.{List, [], ◌∷◌, ◌++◌}
use lib.Dec.{eqb}
use lib.ListN.{length, get_or, length-append}
use Rattle.std.proofs.Common.{rules}
use Rattle.std.specs.Prelude.{Option}
use Rattle.law.specs.Choice.{lt_or_le}
use Rattle.field.specs.declared.Cursor.{Cursor}
use Rattle.field.specs.Ends.{tab}
use Rattle.field.specs.Decimal.{decimal, digits_value}
use Rattle.field.specs.Reads.{Stands}
use Rattle.field.specs.Readers.{content_at}
use Rattle.field.proofs.Reading.{determined, by_inverse, stands_left, stands_right}
use Rattle.field.proofs.DecimalLaws.{value_decimal}
use Rattle.field.proofs.SpellingLaws.{decimal_split, decimal_last}
use Rattle.level.specs.declared.Spi.{Spi}
use Rattle.level.specs.declared.Wires.{Wires}
use Rattle.level.specs.declared.Level.{Level}
use Rattle.level.specs.Spelled.{level_digit, spelled_spi, spelled_wires, spelled_level, ReadsLevel}
use Rattle.level.proofs.StampLaws.{spelled_stamp, stamp_content}
use Rattle.level.proofs.LevelLaws.{Any, tells_level, pins, level_parts}

-- any two answers that the promise of `read_level` admits are equal
pub level_determined : (text : List ℕ) (at : ℕ) (r r' : Option (Level × Cursor)) → ReadsLevel text at r → ReadsLevel text at r' → r ≡ r'
level_determined text at = determined tells_level

-- one decimal has a spelling
decimal_one : (m n : ℕ) → decimal m ≡ decimal n → m ≡ n
decimal_one m n e = sym (value_decimal m) ∙ (λ i. digits_value 0 (e i)) ∙ value_decimal n

-- the seven levels of a line, behind its stamp
abbrev Pins : Type 0
Pins = Spi × Wires

abbrev one : List ℕ → ℕ → Bool
one l n = eqb (get_or l n 0) 49

abbrev pins_at : List ℕ → Pins
pins_at l = (record { cs = one l 0; sck = one l 2; si = one l 4; so = one l 6; hold = one l 8 }, record { scl = one l 10; sda = one l 12 })

digit_is : (a : Bool) → eqb (level_digit a) 49 ≡ a
digit_is a = search rules

pins_law : (x : Pins) → Unit {0} → (rest : List ℕ) → pins_at ((spelled_spi x.0 ++ spelled_wires x.1) ++ rest) ≡ x
unfolding spelled_spi spelled_wires
pins_law x o rest = λ i. (
  record {
    cs = digit_is x.0.cs i;
    sck = digit_is x.0.sck i;
    si = digit_is x.0.si i;
    so = digit_is x.0.so i;
    hold = digit_is x.0.hold i;
  },
  record { scl = digit_is x.1.scl i; sda = digit_is x.1.sda i },
)

-- at one place of a text stands at most one level line
pub level_same : (text : List ℕ) (at : ℕ) (l l' : Level) → Stands text at (spelled_level l) → Stands text at (spelled_level l') → l ≡ l'
level_same text at l l' s s' = λ i. record { stamp = stamps i; spi = (levels i).0; wires = (levels i).1 }
  where
    parts : (x : Level) → Stands text at (spelled_level x) → Stands text at (spelled_stamp x.stamp ++ pins x)
    parts x z = subst (λ (w : List ℕ). Stands text at w) (level_parts x) z

    content : (x : Level) → Stands text at (spelled_level x) → content_at text at ≡ decimal x.stamp
    content x z = stamp_content text at x.stamp (stands_left text (spelled_stamp x.stamp) (pins x) at (parts x z))

    stamps : l.stamp ≡ l'.stamp
    stamps = decimal_one l.stamp l'.stamp (sym (content l s) ∙ content l' s')

    behind : (x : Level) → Stands text at (spelled_level x) → Stands text (at + length (spelled_stamp x.stamp)) (pins x)
    behind x z = stands_right text (spelled_stamp x.stamp) (pins x) at (parts x z)

    levels : ◌≡◌ {A = Pins} (l.spi, l.wires) (l'.spi, l'.wires)
    levels =
        by_inverse {A = Pins} (λ x. spelled_spi x.0 ++ spelled_wires x.1) Any pins_at pins_law (l.spi, l.wires) tt (behind l s)
        (l'.spi, l'.wires) tt (subst (λ (n : ℕ). Stands text (at + length (spelled_stamp n)) (pins l')) (sym stamps) (behind l' s'))

-- a line, whatever comes after it, spells one level: the spelling is one-to-one
pub one_level : (l l' : Level) (rest rest' : List ℕ) → spelled_level l ++ rest ≡ spelled_level l' ++ rest' → l ≡ l'
one_level l l' rest rest' e = level_same (spelled_level l ++ rest) 0 l l' (record { rest = rest; is = refl }) (record { rest = rest'; is = e })

-- a stamp has a digit, whatever it is
a_digit : (n : ℕ) → 1 ≤ length (decimal n)
a_digit n =
    ⊎_elim (λ (l : n < 10). omega (arith, ap length (decimal_last n l)))
    (λ (l : 10 ≤ n). omega (arith, ap length (decimal_split n l), length-append (decimal (n / 10)) ((48 + n % 10) ∷ [])))
    (lt_or_le n 10)

-- a line has a digit at least, a tab, and fourteen bytes behind them
pub level_length : (l : Level) → 16 ≤ length (spelled_level l)
unfolding spelled_level spelled_spi spelled_wires
level_length l = omega (arith, length-append (decimal l.stamp) (tab ++ pins l), a_digit l.stamp)
