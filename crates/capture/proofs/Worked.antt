-- Worked lines: what the request's refusals 12 and 13 say of a level line, by computing.
use mathlib.Core.Path.{◌≡◌, refl}
use mathlib.Core.Bool.{Bool, true, false}
use mathlib.Core.List.{List, [], ◌∷◌}
use Prim.Native.Nat.{ℕ}
use Rattle.record.specs.declared.Event.TheVariants.{Flash, Line}
use Rattle.record.specs.declared.FlashEvent.TheVariants.{Select, End}
use Rattle.record.specs.declared.LineEvent.TheVariants.{LockOn}
use Rattle.record.specs.declared.LevelsAnswer.TheVariants.{BadLevel, Together}
use Rattle.record.specs.declared.Record.{Record}
use Rattle.level.specs.declared.Level.{Level}
use Rattle.std.specs.Prelude.{Ok, Err}
use Rattle.capture.specs.Taken.{taken_of, stamped}
use Rattle.capture.specs.Captures.{none, line, fault_of}
use Rattle.law.specs.Words.{filter, keep}

-- a level line by its stamp, then CS, SCK, SI, SO, HOLD, SCL, SDA
abbrev at : ℕ → Bool → Bool → Bool → Bool → Bool → Bool → Bool → Level
at t cs sck si so hold scl sda = record { stamp = t; spi = record { cs = cs; sck = sck; si = si; so = so; hold = hold }; wires = record { scl = scl; sda = sda } }

-- of the logger's trace: a `sel`, which is passed over, an `end` and a `lock`, which are taken
abbrev logged : List Record
logged = record { stamp = 5; event = Flash Select } ∷ record { stamp = 7; event = Flash End } ∷ record { stamp = 9; event = Line LockOn } ∷ []

abbrev rest : Level
rest = at 1 true false false false true true true

abbrev selected : Level
selected = at 2 false false false false true true true

-- the first line, at rest; with CS low; with SCK high; with the stamp of an `end`; with that of a record that is passed over
first_good : fault_of (taken_of logged) none rest ≡ Ok tt
unfolding fault_of stamped filter keep
first_good = refl

first_selected : fault_of (taken_of logged) none selected ≡ Err BadLevel
unfolding fault_of stamped filter keep
first_selected = refl

first_clocked : fault_of (taken_of logged) none (at 1 true true false false true true true) ≡ Err BadLevel
unfolding fault_of stamped filter keep
first_clocked = refl

first_tied : fault_of (taken_of logged) none (at 7 true false false false true true true) ≡ Err BadLevel
unfolding fault_of stamped filter keep
first_tied = refl

first_passed : fault_of (taken_of logged) none (at 5 true false false false true true true) ≡ Ok tt
unfolding fault_of stamped filter keep
first_passed = refl

-- a later line: the same stamp again, a stamp that falls, the `lock`'s, where nothing moves
again : fault_of (taken_of logged) (line selected) selected ≡ Ok tt
unfolding fault_of stamped filter keep
again = refl

falling : fault_of (taken_of logged) (line selected) rest ≡ Err BadLevel
unfolding fault_of stamped filter keep
falling = refl

tied : fault_of (taken_of logged) (line selected) (at 9 false false false false true true true) ≡ Err BadLevel
unfolding fault_of stamped filter keep
tied = refl

-- SCK rises alone; with CS, with SI, with HOLD; with SO, which may; SCL falls alone, and with SDA; SCK beside SDA
clock_alone : fault_of (taken_of logged) (line selected) (at 3 false true false false true true true) ≡ Ok tt
unfolding fault_of stamped filter keep
clock_alone = refl

with_cs : fault_of (taken_of logged) (line selected) (at 3 true true false false true true true) ≡ Err Together
unfolding fault_of stamped filter keep
with_cs = refl

with_si : fault_of (taken_of logged) (line selected) (at 3 false true true false true true true) ≡ Err Together
unfolding fault_of stamped filter keep
with_si = refl

with_hold : fault_of (taken_of logged) (line selected) (at 3 false true false false false true true) ≡ Err Together
unfolding fault_of stamped filter keep
with_hold = refl

with_so : fault_of (taken_of logged) (line selected) (at 3 false true false true true true true) ≡ Ok tt
unfolding fault_of stamped filter keep
with_so = refl

wires_alone : fault_of (taken_of logged) (line selected) (at 3 false false false false true false true) ≡ Ok tt
unfolding fault_of stamped filter keep
wires_alone = refl

wires_both : fault_of (taken_of logged) (line selected) (at 3 false false false false true false false) ≡ Err Together
unfolding fault_of stamped filter keep
wires_both = refl

buses_apart : fault_of (taken_of logged) (line selected) (at 3 false true false false true true false) ≡ Ok tt
unfolding fault_of stamped filter keep
buses_apart = refl

-- 12 first on one line: SCK rises with CS, and the stamp is the `end`'s
twelve_first : fault_of (taken_of logged) (line selected) (at 7 true true false false true true true) ≡ Err BadLevel
unfolding fault_of stamped filter keep
twelve_first = refl
