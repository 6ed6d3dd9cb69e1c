-- The records that a machine gives of a capture without a fault: of its own bus, possible, in range, and their stamps never go back. Said once of both machines.
use mathlib.Core.Path.{◌≡◌, refl, subst}
use mathlib.Core.Bool.{Bool, true, false}
use mathlib.Core.Logic.{⊎_elim}
use mathlib.Core.List.{List, [], ◌∷◌, ◌++◌}
use Prim.Native.Nat.{ℕ, ◌+◌, ◌*◌, ◌≤◌, ◌<◌}
use native.Mathlib.Omega.{arith}
use borrow.Author.Tests.{ltb-false}
use lib.Dec.{ltb, eqb}
use Rattle.std.proofs.Common.{rules}
use Rattle.law.specs.Choice.{pick_says, of_both}
use Rattle.law.specs.Words.{All, Rising}
use Rattle.law.specs.Lists.{all_append, all_map}
use Rattle.law.specs.Ordering.{rising_append, rising_level}
use Rattle.record.specs.declared.Event.{Event}
use Rattle.record.specs.declared.Record.{Record}
use Rattle.field.specs.Decimal.{largest}
use Rattle.line.specs.Records.{EventOk}
use Rattle.text.specs.declared.buses.Bus.{Bus}
use Rattle.text.specs.declared.buses.Bus.TheVariants.{Closed, Open, Spoilt}
use Rattle.level.specs.declared.Spi.{Spi}
use Rattle.level.specs.declared.Wires.{Wires}
use Rattle.level.specs.declared.Level.{Level}
use Rattle.level.specs.Rest.{falls, rises}
use Rattle.decode.specs.declared.Out.{Out}
use Rattle.decode.specs.declared.Out.TheVariants as out
use Rattle.decode.specs.declared.flash_bits.FlashBits.{FlashBits}
use Rattle.decode.specs.declared.Turn.{Turn}
use Rattle.decode.specs.declared.wire_bits.BytePart.{BytePart}
use Rattle.decode.specs.declared.wire_bits.WireBits.{WireBits}
use Rattle.decode.specs.declared.bits.Bits.{Bits}
use Rattle.decode.specs.Bits.{pushed, events_of}
use Rattle.decode.specs.FlashLevels.{flash_ends, flash_low, flash_turn}
use Rattle.decode.specs.WireLevels.{wire_turned, start_turn, stop_turn, bit_turn, fall_turn, wire_turn}
use Rattle.decode.specs.Decoded.{turn_of, record_at, records_at, decoded_from}
use Rattle.std.specs.Prelude.{Option, Some, None, Ok}
use Rattle.capture.specs.Captures.{line, fault_of, Faultless}
use Rattle.capture.specs.Merge.{number_of}
use Rattle.capture.proofs.OneCapture.{bad_not_nothing}
use Rattle.capture.specs.Taken.{moves_flash, moves_eeprom}
use Rattle.capture.proofs.Apart.{flash_to, eeprom_to, Runs}

-- ---- what each machine's bus is
abbrev pub to_of : Bits → Bus → Event → Option Bus
to_of (Bits.Flash s) = flash_to
to_of (Bits.Wires s) = eeprom_to

abbrev pub moves_of : Bits → Event → Bool
moves_of (Bits.Flash s) = moves_flash
moves_of (Bits.Wires s) = moves_eeprom

abbrev place_for : Bits → ℕ
place_for (Bits.Flash s) = 0
place_for (Bits.Wires s) = 1

abbrev pub by_level : Bool → Bus
by_level true = Closed
by_level false = Open

abbrev by_link : Option BytePart → Bus
by_link None = Closed
by_link (Some p) = Open

-- how the bus stands behind a line of the capture
abbrev pub bus_at : Bits → Level → Bus
bus_at (Bits.Flash s) a = by_level a.spi.cs
bus_at (Bits.Wires s) a = by_link s.link

-- the bits of a byte that is not complete are a byte; the flash's come out complete only by `pushed`
abbrev LinkOk : Option BytePart → Type 0
LinkOk None = Unit {0}
LinkOk (Some p) = p.value < 256

abbrev pub Good : Bits → Type 0
Good (Bits.Flash s) = Unit {0}
Good (Bits.Wires s) = LinkOk s.link

-- an event of the machine's bus, in range
abbrev pub OfBus : Bits → Event → Type 0
OfBus s e = (moves_of s e ≡ true) × EventOk e

small : (b : ℕ) (x : Bool) → pushed b x < 256
small b true = omega arith
small b false = omega arith

-- ---- the flash's lines
module _ (t : ℕ) (l : List Record) where
  abbrev FlashRuns : Bus → Turn FlashBits → Type 0
  FlashRuns x o = Runs flash_to x (records_at t (events_of o.out) ++ l)

  low_runs : (s : FlashBits) (a b : Spi) → Runs flash_to Open l → FlashRuns Open (flash_low s a b)
  unfolding Runs events_of
  low_runs s a b h =
      of_both (FlashRuns Open) (rises a.sck b.sck) _ _ (of_both (FlashRuns Open) b.hold _ _ (of_both (FlashRuns Open) (ltb s.count 7) _ _ h (Open, refl, h)) h) h

  ends_runs : (s : FlashBits) → Runs flash_to Closed l → FlashRuns Open (flash_ends s)
  unfolding Runs events_of
  ends_runs s h = of_both (FlashRuns Open) (eqb s.count 0) _ _ (Closed, refl, h) (Spoilt, refl, (Closed, refl, h))

  flash_runs : (s : FlashBits) (ac ak ai ao ah bc bk bi bo bh : Bool) → Runs flash_to (by_level bc) l →
      FlashRuns (by_level ac) (flash_turn s (record { cs = ac; sck = ak; si = ai; so = ao; hold = ah }) (record { cs = bc; sck = bk; si = bi; so = bo; hold = bh }))
  unfolding Runs events_of
  flash_runs s true ak ai ao ah true bk bi bo bh h = h
  flash_runs s true ak ai ao ah false bk bi bo bh h = (Open, refl, h)
  flash_runs s false ak ai ao ah true bk bi bo bh h = ends_runs s h
  flash_runs s false ak ai ao ah false bk bi bo bh h =
      low_runs s (record { cs = false; sck = ak; si = ai; so = ao; hold = ah }) (record { cs = false; sck = bk; si = bi; so = bo; hold = bh }) h

abbrev FlashAll : Turn FlashBits → Type 0
FlashAll o = All (λ (e : Event). (moves_flash e ≡ true) × EventOk e) (events_of o.out)

flash_all : (s : FlashBits) (a b : Spi) → FlashAll (flash_turn s a b)
unfolding All events_of
flash_all s a b =
    of_both FlashAll (falls a.cs b.cs) _ _ ((refl, tt), tt)
    (of_both FlashAll (rises a.cs b.cs) _ _ (of_both FlashAll (eqb s.count 0) _ _ ((refl, tt), tt) ((refl, tt), ((refl, tt), tt)))
    (of_both FlashAll b.cs _ _ tt
    (of_both FlashAll (rises a.sck b.sck) _ _ (of_both FlashAll b.hold _ _ (of_both FlashAll (ltb s.count 7) _ _ tt ((refl, (small s.si b.si, small s.so b.so)), tt)) tt) tt)))

-- ---- the two wires: a property of every turn, by the link that it began with
module _ (P : Option BytePart → Turn WireBits → Type 0)
    (still : (l : Option BytePart) (k : Option Bool) → P l (wire_turned l k out.Nothing))
    (begin : (l : Option BytePart) → P l (start_turn l)) (end : (l : Option BytePart) → P l (stop_turn l)) (bit : (l : Option BytePart) (v : Bool) → P l (bit_turn l v)) where
  fall_by : (l : Option BytePart) (k : Option Bool) → P l (fall_turn l k)
  fall_by l None = still l None
  fall_by l (Some v) = bit l v

  turn_by : (s : WireBits) (a b : Wires) → P s.link (wire_turn s a b)
  turn_by s a b =
      of_both (P s.link) (falls a.scl b.scl) _ _ (fall_by s.link s.clock)
      (of_both (P s.link) (rises a.scl b.scl) _ _ (still s.link (Some b.sda))
      (of_both (P s.link) b.scl _ _
      (of_both (P s.link) (falls a.sda b.sda) _ _ (begin s.link) (of_both (P s.link) (rises a.sda b.sda) _ _ (end s.link) (still s.link s.clock)))
      (still s.link s.clock)))

module _ (t : ℕ) (l : List Record) where
  abbrev OutRuns : Out → Type 0
  OutRuns o = Runs eeprom_to Open (records_at t (events_of o) ++ l)

  abbrev WireRuns : Option BytePart → Turn WireBits → Type 0
  WireRuns k o = Runs eeprom_to (by_link o.bits.link) l → Runs eeprom_to (by_link k) (records_at t (events_of o.out) ++ l)

  begin_runs : (k : Option BytePart) → WireRuns k (start_turn k)
  unfolding Runs events_of
  begin_runs None h = (Open, refl, h)
  begin_runs (Some p) h = of_both OutRuns (eqb p.count 0) _ _ (Open, refl, h) (Spoilt, refl, (Open, refl, h))

  end_runs : (k : Option BytePart) → WireRuns k (stop_turn k)
  unfolding Runs events_of
  end_runs None h = h
  end_runs (Some p) h = of_both OutRuns (eqb p.count 0) _ _ (Closed, refl, h) (Spoilt, refl, (Closed, refl, h))

  bit_runs : (k : Option BytePart) (v : Bool) → WireRuns k (bit_turn k v)
  unfolding Runs events_of
  bit_runs None v h = h
  bit_runs (Some p) v h = of_both (WireRuns (Some p)) (ltb p.count 8) _ _ (λ k. k) (λ k. (Open, refl, k)) h

  wire_runs : (s : WireBits) (a b : Wires) → WireRuns s.link (wire_turn s a b)
  unfolding events_of
  wire_runs s a b = turn_by WireRuns (λ k c h. h) begin_runs end_runs bit_runs s a b

abbrev OutAll : Out → Type 0
OutAll o = All (λ (e : Event). (moves_eeprom e ≡ true) × EventOk e) (events_of o)

abbrev WireAll : Option BytePart → Turn WireBits → Type 0
WireAll k o = LinkOk k → LinkOk o.bits.link × OutAll o.out

begin_all : (k : Option BytePart) → WireAll k (start_turn k)
unfolding All events_of
begin_all None h = (omega arith, ((refl, tt), tt))
begin_all (Some p) h = (omega arith, of_both OutAll (eqb p.count 0) _ _ ((refl, tt), tt) ((refl, tt), ((refl, tt), tt)))

end_all : (k : Option BytePart) → WireAll k (stop_turn k)
unfolding All events_of
end_all None h = (tt, tt)
end_all (Some p) h = (tt, of_both OutAll (eqb p.count 0) _ _ ((refl, tt), tt) ((refl, tt), ((refl, tt), tt)))

bit_all : (k : Option BytePart) (v : Bool) → WireAll k (bit_turn k v)
unfolding All events_of
bit_all None v h = (tt, tt)
bit_all (Some p) v h =
    of_both (WireAll (Some p)) (ltb p.count 8) _ _ (λ k. (small p.value v, tt)) (λ k. (omega arith, ((refl, k), tt))) h

wire_all : (s : WireBits) (a b : Wires) → WireAll s.link (wire_turn s a b)
unfolding All events_of
wire_all s a b = turn_by WireAll (λ k c h. (h, tt)) begin_all end_all bit_all s a b

-- ---- either machine, from one line to the next
turn_runs : (s : Bits) (a b : Level) (l : List Record) → Runs (to_of s) (bus_at (turn_of s a b).bits b) l → Runs (to_of s) (bus_at s a) (records_at b.stamp (events_of (turn_of s a b).out) ++ l)
turn_runs (Bits.Flash s) a b l h =
    flash_runs b.stamp l s a.spi.cs a.spi.sck a.spi.si a.spi.so a.spi.hold b.spi.cs b.spi.sck b.spi.si b.spi.so b.spi.hold h
turn_runs (Bits.Wires s) a b l h = wire_runs b.stamp l s a.wires b.wires h

turn_all : (s : Bits) (a b : Level) → Good s → Good (turn_of s a b).bits × All (OfBus s) (events_of (turn_of s a b).out)
turn_all (Bits.Flash s) a b g = (tt, flash_all s a.spi b.spi)
turn_all (Bits.Wires s) a b g = wire_all s a.wires b.wires g

same_to : (s : Bits) (a b : Level) → to_of (turn_of s a b).bits ≡ to_of s
same_to s a b = search rules

same_bus : (s : Bits) (a b : Level) (e : Event) → OfBus (turn_of s a b).bits e → OfBus s e
same_bus s a b e h = search rules

same_place : (s : Bits) (a b : Level) → place_for (turn_of s a b).bits ≡ place_for s
same_place s a b = search rules

-- ---- and over the lines of a capture: possible
pub decoded_runs : (s : Bits) (a : Level) (ls : List Level) → Runs (to_of s) (bus_at s a) (decoded_from s a ls)
unfolding decoded_from Runs
decoded_runs s a [] = tt
decoded_runs s a (b ∷ ls) =
    let rest = decoded_from (turn_of s a b).bits b ls in
    turn_runs s a b rest
    (subst (λ (to : Bus → Event → Option Bus). Runs to (bus_at (turn_of s a b).bits b) rest) (same_to s a b) (decoded_runs (turn_of s a b).bits b ls))

-- lines without a fault
pub not_back : (ts : List Record) (a b : Level) → fault_of ts (line a) b ≡ Ok tt → a.stamp ≤ b.stamp
unfolding fault_of
not_back ts a b h = ⊎_elim (λ z. bad_not_nothing z.1) (λ z. ltb-false b.stamp a.stamp z.0) (pick_says (ltb b.stamp a.stamp) _ _ _ h)

all_at : (P : Record → Type 0) (Q : Event → Type 0) (t : ℕ) → ((e : Event) → Q e → P (record_at t e)) → (es : List Event) → All Q es → All P (records_at t es)
unfolding All
all_at P Q t f [] h = tt
all_at P Q t f (e ∷ es) h = (f e h.0, all_at P Q t f es h.1)

-- what a line gives, and what the lines behind it give
abbrev here : Bits → Level → Level → List Record
here s a b = records_at b.stamp (events_of (turn_of s a b).out)

abbrev later : Bits → Level → Level → List Level → List Record
later s a b ls = decoded_from (turn_of s a b).bits b ls

-- each is a record of the machine's bus, in range, not before the line before
pub decoded_all : (ts : List Record) (P : Record → Type 0) (s : Bits) (a : Level) (ls : List Level) → Good s → Faultless ts (line a) ls →
    ((t : ℕ) (e : Event) → a.stamp ≤ t → t ≤ largest → OfBus s e → P (record_at t e)) → All P (decoded_from s a ls)
unfolding decoded_from Faultless All
decoded_all ts P s a [] g f p = tt
decoded_all ts P s a (b ∷ ls) g f p =
    let le = not_back ts a b f.1 in
    let turn = turn_all s a b g in
    all_append P (here s a b) (later s a b ls) (all_at P (OfBus s) b.stamp (λ e o. p b.stamp e le f.0 o) (events_of (turn_of s a b).out) turn.1)
    (decoded_all ts P (turn_of s a b).bits b ls turn.0 f.2 (λ t e h k o. p t e (omega arith) k (same_bus s a b e o)))

number_of_lem : (s : Bits) (t : ℕ) (e : Event) → OfBus s e → number_of (record_at t e) ≡ t * 3 + place_for s
number_of_lem s t e o = search rules

pub decoded_rising : (ts : List Record) (s : Bits) (a : Level) (ls : List Level) → Good s → Faultless ts (line a) ls → Rising number_of (decoded_from s a ls)
unfolding decoded_from Faultless Rising
decoded_rising ts s a [] g f = tt
decoded_rising ts s a (b ∷ ls) g f =
    let n = b.stamp * 3 + place_for s in
    let turn = turn_all s a b g in
    let same = all_at (λ (r : Record). number_of r ≡ n) (OfBus s) b.stamp (number_of_lem s b.stamp) (events_of (turn_of s a b).out) turn.1 in
    rising_append number_of (here s a b) (later s a b ls) n (all_map _ _ (λ x q. omega arith) (here s a b) same)
    (decoded_all ts (λ (r : Record). n ≤ number_of r) (turn_of s a b).bits b ls turn.0 f.2
    (λ t e h k o. omega (arith, number_of_lem s t e (same_bus s a b e o))))
    (rising_level number_of n (here s a b) same) (decoded_rising ts (turn_of s a b).bits b ls turn.0 f.2)
