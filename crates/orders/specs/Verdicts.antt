-- What is found at a stamp (document 01, 'Replies and stopping'): crowded, orders that differ, a status lost after it, in this order.
use Rattle.std.specs.Prelude.{◌≡◌, true, false, List, ℕ, ◌≤◌, ◌<◌, take}
use Rattle.record.specs.declared.Answer.{Answer}
use Rattle.record.specs.declared.Answer.TheVariants as answer
use Rattle.record.specs.declared.Board.{Board}
use Rattle.record.specs.declared.Record.{Record}
use Rattle.record.specs.declared.Skeleton.{Skeleton}
use Rattle.controls.specs.declared.Controls.{Controls}
use Rattle.controls.specs.Play.{moved_of, lost_of}
use Rattle.meaning.specs.Meaning.{Channel, F, E, L, same, most}
use Rattle.tied.specs.Orders.{AnyTwo, after_buses, after_lines}
use Rattle.orders.specs.Stamp.{bus, line, played, buses_from, lines_from}
use Rattle.orders.specs.declared.Held.{Held}
use Rattle.orders.specs.declared.tying.Tied.{Tied}
use Rattle.orders.specs.declared.Verdict.{Verdict}
use Rattle.orders.specs.declared.Verdict.TheVariants.{Crowded, Differ, Lost, Passes}

-- what is held of a channel: how many records, the array that they stand in, and the records
abbrev pub count_of : Held → Channel → ℕ
count_of h F = h.flash.count
count_of h E = h.eeprom.count
count_of h L = h.lines.count

abbrev pub array_of : Held → Channel → List Record
array_of h F = h.flash.records
array_of h E = h.eeprom.records
array_of h L = h.lines.records

abbrev pub held_of : Held → Channel → List Record
held_of h c = take (count_of h c) (array_of h c)

-- a stamp is crowded where a channel has more records than may share it
abbrev pub TooMany : Held → Type 0
TooMany h = (c : Channel) × (most c < count_of h c)

abbrev pub Few : Held → Type 0
Few h = (c : Channel) → count_of h c ≤ most c

abbrev pub says : Board → Controls → Record → Skeleton
says b s r = (moved_of b s r).reply

-- any two orders of a bus's records with the lines' agree, in the last controls and in every skeleton reply
unfoldable pub OrdersAgree : Board → List Record → List Record → Controls → Type 0
OrdersAgree b bs ls s = AnyTwo (played b) (says b) (played b) bs ls s

-- the orders of each bus agree; rs has the records of each channel
abbrev pub BusesAgree : Board → (Channel → List Record) → Controls → Type 0
BusesAgree b rs s = (c : Channel) → same c L ≡ false → OrdersAgree b (rs c) (rs L) s

-- the controls after all records of F, of E and of L
abbrev pub last_of : Board → Held → Controls → Controls
last_of b h s = after_lines (played b) (held_of h L) (after_buses (played b) (held_of h E) (after_buses (played b) (held_of h F) s))

-- the same, of F's records and of E's with the lines'
abbrev pub last_tied : Tied → Tied → Controls → Controls
last_tied flash eeprom s =
    after_lines (line flash) (lines_from flash 0) (after_buses (bus eeprom) (buses_from eeprom 0) (after_buses (bus flash) (buses_from flash 0) s))

unfoldable pub Judged : Board → Held → Controls → Verdict → Type 0
Judged b h s Crowded = TooMany h
Judged b h s Differ = Few h × (BusesAgree b (held_of h) s → ⊥)
Judged b h s Lost = Few h × BusesAgree b (held_of h) s × (lost_of (last_of b h s) ≡ true)
Judged b h s Passes = Few h × BusesAgree b (held_of h) s × (lost_of (last_of b h s) ≡ false)

-- a verdict as the answer that has its number by the paper; one that passes stops nothing
abbrev pub verdict_answer : Verdict → Answer
verdict_answer Crowded = answer.Crowded
verdict_answer Differ = answer.OrdersDiffer
verdict_answer Lost = answer.StatusLost
verdict_answer Passes = answer.Settled
