-- Worked cases of the EEPROM's rules that the bench sheet does not touch: one list, one theorem over it, by computation (the chip is wired as 0).
-- Assumes nothing.
use Prim.Native.Nat.{ℕ}
use mathlib.Core.Bool.{true, false}
use mathlib.Core.Path.{◌≡◌, refl}
use mathlib.Core.List.{List, [], ◌∷◌, ◌++◌, map}
use lib.ListN.{set, replicate}
use Rattle.std.specs.Prelude.{Option, Some, None}
use Rattle.record.specs.declared.Skeleton.{Skeleton}
use Rattle.record.specs.declared.Skeleton.TheVariants.{Silent, Ack, NoAck, Starts, Ends}
use Rattle.record.specs.declared.EepromEvent.{EepromEvent}
use Rattle.record.specs.declared.EepromEvent.TheVariants as event
use Rattle.record.specs.declared.LineEvent.{LineEvent}
use Rattle.record.specs.declared.LineEvent.TheVariants.{SupplyOff, LockOn}
use Rattle.eeprom.specs.Chip.{blank, start_of}
use Rattle.eeprom.specs.Side.{Side, side_start, side_bus, side_says, side_line}
use Rattle.eeprom.specs.declared.Sent.{Sent}
use Rattle.eeprom.specs.declared.EepromFrame.{EepromFrame}
use Rattle.eeprom.specs.declared.EepromFrame.TheVariants.{Idle, Void, Addressed, Taking}
use Rattle.eeprom.specs.declared.Eeprom.{Eeprom}

-- a record of either channel
pub data Played : Type 0 where
  bus : EepromEvent → Played
  line : LineEvent → Played

abbrev pub after : Side → List Played → Side
after s [] = s
after s (bus e ∷ ps) = after (side_bus 0 s e) ps
after s (line e ∷ ps) = after (side_line s e) ps

-- the replies of channel E
abbrev pub says : Side → List Played → List Skeleton
says s [] = []
says s (bus e ∷ ps) = side_says 0 s e ∷ says (side_bus 0 s e) ps
says s (line e ∷ ps) = says (side_line s e) ps

-- the records from the start on, their replies, and the chip after them
pub record Case : Type 0 where
  pub records : List Played
  pub replies : List Skeleton
  pub chip : Eeprom

abbrev pub given : List Played → List Skeleton → Eeprom → Case
given ps rs chip = record { records = ps; replies = rs; chip = chip }

-- the case as the rules have it
abbrev pub by_rules : Case → Case
by_rules c = given c.records (says side_start c.records) (after side_start c.records).chip

-- ---- the words of the cases
abbrev pub bytes : List ℕ → List Played
bytes [] = []
bytes (b ∷ bs) = bus (event.Byte b false) ∷ bytes bs

abbrev pub sta : Played
sta = bus event.Start

abbrev pub sto : Played
sto = bus event.Stop

-- from `sta` on, and to `sto`
abbrev pub opened : List ℕ → List Played
opened bs = sta ∷ bytes bs

abbrev pub framed : List ℕ → List Played
framed bs = opened bs ++ (sto ∷ [])

abbrev pub acks : ℕ → List Skeleton
acks n = replicate n Ack

abbrev pub left : EepromFrame → Option Sent → Option ℕ → List ℕ → Eeprom
left frame cycle counter page = record { frame = frame; cycle = cycle; counter = counter; page = page }

abbrev pub cases : List Case
cases =
    -- the top bit of an address is ignored
    given (opened (0xa0 ∷ 0xff ∷ 0xff ∷ [])) (Silent ∷ acks 3) (left (Taking 0) None (Some 0x7fff) blank)
    -- 64 data bytes and 65 are all places of the page, from wherever
    ∷ given (framed (0xa0 ∷ 0x00 ∷ 0x45 ∷ replicate 64 0xaa)) (Silent ∷ acks 67 ++ (Starts ∷ [])) (left Idle (Some (record { page = 1; first = 0; count = 64 })) (Some 0x45) (replicate 64 0xaa))
    ∷ given (framed (0xa0 ∷ 0x00 ∷ 0x40 ∷ (replicate 64 0xaa ++ (0x33 ∷ [])))) (Silent ∷ acks 68 ++ (Starts ∷ [])) (left Idle (Some (record { page = 1; first = 0; count = 64 })) (Some 0x41) (set (replicate 64 0xaa) 0 0x33))
    -- acknowledge polling: none in the cycle, nor after a `sta` in it though `end` came between; then again
    ∷ given (framed (0xa0 ∷ 0x00 ∷ 0x00 ∷ 0x11 ∷ []) ++ opened (0xa0 ∷ []) ++ (sta ∷ bus event.End ∷ bus (event.Byte 0xa0 true) ∷ opened (0xa0 ∷ []))) (Silent ∷ acks 4 ++ (Starts ∷ Silent ∷ NoAck ∷ Silent ∷ Ends ∷ NoAck ∷ Silent ∷ Ack ∷ [])) (left Addressed None (Some 0x01) blank)
    -- a repeated `sta` drops unsaved data and leaves the counter
    ∷ given (opened (0xa0 ∷ 0x00 ∷ 0x05 ∷ 0x11 ∷ []) ++ (sta ∷ sto ∷ [])) (Silent ∷ acks 4 ++ (Silent ∷ Silent ∷ [])) (left Idle None (Some 0x06) blank)
    -- the lock at `sto`: data was acknowledged, no cycle starts, the counter has gone on
    ∷ given (line LockOn ∷ framed (0xa0 ∷ 0x00 ∷ 0x05 ∷ 0x11 ∷ [])) (Silent ∷ acks 4 ++ (Silent ∷ [])) (left Idle None (Some 0x06) blank)
    -- supply off in a cycle
    ∷ given (framed (0xa0 ∷ 0x00 ∷ 0x05 ∷ 0x11 ∷ []) ++ (line SupplyOff ∷ [])) (Silent ∷ acks 4 ++ (Starts ∷ [])) start_of
    -- a lost counter gives silence, and a 1 acknowledge bit voids the frame all the same
    ∷ given (opened (0xa1 ∷ 0x00 ∷ []) ++ (bus (event.Byte 0x00 true) ∷ [])) (Silent ∷ Ack ∷ Silent ∷ Silent ∷ []) (left Void None None blank)
    ∷ []

-- each case is as the rules have it
pub worked : map by_rules cases ≡ cases
worked = refl
