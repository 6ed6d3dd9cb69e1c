-- Worked cases of the flash's rules that the bench sheet does not touch: one list, one theorem over it, by computation (sector 1 is watched).
-- Assumes nothing.
use Prim.Native.Nat.{ℕ}
use mathlib.Core.Path.{◌≡◌, refl}
use mathlib.Core.List.{List, [], ◌∷◌, ◌++◌, map}
use lib.ListN.{replicate}
use Rattle.std.specs.Prelude.{Option, Some, None}
use Rattle.record.specs.declared.FlashEvent.{FlashEvent}
use Rattle.record.specs.declared.FlashEvent.TheVariants as event
use Rattle.record.specs.declared.LineEvent.{LineEvent}
use Rattle.record.specs.declared.LineEvent.TheVariants.{SupplyOn, SupplyOff, LockOn, LockOff}
use Rattle.record.specs.declared.Skeleton.{Skeleton}
use Rattle.record.specs.declared.Skeleton.TheVariants.{Silent, Given, Fetch, Starts, Ends, NoCycle}
use Rattle.flash.specs.Cycle.{blank}
use Rattle.flash.specs.Side.{Side, side_start, side_bus, side_says, side_line}
use Rattle.flash.specs.declared.FlashFrame.{FlashFrame}
use Rattle.flash.specs.declared.FlashFrame.TheVariants.{Idle, Void, Selected}
use Rattle.flash.specs.declared.LockFact.TheVariants.{Absent}
use Rattle.flash.specs.declared.FlashCycle.{FlashCycle}
use Rattle.flash.specs.declared.FlashCycle.TheVariants.{ChipErase, WriteStatus}
use Rattle.flash.specs.declared.Flash.{Flash}

-- a record of either channel
pub data Played : Type 0 where
  bus : FlashEvent → Played
  line : LineEvent → Played

abbrev pub after : Side → List Played → Side
after s [] = s
after s (bus e ∷ ps) = after (side_bus 1 s e) ps
after s (line e ∷ ps) = after (side_line s e) ps

-- the replies of channel F
abbrev pub says : Side → List Played → List Skeleton
says s [] = []
says s (bus e ∷ ps) = side_says 1 s e ∷ says (side_bus 1 s e) ps
says s (line e ∷ ps) = says (side_line s e) ps

-- the board's status, the records, their replies, and the chip after them
pub record Case : Type 0 where
  pub status : ℕ
  pub records : List Played
  pub replies : List Skeleton
  pub chip : Flash

abbrev pub given : ℕ → List Played → List Skeleton → Flash → Case
given status ps rs chip = record { status = status; records = ps; replies = rs; chip = chip }

-- the case as the rules have it
abbrev pub by_rules : Case → Case
by_rules c = given c.status c.records (says (side_start c.status) c.records) (after (side_start c.status) c.records).chip

-- ---- the words of the cases
abbrev pub bytes : List ℕ → List Played
bytes [] = []
bytes (b ∷ bs) = bus (event.Byte b 0) ∷ bytes bs

abbrev pub sel : Played
sel = bus event.Select

abbrev pub des : Played
des = bus event.Deselect

abbrev pub end : Played
end = bus event.End

abbrev pub framed : List ℕ → List Played
framed bs = sel ∷ (bytes bs ++ (des ∷ []))

abbrev pub wren : List Played
wren = framed (0x06 ∷ [])

-- a cycle is started
abbrev pub erasing : List Played
erasing = wren ++ framed (0x62 ∷ [])

abbrev pub wrsr : List Played
wrsr = bytes (0x01 ∷ 0x0c ∷ [])

-- the status gets lost
abbrev pub losing : List Played
losing = wren ++ framed (0x01 ∷ 0x0c ∷ []) ++ (line SupplyOff ∷ line SupplyOn ∷ [])

abbrev pub silent : ℕ → List Skeleton
silent n = replicate n Silent

-- the status is lost
abbrev pub lost : Option ℕ
lost = None

-- a chip with no data
abbrev pub left : FlashFrame → Option FlashCycle → Option ℕ → Flash
left frame cycle status = record { frame = frame; cycle = cycle; status = status; page = blank }

-- ---- op-codes, lengths, replies
abbrev pub instructions : List Case
instructions =
    -- the erases are 0101 x010 and 0110 x010, not 0101 x110 and 0110 x110
    given 0x00 (wren ++ framed (0x56 ∷ 0x00 ∷ 0x00 ∷ 0x00 ∷ []) ++ framed (0x66 ∷ []) ++ framed (0x6a ∷ [])) (silent 14 ++ (Starts ∷ [])) (left Idle (Some ChipErase) (Some 0x02))
    -- a WREN of two bytes does nothing
    ∷ given 0x00 (framed (0x06 ∷ 0x00 ∷ [])) (silent 4) (left Idle None (Some 0x00))
    -- READ counts on, 1ffff to 00000; sector 4 is not watched
    ∷ given 0x00 (framed (0x03 ∷ 0x01 ∷ 0xff ∷ 0xff ∷ 0x00 ∷ 0x00 ∷ [])) (silent 6 ++ (Fetch 0 ∷ Silent ∷ [])) (left Idle None (Some 0x00))
    -- RDID replies 1f, 60, then silence
    ∷ given 0x00 (framed (0x15 ∷ 0x00 ∷ 0x00 ∷ 0x00 ∷ 0x00 ∷ [])) (silent 2 ++ (Given 0x1f ∷ Given 0x60 ∷ silent 3)) (left Idle None (Some 0x00))
    -- RDSR is ff in a cycle, each byte worked out afresh; at `end` write enable is off
    ∷ given 0x04 (erasing ++ (sel ∷ bytes (0x05 ∷ 0x00 ∷ []) ++ (end ∷ bytes (0x00 ∷ []) ++ (des ∷ [])))) (silent 5 ++ (Starts ∷ Silent ∷ Silent ∷ Given 0xff ∷ Ends ∷ Given 0x04 ∷ Silent ∷ [])) (left Idle None (Some 0x04))
    -- a frame that is refused in a cycle stays void after its end
    ∷ given 0x00 (erasing ++ (sel ∷ bytes (0x15 ∷ []) ++ (end ∷ bytes (0x00 ∷ []) ++ (des ∷ [])))) (silent 5 ++ (Starts ∷ Silent ∷ Silent ∷ Ends ∷ silent 2)) (left Idle None (Some 0x00))
    -- `cut` voids the frame
    ∷ given 0x00 (wren ++ (sel ∷ bytes (0x62 ∷ []) ++ (bus event.Cut ∷ des ∷ []))) (silent 7) (left Idle None (Some 0x02))
    ∷ []

-- ---- the lock and WRSR (status 80: WPEN 1); barred, a WRSR leaves write enable
abbrev pub locking : List Case
locking =
    -- the lock off since `sel`
    given 0x80 (wren ++ (sel ∷ wrsr ++ (des ∷ []))) (silent 6 ++ (Starts ∷ [])) (left Idle (Some (WriteStatus 0x0c)) (Some 0x82))
    -- on for a while in the frame
    ∷ given 0x80 (wren ++ (sel ∷ line LockOn ∷ line LockOff ∷ wrsr ++ (des ∷ []))) (silent 7) (left Idle None (Some 0x82))
    ∷ given 0x80 (wren ++ (sel ∷ wrsr ++ (line LockOn ∷ line LockOff ∷ des ∷ []))) (silent 7) (left Idle None (Some 0x82))
    -- on all the time; on before `sel` and free before `des`: the fact starts as the lock's level
    ∷ given 0x80 (line LockOn ∷ wren ++ (sel ∷ wrsr ++ (des ∷ []))) (silent 7) (left Idle None (Some 0x82))
    ∷ given 0x80 (wren ++ (line LockOn ∷ sel ∷ line LockOff ∷ wrsr ++ (des ∷ []))) (silent 7) (left Idle None (Some 0x82))
    -- free again before `sel`
    ∷ given 0x80 (wren ++ (line LockOn ∷ line LockOff ∷ sel ∷ wrsr ++ (des ∷ []))) (silent 6 ++ (Starts ∷ [])) (left Idle (Some (WriteStatus 0x0c)) (Some 0x82))
    -- with WPEN 0 the lock does not count
    ∷ given 0x00 (wren ++ (line LockOn ∷ sel ∷ wrsr ++ (des ∷ []))) (silent 6 ++ (Starts ∷ [])) (left Idle (Some (WriteStatus 0x0c)) (Some 0x02))
    -- `sel` in a cycle, then `end`: no fact, so no WRSR with WPEN 1; the frame is served all the same
    ∷ given 0x80 (erasing ++ (sel ∷ end ∷ [])) (silent 5 ++ (Starts ∷ Silent ∷ Ends ∷ [])) (left (Selected Absent) None (Some 0x80))
    ∷ given 0x80 (erasing ++ (sel ∷ end ∷ wrsr ++ (des ∷ []))) (silent 5 ++ (Starts ∷ Silent ∷ Ends ∷ silent 3)) (left Idle None (Some 0x80))
    ∷ given 0x80 (erasing ++ (sel ∷ end ∷ bytes (0x06 ∷ []) ++ (des ∷ []))) (silent 5 ++ (Starts ∷ Silent ∷ Ends ∷ silent 2)) (left Idle None (Some 0x82))
    -- the lock counts with the supply off too, and a repeated `lock` does nothing
    ∷ given 0x80 (line SupplyOff ∷ line LockOn ∷ line SupplyOn ∷ wren ++ (sel ∷ line LockOn ∷ line LockOff ∷ wrsr ++ (des ∷ []))) (silent 7) (left Idle None (Some 0x82))
    ∷ []

-- ---- the supply
abbrev pub supply : List Case
supply =
    -- `off` in a WRSR cycle loses the status
    given 0x00 (wren ++ (sel ∷ wrsr ++ (des ∷ line SupplyOff ∷ []))) (silent 6 ++ (Starts ∷ [])) (left Idle None lost)
    -- then RDSR is silent, nothing starts a cycle, READ and RDID still work
    ∷ given 0x00 (losing ++ framed (0x05 ∷ 0x00 ∷ [])) (silent 6 ++ (Starts ∷ silent 4)) (left Idle None lost)
    ∷ given 0x00 (losing ++ erasing) (silent 6 ++ (Starts ∷ silent 6)) (left Idle None lost)
    ∷ given 0x00 (losing ++ framed (0x03 ∷ 0x00 ∷ 0x00 ∷ 0x07 ∷ 0x00 ∷ []) ++ framed (0x15 ∷ 0x00 ∷ [])) (silent 6 ++ (Starts ∷ silent 5 ++ (Fetch 7 ∷ silent 3 ++ (Given 0x1f ∷ Silent ∷ [])))) (left Idle None lost)
    -- `off` in another cycle keeps bits 7, 3, 2 and puts write enable off
    ∷ given 0x84 (erasing ++ (line SupplyOff ∷ [])) (silent 5 ++ (Starts ∷ [])) (left Idle None (Some 0x84))
    -- `off` voids an open frame, and the frame stays void when the supply is back; `des` leaves the chip idle
    ∷ given 0x00 (wren ++ (sel ∷ bytes (0x62 ∷ []) ++ (line SupplyOff ∷ line SupplyOn ∷ []))) (silent 5) (left Void None (Some 0x00))
    ∷ given 0x00 (wren ++ (sel ∷ bytes (0x62 ∷ []) ++ (line SupplyOff ∷ line SupplyOn ∷ des ∷ []))) (silent 6) (left Idle None (Some 0x00))
    -- a frame opened with the supply off is void, and `end` is then kind 7
    ∷ given 0x00 (line SupplyOff ∷ sel ∷ line SupplyOn ∷ bytes (0x15 ∷ 0x00 ∷ []) ++ (line SupplyOff ∷ end ∷ [])) (silent 3 ++ (NoCycle ∷ [])) (left Void None (Some 0x00))
    ∷ []

abbrev pub cases : List Case
cases = instructions ++ locking ++ supply

-- each case is as the rules have it
pub worked : map by_rules cases ≡ cases
worked = refl
