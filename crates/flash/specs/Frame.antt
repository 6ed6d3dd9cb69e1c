-- Believed: A frame, from `sel` to `des`: its bytes and the replies to them (document 01, 'Flash rules').
use Rattle.std.specs.Prelude.{ℕ, ◌+◌, ◌-◌, ◌*◌, ◌/◌, ◌%◌, Bool, true, not, List, set, ltb, eqb, Option, Some, None}
use Rattle.law.specs.Words.{pick}
use Rattle.page.specs.Geometry.{flash_page, flash_sector, flash_size}
use Rattle.page.specs.Rolling.{rolled_in, next_in}
use Rattle.record.specs.declared.Skeleton.{Skeleton}
use Rattle.record.specs.declared.Skeleton.TheVariants.{Silent, Given, Fetch}
use Rattle.flash.specs.Code.{decode_of, sector_of, wpen}
use Rattle.flash.specs.declared.Op.{Op}
use Rattle.flash.specs.declared.Op.TheVariants.{WriteEnable, WriteDisable, ReadStatus, WriteStatus, Read, Program, SectorErase, ChipErase, Identify}
use Rattle.flash.specs.declared.LockFact.{LockFact}
use Rattle.flash.specs.declared.LockFact.TheVariants.{Absent, Free, Locked}
use Rattle.flash.specs.declared.Sent.{Sent}
use Rattle.flash.specs.declared.FlashFrame.{FlashFrame}
use Rattle.flash.specs.declared.FlashFrame.TheVariants.{Idle, Void, Selected, Command}

-- the lock since `sel` is a fact only in a frame whose `sel` found WPEN 1 and no cycle; it starts as the lock's level
abbrev pub fact_by : Option ℕ → Bool → LockFact
fact_by None lock = Absent
fact_by (Some s) lock = pick (wpen s) (pick lock Locked Free) Absent

abbrev pub fact_at : Bool → Option ℕ → Bool → LockFact
fact_at busy status lock = pick busy Absent (fact_by status lock)

-- in a cycle only RDSR is served, judged when the first byte is complete
abbrev pub served : Bool → Op → Bool
served busy WriteEnable = not busy
served busy WriteDisable = not busy
served busy ReadStatus = true
served busy WriteStatus = not busy
served busy Read = not busy
served busy Program = not busy
served busy SectorErase = not busy
served busy ChipErase = not busy
served busy Identify = not busy

-- the op-code counts as the first byte
abbrev pub op_code_sent : Sent
op_code_sent = record { count = 1; place = 0 }

-- any other op-code makes the frame void, and a frame that is refused in a cycle is void
abbrev pub opened_by : Bool → Option Op → LockFact → FlashFrame
opened_by busy (Some op) fact = pick (served busy op) (Command op op_code_sent fact) Void
opened_by busy None fact = Void

abbrev pub opened_as : Bool → ℕ → LockFact → FlashFrame
opened_as busy si fact = opened_by busy (decode_of si) fact

-- READ counts on, 1ffff to 00000
abbrev pub counted_on : ℕ → ℕ
counted_on place = rolled_in (flash_size - 1) place

-- PROGRAM: the low eight address bits roll over inside the page
abbrev pub rolled_on : ℕ → ℕ
rolled_on place = next_in flash_page place

abbrev pub moved_on : Op → ℕ → ℕ
moved_on WriteEnable place = place
moved_on WriteDisable place = place
moved_on ReadStatus place = place
moved_on WriteStatus place = place
moved_on Read place = counted_on place
moved_on Program place = rolled_on place
moved_on SectorErase place = place
moved_on ChipErase place = place
moved_on Identify place = place

-- three address bytes, high first; A23 to A17 are ignored (WRSR's one byte comes in as the first of them; a byte has 256 values, and the first remainder only keeps the product in the code's range)
abbrev pub with_byte : ℕ → ℕ → ℕ
with_byte place si = (place % (flash_size / 256) * 256 + si) % flash_size

-- one byte more; from the fifth on only the place moves
abbrev pub next_sent : Op → Sent → ℕ → Sent
next_sent op sent si =
    pick (ltb sent.count 4)
    (record { count = sent.count + 1; place = with_byte sent.place si })
    (record { count = 5; place = moved_on op sent.place })

-- READ delivers the byte at its place; outside the watched sector the reply is silent
abbrev pub fetch_of : Sent → ℕ → Skeleton
fetch_of sent watched =
    pick (ltb sent.count 4) Silent
    (pick (eqb (sector_of sent.place) watched) (Fetch (sent.place % flash_sector)) Silent)

-- RDID replies 1f, 60, then silence
abbrev pub identity_of : ℕ → Skeleton
identity_of count = pick (eqb count 1) (Given 0x1f) (pick (eqb count 2) (Given 0x60) Silent)

-- RDSR: the status, in a cycle ff, each byte worked out afresh; a lost status is silent
abbrev pub status_reply : Bool → Option ℕ → Skeleton
status_reply busy None = Silent
status_reply busy (Some s) = Given (pick busy 0xff s)

abbrev pub reply_to : Op → Sent → Bool → Option ℕ → ℕ → Skeleton
reply_to WriteEnable sent busy status watched = Silent
reply_to WriteDisable sent busy status watched = Silent
reply_to ReadStatus sent busy status watched = status_reply busy status
reply_to WriteStatus sent busy status watched = Silent
reply_to Read sent busy status watched = fetch_of sent watched
reply_to Program sent busy status watched = Silent
reply_to SectorErase sent busy status watched = Silent
reply_to ChipErase sent busy status watched = Silent
reply_to Identify sent busy status watched = identity_of sent.count

-- PROGRAM: a later byte for a place replaces the earlier
abbrev pub put_byte : Sent → ℕ → List ℕ → List ℕ
put_byte sent si page = pick (ltb sent.count 4) page (set page (sent.place % flash_page) si)

abbrev pub page_after : Op → Sent → ℕ → List ℕ → List ℕ
page_after WriteEnable sent si page = page
page_after WriteDisable sent si page = page
page_after ReadStatus sent si page = page
page_after WriteStatus sent si page = page
page_after Read sent si page = page
page_after Program sent si page = put_byte sent si page
page_after SectorErase sent si page = page
page_after ChipErase sent si page = page
page_after Identify sent si page = page

-- 'Supply': an open frame void
abbrev pub voided_by : FlashFrame → FlashFrame
voided_by Idle = Idle
voided_by Void = Void
voided_by (Selected fact) = Void
voided_by (Command op sent fact) = Void

-- the lock on at any time since `sel`: once set, the fact stays
abbrev pub locked_fact : LockFact → LockFact
locked_fact Absent = Absent
locked_fact Free = Locked
locked_fact Locked = Locked

abbrev pub locked_frame : FlashFrame → FlashFrame
locked_frame Idle = Idle
locked_frame Void = Void
locked_frame (Selected fact) = Selected (locked_fact fact)
locked_frame (Command op sent fact) = Command op sent (locked_fact fact)
