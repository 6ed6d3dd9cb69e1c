-- Believed: A cycle: what starts one at `des`, and what its end and a supply that goes off leave (document 01, 'Flash rules', 'Supply').
-- The chip's cycle is none where none runs, and its status is none once it is lost.
use Rattle.std.specs.Prelude.{ℕ, ◌/◌, ◌%◌, Bool, false, List, replicate, leb, eqb, Option, Some, None, is_some}
use Rattle.law.specs.Words.{pick}
use Rattle.page.specs.Geometry.{flash_page}
use Rattle.flash.specs.Code.{sector_of, sector_locked, wpen, enabled, kept_bits, with_enable}
use Rattle.flash.specs.declared.Op.{Op}
use Rattle.flash.specs.declared.Op.TheVariants as op
use Rattle.flash.specs.declared.LockFact.{LockFact}
use Rattle.flash.specs.declared.LockFact.TheVariants.{Absent, Free, Locked}
use Rattle.flash.specs.declared.Sent.{Sent}
use Rattle.flash.specs.declared.FlashCycle.{FlashCycle}
use Rattle.flash.specs.declared.FlashCycle.TheVariants.{Program, SectorErase, ChipErase, WriteStatus}
use Rattle.flash.specs.declared.Effect.{Effect}
use Rattle.flash.specs.declared.Effect.TheVariants.{Nothing, Status, Start}

-- does a cycle run?
abbrev pub running_of : Option FlashCycle → Bool
running_of cycle = is_some cycle

-- a page to which nothing was sent: ff changes nothing at `end` and at `off`
abbrev pub blank : List ℕ
blank = replicate flash_page 0xff

-- where no frame has data, only a PROGRAM cycle keeps a page
abbrev pub page_in : Option FlashCycle → List ℕ → List ℕ
page_in None page = blank
page_in (Some (Program n)) page = page
page_in (Some (SectorErase n)) page = blank
page_in (Some ChipErase) page = blank
page_in (Some (WriteStatus bits)) page = blank

-- writing instructions act at exact length; all but WREN and WRDI need write enable, and start nothing where they are barred
abbrev pub may_start : Bool → ℕ → Bool → Bool
may_start whole status barred = pick whole (pick barred false (enabled status)) false

-- WRSR starts nothing if WPEN is 1 and the lock was on since `sel`; a frame without that fact can start none with WPEN 1
abbrev pub lock_bars : ℕ → LockFact → Bool
lock_bars status Absent = wpen status
lock_bars status Free = false
lock_bars status Locked = wpen status

-- what starts nothing leaves the status as it is
abbrev pub starts_if : Bool → FlashCycle → Effect
starts_if may cycle = pick may (Start cycle) Nothing

-- WREN and WRDI act at exact length too
abbrev pub sets_if : Bool → ℕ → Effect
sets_if whole status = pick whole (Status status) Nothing

-- lengths: WREN, WRDI, chip erase 1; WRSR 2; sector erase 4; PROGRAM 5 or more. All sectors are locked where the first is.
abbrev pub known_effect : Op → Sent → LockFact → ℕ → Effect
known_effect op.WriteEnable sent fact s = sets_if (eqb sent.count 1) (with_enable s)
known_effect op.WriteDisable sent fact s = sets_if (eqb sent.count 1) (kept_bits s)
known_effect op.ReadStatus sent fact s = Nothing
known_effect op.WriteStatus sent fact s =
    starts_if (may_start (eqb sent.count 2) s (lock_bars s fact)) (WriteStatus (kept_bits (sent.place % 256)))
known_effect op.Read sent fact s = Nothing
known_effect op.Program sent fact s =
    starts_if (may_start (leb 5 sent.count) s (sector_locked s (sector_of sent.place))) (Program (sent.place / flash_page))
known_effect op.SectorErase sent fact s =
    starts_if (may_start (eqb sent.count 4) s (sector_locked s (sector_of sent.place))) (SectorErase (sector_of sent.place))
known_effect op.ChipErase sent fact s = starts_if (may_start (eqb sent.count 1) s (sector_locked s 1)) ChipErase
known_effect op.Identify sent fact s = Nothing

-- 'Supply': with a lost status nothing starts a cycle
abbrev pub effect_of : Op → Sent → LockFact → Option ℕ → Effect
effect_of op sent fact None = Nothing
effect_of op sent fact (Some s) = known_effect op sent fact s

-- at `end` WRSR sets bits 7, 3, 2, and write enable goes off
abbrev pub end_status : Option FlashCycle → Option ℕ → Option ℕ
end_status cycle None = None
end_status None (Some s) = Some s
end_status (Some (Program n)) (Some s) = Some (kept_bits s)
end_status (Some (SectorErase n)) (Some s) = Some (kept_bits s)
end_status (Some ChipErase) (Some s) = Some (kept_bits s)
end_status (Some (WriteStatus bits)) (Some s) = Some bits

-- 'Supply': in a WRSR cycle the status is lost; write enable is off; a lost status stays lost
abbrev pub off_status : Option FlashCycle → Option ℕ → Option ℕ
off_status cycle None = None
off_status None (Some s) = Some (kept_bits s)
off_status (Some (Program n)) (Some s) = Some (kept_bits s)
off_status (Some (SectorErase n)) (Some s) = Some (kept_bits s)
off_status (Some ChipErase) (Some s) = Some (kept_bits s)
off_status (Some (WriteStatus bits)) (Some s) = None
