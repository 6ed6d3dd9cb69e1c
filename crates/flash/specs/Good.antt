-- What holds of every state of the flash's side that is reached (proofs/Bounds shows that it does).
use Rattle.std.specs.Prelude.{ℕ, ◌/◌, ◌%◌, ◌<◌, ◌≤◌, Bool, true, false, ◌≡◌, List, length, Option, Some, None}
use Rattle.law.specs.Words.{pick}
use Rattle.page.specs.Geometry.{flash_page, flash_sectors, flash_size}
use Rattle.record.specs.Status.{StatusOk}
use Rattle.flash.specs.Code.{wpen}
use Rattle.flash.specs.Cycle.{blank}
use Rattle.flash.specs.Side.{Side}
use Rattle.flash.specs.declared.Op.{Op}
use Rattle.flash.specs.declared.Op.TheVariants.{WriteEnable, WriteDisable, ReadStatus, WriteStatus, Read, Program, SectorErase, ChipErase, Identify}
use Rattle.flash.specs.declared.LockFact.{LockFact}
use Rattle.flash.specs.declared.LockFact.TheVariants.{Absent, Free, Locked}
use Rattle.flash.specs.declared.Sent.{Sent}
use Rattle.flash.specs.declared.FlashFrame.{FlashFrame}
use Rattle.flash.specs.declared.FlashFrame.TheVariants.{Idle, Void, Selected, Command}
use Rattle.flash.specs.declared.FlashCycle.{FlashCycle}
use Rattle.flash.specs.declared.FlashCycle.TheVariants as cycle

-- an instruction has 1 to 5 bytes (5 stands for five or more) and a place of 17 bits
pub record SentOk (s : Sent) : Type 0 where
  pub some : 1 ≤ s.count
  pub few : s.count ≤ 5
  pub inside : s.place < flash_size

abbrev pub FrameOk : FlashFrame → Type 0
FrameOk Idle = Unit {0}
FrameOk Void = Unit {0}
FrameOk (Selected fact) = Unit {0}
FrameOk (Command op sent fact) = SentOk sent

-- only bits 7, 3, 2 and 1
pub record StatusBits (s : ℕ) : Type 0 where
  pub byte : s < 256
  pub middle : s / 16 % 8 ≡ 0
  pub low : s % 2 ≡ 0

abbrev pub FlashStatusOk : Option ℕ → Type 0
FlashStatusOk None = Unit {0}
FlashStatusOk (Some s) = StatusBits s

-- a PROGRAM is for one of 512 pages, an erase for one of four sectors; a WRSR sets bits 7, 3, 2 alone
abbrev pub CycleOk : Option FlashCycle → Type 0
CycleOk None = Unit {0}
CycleOk (Some (cycle.Program n)) = n < flash_size / flash_page
CycleOk (Some (cycle.SectorErase n)) = (1 ≤ n) × (n ≤ flash_sectors)
CycleOk (Some cycle.ChipErase) = Unit {0}
CycleOk (Some (cycle.WriteStatus bits)) = StatusOk bits

-- in a cycle only RDSR is served, and no open frame has the lock fact
abbrev pub WaitsOp : Op → Type 0
WaitsOp WriteEnable = ⊥
WaitsOp WriteDisable = ⊥
WaitsOp ReadStatus = Unit {0}
WaitsOp WriteStatus = ⊥
WaitsOp Read = ⊥
WaitsOp Program = ⊥
WaitsOp SectorErase = ⊥
WaitsOp ChipErase = ⊥
WaitsOp Identify = ⊥

abbrev pub Waits : FlashFrame → Type 0
Waits Idle = Unit {0}
Waits Void = Unit {0}
Waits (Selected fact) = fact ≡ Absent
Waits (Command op sent fact) = WaitsOp op × (fact ≡ Absent)

-- in a cycle the status is known
abbrev pub IsKnown : Option ℕ → Type 0
IsKnown None = ⊥
IsKnown (Some s) = Unit {0}

abbrev pub InCycle : Option FlashCycle → Type 0 → Type 0
InCycle None P = Unit {0}
InCycle (Some c) P = P

-- the page is a PROGRAM frame's or a PROGRAM cycle's, else blank
abbrev pub is_program : Op → Bool
is_program WriteEnable = false
is_program WriteDisable = false
is_program ReadStatus = false
is_program WriteStatus = false
is_program Read = false
is_program Program = true
is_program SectorErase = false
is_program ChipErase = false
is_program Identify = false

abbrev pub sends_page : FlashFrame → Bool
sends_page Idle = false
sends_page Void = false
sends_page (Selected fact) = false
sends_page (Command op sent fact) = is_program op

abbrev pub writes_page : Option FlashCycle → Bool
writes_page None = false
writes_page (Some (cycle.Program n)) = true
writes_page (Some (cycle.SectorErase n)) = false
writes_page (Some cycle.ChipErase) = false
writes_page (Some (cycle.WriteStatus bits)) = false

abbrev pub BlankUnless : Bool → List ℕ → Type 0
BlankUnless true page = Unit {0}
BlankUnless false page = page ≡ blank

-- no frame is open
abbrev pub Shut : FlashFrame → Type 0
Shut Idle = Unit {0}
Shut Void = Unit {0}
Shut (Selected fact) = ⊥
Shut (Command op sent fact) = ⊥

-- the lock fact is there only with WPEN 1, and 'free' only while the lock is off
abbrev pub fact_of : FlashFrame → LockFact
fact_of Idle = Absent
fact_of Void = Absent
fact_of (Selected fact) = fact
fact_of (Command op sent fact) = fact

abbrev pub HasWpen : Option ℕ → Type 0
HasWpen None = ⊥
HasWpen (Some s) = wpen s ≡ true

abbrev pub FactOk : LockFact → Option ℕ → Bool → Type 0
FactOk Absent status lock = Unit {0}
FactOk Free status lock = HasWpen status × (lock ≡ false)
FactOk Locked status lock = HasWpen status

pub record Fields (fr : FlashFrame) (c : Option FlashCycle) (st : Option ℕ) (page : List ℕ) (supply lock : Bool) : Type 0 where
  pub in_frame : FrameOk fr
  pub in_cycle_lem : CycleOk c
  pub in_status : FlashStatusOk st
  pub whole : length page ≡ flash_page
  pub waits : InCycle c (Waits fr)
  pub known : InCycle c (IsKnown st)
  pub kept_page : BlankUnless (pick (writes_page c) true (sends_page fr)) page
  pub in_fact : FactOk (fact_of fr) st lock
  pub dark : supply ≡ false → (c ≡ None) × Shut fr

abbrev pub Good : Side → Type 0
Good s = Fields s.chip.frame s.chip.cycle s.chip.status s.chip.page s.lines.supply s.lines.lock
