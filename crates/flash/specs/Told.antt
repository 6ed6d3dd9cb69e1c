-- What the records of channel F and their skeleton replies alone tell of the flash, whatever came on channel L between them; and the flash as a control.
use Rattle.std.specs.Prelude.{ℕ, ◌/◌, ◌%◌, true, ◌≡◌, List, Option, Some, None}
use Rattle.tied.specs.Control.{Cycle, idle, runs, Kind, starts, ends, fetches, plain, Control}
use Rattle.record.specs.Told.{skeleton_kind, Telling}
use Rattle.record.specs.declared.FlashEvent.{FlashEvent}
use Rattle.record.specs.declared.FlashEvent.TheVariants as event
use Rattle.record.specs.declared.LineEvent.{LineEvent}
use Rattle.record.specs.declared.Skeleton.{Skeleton}
use Rattle.record.specs.declared.Skeleton.TheVariants.{Silent}
use Rattle.page.specs.Geometry.{flash_page}
use Rattle.flash.specs.Code.{decode_of, sector_of, kept_bits}
use Rattle.flash.specs.Frame.{op_code_sent, next_sent, fetch_of, page_after}
use Rattle.flash.specs.Cycle.{blank}
use Rattle.flash.specs.Side.{Side, side_bus, side_says, side_line}
use Rattle.flash.specs.Good.{is_program, Good}
use Rattle.flash.specs.declared.Op.{Op}
use Rattle.flash.specs.declared.Op.TheVariants.{WriteEnable, WriteDisable, ReadStatus, WriteStatus, Read, Program, SectorErase, ChipErase, Identify}
use Rattle.flash.specs.declared.Sent.{Sent}
use Rattle.flash.specs.declared.FlashFrame.{FlashFrame}
use Rattle.flash.specs.declared.FlashFrame.TheVariants.{Idle, Void, Selected, Command}
use Rattle.flash.specs.declared.FlashCycle.{FlashCycle}
use Rattle.flash.specs.declared.FlashCycle.TheVariants as cycle
use Rattle.flash.specs.declared.Flash.{Flash}

-- ---- a cycle with all that its effect depends on: page number and bytes of a PROGRAM, the sector of an erase, the status bits 7, 3, 2 that say what a chip erase
-- reaches, and those that a WRSR sets
pub data Running : Type 0 where
  programs : ℕ → List ℕ → Running
  erases : ℕ → Running
  erases_all : ℕ → Running
  sets_status : ℕ → Running

abbrev pub bits_of : Option ℕ → ℕ
bits_of None = 0
bits_of (Some s) = kept_bits s

abbrev pub runs_in : Option FlashCycle → Option ℕ → List ℕ → Cycle Running
runs_in None status page = idle
runs_in (Some (cycle.Program n)) status page = runs (programs n page)
runs_in (Some (cycle.SectorErase n)) status page = runs (erases n)
runs_in (Some cycle.ChipErase) status page = runs (erases_all (bits_of status))
runs_in (Some (cycle.WriteStatus bits)) status page = runs (sets_status bits)

abbrev pub runs_of : Flash → Cycle Running
runs_of f = runs_in f.cycle f.status f.page

-- ---- what is told: the frame without the lock fact, the page that is sent, the status bits 7, 3, 2, and what they will be once the pending cycle has ended
pub data ToldFrame : Type 0 where
  closed opened : ToldFrame
  command : Op → Sent → ToldFrame

pub record Told : Type 0 where
  pub frame : ToldFrame
  pub page : List ℕ
  pub bits : ℕ
  pub later : ℕ

abbrev pub told_as : Option Op → ToldFrame
told_as (Some op) = command op op_code_sent
told_as None = closed

abbrev pub told_byte : ToldFrame → ℕ → ToldFrame
told_byte closed si = closed
told_byte opened si = told_as (decode_of si)
told_byte (command op sent) si = command op (next_sent op sent si)

abbrev pub told_frame : ToldFrame → FlashEvent → ToldFrame
told_frame f event.Select = opened
told_frame f (event.Byte si so) = told_byte f si
told_frame f event.Cut = closed
told_frame f event.Deselect = closed
told_frame f event.End = f

abbrev pub told_put : ToldFrame → ℕ → List ℕ → List ℕ
told_put closed si page = page
told_put opened si page = blank
told_put (command op sent) si page = page_after op sent si page

abbrev pub told_page : ToldFrame → FlashEvent → List ℕ → List ℕ
told_page f event.Select page = page
told_page f (event.Byte si so) page = told_put f si page
told_page f event.Cut page = page
told_page f event.Deselect page = page
told_page f event.End page = page

-- the status bits after the cycle that an instruction starts
abbrev pub later_by : Op → Sent → ℕ → ℕ
later_by WriteEnable sent bits = bits
later_by WriteDisable sent bits = bits
later_by ReadStatus sent bits = bits
later_by WriteStatus sent bits = kept_bits (sent.place % 256)
later_by Read sent bits = bits
later_by Program sent bits = bits
later_by SectorErase sent bits = bits
later_by ChipErase sent bits = bits
later_by Identify sent bits = bits

abbrev pub later_of : ToldFrame → ℕ → ℕ
later_of closed bits = bits
later_of opened bits = bits
later_of (command op sent) bits = later_by op sent bits

abbrev pub told_bits : Kind → Told → ℕ
told_bits starts f = f.bits
told_bits ends f = f.later
told_bits fetches f = f.bits
told_bits plain f = f.bits

abbrev pub told_later : Kind → Told → ℕ
told_later starts f = later_of f.frame f.bits
told_later ends f = f.later
told_later fetches f = f.later
told_later plain f = f.later

abbrev pub told : Told → FlashEvent → Skeleton → Told
told f e k = record {
  frame = told_frame f.frame e;
  page = told_page f.frame e f.page;
  bits = told_bits (skeleton_kind k) f;
  later = told_later (skeleton_kind k) f;
}

-- the cycle that a frame starts (instructions that start none are given one that is never asked for)
abbrev pub started_by : Op → Sent → List ℕ → ℕ → Running
started_by WriteEnable sent page bits = sets_status bits
started_by WriteDisable sent page bits = sets_status bits
started_by ReadStatus sent page bits = sets_status bits
started_by WriteStatus sent page bits = sets_status (kept_bits (sent.place % 256))
started_by Read sent page bits = sets_status bits
started_by Program sent page bits = programs (sent.place / flash_page) page
started_by SectorErase sent page bits = erases (sector_of sent.place)
started_by ChipErase sent page bits = erases_all bits
started_by Identify sent page bits = sets_status bits

abbrev pub started_in : ToldFrame → List ℕ → ℕ → Running
started_in closed page bits = sets_status bits
started_in opened page bits = sets_status bits
started_in (command op sent) page bits = started_by op sent page bits

abbrev pub starts_of : Told → Running
starts_of f = started_in f.frame f.page f.bits

-- ---- the chip's frame is idle, void, or the one that is told; its status is lost or has the bits that are told; it runs no cycle, or one that leaves what is told
abbrev pub TracksFrame : FlashFrame → List ℕ → ToldFrame → List ℕ → Type 0
TracksFrame Idle page f q = Unit {0}
TracksFrame Void page f q = Unit {0}
TracksFrame (Selected fact) page f q = f ≡ opened
TracksFrame (Command op sent fact) page f q = (f ≡ command op sent) × (is_program op ≡ true → page ≡ q)

abbrev pub TracksStatus : Option ℕ → ℕ → Type 0
TracksStatus None bits = Unit {0}
TracksStatus (Some s) bits = kept_bits s ≡ bits

abbrev pub TracksCycle : Option FlashCycle → ℕ → ℕ → Type 0
TracksCycle None bits later = Unit {0}
TracksCycle (Some (cycle.Program n)) bits later = later ≡ bits
TracksCycle (Some (cycle.SectorErase n)) bits later = later ≡ bits
TracksCycle (Some cycle.ChipErase) bits later = later ≡ bits
TracksCycle (Some (cycle.WriteStatus b)) bits later = later ≡ b

pub record Tracks (x : Flash) (f : Told) : Type 0 where
  pub in_frame : TracksFrame x.frame x.page f.frame f.page
  pub in_status : TracksStatus x.status f.bits
  pub in_cycle_lem : TracksCycle x.cycle f.bits f.later

-- ---- a byte that is about to be fetched is told by its place
abbrev pub hint_by : ℕ → Op → Sent → Skeleton
hint_by watched WriteEnable sent = Silent
hint_by watched WriteDisable sent = Silent
hint_by watched ReadStatus sent = Silent
hint_by watched WriteStatus sent = Silent
hint_by watched Read sent = fetch_of sent watched
hint_by watched Program sent = Silent
hint_by watched SectorErase sent = Silent
hint_by watched ChipErase sent = Silent
hint_by watched Identify sent = Silent

abbrev pub hint_in : ℕ → ToldFrame → Skeleton
hint_in watched closed = Silent
hint_in watched opened = Silent
hint_in watched (command op sent) = hint_by watched op sent

abbrev pub hint_of : ℕ → Told → FlashEvent → Skeleton
hint_of watched f event.Select = Silent
hint_of watched f (event.Byte si so) = hint_in watched f.frame
hint_of watched f event.Cut = Silent
hint_of watched f event.Deselect = Silent
hint_of watched f event.End = Silent

-- ---- the flash as a control
abbrev pub flash_control : ℕ → Control Side FlashEvent LineEvent Skeleton Running Told
flash_control watched = record {
  bus = side_bus watched;
  skel = side_says watched;
  line = side_line;
  running = λ s. runs_of s.chip;
  kind = skeleton_kind;
  next = told;
  cycle_of = λ f e. starts_of f;
  Tracks = λ s f. Tracks s.chip f;
  Good = Good;
  hint = hint_of watched;
  Telling = Telling;
}
