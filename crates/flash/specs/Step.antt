-- Believed: One record of channel F, and one of channel L, for the flash (document 01, 'Flash rules', 'Supply').
use Rattle.std.specs.Prelude.{ℕ, Bool, List, Option, Some, None, is_none}
use Rattle.law.specs.Words.{pick}
use Rattle.record.specs.LineRules.{goes_off, lock_comes_on}
use Rattle.record.specs.declared.FlashEvent.{FlashEvent}
use Rattle.record.specs.declared.FlashEvent.TheVariants as event
use Rattle.record.specs.declared.LineEvent.{LineEvent}
use Rattle.record.specs.declared.Lines.{Lines}
use Rattle.record.specs.declared.Skeleton.TheVariants.{Silent, Starts, Ends, NoCycle}
use Rattle.flash.specs.Code.{kept_bits}
use Rattle.flash.specs.Frame.{fact_at, opened_as, next_sent, reply_to, page_after, voided_by, locked_frame}
use Rattle.flash.specs.Cycle.{running_of, blank, page_in, effect_of, end_status, off_status}
use Rattle.flash.specs.declared.Op.{Op}
use Rattle.flash.specs.declared.LockFact.{LockFact}
use Rattle.flash.specs.declared.Sent.{Sent}
use Rattle.flash.specs.declared.FlashFrame.{FlashFrame}
use Rattle.flash.specs.declared.FlashFrame.TheVariants.{Idle, Void, Selected, Command}
use Rattle.flash.specs.declared.FlashCycle.{FlashCycle}
use Rattle.flash.specs.declared.Flash.{Flash}
use Rattle.flash.specs.declared.FlashStep.{FlashStep}
use Rattle.flash.specs.declared.Effect.{Effect}
use Rattle.flash.specs.declared.Effect.TheVariants.{Nothing, Status, Start}

-- a chip whose frame has no data
abbrev pub bare : FlashFrame → Option FlashCycle → Option ℕ → List ℕ → Flash
bare frame cycle status page = record { frame = frame; cycle = cycle; status = status; page = page_in cycle page }

abbrev pub silently : Flash → FlashStep
silently f = record { chip = f; reply = Silent }

-- 'Bytes and doubt': at the start idle, write enable off
abbrev pub start_of : ℕ → Flash
start_of status = record { frame = Idle; cycle = None; status = Some (kept_bits status); page = blank }

-- the same chip in a frame with no data
abbrev pub in_frame : Flash → FlashFrame → Flash
in_frame f frame = bare frame f.cycle f.status f.page

-- `sel`
abbrev pub select_of : Flash → Bool → FlashStep
select_of f lock = silently (in_frame f (Selected (fact_at (running_of f.cycle) f.status lock)))

-- a byte after the op-code
abbrev pub further_of : Flash → Op → Sent → LockFact → ℕ → ℕ → FlashStep
further_of f op sent fact si watched =
    record {
      chip = record {
        frame = Command op (next_sent op sent si) fact;
        cycle = f.cycle;
        status = f.status;
        page = page_after op sent si f.page;
      };
      reply = reply_to op sent (running_of f.cycle) f.status watched;
    }

-- `x`: a void frame is silent
abbrev pub byte_in : FlashFrame → Flash → ℕ → ℕ → FlashStep
byte_in Idle f si watched = silently f
byte_in Void f si watched = silently f
byte_in (Selected fact) f si watched = silently (in_frame f (opened_as (running_of f.cycle) si fact))
byte_in (Command op sent fact) f si watched = further_of f op sent fact si watched

abbrev pub byte_of : Flash → ℕ → ℕ → FlashStep
byte_of f si watched = byte_in f.frame f si watched

-- writing instructions act at `des`, which always leaves the chip idle
abbrev pub closed_by : Flash → Effect → FlashStep
closed_by f Nothing = silently (in_frame f Idle)
closed_by f (Status s) = silently (bare Idle f.cycle (Some s) f.page)
closed_by f (Start cycle) = record { chip = bare Idle (Some cycle) f.status f.page; reply = Starts }

-- a void frame starts nothing
abbrev pub effect_in : FlashFrame → Option ℕ → Effect
effect_in Idle status = Nothing
effect_in Void status = Nothing
effect_in (Selected fact) status = Nothing
effect_in (Command op sent fact) status = effect_of op sent fact status

abbrev pub deselect_of : Flash → FlashStep
deselect_of f = closed_by f (effect_in f.frame f.status)

-- `end`
abbrev pub end_of : Flash → FlashStep
end_of f =
    pick (running_of f.cycle)
    (record { chip = bare f.frame None (end_status f.cycle f.status) f.page; reply = Ends })
    (record { chip = f; reply = NoCycle })

-- with the supply on; `cut` makes the frame void
abbrev pub powered_of : Flash → FlashEvent → Bool → ℕ → FlashStep
powered_of f event.Select lock watched = select_of f lock
powered_of f (event.Byte si so) lock watched = byte_of f si watched
powered_of f event.Cut lock watched = silently (in_frame f Void)
powered_of f event.Deselect lock watched = deselect_of f
powered_of f event.End lock watched = end_of f

-- with the supply off bus records are silent, but `end` is kind 7; a frame opened then is void; `des` leaves the chip idle
abbrev pub dark_of : Flash → FlashEvent → FlashStep
dark_of f event.Select = silently (in_frame f Void)
dark_of f (event.Byte si so) = silently f
dark_of f event.Cut = silently (in_frame f Void)
dark_of f event.Deselect = silently (in_frame f Idle)
dark_of f event.End = record { chip = f; reply = NoCycle }

abbrev pub step_of : Flash → FlashEvent → Lines → ℕ → FlashStep
step_of f e lines watched = pick lines.supply (powered_of f e lines.lock watched) (dark_of f e)

-- the supply goes off: no cycle runs, write enable is off, an open frame void
abbrev pub supply_off_of : Flash → Flash
supply_off_of f = bare (voided_by f.frame) None (off_status f.cycle f.status) f.page

-- the lock comes on
abbrev pub lock_on_of : Flash → Flash
lock_on_of f = record { frame = locked_frame f.frame; cycle = f.cycle; status = f.status; page = f.page }

-- a record of channel L, after these lines: a repeated line state does nothing; lock records count always
abbrev pub line_of : Flash → LineEvent → Lines → Flash
line_of f e lines = pick (goes_off lines e) (supply_off_of f) (pick (lock_comes_on lines e) (lock_on_of f) f)

-- a status is none once it is lost
abbrev pub is_lost : Option ℕ → Bool
is_lost status = is_none status

abbrev pub lost_of : Flash → Bool
lost_of f = is_lost f.status
