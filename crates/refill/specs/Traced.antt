-- Believed: Claim 30 (document 02, request 6/12: 'by the replay's rules'): a trace of the plan's records, replayed by the exported call, settles, and the watched sector holds the wanted bytes.
use Rattle.std.specs.Prelude.{ℕ, suc, ◌≤◌, ◌<◌, ◌≡◌, List, length}
use Rattle.meaning.specs.Meaning.{F, most, at}
use Rattle.page.specs.Geometry.{flash_sectors}
use Rattle.record.specs.declared.Board.{Board}
use Rattle.record.specs.declared.Record.{Record}
use Rattle.machine.specs.Machine.{on_machine}
use Rattle.buffers.specs.Buffers.{Buffers}
use Rattle.call.specs.Replay.{Ended, Replays}
use Rattle.demands.specs.Grounds.{Taken}
use Rattle.fewest.specs.Entries.{Entry}
use Rattle.fewest.specs.Call.{Left, Plans}
use Rattle.refill.specs.Records.{events_of_all, Bear, Shows}
use Rattle.refill.specs.Refill.{Bytes, Read}

-- left is what a call of the plan left, e what a call of the replay left of a text whose records are those of the plan's entries, no more at a stamp than may share one; its board has the plan's
-- status and watches any sector, whose lent image shows the present bytes
abbrev pub PlanTraced : Type 0
PlanTraced =
    (status : ℕ) (present wanted list result : List ℕ) → status < 256 → Bytes present → Bytes wanted
    → (left : Left) → Plans status present wanted list result left → left.answer ≡ 0
    → (os : List Entry) → Read left os
    → (text : List ℕ) (x : Buffers) (b : Board) (rs : List Record) → Taken text x b rs
    → b.status ≡ status → (w : ℕ) → w < flash_sectors → b.sector ≡ suc w → Shows w x.images.flash present
    → Bear rs (events_of_all os) → ((t : ℕ) → length (at (on_machine b) t rs) ≤ most F)
    → (e : Ended) → Replays text x e → (e.answer ≡ 0) × Shows w e.buffers.images.flash wanted
