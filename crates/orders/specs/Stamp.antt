-- The orders of one bus's records with the lines', played on the controls.
use Rattle.std.specs.Prelude.{◌≡◌, ℕ, ◌+◌, ◌≤◌, ◌<◌, List, take, drop}
use Rattle.record.specs.declared.Record.{Record}
use Rattle.record.specs.declared.Board.{Board}
use Rattle.record.specs.declared.Skeleton.{Skeleton}
use Rattle.controls.specs.declared.Controls.{Controls}
use Rattle.controls.specs.Play.{moved_of}
use Rattle.tied.specs.Orders.{Agree, AgreeBus, AnyTwo, after, buses_first, after_buses, said_buses}
use Rattle.tied.specs.Orders
use Rattle.orders.specs.declared.tying.Tied.{Tied}
use Rattle.orders.specs.declared.tying.Outcome.{Outcome}

-- a record, of a bus or of a line, on the controls, and its reply
abbrev pub played : Board → Controls → Record → Controls
played b s r = (moved_of b s r).controls

abbrev pub bus : Tied → Controls → Record → Controls
bus h s r = (moved_of h.board s r).controls

abbrev pub reply : Tied → Controls → Record → Skeleton
reply h s r = (moved_of h.board s r).reply

abbrev pub line : Tied → Controls → Record → Controls
line h s r = (moved_of h.board s r).controls

-- the indices are within the counts
pub record Within (h : Tied) (ib il : ℕ) : Type 0 where
  pub bus : ib ≤ h.buses.count
  pub line : il ≤ h.lines.count

abbrev pub buses_from : Tied → ℕ → List Record
buses_from h i = drop i (take h.buses.count h.buses.records)

abbrev pub lines_from : Tied → ℕ → List Record
lines_from h i = drop i (take h.lines.count h.lines.records)

abbrev pub replies_from : Tied → Outcome → ℕ → List Skeleton
replies_from h w i = drop i (take h.buses.count w.replies)

unfoldable pub AgreeFrom : Tied → ℕ → ℕ → Controls → Outcome → Type 0
AgreeFrom h ib il s w = Agree (bus h) (reply h) (line h) (buses_from h ib) (lines_from h il) s w.controls (replies_from h w ib)

-- every order whose first record is this line record
unfoldable pub LineAgrees : Record → Tied → ℕ → ℕ → Controls → Outcome → Type 0
LineAgrees r h ib il s w = AgreeFrom h ib (il + 1) (line h s r) w

-- every order whose first record is this bus record
unfoldable pub BusAgrees : Record → Tied → ℕ → ℕ → Controls → Outcome → Type 0
BusAgrees r h ib il s w =
    AgreeBus (bus h) (reply h) (line h) r (buses_from h (ib + 1)) (lines_from h il) s w.controls (replies_from h w ib)

-- where a bus record is left: every order of what follows it and a line record agrees from these controls
unfoldable pub Met : Tied → ℕ → ℕ → Controls → Outcome → Type 0
Met h ib il m w = ib < h.buses.count → AgreeFrom h (ib + 1) (il + 1) m w

-- all bus records were played
pub record BusesPlayed (h : Tied) (s : Controls) (w : Outcome) : Type 0 where
  pub controls : w.controls ≡ after_buses (bus h) (buses_from h 0) s
  pub replies : replies_from h w 0 ≡ said_buses (bus h) (reply h) (buses_from h 0) s

-- the outcome of the reference order
pub record Reference (h : Tied) (s : Controls) (w : Outcome) : Type 0 where
  pub controls : w.controls ≡ after (bus h) (reply h) (line h) (buses_first (buses_from h 0) (lines_from h 0)) s
  pub replies : replies_from h w 0 ≡ Orders.replies (bus h) (reply h) (line h) (buses_first (buses_from h 0) (lines_from h 0)) s

-- any two orders of the records agree, in the last controls and in every reply
unfoldable pub Settled : Tied → Controls → Type 0
Settled h s = AnyTwo (bus h) (reply h) (line h) (buses_from h 0) (lines_from h 0) s
