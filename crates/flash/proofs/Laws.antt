-- The flash is a lawful control: what a reply says of the cycle, and that frame, status bits and the cycle that starts are told by the records of channel F and their
-- skeleton replies alone, or play no part any more.
-- Assumes nothing.
use Prim.Native.Nat.{ℕ, ◌/◌, ◌%◌, ◌+◌, ◌*◌}
use native.Mathlib.Omega.{arith}
use mathlib.Core.Bool.{Bool, true, false}
use mathlib.Core.Path.{◌≡◌, refl, sym, ap, subst, ◌∙◌}
use mathlib.Core.List.{List}
use mathlib.Core.Logic.{◌⊎◌}
use lib.Dec.{ltb, leb, eqb}
use Rattle.std.specs.Prelude.{Option, Some, None}
use Rattle.std.proofs.Common.{rules}
use Rattle.law.specs.Choice.{of_both, true_not_false}
use Rattle.law.specs.Words.{pick}
use Rattle.tied.specs.Control.{Cycle, idle, runs, Kind, starts, ends, fetches, plain, Lawful}
use Rattle.record.specs.LineRules.{goes_off, lock_comes_on}
use Rattle.record.specs.Told.{skeleton_kind, Telling}
use Rattle.record.specs.declared.FlashEvent.{FlashEvent}
use Rattle.record.specs.declared.FlashEvent.TheVariants as event
use Rattle.record.specs.declared.Skeleton.{Skeleton}
use Rattle.record.specs.declared.Skeleton.TheVariants.{Silent, Given, Fetch, Starts, Ends, NoCycle}
use Rattle.page.specs.Geometry.{flash_sector}
use Rattle.flash.specs.Code.{decode_of, sector_of, locked_by, sector_locked, kept_bits, with_enable}
use Rattle.flash.specs.Frame.{served, op_code_sent, opened_by, next_sent, fetch_of, identity_of, status_reply, reply_to, page_after, voided_by, locked_frame}
use Rattle.flash.specs.Cycle.{running_of, blank, page_in, may_start, lock_bars, starts_if, sets_if, known_effect, effect_of, end_status, off_status}
use Rattle.flash.specs.Step.{byte_in, further_of, closed_by, effect_in, end_of, powered_of, dark_of, supply_off_of, lock_on_of}
use Rattle.flash.specs.Side.{Side, side_bus, side_says}
use Rattle.flash.specs.Good.{WaitsOp, Waits, InCycle, is_program, Shut, CycleOk, Good}
use Rattle.flash.specs.Told.{Running, programs, erases_all, bits_of, runs_in, runs_of, ToldFrame, closed, opened, command, Told, told_as, told_byte, told_put, later_of, told_bits, told_later, told, starts_of, TracksFrame, TracksStatus, TracksCycle, Tracks, hint_by, hint_in, hint_of, flash_control}
use Rattle.flash.specs.declared.Op.{Op}
use Rattle.flash.specs.declared.Op.TheVariants.{WriteEnable, WriteDisable, ReadStatus, WriteStatus, Read, Program, SectorErase, ChipErase, Identify}
use Rattle.flash.specs.declared.LockFact.{LockFact}
use Rattle.flash.specs.declared.Sent.{Sent}
use Rattle.flash.specs.declared.FlashFrame.{FlashFrame}
use Rattle.flash.specs.declared.FlashFrame.TheVariants.{Idle, Void, Selected, Command}
use Rattle.flash.specs.declared.FlashCycle.{FlashCycle}
use Rattle.flash.specs.declared.FlashCycle.TheVariants as cycle
use Rattle.flash.specs.declared.Flash.{Flash}
use Rattle.flash.specs.declared.FlashStep.{FlashStep}
use Rattle.flash.specs.declared.Effect.{Effect}
use Rattle.flash.specs.declared.Effect.TheVariants.{Nothing, Status, Start}
use Rattle.flash.proofs.Bounds.{kept_kept, kept_enable, kept_all, void_shut, good_bus, good_line}

-- ---- replies to bytes start and end nothing
abbrev Quiet : Kind → Type 0
Quiet starts = ⊥
Quiet ends = ⊥
Quiet fetches = Unit {0}
Quiet plain = Unit {0}

abbrev QuietReply : Skeleton → Type 0
QuietReply k = Quiet (skeleton_kind k)

fetch_quiet : (s : Sent) (w : ℕ) → QuietReply (fetch_of s w)
fetch_quiet s w =
    of_both QuietReply (ltb s.count 4) Silent (pick (eqb (sector_of s.place) w) (Fetch (s.place % flash_sector)) Silent) tt
    (of_both QuietReply (eqb (sector_of s.place) w) (Fetch (s.place % flash_sector)) Silent tt tt)

identity_quiet : (n : ℕ) → QuietReply (identity_of n)
identity_quiet n =
    of_both QuietReply (eqb n 1) (Given 0x1f) (pick (eqb n 2) (Given 0x60) Silent) tt (of_both QuietReply (eqb n 2) (Given 0x60) Silent tt tt)

status_quiet : (busy : Bool) (st : Option ℕ) → QuietReply (status_reply busy st)
status_quiet busy None = tt
status_quiet busy (Some s) = tt

reply_quiet : (op : Op) (s : Sent) (busy : Bool) (st : Option ℕ) (w : ℕ) → QuietReply (reply_to op s busy st w)
reply_quiet op s busy st w = search (status_quiet, fetch_quiet, identity_quiet, rules)

-- ---- what a reply says of the cycle before and after it
abbrev pub Says : Kind → Cycle Running → Cycle Running → Type 0
Says starts r t = r ≡ idle
Says ends r t = (r ≡ idle → ⊥) × (t ≡ idle)
Says fetches r t = (r ≡ idle) × (t ≡ r)
Says plain r t = t ≡ r

abbrev SaysStep : Cycle Running → FlashStep → Type 0
SaysStep r s = Says (skeleton_kind s.reply) r (runs_of s.chip)

is_idle : Cycle Running → Bool
is_idle idle = true
is_idle (runs e) = false

never_idle : (e : Running) → runs e ≡ idle → ⊥
unfolding is_idle
never_idle e h = true_not_false (sym (ap is_idle h))

kept : (c : Option FlashCycle) (st : Option ℕ) (p : List ℕ) → runs_in c st (page_in c p) ≡ runs_in c st p
kept c st p = search rules

quiet_says : (k : Kind) → Quiet k → Says k idle idle
quiet_says k h = search rules

status_says : (busy : Bool) (st : Option ℕ) (r : Cycle Running) → Says (skeleton_kind (status_reply busy st)) r r
status_says busy None r = refl
status_says busy (Some s) r = refl

-- in a cycle only RDSR is open
waiting_says : (op : Op) (s : Sent) (fact : LockFact) (x : Flash) (si w : ℕ) → WaitsOp op → SaysStep (runs_of x) (further_of x op s fact si w)
waiting_says op s fact x si w h = search (status_says, rules)

further_says : (c : Option FlashCycle) (op : Op) (s : Sent) (fact : LockFact) (st : Option ℕ) (p : List ℕ) (si w : ℕ) → InCycle c (Waits (Command op s fact))
    → SaysStep (runs_in c st p) (further_of (record { frame = Command op s fact; cycle = c; status = st; page = p }) op s fact si w)
further_says None op s fact st p si w h = quiet_says (skeleton_kind (reply_to op s false st w)) (reply_quiet op s false st w)
further_says (Some c) op s fact st p si w h =
    waiting_says op s fact (record { frame = Command op s fact; cycle = Some c; status = st; page = p }) si w h.0

byte_says : (fr : FlashFrame) (c : Option FlashCycle) (st : Option ℕ) (p : List ℕ) (si w : ℕ) → InCycle c (Waits fr)
    → SaysStep (runs_in c st p) (byte_in fr (record { frame = fr; cycle = c; status = st; page = p }) si w)
byte_says fr c st p si w h = search (kept, further_says, rules)

-- with no cycle; and in one, where nothing starts
effect_says : (e : Effect) (fr : FlashFrame) (st : Option ℕ) (p : List ℕ) → SaysStep idle (closed_by (record { frame = fr; cycle = None; status = st; page = p }) e)
effect_says e fr st p = search rules

waiting_effect : (op : Op) (s : Sent) (fact : LockFact) (st : Option ℕ) → WaitsOp op → effect_of op s fact st ≡ Nothing
waiting_effect op s fact st h = search rules

waits_nothing : (fr : FlashFrame) (st : Option ℕ) → Waits fr → effect_in fr st ≡ Nothing
waits_nothing fr st h = search (waiting_effect, rules)

nothing_says : (x : Flash) (e : Effect) → e ≡ Nothing → SaysStep (runs_of x) (closed_by x e)
nothing_says x e h = subst (λ (z : Effect). SaysStep (runs_of x) (closed_by x z)) (sym h) (kept x.cycle x.status x.page)

deselect_says : (c : Option FlashCycle) (fr : FlashFrame) (st : Option ℕ) (p : List ℕ) → InCycle c (Waits fr)
    → SaysStep (runs_in c st p) (closed_by (record { frame = fr; cycle = c; status = st; page = p }) (effect_in fr st))
deselect_says None fr st p h = effect_says (effect_in fr st) fr st p
deselect_says (Some c) fr st p h = nothing_says (record { frame = fr; cycle = Some c; status = st; page = p }) (effect_in fr st) (waits_nothing fr st h)

end_says : (c : Option FlashCycle) (fr : FlashFrame) (st : Option ℕ) (p : List ℕ) → SaysStep (runs_in c st p) (end_of (record { frame = fr; cycle = c; status = st; page = p }))
end_says c fr st p = search (never_idle, rules)

powered_says : (x : Flash) (e : FlashEvent) (lock : Bool) (w : ℕ) → InCycle x.cycle (Waits x.frame) → SaysStep (runs_of x) (powered_of x e lock w)
powered_says x e lock w h = search (kept, byte_says, deselect_says, end_says, rules)

dark_says : (x : Flash) (e : FlashEvent) → SaysStep (runs_of x) (dark_of x e)
dark_says x e = search (kept, rules)

pub says : (watched : ℕ) (s : Side) (e : FlashEvent) → Good s → Says (skeleton_kind (side_says watched s e)) (runs_of s.chip) (runs_of (side_bus watched s e).chip)
says watched s e g =
    of_both (SaysStep (runs_of s.chip)) s.lines.supply (powered_of s.chip e s.lines.lock watched) (dark_of s.chip e)
    (powered_says s.chip e s.lines.lock watched g.waits) (dark_says s.chip e)

-- ---- channel L goes on with the cycle, or stops it
line_says : (x : Flash) (off on : Bool) →
    (runs_of (pick off (supply_off_of x) (pick on (lock_on_of x) x)) ≡ runs_of x) ⊎ (runs_of (pick off (supply_off_of x) (pick on (lock_on_of x) x)) ≡ idle)
line_says x off on = search rules

-- ---- what is told is kept up
abbrev TracksStep : Told → FlashEvent → FlashStep → Type 0
TracksStep f e s = Tracks s.chip (told f e s.reply)

quiet_bits : (k : Kind) (f : Told) → Quiet k → told_bits k f ≡ f.bits
quiet_bits k f h = search rules

quiet_later : (k : Kind) (f : Told) → Quiet k → told_later k f ≡ f.later
quiet_later k f h = search rules

-- the first byte
open_tracks : (op : Op) (fact : LockFact) (c : Option FlashCycle) (p : List ℕ) → served (running_of c) op ≡ true → TracksFrame (Command op op_code_sent fact) (page_in c p) (command op op_code_sent) blank
open_tracks op fact c p e = (refl, λ t. idle_page c op p e t)
  where
    idle_page : (c : Option FlashCycle) (op : Op) (p : List ℕ) → served (running_of c) op ≡ true → is_program op ≡ true → page_in c p ≡ blank
    idle_page None op p e t = refl
    idle_page (Some (cycle.Program n)) op p e t = absurd (program_waits op e t)
      where
        program_waits : (op : Op) → served true op ≡ true → is_program op ≡ true → ⊥
        program_waits op e t = search (true_not_false, rules)
    idle_page (Some (cycle.SectorErase n)) op p e t = refl
    idle_page (Some cycle.ChipErase) op p e t = refl
    idle_page (Some (cycle.WriteStatus bits)) op p e t = refl

served_tracks : (t : Bool) (op : Op) (fact : LockFact) (c : Option FlashCycle) (p : List ℕ) → served (running_of c) op ≡ t
    → TracksFrame (pick t (Command op op_code_sent fact) Void) (page_in c p) (command op op_code_sent) blank
served_tracks true op fact c p e = open_tracks op fact c p e
served_tracks false op fact c p e = tt

first_tracks : (d : Option Op) (fact : LockFact) (c : Option FlashCycle) (p : List ℕ) → TracksFrame (opened_by (running_of c) d fact) (page_in c p) (told_as d) blank
first_tracks (Some op) fact c p = served_tracks (served (running_of c) op) op fact c p refl
first_tracks None fact c p = tt

-- a further byte
page_tracks : (op : Op) (s : Sent) (si : ℕ) (p q : List ℕ) → (is_program op ≡ true → p ≡ q) → is_program op ≡ true → page_after op s si p ≡ page_after op s si q
page_tracks op s si p q h t = ap (page_after op s si) (h t)

byte_frame : (fr : FlashFrame) (c : Option FlashCycle) (st : Option ℕ) (p : List ℕ) (g : ToldFrame) (q : List ℕ) (si w : ℕ) → TracksFrame fr p g q
    → TracksFrame (byte_in fr (record { frame = fr; cycle = c; status = st; page = p }) si w).chip.frame
    (byte_in fr (record { frame = fr; cycle = c; status = st; page = p }) si w).chip.page (told_byte g si) (told_put g si q)
byte_frame Idle c st p g q si w h = tt
byte_frame Void c st p g q si w h = tt
byte_frame (Selected fact) c st p g q si w h =
    subst (λ (z : ToldFrame). TracksFrame (opened_by (running_of c) (decode_of si) fact) (page_in c p) (told_byte z si) (told_put z si q)) (sym h) (first_tracks (decode_of si) fact c p)
byte_frame (Command op s fact) c st p g q si w h =
    subst (λ (z : ToldFrame). TracksFrame (Command op (next_sent op s si) fact) (page_after op s si p) (told_byte z si) (told_put z si q)) (sym h.0)
    (refl, page_tracks op s si p q h.1)

byte_quiet : (fr : FlashFrame) (x : Flash) (si w : ℕ) → QuietReply (byte_in fr x si w).reply
byte_quiet fr x si w = search (reply_quiet, rules)

byte_status : (fr : FlashFrame) (x : Flash) (si w : ℕ) → (byte_in fr x si w).chip.status ≡ x.status
byte_status fr x si w = search rules

byte_cycle : (fr : FlashFrame) (x : Flash) (si w : ℕ) → (byte_in fr x si w).chip.cycle ≡ x.cycle
byte_cycle fr x si w = search rules

status_as : (st t : Option ℕ) (a b : ℕ) → t ≡ st → b ≡ a → TracksStatus st a → TracksStatus t b
status_as st t a b e d h = rw (e, d) h

cycle_as : (c d : Option FlashCycle) (a b l m : ℕ) → d ≡ c → b ≡ a → m ≡ l → TracksCycle c a l → TracksCycle d b m
cycle_as c d a b l m e f g h = rw (e, f, g) h

byte_tracks : (x : Flash) (f : Told) (si so w : ℕ) → Tracks x f → TracksStep f (event.Byte si so) (byte_in x.frame x si w)
byte_tracks x f si so w h =
    let k = skeleton_kind (byte_in x.frame x si w).reply in
    let q = byte_quiet x.frame x si w in
    record {
      in_frame = byte_frame x.frame x.cycle x.status x.page f.frame f.page si w h.in_frame;
      in_status = status_as x.status _ f.bits _ (byte_status x.frame x si w) (quiet_bits k f q) h.in_status;
      in_cycle_lem = cycle_as x.cycle _ f.bits _ f.later _ (byte_cycle x.frame x si w) (quiet_bits k f q) (quiet_later k f q) h.in_cycle_lem;
    }

-- ---- `des`: the effect is the one that is told
abbrev EffectTracks : Option ℕ → List ℕ → Told → Effect → Type 0
EffectTracks st p f Nothing = Unit {0}
EffectTracks st p f (Status s) = kept_bits s ≡ f.bits
EffectTracks st p f (Start c) = TracksCycle (Some c) f.bits (later_of f.frame f.bits) × (runs_in (Some c) st (page_in (Some c) p) ≡ runs (starts_of f))

start_tracks : (t : Bool) (st : Option ℕ) (p : List ℕ) (f : Told) (c : FlashCycle) → TracksCycle (Some c) f.bits (later_of f.frame f.bits)
    → runs_in (Some c) st (page_in (Some c) p) ≡ runs (starts_of f) → EffectTracks st p f (starts_if t c)
start_tracks true st p f c h e = (h, e)
start_tracks false st p f c h e = tt

set_tracks : (t : Bool) (st : Option ℕ) (p : List ℕ) (f : Told) (s : ℕ) → kept_bits s ≡ f.bits → EffectTracks st p f (sets_if t s)
set_tracks true st p f s h = h
set_tracks false st p f s h = tt

known_tracks : (op : Op) (b : Sent) (fact : LockFact) (s : ℕ) (p q : List ℕ) (bits later : ℕ) → (is_program op ≡ true → p ≡ q) → kept_bits s ≡ bits
    → EffectTracks (Some s) p (record { frame = command op b; page = q; bits = bits; later = later }) (known_effect op b fact s)
known_tracks WriteEnable b fact s p q bits later h e =
    set_tracks (eqb b.count 1) (Some s) p (record { frame = command WriteEnable b; page = q; bits = bits; later = later }) (with_enable s) (kept_enable s ∙ e)
known_tracks WriteDisable b fact s p q bits later h e =
    set_tracks (eqb b.count 1) (Some s) p (record { frame = command WriteDisable b; page = q; bits = bits; later = later }) (kept_bits s) (kept_kept s ∙ e)
known_tracks ReadStatus b fact s p q bits later h e = tt
known_tracks WriteStatus b fact s p q bits later h e =
    start_tracks (may_start (eqb b.count 2) s (lock_bars s fact)) (Some s) p (record { frame = command WriteStatus b; page = q; bits = bits; later = later })
    (cycle.WriteStatus (kept_bits (b.place % 256))) refl refl
known_tracks Read b fact s p q bits later h e = tt
known_tracks Program b fact s p q bits later h e =
    start_tracks (may_start (leb 5 b.count) s (sector_locked s (sector_of b.place))) (Some s) p (record { frame = command Program b; page = q; bits = bits; later = later })
    (cycle.Program (b.place / 256)) refl (ap (λ (z : List ℕ). runs (programs (b.place / 256) z)) (h refl))
known_tracks SectorErase b fact s p q bits later h e =
    start_tracks (may_start (eqb b.count 4) s (sector_locked s (sector_of b.place))) (Some s) p (record { frame = command SectorErase b; page = q; bits = bits; later = later })
    (cycle.SectorErase (sector_of b.place)) refl refl
known_tracks ChipErase b fact s p q bits later h e =
    start_tracks (may_start (eqb b.count 1) s (sector_locked s 1)) (Some s) p (record { frame = command ChipErase b; page = q; bits = bits; later = later })
    cycle.ChipErase refl (ap (λ (z : ℕ). runs (erases_all z)) e)
known_tracks Identify b fact s p q bits later h e = tt

effect_tracks : (fr : FlashFrame) (st : Option ℕ) (p : List ℕ) (f : Told) → TracksFrame fr p f.frame f.page → TracksStatus st f.bits → EffectTracks st p f (effect_in fr st)
effect_tracks Idle st p f h k = tt
effect_tracks Void st p f h k = tt
effect_tracks (Selected fact) st p f h k = tt
effect_tracks (Command op b fact) None p f h k = tt
effect_tracks (Command op b fact) (Some s) p f h k =
    subst (λ (z : ToldFrame). EffectTracks (Some s) p (record { frame = z; page = f.page; bits = f.bits; later = f.later }) (known_effect op b fact s)) (sym h.0)
    (known_tracks op b fact s p f.page f.bits f.later h.1 k)

closed_tracks : (x : Flash) (e : Effect) (f : Told) → Tracks x f → EffectTracks x.status x.page f e → TracksStep f event.Deselect (closed_by x e)
closed_tracks x e f h k = search rules

-- ---- `end`: the bits are those that were told for later
end_status_lem : (c : Option FlashCycle) (st : Option ℕ) (bits later : ℕ) → CycleOk c → TracksStatus st bits → TracksCycle c bits later → running_of c ≡ true → TracksStatus (end_status c st) later
end_status_lem c st bits later d k l r = search (kept_kept, kept_all, true_not_false, rules)

waiting_page : (op : Op) (p q : List ℕ) → WaitsOp op → is_program op ≡ true → p ≡ q
waiting_page op p q h t = search (true_not_false, rules)

-- a frame that waits in a cycle is told without the page
waits_tracks : (fr : FlashFrame) (p q r : List ℕ) (g : ToldFrame) → Waits fr → TracksFrame fr p g r → TracksFrame fr q g r
waits_tracks fr p q r g h k = search (waiting_page, rules)

ended_tracks : (c : Option FlashCycle) (fr : FlashFrame) (st : Option ℕ) (p : List ℕ) (f : Told) → Waits fr → CycleOk c → running_of c ≡ true
    → Tracks (record { frame = fr; cycle = c; status = st; page = p }) f
    → Tracks (record { frame = fr; cycle = None; status = end_status c st; page = blank }) (told f event.End Ends)
ended_tracks c fr st p f w d r h = record {
  in_frame = waits_tracks fr p blank f.page f.frame w h.in_frame;
  in_status = end_status_lem c st f.bits f.later d h.in_status h.in_cycle_lem r;
  in_cycle_lem = tt;
}

end_tracks : (c : Option FlashCycle) (fr : FlashFrame) (st : Option ℕ) (p : List ℕ) (f : Told) → InCycle c (Waits fr) → CycleOk c
    → Tracks (record { frame = fr; cycle = c; status = st; page = p }) f → TracksStep f event.End (end_of (record { frame = fr; cycle = c; status = st; page = p }))
end_tracks None fr st p f w d h = record { in_frame = h.in_frame; in_status = h.in_status; in_cycle_lem = tt }
end_tracks (Some c) fr st p f w d h = ended_tracks (Some c) fr st p f w d refl h

powered_tracks : (x : Flash) (e : FlashEvent) (lock : Bool) (w : ℕ) (f : Told) → InCycle x.cycle (Waits x.frame) → CycleOk x.cycle → Tracks x f
    → TracksStep f e (powered_of x e lock w)
powered_tracks x event.Select lock w f g d h = record { in_frame = refl; in_status = h.in_status; in_cycle_lem = h.in_cycle_lem }
powered_tracks x (event.Byte si so) lock w f g d h = byte_tracks x f si so w h
powered_tracks x event.Cut lock w f g d h = record { in_frame = tt; in_status = h.in_status; in_cycle_lem = h.in_cycle_lem }
powered_tracks x event.Deselect lock w f g d h =
    closed_tracks x (effect_in x.frame x.status) f h (effect_tracks x.frame x.status x.page f h.in_frame h.in_status)
powered_tracks x event.End lock w f g d h = end_tracks x.cycle x.frame x.status x.page f g d h

-- ---- with the supply off no frame is open
shut_tracks : (fr : FlashFrame) (p q : List ℕ) (g : ToldFrame) → Shut fr → TracksFrame fr p g q
shut_tracks fr p q g h = search rules

dark_tracks : (x : Flash) (e : FlashEvent) (f : Told) → Shut x.frame → Tracks x f → TracksStep f e (dark_of x e)
dark_tracks x event.Select f s h = record { in_frame = tt; in_status = h.in_status; in_cycle_lem = h.in_cycle_lem }
dark_tracks x (event.Byte si so) f s h = record {
  in_frame = shut_tracks x.frame x.page (told_put f.frame si f.page) (told_byte f.frame si) s;
  in_status = h.in_status;
  in_cycle_lem = h.in_cycle_lem;
}
dark_tracks x event.Cut f s h = record { in_frame = tt; in_status = h.in_status; in_cycle_lem = h.in_cycle_lem }
dark_tracks x event.Deselect f s h = record { in_frame = tt; in_status = h.in_status; in_cycle_lem = h.in_cycle_lem }
dark_tracks x event.End f s h = record { in_frame = h.in_frame; in_status = h.in_status; in_cycle_lem = h.in_cycle_lem }

step_tracks : (x : Flash) (e : FlashEvent) (supply lock : Bool) (w : ℕ) (f : Told) → InCycle x.cycle (Waits x.frame) → CycleOk x.cycle
    → (supply ≡ false → Shut x.frame) → Tracks x f → TracksStep f e (pick supply (powered_of x e lock w) (dark_of x e))
step_tracks x e true lock w f g d s h = powered_tracks x e lock w f g d h
step_tracks x e false lock w f g d s h = dark_tracks x e f (s refl) h

pub tracks_bus : (watched : ℕ) (s : Side) (f : Told) (e : FlashEvent) → Good s → Tracks s.chip f → Tracks (side_bus watched s e).chip (told f e (side_says watched s e))
tracks_bus watched s f e g h =
    step_tracks s.chip e s.lines.supply s.lines.lock watched f g.waits g.in_cycle_lem (λ o. (g.dark o).1) h

-- ---- channel L leaves what is told
off_status_lem : (c : Option FlashCycle) (st : Option ℕ) (bits : ℕ) → TracksStatus st bits → TracksStatus (off_status c st) bits
off_status_lem c st bits h = search (kept_kept, rules)

lock_tracks : (fr : FlashFrame) (p q : List ℕ) (g : ToldFrame) → TracksFrame fr p g q → TracksFrame (locked_frame fr) p g q
lock_tracks fr p q g h = search rules

line_tracks : (x : Flash) (off on : Bool) (f : Told) → Tracks x f → Tracks (pick off (supply_off_of x) (pick on (lock_on_of x) x)) f
line_tracks x true on f h = record {
  in_frame = shut_tracks (voided_by x.frame) blank f.page f.frame (void_shut x.frame);
  in_status = off_status_lem x.cycle x.status f.bits h.in_status;
  in_cycle_lem = tt;
}
line_tracks x false true f h = record {
  in_frame = lock_tracks x.frame x.page f.page f.frame h.in_frame;
  in_status = h.in_status;
  in_cycle_lem = h.in_cycle_lem;
}
line_tracks x false false f h = h

-- ---- a chip tells of itself
told_of : FlashFrame → ToldFrame
told_of Idle = closed
told_of Void = closed
told_of (Selected fact) = opened
told_of (Command op s fact) = command op s

later_in : Option FlashCycle → ℕ → ℕ
later_in None bits = bits
later_in (Some (cycle.Program n)) bits = bits
later_in (Some (cycle.SectorErase n)) bits = bits
later_in (Some cycle.ChipErase) bits = bits
later_in (Some (cycle.WriteStatus b)) bits = b

self_frame : (fr : FlashFrame) (p : List ℕ) → TracksFrame fr p (told_of fr) p
unfolding told_of
self_frame fr p = search rules

self_status : (st : Option ℕ) → TracksStatus st (bits_of st)
self_status None = tt
self_status (Some s) = refl

self_cycle : (c : Option FlashCycle) (bits : ℕ) → TracksCycle c bits (later_in c bits)
unfolding later_in
self_cycle c bits = search rules

pub tells_itself : (x : Flash) → (f : Told) × Tracks x f
tells_itself x = (
  record { frame = told_of x.frame; page = x.page; bits = bits_of x.status; later = later_in x.cycle (bits_of x.status) },
  record { in_frame = self_frame x.frame x.page; in_status = self_status x.status; in_cycle_lem = self_cycle x.cycle (bits_of x.status) },
)

-- ---- a cycle that starts is the one that is told
abbrev Started : Kind → Cycle Running → Told → Type 0
Started starts r f = r ≡ runs (starts_of f)
Started ends r f = Unit {0}
Started fetches r f = Unit {0}
Started plain r f = Unit {0}

abbrev StartedStep : Told → FlashStep → Type 0
StartedStep f s = Started (skeleton_kind s.reply) (runs_of s.chip) f

quiet_started : (k : Kind) (r : Cycle Running) (f : Told) → Quiet k → Started k r f
quiet_started k r f h = search rules

closed_started : (x : Flash) (e : Effect) (f : Told) → EffectTracks x.status x.page f e → StartedStep f (closed_by x e)
closed_started x e f k = search rules

end_started : (c : Option FlashCycle) (fr : FlashFrame) (st : Option ℕ) (p : List ℕ) (f : Told) → StartedStep f (end_of (record { frame = fr; cycle = c; status = st; page = p }))
end_started None fr st p f = tt
end_started (Some c) fr st p f = tt

powered_started : (x : Flash) (e : FlashEvent) (lock : Bool) (w : ℕ) (f : Told) → Tracks x f → StartedStep f (powered_of x e lock w)
powered_started x e lock w f h = search (closed_started, effect_tracks, end_started, rules)

dark_started : (x : Flash) (e : FlashEvent) (f : Told) → StartedStep f (dark_of x e)
dark_started x e f = search rules

pub started : (watched : ℕ) (s : Side) (f : Told) (e : FlashEvent) → Tracks s.chip f
    → Started (skeleton_kind (side_says watched s e)) (runs_of (side_bus watched s e).chip) f
started watched s f e h =
    of_both (StartedStep f) s.lines.supply (powered_of s.chip e s.lines.lock watched) (dark_of s.chip e)
    (powered_started s.chip e s.lines.lock watched f h) (dark_started s.chip e f)

-- ---- a byte that is fetched is told before it is given
tells_fetch : (a b : Bool) (n : ℕ) → Telling (pick a Silent (pick b (Fetch n) Silent)) (pick a Silent (pick b (Fetch n) Silent))
unfolding Telling
tells_fetch a b n = search rules

tells_given : (k : Skeleton) (t : Bool) (b : ℕ) → Telling k Silent → Telling (pick t (Given b) k) Silent
unfolding Telling
tells_given k true b h = refl
tells_given k false b h = h

tells_status : (busy : Bool) (st : Option ℕ) → Telling (status_reply busy st) Silent
unfolding Telling
tells_status busy None = tt
tells_status busy (Some s) = refl

tells_silent : (h : Skeleton) → Telling Silent h
unfolding Telling
tells_silent h = tt

tells_starts : (h : Skeleton) → Telling Starts h
unfolding Telling
tells_starts h = tt

tells_ends : (h : Skeleton) → Telling Ends h
unfolding Telling
tells_ends h = tt

tells_none : (h : Skeleton) → Telling NoCycle h
unfolding Telling
tells_none h = tt

tells_op : (op : Op) (s : Sent) (busy : Bool) (st : Option ℕ) (w : ℕ) → Telling (reply_to op s busy st w) (hint_by w op s)
tells_op op s busy st w = search (tells_status, tells_fetch, tells_given, tells_silent, rules)

tells_byte : (fr : FlashFrame) (x : Flash) (g : ToldFrame) (p q : List ℕ) (si w : ℕ) → TracksFrame fr p g q → Telling (byte_in fr x si w).reply (hint_in w g)
tells_byte Idle x g p q si w h = tells_silent (hint_in w g)
tells_byte Void x g p q si w h = tells_silent (hint_in w g)
tells_byte (Selected fact) x g p q si w h = tells_silent (hint_in w g)
tells_byte (Command op s fact) x g p q si w h =
    subst (λ (z : ToldFrame). Telling (reply_to op s (running_of x.cycle) x.status w) (hint_in w z)) (sym h.0) (tells_op op s (running_of x.cycle) x.status w)

tells_closed : (x : Flash) (e : Effect) (h : Skeleton) → Telling (closed_by x e).reply h
tells_closed x e h = search (tells_silent, tells_starts, rules)

tells_end : (t : Bool) (a b : Flash) (h : Skeleton) → Telling (pick {A = FlashStep} t (record { chip = a; reply = Ends }) (record { chip = b; reply = NoCycle })).reply h
tells_end true a b h = tells_ends h
tells_end false a b h = tells_none h

powered_tells : (x : Flash) (e : FlashEvent) (lock : Bool) (w : ℕ) (f : Told) → Tracks x f → Telling (powered_of x e lock w).reply (hint_of w f e)
powered_tells x e lock w f h = search (tells_silent, tells_byte, tells_closed, tells_end, rules)

dark_tells : (x : Flash) (e : FlashEvent) (w : ℕ) (f : Told) → Telling (dark_of x e).reply (hint_of w f e)
dark_tells x e w f = search (tells_silent, tells_none, rules)

pub tells : (watched : ℕ) (s : Side) (f : Told) (e : FlashEvent) → Tracks s.chip f → Telling (side_says watched s e) (hint_of watched f e)
tells watched s f e h =
    of_both (λ (z : FlashStep). Telling z.reply (hint_of watched f e)) s.lines.supply (powered_of s.chip e s.lines.lock watched) (dark_of s.chip e)
    (powered_tells s.chip e s.lines.lock watched f h) (dark_tells s.chip e watched f)

-- ---- the flash is lawful
says_as : (watched : ℕ) (s : Side) (e : FlashEvent) (k : Kind) → Good s → skeleton_kind (side_says watched s e) ≡ k → Says k (runs_of s.chip) (runs_of (side_bus watched s e).chip)
says_as watched s e k g h = subst (λ (z : Kind). Says z (runs_of s.chip) (runs_of (side_bus watched s e).chip)) h (says watched s e g)

pub flash_lawful : (watched : ℕ) → Lawful (flash_control watched)
flash_lawful watched = record {
  good_bus = good_bus watched;
  good_line = good_line;
  frame = λ s g. tells_itself s.chip;
  starts_idle = λ s e g h. says_as watched s e starts g h;
  starts_runs = λ s f e g t h. subst (λ (z : Kind). Started z (runs_of (side_bus watched s e).chip) f) h (started watched s f e t);
  ends_runs = λ s e g h. (says_as watched s e ends g h).0;
  ends_idle = λ s e g h. (says_as watched s e ends g h).1;
  fetch_idle = λ s e g h. (says_as watched s e fetches g h).0;
  fetch_keeps = λ s e g h. (says_as watched s e fetches g h).1;
  plain_keeps = λ s e g h. says_as watched s e plain g h;
  line_keeps = λ s e g. line_says s.chip (goes_off s.lines e) (lock_comes_on s.lines e);
  tracks_bus = tracks_bus watched;
  tracks_line = λ s f e g h. line_tracks s.chip (goes_off s.lines e) (lock_comes_on s.lines e) f h;
  tells = λ s f e g h. tells watched s f e h;
}

-- what a chip erase reaches is in the bits that are told
pub reach_kept : (s sector : ℕ) → sector_locked (kept_bits s) sector ≡ sector_locked s sector
reach_kept s sector = ap (λ (bp : ℕ). locked_by bp sector) (same_bp s)
  where
    same_bp : (s : ℕ) → (s / 128 * 128 + s / 4 % 4 * 4) / 4 % 4 ≡ s / 4 % 4
    same_bp s = omega arith
