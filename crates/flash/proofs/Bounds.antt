-- The flash's side is good at the start, and every record of either channel keeps it so.
-- Assumes nothing.
use Prim.Native.Nat.{ℕ, ◌-◌, ◌/◌, ◌%◌, ◌<◌, ◌≤◌}
use native.Mathlib.Omega.{arith}
use mathlib.Core.Bool.{Bool, true, false}
use mathlib.Core.Path.{◌≡◌, refl, sym, subst}
use mathlib.Core.List.{List}
use lib.ListN.{length, length-set}
use lib.Dec.{ltb}
use borrow.Author.Tests.{ltb-true}
use Rattle.std.specs.Prelude.{Option, Some, None}
use Rattle.std.proofs.Common.{rules}
use Rattle.law.specs.Choice.{split, true_not_false}
use Rattle.law.specs.Words.{pick}
use Rattle.record.specs.declared.FlashEvent.{FlashEvent}
use Rattle.record.specs.declared.FlashEvent.TheVariants as event
use Rattle.record.specs.declared.LineEvent.{LineEvent}
use Rattle.record.specs.declared.LineEvent.TheVariants.{SupplyOn, SupplyOff, LockOn, LockOff}
use Rattle.page.specs.Geometry.{flash_page, flash_sectors, flash_size}
use Rattle.page.specs.Laws.{rolled_small}
use Rattle.record.specs.Status.{StatusOk}
use Rattle.flash.specs.Code.{decode_of, sector_of, wpen, kept_bits, with_enable}
use Rattle.flash.specs.Frame.{fact_at, served, op_code_sent, opened_by, counted_on, rolled_on, moved_on, with_byte, next_sent, page_after, voided_by, locked_fact, locked_frame}
use Rattle.flash.specs.Cycle.{running_of, blank, page_in, starts_if, sets_if, known_effect, end_status, off_status}
use Rattle.flash.specs.Step.{byte_in, closed_by, effect_in, powered_of, dark_of, supply_off_of, lock_on_of}
use Rattle.flash.specs.Side.{Side, side_start, side_bus, side_line}
use Rattle.flash.specs.Good.{SentOk, FrameOk, StatusBits, FlashStatusOk, CycleOk, WaitsOp, Waits, IsKnown, InCycle, is_program, sends_page, writes_page, BlankUnless, Shut, fact_of, FactOk, Fields, Good}
use Rattle.flash.specs.declared.Op.{Op}
use Rattle.flash.specs.declared.LockFact.{LockFact}
use Rattle.flash.specs.declared.LockFact.TheVariants.{Absent, Free, Locked}
use Rattle.flash.specs.declared.Sent.{Sent}
use Rattle.flash.specs.declared.FlashFrame.{FlashFrame}
use Rattle.flash.specs.declared.FlashFrame.TheVariants.{Idle, Void, Selected, Command}
use Rattle.flash.specs.declared.FlashCycle.{FlashCycle}
use Rattle.flash.specs.declared.FlashCycle.TheVariants as cycle
use Rattle.flash.specs.declared.Flash.{Flash}
use Rattle.flash.specs.declared.Effect.{Effect}
use Rattle.flash.specs.declared.Effect.TheVariants.{Nothing, Status, Start}

-- ---- numbers
counted_ok : (p : ℕ) → p < flash_size → counted_on p < flash_size
counted_ok p h = let l = rolled_small (flash_size - 1) p in omega arith

rolled_ok : (p : ℕ) → p < flash_size → rolled_on p < flash_size
rolled_ok p h = let l = rolled_small (flash_page - 1) (p % flash_page) in omega arith

moved_ok : (op : Op) (p : ℕ) → p < flash_size → moved_on op p < flash_size
moved_ok op p h = search (counted_ok, rolled_ok, rules)

shifted_ok : (p si : ℕ) → with_byte p si < flash_size
shifted_ok p si = omega arith

next_ok : (op : Op) (s : Sent) (si : ℕ) → SentOk s → SentOk (next_sent op s si)
next_ok op s si h =
    split (ltb s.count 4)
    (λ t. let l = ltb-true s.count 4 t in simp (t) (record { some = omega arith; few = omega arith; inside = shifted_ok s.place si }))
    (λ t. simp (t) (record { some = omega arith; few = omega arith; inside = moved_ok op s.place h.inside }))

kept_bits_lem : (s : ℕ) → s < 256 → StatusBits (kept_bits s)
kept_bits_lem s h = record { byte = omega arith; middle = omega arith; low = omega arith }

enable_bits : (s : ℕ) → s < 256 → StatusBits (with_enable s)
enable_bits s h = record { byte = omega arith; middle = omega arith; low = omega arith }

pub kept_kept : (s : ℕ) → kept_bits (kept_bits s) ≡ kept_bits s
kept_kept s = omega arith

pub kept_enable : (s : ℕ) → kept_bits (with_enable s) ≡ kept_bits s
kept_enable s = omega arith

page_ok : (p : ℕ) → p < flash_size → p / flash_page < flash_size / flash_page
page_ok p h = omega arith

pub sector_ok : (p : ℕ) → (1 ≤ sector_of p) × (sector_of p ≤ flash_sectors)
sector_ok p = (omega arith, omega arith)

-- the bits of a WRSR
bits_of : (b : ℕ) → StatusOk b → StatusBits b
bits_of b h = record { byte = h.0; middle = h.2; low = omega (arith, h.1) }

pub kept_all : (b : ℕ) → StatusOk b → kept_bits b ≡ b
kept_all b h = omega (arith, h.0, h.1, h.2)

-- ---- parts of a state
long_in : (c : Option FlashCycle) (p : List ℕ) → length p ≡ flash_page → length (page_in c p) ≡ flash_page
long_in c p h = search rules

blank_unless : (t : Bool) → BlankUnless t blank
blank_unless true = tt
blank_unless false = refl

blank_in : (c : Option FlashCycle) (t : Bool) (p : List ℕ) → BlankUnless (pick (writes_page c) true t) (page_in c p)
blank_in c t p = search (blank_unless, rules)

blank_any : (t : Bool) (p : List ℕ) → BlankUnless (pick t true true) p
blank_any true p = tt
blank_any false p = tt

in_cycle_of : (c : Option FlashCycle) {P : Type 0} → P → InCycle c P
in_cycle_of None p = tt
in_cycle_of (Some c) p = p

in_cycle_as : (c : Option FlashCycle) {P Q : Type 0} → (P → Q) → InCycle c P → InCycle c Q
in_cycle_as None f h = tt
in_cycle_as (Some c) f h = f h

-- a chip whose frame has no data: nothing is asked of its page
pub bare_good : (fr : FlashFrame) (c : Option FlashCycle) (st : Option ℕ) (p : List ℕ) (supply lock : Bool) → FrameOk fr → CycleOk c → FlashStatusOk st → length p ≡ flash_page
    → InCycle c (Waits fr) → InCycle c (IsKnown st) → FactOk (fact_of fr) st lock → (supply ≡ false → (c ≡ None) × Shut fr)
    → Fields fr c st (page_in c p) supply lock
bare_good fr c st p supply lock f d s l w k x o = record {
  in_frame = f;
  in_cycle_lem = d;
  in_status = s;
  whole = long_in c p l;
  waits = w;
  known = k;
  kept_page = blank_in c (sends_page fr) p;
  in_fact = x;
  dark = o;
}

-- with the supply on nothing is asked of what is only so without it
lit : {P : Type 0} → true ≡ false → P
lit e = absurd (true_not_false e)

-- ---- `sel`
fact_waits : (c : Option FlashCycle) (st : Option ℕ) (lock : Bool) → InCycle c (fact_at (running_of c) st lock ≡ Absent)
fact_waits None st lock = tt
fact_waits (Some c) st lock = refl

level_ok : (t lock : Bool) (s : ℕ) → wpen s ≡ t → FactOk (pick t (pick lock Locked Free) Absent) (Some s) lock
level_ok t lock s e = search rules

fact_ok : (busy : Bool) (st : Option ℕ) (lock : Bool) → FactOk (fact_at busy st lock) st lock
fact_ok busy st lock = search (level_ok, rules)

-- ---- a byte
op_code_ok : SentOk op_code_sent
op_code_ok = record { some = omega arith; few = omega arith; inside = omega arith }

served_waits : (op : Op) → served true op ≡ true → WaitsOp op
served_waits op e = search (true_not_false, rules)

-- what an op-code leaves of a frame that was selected
pub record Opens (fact : LockFact) (fr : FlashFrame) : Type 0 where
  pub ok : FrameOk fr
  pub waits : fact ≡ Absent → Waits fr
  pub said : (st : Option ℕ) (lock : Bool) → FactOk fact st lock → FactOk (fact_of fr) st lock

void_opens : (fact : LockFact) → Opens fact Void
void_opens fact = record { ok = tt; waits = λ e. tt; said = λ st lock h. tt }

busy_opens : (op : Op) (fact : LockFact) (t : Bool) → served true op ≡ t → Opens fact (pick t (Command op op_code_sent fact) Void)
busy_opens op fact true e = record { ok = op_code_ok; waits = λ a. (served_waits op e, a); said = λ st lock h. h }
busy_opens op fact false e = void_opens fact

opens_busy : (d : Option Op) (fact : LockFact) → Opens fact (opened_by true d fact)
opens_busy (Some op) fact = busy_opens op fact (served true op) refl
opens_busy None fact = void_opens fact

-- with no cycle
pub record OpensIdle (fact : LockFact) (fr : FlashFrame) : Type 0 where
  pub ok : FrameOk fr
  pub said : (st : Option ℕ) (lock : Bool) → FactOk fact st lock → FactOk (fact_of fr) st lock

idle_opens : (op : Op) (fact : LockFact) (t : Bool) → OpensIdle fact (pick t (Command op op_code_sent fact) Void)
idle_opens op fact true = record { ok = op_code_ok; said = λ st lock h. h }
idle_opens op fact false = record { ok = tt; said = λ st lock h. tt }

opens_idle : (d : Option Op) (fact : LockFact) → OpensIdle fact (opened_by false d fact)
opens_idle (Some op) fact = idle_opens op fact (served false op)
opens_idle None fact = record { ok = tt; said = λ st lock h. tt }

long_after : (op : Op) (s : Sent) (si : ℕ) (p : List ℕ) → length p ≡ flash_page → length (page_after op s si p) ≡ flash_page
long_after op s si p h = search (length-set, rules)

blank_after : (op : Op) (t : Bool) (s : Sent) (si : ℕ) (p : List ℕ) → BlankUnless (pick t true (is_program op)) p → BlankUnless (pick t true (is_program op)) (page_after op s si p)
blank_after op t s si p h = search (blank_any, rules)

abbrev After : Flash → Bool → Bool → Type 0
After f supply lock = Fields f.frame f.cycle f.status f.page supply lock

first_good : (c : Option FlashCycle) (fact : LockFact) (st : Option ℕ) (p : List ℕ) (si : ℕ) (lock : Bool) → Fields (Selected fact) c st p true lock
    → Fields (opened_by (running_of c) (decode_of si) fact) c st (page_in c p) true lock
first_good None fact st p si lock h =
    let o = opens_idle (decode_of si) fact in
    bare_good (opened_by false (decode_of si) fact) None st p true lock o.ok tt h.in_status h.whole tt tt (o.said st lock h.in_fact) lit
first_good (Some c) fact st p si lock h =
    let o = opens_busy (decode_of si) fact in
    bare_good (opened_by true (decode_of si) fact) (Some c) st p true lock o.ok h.in_cycle_lem h.in_status h.whole (o.waits h.waits) h.known
    (o.said st lock h.in_fact) lit

byte_good : (fr : FlashFrame) (c : Option FlashCycle) (st : Option ℕ) (p : List ℕ) (si w : ℕ) (lock : Bool) → Fields fr c st p true lock
    → After (byte_in fr (record { frame = fr; cycle = c; status = st; page = p }) si w).chip true lock
byte_good Idle c st p si w lock h = h
byte_good Void c st p si w lock h = h
byte_good (Selected fact) c st p si w lock h = first_good c fact st p si lock h
byte_good (Command op s fact) c st p si w lock h = record {
  in_frame = next_ok op s si h.in_frame;
  in_cycle_lem = h.in_cycle_lem;
  in_status = h.in_status;
  whole = long_after op s si p h.whole;
  waits = in_cycle_as c {P = Waits (Command op s fact)} {Q = Waits (Command op (next_sent op s si) fact)} (λ v. v) h.waits;
  known = h.known;
  kept_page = blank_after op (writes_page c) s si p h.kept_page;
  in_fact = h.in_fact;
  dark = lit;
}

-- ---- `des`
abbrev EffectOk : Option ℕ → Effect → Type 0
EffectOk st Nothing = Unit {0}
EffectOk st (Status s) = StatusBits s
EffectOk st (Start c) = CycleOk (Some c) × IsKnown st

start_ok : (t : Bool) (s : ℕ) (c : FlashCycle) → CycleOk (Some c) → EffectOk (Some s) (starts_if t c)
start_ok true s c h = (h, tt)
start_ok false s c h = tt

set_ok : (t : Bool) (s n : ℕ) → StatusBits n → EffectOk (Some s) (sets_if t n)
set_ok true s n h = h
set_ok false s n h = tt

wrsr_ok : (p : ℕ) → CycleOk (Some (cycle.WriteStatus (kept_bits (p % 256))))
wrsr_ok p = (omega arith, omega arith, omega arith)

known_ok : (op : Op) (b : Sent) (fact : LockFact) (s : ℕ) → SentOk b → s < 256 → EffectOk (Some s) (known_effect op b fact s)
known_ok op b fact s h l = search (start_ok, set_ok, enable_bits, kept_bits_lem, wrsr_ok, page_ok, sector_ok, rules)

effect_ok : (fr : FlashFrame) (st : Option ℕ) → FrameOk fr → FlashStatusOk st → EffectOk st (effect_in fr st)
effect_ok fr st h k = search (known_ok, rules)

closed_good : (f : Flash) (e : Effect) (lock : Bool) → After f true lock → EffectOk f.status e → After (closed_by f e).chip true lock
closed_good f Nothing lock h k =
    bare_good Idle f.cycle f.status f.page true lock tt h.in_cycle_lem h.in_status h.whole (in_cycle_of f.cycle tt) h.known tt lit
closed_good f (Status s) lock h k =
    bare_good Idle f.cycle (Some s) f.page true lock tt h.in_cycle_lem k h.whole (in_cycle_of f.cycle tt) (in_cycle_of f.cycle tt) tt lit
closed_good f (Start c) lock h k =
    bare_good Idle (Some c) f.status f.page true lock tt k.0 h.in_status h.whole tt k.1 tt lit

-- ---- `end`
no_fact : (fr : FlashFrame) → Waits fr → fact_of fr ≡ Absent
no_fact fr h = search rules

absent_ok : (fact : LockFact) (st : Option ℕ) (lock : Bool) → fact ≡ Absent → FactOk fact st lock
absent_ok fact st lock e = subst (λ (x : LockFact). FactOk x st lock) (sym e) tt

end_ok : (c : Option FlashCycle) (st : Option ℕ) → CycleOk c → FlashStatusOk st → FlashStatusOk (end_status c st)
end_ok c st d h = search (kept_bits_lem, bits_of, rules)

after_end : (c : Option FlashCycle) (fr : FlashFrame) (st : Option ℕ) (p : List ℕ) (lock : Bool) → Waits fr → Fields fr c st p true lock → Fields fr None (end_status c st) blank true lock
after_end c fr st p lock w h =
    bare_good fr None (end_status c st) p true lock h.in_frame tt (end_ok c st h.in_cycle_lem h.in_status) h.whole tt tt
    (absent_ok (fact_of fr) (end_status c st) lock (no_fact fr w)) lit

end_good : (c : Option FlashCycle) (fr : FlashFrame) (st : Option ℕ) (p : List ℕ) (w : ℕ) (lock : Bool) → Fields fr c st p true lock
    → After (powered_of (record { frame = fr; cycle = c; status = st; page = p }) event.End lock w).chip true lock
end_good None fr st p w lock h = h
end_good (Some c) fr st p w lock h = after_end (Some c) fr st p lock h.waits h

-- ---- a record of channel F
powered_good : (f : Flash) (e : FlashEvent) (w : ℕ) (lock : Bool) → After f true lock → After (powered_of f e lock w).chip true lock
powered_good f event.Select w lock h =
    bare_good (Selected (fact_at (running_of f.cycle) f.status lock)) f.cycle f.status f.page true lock tt h.in_cycle_lem h.in_status h.whole
    (fact_waits f.cycle f.status lock) h.known (fact_ok (running_of f.cycle) f.status lock) lit
powered_good f (event.Byte si so) w lock h = byte_good f.frame f.cycle f.status f.page si w lock h
powered_good f event.Cut w lock h =
    bare_good Void f.cycle f.status f.page true lock tt h.in_cycle_lem h.in_status h.whole (in_cycle_of f.cycle tt) h.known tt lit
powered_good f event.Deselect w lock h =
    closed_good f (effect_in f.frame f.status) lock h (effect_ok f.frame f.status h.in_frame h.in_status)
powered_good f event.End w lock h = end_good f.cycle f.frame f.status f.page w lock h

shut_good : (f : Flash) (fr : FlashFrame) (lock : Bool) → FrameOk fr → Waits fr → Shut fr → fact_of fr ≡ Absent → After f false lock
    → Fields fr f.cycle f.status (page_in f.cycle f.page) false lock
shut_good f fr lock o w s x h =
    bare_good fr f.cycle f.status f.page false lock o h.in_cycle_lem h.in_status h.whole (in_cycle_of f.cycle w) h.known
    (absent_ok (fact_of fr) f.status lock x) (λ e. ((h.dark refl).0, s))

dark_good : (f : Flash) (e : FlashEvent) (lock : Bool) → After f false lock → After (dark_of f e).chip false lock
dark_good f e lock h = search (shut_good, rules)

step_good : (f : Flash) (e : FlashEvent) (w : ℕ) (supply lock : Bool) → After f supply lock → After (pick supply (powered_of f e lock w) (dark_of f e)).chip supply lock
step_good f e w true lock h = powered_good f e w lock h
step_good f e w false lock h = dark_good f e lock h

-- ---- a record of channel L
void_ok : (fr : FlashFrame) → FrameOk (voided_by fr)
void_ok fr = search rules

pub void_shut : (fr : FlashFrame) → Shut (voided_by fr)
void_shut fr = search rules

void_fact : (fr : FlashFrame) → fact_of (voided_by fr) ≡ Absent
void_fact fr = search rules

off_ok : (c : Option FlashCycle) (st : Option ℕ) → FlashStatusOk st → FlashStatusOk (off_status c st)
off_ok c st h = search (kept_bits_lem, rules)

off_good : (f : Flash) (lock : Bool) → After f true lock → After (supply_off_of f) false lock
off_good f lock h =
    bare_good (voided_by f.frame) None (off_status f.cycle f.status) f.page false lock (void_ok f.frame) tt (off_ok f.cycle f.status h.in_status)
    h.whole tt tt (absent_ok (fact_of (voided_by f.frame)) (off_status f.cycle f.status) lock (void_fact f.frame)) (λ e. (refl, void_shut f.frame))

lock_frame : (fr : FlashFrame) → FrameOk fr → FrameOk (locked_frame fr)
lock_frame fr h = search rules

lock_waits : (fr : FlashFrame) → Waits fr → Waits (locked_frame fr)
lock_waits fr h = search rules

lock_shut : (fr : FlashFrame) → Shut fr → Shut (locked_frame fr)
lock_shut fr h = search rules

lock_sends : (fr : FlashFrame) → sends_page (locked_frame fr) ≡ sends_page fr
lock_sends fr = search rules

locked_ok : (fact : LockFact) (st : Option ℕ) → FactOk fact st false → FactOk (locked_fact fact) st true
locked_ok fact st h = search rules

lock_fact : (fr : FlashFrame) → fact_of (locked_frame fr) ≡ locked_fact (fact_of fr)
lock_fact fr = search rules

lock_good : (f : Flash) (supply : Bool) → After f supply false → After (lock_on_of f) supply true
lock_good f supply h = record {
  in_frame = lock_frame f.frame h.in_frame;
  in_cycle_lem = h.in_cycle_lem;
  in_status = h.in_status;
  whole = h.whole;
  waits = in_cycle_as f.cycle (lock_waits f.frame) h.waits;
  known = h.known;
  kept_page = subst (λ (t : Bool). BlankUnless (pick (writes_page f.cycle) true t) f.page) (sym (lock_sends f.frame)) h.kept_page;
  in_fact = subst (λ (x : LockFact). FactOk x f.status true) (sym (lock_fact f.frame)) (locked_ok (fact_of f.frame) f.status h.in_fact);
  dark = λ e. ((h.dark e).0, lock_shut f.frame (h.dark e).1);
}

freed_ok : (fact : LockFact) (st : Option ℕ) (lock : Bool) → FactOk fact st lock → FactOk fact st false
freed_ok fact st lock h = search rules

-- other lines
lines_good : (f : Flash) (supply lock supply' lock' : Bool) → FactOk (fact_of f.frame) f.status lock' → (supply' ≡ false → supply ≡ false) → After f supply lock → After f supply' lock'
lines_good f supply lock supply' lock' x d h = record {
  in_frame = h.in_frame;
  in_cycle_lem = h.in_cycle_lem;
  in_status = h.in_status;
  whole = h.whole;
  waits = h.waits;
  known = h.known;
  kept_page = h.kept_page;
  in_fact = x;
  dark = λ e. h.dark (d e);
}

line_good : (f : Flash) (e : LineEvent) (supply lock : Bool) → After f supply lock → Good (side_line (record { chip = f; lines = record { supply = supply; lock = lock } }) e)
line_good f SupplyOn supply lock h = lines_good f supply lock true lock h.in_fact (λ e. lit e) h
line_good f SupplyOff true lock h = off_good f lock h
line_good f SupplyOff false lock h = h
line_good f LockOn supply true h = h
line_good f LockOn supply false h = lock_good f supply h
line_good f LockOff supply lock h = lines_good f supply lock supply false (freed_ok (fact_of f.frame) f.status lock h.in_fact) (λ e. e) h

-- ---- the theorems
pub good_start : (status : ℕ) → status < 256 → Good (side_start status)
good_start status h = record {
  in_frame = tt;
  in_cycle_lem = tt;
  in_status = kept_bits_lem status h;
  whole = refl;
  waits = tt;
  known = tt;
  kept_page = refl;
  in_fact = tt;
  dark = lit;
}

pub good_bus : (watched : ℕ) (s : Side) (e : FlashEvent) → Good s → Good (side_bus watched s e)
good_bus watched s e h = step_good s.chip e watched s.lines.supply s.lines.lock h

pub good_line : (s : Side) (e : LineEvent) → Good s → Good (side_line s e)
good_line s e h = line_good s.chip e s.lines.supply s.lines.lock h
