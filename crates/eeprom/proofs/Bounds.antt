-- What every state that is reached keeps (`Good`): it holds at the start, and every bus record and every line record keeps it.
-- Assumes nothing.
use Prim.Native.Nat.{ℕ, ◌+◌, ◌-◌, ◌%◌, ◌<◌, ◌≤◌}
use native.Mathlib.Nat.{mod-add-mod}
use native.Mathlib.Omega.{arith}
use mathlib.Core.Bool.{Bool, true, false}
use mathlib.Core.Path.{◌≡◌, refl, sym, ap, subst, ◌∙◌}
use mathlib.Core.List.{List}
use lib.Dec.{ltb, eqb}
use lib.ListN.{get_or, length-set, length-replicate, get_or-replicate}
use lib.Seq.{get_or-set_other, ext_get_or}
use borrow.Author.Tests.{ltb-true, ltb-false, le-ltb, eqb-false}
use Rattle.std.proofs.Common.{rules}
use Rattle.std.specs.Prelude.{Option, Some, None}
use Rattle.law.specs.Choice.{split, of_both, true_not_false}
use Rattle.law.specs.Words.{pick}
use Rattle.page.specs.Geometry.{eeprom_size}
use Rattle.page.specs.Rolling.{sent_place}
use Rattle.record.specs.declared.Skeleton.TheVariants.{Ack, NoAck, Starts}
use Rattle.record.specs.declared.EepromEvent.{EepromEvent}
use Rattle.record.specs.declared.EepromEvent.TheVariants.{Start, Byte, Cut, Stop, End}
use Rattle.record.specs.declared.LineEvent.{LineEvent}
use Rattle.record.specs.declared.LineEvent.TheVariants.{SupplyOn, SupplyOff, LockOn, LockOff}
use Rattle.record.specs.declared.Lines.{Lines}
use Rattle.eeprom.specs.Chip.{blank, running_of, in_frame, answered, silent_in, place_of}
use Rattle.eeprom.specs.Write.{next_in_page, counted, first_sent, sent_by}
use Rattle.eeprom.specs.Frame.{own_address, opened_by, address_of, moved_on, after_read, data_byte, byte_in}
use Rattle.eeprom.specs.Step.{write_ends, stop_in, end_of, powered_of, unpowered_of, step_of, voided_by, off_of}
use Rattle.eeprom.specs.Side.{Side, side_start, side_bus, side_line}
use Rattle.eeprom.specs.Good.{CounterGood, FrameGood, Waits, FrameIn, SentGood, count_of, Fields, ChipGood, Shut, Dark, Good}
use Rattle.eeprom.specs.declared.Sent.{Sent}
use Rattle.eeprom.specs.declared.EepromFrame.{EepromFrame}
use Rattle.eeprom.specs.declared.EepromFrame.TheVariants.{Idle, Void, Opened, Addressed, Half, Taking, Reading}
use Rattle.eeprom.specs.declared.Eeprom.{Eeprom}
use Rattle.eeprom.specs.declared.EepromStep.{EepromStep}
use Rattle.page.specs.Laws.{sent_all_lem}
use Rattle.eeprom.proofs.Rolling.{next_low, next_small, counted_less, counted_small, first_less, first_all, first_small}

abbrev StepGood : EepromStep → Type 0
StepGood s = ChipGood s.chip

abbrev chip : EepromFrame → Option Sent → Option ℕ → List ℕ → Eeprom
chip f c n p = record { frame = f; cycle = c; counter = n; page = p }

-- ---- a page without data is blank
module _ (f : EepromFrame) (n : Option ℕ) (p : List ℕ) (h : Fields f None n p) (none : count_of f ≡ 0) where
  all_empty : (q : ℕ) → q < 64 → get_or p q 0 ≡ 0
  all_empty q l =
      h.empty q l
      (le-ltb ((q + (64 - first_sent (place_of n) (count_of f))) % 64) (count_of f) (omega arith))

  pub is_blank : p ≡ blank
  is_blank =
      ext_get_or 0 p blank (h.long ∙ sym (length-replicate {A = ℕ} 64 0))
      (λ q l.
      let m : q < 64 = subst (λ (k : ℕ). q < k) h.long l in
      all_empty q m ∙ sym (get_or-replicate {A = ℕ} 64 q 0 0 m))

  -- and stays so in another frame, with another counter
  unsent : (g : EepromFrame) (m : Option ℕ) → FrameGood g m → CounterGood m → Fields g None m p
  unsent g m i j =
      record {
        in_frame = i;
        in_cycle_lem = tt;
        in_counter = j;
        long = h.long;
        empty = λ q l e. all_empty q l;
      }

blank_good : (f : EepromFrame) (n : Option ℕ) → FrameGood f n → CounterGood n → Fields f None n blank
blank_good f n h k =
    record {
      in_frame = h;
      in_cycle_lem = tt;
      in_counter = k;
      long = length-replicate {A = ℕ} 64 0;
      empty = λ q l e. get_or-replicate {A = ℕ} 64 q 0 0 l;
    }

in_frame_good : (c : Option Sent) (f g : EepromFrame) (n : Option ℕ) (p : List ℕ) → Fields g c n p → FrameIn c f n → ChipGood (in_frame (chip g c n p) f)
in_frame_good None f g n p h k = blank_good f n k h.in_counter
in_frame_good (Some s) f g n p h k =
    record {
      in_frame = k;
      in_cycle_lem = h.in_cycle_lem;
      in_counter = h.in_counter;
      long = h.long;
      empty = h.empty;
    }

void_in : (c : Option Sent) (n : Option ℕ) → FrameIn c Void n
void_in c n = search rules

idle_in : (c : Option Sent) (n : Option ℕ) → FrameIn c Idle n
idle_in c n = search rules

opened_in : (c : Option Sent) (n : Option ℕ) → FrameIn c (Opened (running_of c)) n
opened_in c n = search rules

unless : (t : Bool) (a b : EepromStep) → StepGood a → (t ≡ false → StepGood b) → StepGood (pick t a b)
unless true a b p q = p
unless false a b p q = q refl

by_address : (t : Bool) (n : Option ℕ) → FrameGood (pick t Reading Addressed) n
by_address t n = search rules

-- ---- one data byte more
-- after 64 bytes no place is left
all_sent : (p n q : ℕ) → 64 ≤ n → sent_place 64 (first_sent p n) n q ≡ false → ⊥
all_sent p n q m e = true_not_false (sym (sent_all_lem 64 (first_sent p n) (first_small p n) n q m) ∙ e)

-- the first place stays while some are left
first_stays : (a k : ℕ) → k + 1 < 64 → ((a + 1) % 64 + (64 - (k + 1))) % 64 ≡ (a + (64 - k)) % 64
first_stays a k h = mod-add-mod (a + 1) 64 (64 - (k + 1)) ∙ ap (λ (n : ℕ). n % 64) (omega arith)

-- the byte's place is the k-th after the first
pub is_next : (a k : ℕ) → a < 64 → k < 64 → (a + (64 - (a + (64 - k)) % 64)) % 64 ≡ k
is_next a k h l = omega arith

full : (k : ℕ) → k ≤ 64 → 63 ≤ k → 64 ≤ counted k
full k h m = split (ltb k 64) (λ t. let l = ltb-true k 64 t in simp (t) (omega arith)) (λ t. simp (t) (omega arith))

module _ (k p b : ℕ) (page : List ℕ) (small : k ≤ 64) (inside : p < eeprom_size) where
  -- a place that is not sent after a byte was not sent before it, and is not the byte's
  before : (q : ℕ) → q < 64 → sent_place 64 (first_sent (next_in_page p) (counted k)) (counted k) q ≡ false → (sent_place 64 (first_sent p k) k q ≡ false) × (q ≡ p % 64 → ⊥)
  before q l e =
      split (ltb k 63)
      (λ t.
      let m = ltb-true k 63 t in
      let f : first_sent (next_in_page p) (counted k) ≡ (p % 64 + (64 - k)) % 64
      = rw (counted_less k (omega arith)) (first_less (next_in_page p) (k + 1) (omega arith) ∙ rw (next_low p) (first_stays (p % 64) k (omega arith))) in
      let z : counted k ≤ (q + (64 - first_sent (next_in_page p) (counted k))) % 64 = ltb-false _ _ e in
      let y : k + 1 ≤ (q + (64 - (p % 64 + (64 - k)) % 64)) % 64 = rw (f, counted_less k (omega arith)) at z in (
        le-ltb ((q + (64 - first_sent p k)) % 64) k (rw (first_less p k (omega arith)) (omega arith)),
        λ i. let w = is_next (p % 64) k (omega arith) (omega arith) in let v = rw i at y in omega arith,
      ))
      (λ t.
      let m = ltb-false k 63 t in
      let g : 64 ≤ counted k = full k small m in
      absurd (all_sent (next_in_page p) (counted k) q g e))

  data_good : Fields (Taking k) None (Some p) page → StepGood (data_byte (chip (Taking k) None (Some p) page) k b)
  data_good h =
      record {
        in_frame = (counted_small k, tt);
        in_cycle_lem = tt;
        in_counter = next_small p inside;
        long = length-set page (p % 64) b ∙ h.long;
        empty = λ q l e. get_or-set_other page (p % 64) q b 0 (before q l e).1 ∙ h.empty q l (before q l e).0;
      }

read_frame : (bit : Bool) (n : Option ℕ) → FrameGood (after_read bit) n
read_frame bit n = search rules

moved_good : (n : Option ℕ) → CounterGood n → CounterGood (moved_on n)
moved_good n h = search rules

address_small : (h b : ℕ) → address_of h b < eeprom_size
address_small h b = omega arith

half_small : (b : ℕ) → b % 128 < 128
half_small b = omega arith

byte_good : (f : EepromFrame) (c : Option Sent) (n : Option ℕ) (p : List ℕ) (b : ℕ) (bit : Bool) (w : ℕ) → Fields f c n p
    → StepGood (byte_in f (chip f c n p) b bit w)
byte_good Idle c n p b bit w h = h
byte_good Void c n p b bit w h = h
byte_good (Opened true) c n p b bit w h =
    let x = chip (Opened true) c n p in
    let void = in_frame_good c Void (Opened true) n p h (void_in c n) in
    of_both StepGood (own_address b w) (answered (in_frame x Void) NoAck) (silent_in x Void) void void
byte_good (Opened false) None n p b bit w h =
    let x = chip (Opened false) None n p in
    of_both StepGood (own_address b w) (answered (in_frame x (opened_by b)) Ack) (silent_in x Void)
    (in_frame_good None (opened_by b) (Opened false) n p h (by_address (eqb (b % 2) 1) n))
    (in_frame_good None Void (Opened false) n p h tt)
byte_good (Opened false) (Some s) n p b bit w h = absurd h.in_frame
byte_good Addressed None n p b bit w h = in_frame_good None (Half (b % 128)) Addressed n p h (half_small b)
byte_good Addressed (Some s) n p b bit w h = absurd h.in_frame
byte_good (Half high) None n p b bit w h = unsent (Half high) n p h refl (Taking 0) (Some (address_of high b)) (omega arith, tt) (address_small high b)
byte_good (Half high) (Some s) n p b bit w h = absurd h.in_frame
byte_good (Taking k) None None p b bit w h = absurd h.in_frame.1
byte_good (Taking k) None (Some a) p b bit w h = data_good k a b p h.in_frame.0 h.in_counter h
byte_good (Taking k) (Some s) n p b bit w h = absurd h.in_frame
byte_good Reading None n p b bit w h =
    unsent Reading n p h refl (after_read bit) (moved_on n) (read_frame bit (moved_on n)) (moved_good n h.in_counter)
byte_good Reading (Some s) n p b bit w h = absurd h.in_frame

-- ---- `sto`
sent_good : (p k : ℕ) → p < eeprom_size → k ≤ 64 → (k ≡ 0 → ⊥) → SentGood (sent_by p k) p
sent_good p k h l z =
    record {
      in_chip_lem = omega arith;
      in_page_lem = first_small p k;
      some = omega (arith, z);
      no_more = l;
      all = λ m. first_all p k m;
      here = refl;
      past = λ m. rw (first_less p k m) (omega arith);
    }

write_good : (n : Option ℕ) (k : ℕ) (p : List ℕ) (lock : Bool) → Fields (Taking k) None n p → StepGood (write_ends (chip (Taking k) None n p) k lock)
write_good None k p lock h = absurd h.in_frame.1
write_good (Some a) k p lock h =
    let x = chip (Taking k) None (Some a) p in
    let starts = answered (chip Idle (Some (sent_by a k)) (Some a) p) Starts in
    let idle = blank_good Idle (Some a) tt h.in_counter in
    unless (eqb k 0) (silent_in x Idle) (pick lock (silent_in x Idle) starts) idle
    (λ e.
    of_both StepGood lock (silent_in x Idle) starts idle
    (record {
      in_frame = tt;
      in_cycle_lem = sent_good a k h.in_counter h.in_frame.0 (eqb-false k 0 e);
      in_counter = h.in_counter;
      long = h.long;
      empty = h.empty;
    }))

stop_good : (f : EepromFrame) (c : Option Sent) (n : Option ℕ) (p : List ℕ) (lock : Bool) → Fields f c n p → StepGood (stop_in f (chip f c n p) lock)
stop_good Idle c n p lock h = in_frame_good c Idle Idle n p h (idle_in c n)
stop_good Void c n p lock h = in_frame_good c Idle Void n p h (idle_in c n)
stop_good (Opened b) c n p lock h = in_frame_good c Idle (Opened b) n p h (idle_in c n)
stop_good Addressed c n p lock h = in_frame_good c Idle Addressed n p h (idle_in c n)
stop_good (Half high) c n p lock h = in_frame_good c Idle (Half high) n p h (idle_in c n)
stop_good (Taking k) None n p lock h = write_good n k p lock h
stop_good (Taking k) (Some s) n p lock h = absurd h.in_frame
stop_good Reading c n p lock h = in_frame_good c Idle Reading n p h (idle_in c n)

-- ---- `end` and the supply
waits_good : (f : EepromFrame) (n : Option ℕ) → Waits f → FrameGood f n
waits_good f n h = search rules

end_good : (c : Option Sent) (f : EepromFrame) (n : Option ℕ) (p : List ℕ) → Fields f c n p → StepGood (end_of (chip f c n p))
end_good None f n p h = h
end_good (Some s) f n p h = blank_good f n (waits_good f n h.in_frame) h.in_counter

powered_good : (x : Eeprom) (e : EepromEvent) (lock : Bool) (w : ℕ) → ChipGood x → StepGood (powered_of x e lock w)
powered_good x Start lock w h = in_frame_good x.cycle (Opened (running_of x.cycle)) x.frame x.counter x.page h (opened_in x.cycle x.counter)
powered_good x (Byte b bit) lock w h = byte_good x.frame x.cycle x.counter x.page b bit w h
powered_good x Cut lock w h = in_frame_good x.cycle Void x.frame x.counter x.page h (void_in x.cycle x.counter)
powered_good x Stop lock w h = stop_good x.frame x.cycle x.counter x.page lock h
powered_good x End lock w h = end_good x.cycle x.frame x.counter x.page h

unpowered_good : (x : Eeprom) (e : EepromEvent) → ChipGood x → StepGood (unpowered_of x e)
unpowered_good x Start h = in_frame_good x.cycle Void x.frame x.counter x.page h (void_in x.cycle x.counter)
unpowered_good x (Byte b bit) h = h
unpowered_good x Cut h = in_frame_good x.cycle Void x.frame x.counter x.page h (void_in x.cycle x.counter)
unpowered_good x Stop h = in_frame_good x.cycle Idle x.frame x.counter x.page h (idle_in x.cycle x.counter)
unpowered_good x End h = h

-- ---- chips alone
pub step_good : (x : Eeprom) (e : EepromEvent) (l : Lines) (w : ℕ) → ChipGood x → ChipGood (step_of x e l w).chip
step_good x e l w h = of_both StepGood l.supply (powered_of x e l.lock w) (unpowered_of x e) (powered_good x e l.lock w h) (unpowered_good x e h)

voided_shut : (f : EepromFrame) → Shut (voided_by f)
voided_shut f = search rules

shut_good : (f : EepromFrame) → Shut f → FrameGood f None
shut_good f h = search rules

pub off_good : (x : Eeprom) → ChipGood (off_of x)
off_good x = blank_good (voided_by x.frame) None (shut_good (voided_by x.frame) (voided_shut x.frame)) tt

pub off_dark : (x : Eeprom) → Dark (off_of x)
off_dark x = record { shut = voided_shut x.frame; none = refl; lost = refl }

unpowered_dark : (x : Eeprom) (e : EepromEvent) → Dark x → Dark (unpowered_of x e).chip
unpowered_dark x e h = search rules

step_dark : (x : Eeprom) (e : EepromEvent) (supply lock : Bool) (w : ℕ) → supply ≡ false → (supply ≡ false → Dark x)
    → Dark (pick supply (powered_of x e lock w) (unpowered_of x e)).chip
step_dark x e true lock w q h = absurd (true_not_false q)
step_dark x e false lock w q h = unpowered_dark x e (h q)

-- ---- THE THEOREMS: the start, a bus record and a line record
pub good_start : Good side_start
good_start = record { chip_good = blank_good Idle None tt tt; dark = λ e. absurd (true_not_false e) }

pub good_bus : (w : ℕ) (s : Side) (e : EepromEvent) → Good s → Good (side_bus w s e)
good_bus w s e h =
    record {
      chip_good = step_good s.chip e s.lines w h.chip_good;
      dark = λ q. step_dark s.chip e s.lines.supply s.lines.lock w q h.dark;
    }

line_dark : (x : Eeprom) (t : Bool) → (t ≡ false → Dark x) → Dark (pick t (off_of x) x)
line_dark x t h = search (off_dark, rules)

pub good_line : (s : Side) (e : LineEvent) → Good s → Good (side_line s e)
good_line s SupplyOn h = record { chip_good = h.chip_good; dark = λ q. absurd (true_not_false q) }
good_line s SupplyOff h =
    record {
      chip_good = of_both ChipGood s.lines.supply (off_of s.chip) s.chip (off_good s.chip) h.chip_good;
      dark = λ q. line_dark s.chip s.lines.supply h.dark;
    }
good_line s LockOn h = record { chip_good = h.chip_good; dark = h.dark }
good_line s LockOff h = record { chip_good = h.chip_good; dark = h.dark }

-- ---- in a cycle the frame takes no byte that moves the counter or the page
pub in_cycle_waits : (x : Eeprom) → ChipGood x → running_of x.cycle ≡ true → Waits x.frame
in_cycle_waits x h e = waits x.cycle x.frame x.counter h.in_frame e
  where
    waits : (c : Option Sent) (f : EepromFrame) (n : Option ℕ) → FrameIn c f n → running_of c ≡ true → Waits f
    waits None f n k e = absurd (true_not_false (sym e))
    waits (Some s) f n k e = k
