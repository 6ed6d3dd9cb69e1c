-- A whole PROGRAM: from `sel` to `des` the page holds the data bytes by the page's rolling, and the cycle that starts is for the page of their address.
-- So a later byte for a place replaces the earlier. Assumes nothing.
use Prim.Native.Nat.{ℕ, suc, ◌+◌, ◌*◌, ◌/◌, ◌%◌, ◌<◌, ◌≤◌}
use native.Mathlib.Omega.{arith}
use mathlib.Core.Bool.{Bool, true, false}
use mathlib.Core.Logic.{◌≢◌}
use mathlib.Core.Path.{◌≡◌, refl, sym, ap, ap₂, ◌∙◌}
use mathlib.Core.List.{List, [], ◌∷◌, ◌++◌}
use lib.ListN.{length, get_or, set, length-replicate}
use Rattle.std.specs.Prelude.{Option, Some, None}
use Rattle.law.specs.Choice.{true_not_false}
use Rattle.law.specs.Words.{pick}
use Rattle.page.specs.Geometry.{flash_page, flash_size}
use Rattle.page.specs.Roll.{place, roll, place_after}
use Rattle.page.specs.Laws.{after_page, after_low, after_none, next_is, after_next, roll_sent}
use Rattle.record.specs.declared.Record.{Record}
use Rattle.record.specs.declared.Event.{Event}
use Rattle.record.specs.declared.Event.TheVariants as event
use Rattle.record.specs.declared.FlashEvent.TheVariants.{Select, Byte, Deselect}
use Rattle.record.specs.declared.LineEvent.TheVariants.{SupplyOn, SupplyOff, LockOn, LockOff}
use Rattle.record.specs.declared.Skeleton.TheVariants.{Starts}
use Rattle.flash.specs.Code.{decode_of, sector_of, sector_locked, enabled}
use Rattle.flash.specs.Frame.{fact_at, op_code_sent, opened_by, with_byte, next_sent, page_after, rolled_on, locked_fact, locked_frame}
use Rattle.flash.specs.Cycle.{blank, starts_if}
use Rattle.flash.specs.Step.{closed_by, step_of}
use Rattle.flash.specs.Side.{Side, side_bus, side_line}
use Rattle.flash.specs.declared.Op.{Op}
use Rattle.flash.specs.declared.Op.TheVariants as op
use Rattle.flash.specs.declared.LockFact.{LockFact}
use Rattle.flash.specs.declared.Sent.{Sent}
use Rattle.flash.specs.declared.FlashFrame.{FlashFrame}
use Rattle.flash.specs.declared.FlashFrame.TheVariants.{Idle, Selected, Command}
use Rattle.flash.specs.declared.FlashCycle.TheVariants as cycle
use Rattle.flash.specs.declared.Flash.{Flash}
use Rattle.flash.specs.declared.FlashStep.{FlashStep}

-- ---- the records of a trace, as far as they reach the flash
abbrev pub side_moved : ℕ → Side → Event → Side
side_moved watched x (event.Flash e) = side_bus watched x e
side_moved watched x (event.Eeprom e) = x
side_moved watched x (event.Line e) = side_line x e

unfoldable pub side_after : ℕ → List Record → Side → Side
side_after watched [] x = x
side_after watched (r ∷ rs) x = side_after watched rs (side_moved watched x r.event)

-- a record that is not of the flash's bus and leaves the supply on
abbrev pub beside : Event → Bool
beside (event.Flash e) = false
beside (event.Eeprom e) = true
beside (event.Line SupplyOn) = true
beside (event.Line SupplyOff) = false
beside (event.Line LockOn) = true
beside (event.Line LockOff) = true

-- records that send these bytes, whatever came back; between them the lock may come and go, and the EEPROM have records of its own
pub data Sends : List Record → List ℕ → Type 0 where
  done : Sends [] []
  byte : (stamp si so : ℕ) {rs : List Record} {ds : List ℕ} → Sends rs ds → Sends (record { stamp = stamp; event = event.Flash (Byte si so) } ∷ rs) (si ∷ ds)
  other : (r : Record) {rs : List Record} {ds : List ℕ} → beside r.event ≡ true → Sends rs ds → Sends (r ∷ rs) ds

-- the flash with the supply on, no cycle, and the status known
abbrev pub awake : FlashFrame → ℕ → List ℕ → Bool → Side
awake frame status page lock = record {
  chip = record { frame = frame; cycle = None; status = Some status; page = page };
  lines = record { supply = true; lock = lock };
}

-- the bytes so far and the page, by the frame's rules alone
unfoldable sent_all : Sent → List ℕ → Sent
sent_all sent [] = sent
sent_all sent (d ∷ ds) = sent_all (next_sent op.Program sent d) ds

unfoldable page_all : Sent → List ℕ → List ℕ → List ℕ
page_all sent [] page = page
page_all sent (d ∷ ds) page = page_all (next_sent op.Program sent d) ds (page_after op.Program sent d page)

-- an open frame with some lock fact, with some level of the lock
abbrev Reaches : Side → (LockFact → FlashFrame) → ℕ → List ℕ → Type 0
Reaches x frame status page = (fact : LockFact) × (lock : Bool) × (x ≡ awake (frame fact) status page lock)

module _ (watched status : ℕ) where
  -- what is not of the bus changes no more than the fact and the lock
  beside_keeps : (frame : LockFact → FlashFrame) → ((fact : LockFact) → locked_frame (frame fact) ≡ frame (locked_fact fact)) → (page : List ℕ) (fact : LockFact) (lock : Bool) (e : Event) → beside e ≡ true
      → Reaches (side_moved watched (awake (frame fact) status page lock) e) frame status page
  beside_keeps frame h page fact lock (event.Flash e) t = absurd (true_not_false (sym t))
  beside_keeps frame h page fact lock (event.Eeprom e) t = (fact, lock, refl)
  beside_keeps frame h page fact lock (event.Line SupplyOn) t = (fact, lock, refl)
  beside_keeps frame h page fact lock (event.Line SupplyOff) t = absurd (true_not_false (sym t))
  beside_keeps frame h page fact true (event.Line LockOn) t = (fact, true, refl)
  beside_keeps frame h page fact false (event.Line LockOn) t = (locked_fact fact, true, ap (λ (f : FlashFrame). awake f status page true) (h fact))
  beside_keeps frame h page fact lock (event.Line LockOff) t = (fact, false, refl)

  -- after the op-code
  sends_on : {rs : List Record} {ds : List ℕ} → Sends rs ds → (sent : Sent) (page : List ℕ) (fact : LockFact) (lock : Bool)
      → Reaches (side_after watched rs (awake (Command op.Program sent fact) status page lock)) (Command op.Program (sent_all sent ds)) status (page_all sent ds page)
  unfolding side_after sent_all page_all
  sends_on done sent page fact lock = (fact, lock, refl)
  sends_on (byte stamp si so k) sent page fact lock = sends_on k (next_sent op.Program sent si) (page_after op.Program sent si page) fact lock
  sends_on {ds = ds} (other r {rs = rs} t k) sent page fact lock =
      let w = beside_keeps (Command op.Program sent) (λ f. refl) page fact lock r.event t in
      let v = sends_on k sent page w.0 w.1 in
      (v.0, v.1, ap (side_after watched rs) w.2 ∙ v.2)

  -- the op-code is the first byte
  sends_first : {rs : List Record} {ds : List ℕ} (b : ℕ) → decode_of b ≡ Some op.Program → Sends rs (b ∷ ds) → (fact : LockFact) (lock : Bool)
      → Reaches (side_after watched rs (awake (Selected fact) status blank lock)) (Command op.Program (sent_all op_code_sent ds)) status (page_all op_code_sent ds blank)
  unfolding side_after
  sends_first b h (byte stamp si so {rs = rs} k) fact lock =
      let v = sends_on k op_code_sent blank fact lock in
      (v.0, v.1, ap (λ (d : Option Op). side_after watched rs (awake (opened_by false d fact) status blank lock)) h ∙ v.2)
  sends_first b h (other r {rs = rs} t k) fact lock =
      let w = beside_keeps Selected (λ f. refl) blank fact lock r.event t in
      let v = sends_first b h k w.0 w.1 in
      (v.0, v.1, ap (side_after watched rs) w.2 ∙ v.2)

-- ---- the data bytes roll: from the second on the count stays
abbrev sent_to : ℕ → ℕ → Sent
sent_to count place = record { count = count; place = place }

sent_rolls : (ds : List ℕ) (p : ℕ) → sent_all (sent_to 5 p) ds ≡ sent_to 5 (place_after flash_page p (length ds))
unfolding sent_all
sent_rolls [] p = ap (sent_to 5) (sym (after_none flash_page (omega arith) p))
sent_rolls (d ∷ ds) p = sent_rolls ds (rolled_on p) ∙ ap (sent_to 5) (after_next flash_page (omega arith) p (length ds))

next_low : (p : ℕ) → rolled_on p % flash_page ≡ (p % flash_page + 1) % flash_page
next_low p = ap (λ (q : ℕ). q % flash_page) (next_is flash_page (omega arith) p) ∙ after_low flash_page (omega arith) p 1

page_rolls : (ds : List ℕ) (p : ℕ) (page : List ℕ) → page_all (sent_to 5 p) ds page ≡ roll flash_page (p % flash_page) ds page
unfolding page_all
page_rolls [] p page = refl
page_rolls (d ∷ ds) p page =
    page_rolls ds (rolled_on p) (set page (p % flash_page) d) ∙ ap (λ (q : ℕ). roll flash_page q ds (set page (p % flash_page) d)) (next_low p)

-- three address bytes, high first; A23 to A17 are ignored
abbrev pub address_of : ℕ → ℕ → ℕ → ℕ
address_of high middle low = (high * 65536 + middle * 256 + low) % flash_size

byte_in_lem : (p b : ℕ) → with_byte (p % flash_size) b ≡ (p * 256 + b) % flash_size
byte_in_lem p b = omega arith

address_in : (high middle low : ℕ) → with_byte (with_byte (with_byte 0 high) middle) low ≡ address_of high middle low
address_in high middle low =
    let first : with_byte 0 high ≡ high % flash_size = omega arith in
    let second : with_byte (with_byte 0 high) middle ≡ (high * 256 + middle) % flash_size = ap (λ (p : ℕ). with_byte p middle) first ∙ byte_in_lem high middle in
    ap (λ (p : ℕ). with_byte p low) second ∙ byte_in_lem (high * 256 + middle) low ∙ ap (λ (n : ℕ). n % flash_size) (omega arith)

-- a place of the same page is in the same sector
same_sector : (p a : ℕ) → p / flash_page ≡ a / flash_page → sector_of p ≡ sector_of a
same_sector p a e = omega arith

-- the chip that writes these data bytes from address a on, and the `des` that started it
abbrev pub programming : ℕ → ℕ → List ℕ → Flash
programming status a ds =
    record { frame = Idle; cycle = Some (cycle.Program (a / flash_page)); status = Some status; page = roll flash_page (a % flash_page) ds blank }

abbrev pub starting : Flash → FlashStep
starting f = record { chip = f; reply = Starts }

-- the chip after `des`, and its reply
abbrev pub deselected : ℕ → Side → FlashStep
deselected watched x = step_of x.chip Deselect x.lines watched

-- `des` after five bytes or more, with write enable on and the sector not locked
des_starts : (watched status p : ℕ) (fact : LockFact) (page : List ℕ) (lock : Bool) → enabled status ≡ true → sector_locked status (sector_of p) ≡ false
    → deselected watched (awake (Command op.Program (sent_to 5 p) fact) status page lock) ≡ starting (record { frame = Idle; cycle = Some (cycle.Program (p / flash_page)); status = Some status; page = page })
des_starts watched status p fact page lock e g =
    let f : Flash = (awake (Command op.Program (sent_to 5 p) fact) status page lock).chip in
    ap₂ (λ (barred may : Bool). closed_by f (starts_if (pick barred false may) (cycle.Program (p / flash_page)))) g e

module _ (watched status : ℕ) (enable : enabled status ≡ true) (code high middle low : ℕ) (program : decode_of code ≡ Some op.Program)
    (free : sector_locked status (sector_of (address_of high middle low)) ≡ false) where
  abbrev a : ℕ
  a = address_of high middle low

  all_sent : (d : ℕ) (ds : List ℕ) → sent_all op_code_sent (high ∷ middle ∷ low ∷ d ∷ ds) ≡ sent_to 5 (place_after flash_page a (suc (length ds)))
  unfolding sent_all
  all_sent d ds =
      sent_rolls ds (rolled_on (with_byte (with_byte (with_byte 0 high) middle) low))
      ∙ ap (λ (p : ℕ). sent_to 5 (place_after flash_page (rolled_on p) (length ds))) (address_in high middle low)
      ∙ ap (sent_to 5) (after_next flash_page (omega arith) a (length ds))

  all_put : (d : ℕ) (ds : List ℕ) → page_all op_code_sent (high ∷ middle ∷ low ∷ d ∷ ds) blank ≡ roll flash_page (a % flash_page) (d ∷ ds) blank
  unfolding page_all
  all_put d ds =
      ap (λ (p : ℕ). page_all (sent_to 5 (rolled_on p)) ds (set blank (p % flash_page) d)) (address_in high middle low)
      ∙ page_rolls ds (rolled_on a) (set blank (a % flash_page) d)
      ∙ ap (λ (q : ℕ). roll flash_page q ds (set blank (a % flash_page) d)) (next_low a)

  -- op-code, address and one data byte or more, with write enable on and the sector not locked; whatever the frame and the page before, and the lock
  pub written : {rs : List Record} (ds : List ℕ) → Sends rs (code ∷ high ∷ middle ∷ low ∷ ds) → 1 ≤ length ds → (frame : FlashFrame) (page : List ℕ) (lock : Bool)
      → deselected watched (side_after watched rs (side_bus watched (awake frame status page lock) Select)) ≡ starting (programming status a ds)
  written [] k l frame page lock = absurd (omega arith)
  written (d ∷ ds) k l frame page lock =
      let v = sends_first watched status code program k (fact_at false (Some status) lock) lock in
      let p : ℕ = place_after flash_page a (suc (length ds)) in
      let same : p / flash_page ≡ a / flash_page = after_page flash_page (omega arith) a (suc (length ds)) in
      let free' : sector_locked status (sector_of p) ≡ false = ap (sector_locked status) (same_sector p a same) ∙ free in
      ap (deselected watched)
      (v.2 ∙ ap₂ (λ (s : Sent) (w : List ℕ). awake (Command op.Program s v.0) status w v.1) (all_sent d ds) (all_put d ds))
      ∙ des_starts watched status p v.0 (roll flash_page (a % flash_page) (d ∷ ds) blank) v.1 enable free'
      ∙ ap (λ (n : ℕ). starting (record { frame = Idle; cycle = Some (cycle.Program n); status = Some status; page = roll flash_page (a % flash_page) (d ∷ ds) blank })) same

-- ---- 'a later byte for a place replaces the earlier': byte d stands where it went, if none of the later ones goes there
pub later_stays : (status a : ℕ) (before : List ℕ) (d : ℕ) (later : List ℕ) → ((k : ℕ) → k < length later → place flash_page (a % flash_page) (length before + suc k) ≢ place flash_page (a % flash_page) (length before))
    → get_or (programming status a (before ++ (d ∷ later))).page (place flash_page (a % flash_page) (length before)) 0 ≡ d
later_stays status a before d later none =
    roll_sent flash_page (a % flash_page) before blank d later (omega arith) (length-replicate {A = ℕ} flash_page 255) none
