-- A whole write: from `sta` to `sto` the page holds the data bytes by the page's rolling, and the cycle says which places they are for.
-- Assumes nothing.
use Prim.Native.Nat.{ℕ, suc, ◌+◌, ◌-◌, ◌/◌, ◌%◌, ◌<◌, ◌≤◌}
use native.Mathlib.Omega.{arith}
use mathlib.Core.Bool.{Bool, true, false}
use mathlib.Core.Logic.{◌≢◌}
use mathlib.Core.Path.{◌≡◌, refl, sym, ap, ◌∙◌}
use mathlib.Core.List.{List, [], ◌∷◌, ◌++◌}
use lib.Dec.{ltb, eqb}
use lib.ListN.{length, get_or, set, length-replicate}
use borrow.Author.Tests.{ltb-true, ltb-false, le-ltb, ne_eqb}
use Rattle.std.specs.Prelude.{Option, Some, None}
use Rattle.law.specs.Choice.{split}
use Rattle.law.specs.Words.{pick}
use Rattle.page.specs.Geometry.{eeprom_size}
use Rattle.page.specs.Rolling.{sent_place}
use Rattle.page.specs.Roll.{place, roll, place_after}
use Rattle.page.specs.Laws.{after_page, after_low, after_none, after_next, sent_all_lem, roll_sent}
use Rattle.record.specs.declared.Skeleton.TheVariants.{Ack, Starts}
use Rattle.record.specs.declared.EepromEvent.TheVariants.{Start, Byte}
use Rattle.eeprom.specs.Chip.{blank, in_frame, answered}
use Rattle.eeprom.specs.Write.{next_in_page, counted, first_sent, sent_by}
use Rattle.eeprom.specs.Frame.{own_address, address_of, address_byte}
use Rattle.eeprom.specs.Step.{write_ends, stop_of, step_of}
use Rattle.eeprom.specs.declared.Sent.{Sent}
use Rattle.eeprom.specs.declared.EepromFrame.{EepromFrame}
use Rattle.eeprom.specs.declared.EepromFrame.TheVariants.{Idle, Opened, Addressed, Taking}
use Rattle.eeprom.specs.declared.Eeprom.{Eeprom}
use Rattle.eeprom.specs.declared.EepromStep.{EepromStep}
use Rattle.eeprom.proofs.ByParts.{sent_cong}
use Rattle.eeprom.proofs.Rolling.{next_low, next_small, counted_less, counted_all, counted_small}

-- no more than 64
abbrev pub up_to : ℕ → ℕ
up_to n = pick (ltb n 64) n 64

-- the chip in a write frame with so many data bytes
abbrev pub taking : ℕ → ℕ → List ℕ → Eeprom
taking k p page = record { frame = Taking k; cycle = None; counter = Some p; page = page }

-- bytes with the supply on; the lock, the wired address and the acknowledge bit are the same for all of them
unfoldable pub takes : Bool → ℕ → Bool → Eeprom → List ℕ → Eeprom
takes lock w bit x [] = x
takes lock w bit x (d ∷ ds) = takes lock w bit (step_of x (Byte d bit) (record { supply = true; lock = lock }) w).chip ds

taking_cong : {k k' p p' : ℕ} {a a' : List ℕ} → k ≡ k' → p ≡ p' → a ≡ a' → taking k p a ≡ taking k' p' a'
taking_cong e f g = simp (e, f, g)

count_next : (k n : ℕ) → k ≤ 64 → up_to (counted k + n) ≡ up_to (k + suc n)
count_next k n h =
    split (ltb k 64)
    (λ t. let l = ltb-true k 64 t in let e : k + 1 + n ≡ k + suc n = omega arith in rw (counted_less k l) (ap up_to e))
    (λ t.
    let l = ltb-false k 64 t in
    rw (counted_all k l) (simp (le-ltb (64 + n) 64 (omega arith), le-ltb (k + suc n) 64 (omega arith))))

pub takes_is : (lock bit : Bool) (w : ℕ) (ds : List ℕ) (k p : ℕ) (page : List ℕ) → k ≤ 64 → p < eeprom_size
    → takes lock w bit (taking k p page) ds ≡ taking (up_to (k + length ds)) (place_after 64 p (length ds)) (roll 64 (p % 64) ds page)
unfolding takes
takes_is lock bit w [] k p page h l = taking_cong (none k h) (sym (after_none 64 (omega arith) p)) refl
  where
    none : (k : ℕ) → k ≤ 64 → k ≡ up_to (k + 0)
    none k h = split (ltb (k + 0) 64) (λ t. simp (t) (omega arith)) (λ t. let l = ltb-false (k + 0) 64 t in simp (t) (omega arith))
takes_is lock bit w (d ∷ ds) k p page h l =
    takes_is lock bit w ds (counted k) (next_in_page p) (set page (p % 64) d) (counted_small k) (next_small p l)
    ∙ taking_cong (count_next k (length ds) h) (after_next 64 (omega arith) p (length ds)) (ap (λ (a : ℕ). roll 64 a ds (set page (p % 64) d)) (next_low p))

-- the cycle that n data bytes from the place a on start
abbrev pub write_of : ℕ → ℕ → Sent
write_of a n = record { page = a / 64; first = pick (ltb n 64) (a % 64) 0; count = up_to n }

back : (a n : ℕ) → a < 64 → n < 64 → ((a + n) % 64 + (64 - n)) % 64 ≡ a
back a n h l = omega arith

first_is : (a n : ℕ) → first_sent (place_after 64 a n) (up_to n) ≡ pick (ltb n 64) (a % 64) 0
first_is a n =
    split (ltb n 64)
    (λ t.
    let l = ltb-true n 64 t in
    simp (t) (rw (after_low 64 (omega arith) a n) (back (a % 64) n (omega arith) l)))
    (λ t. simp (t))

sent_is : (a n : ℕ) → sent_by (place_after 64 a n) (up_to n) ≡ write_of a n
sent_is a n = sent_cong (sent_by (place_after 64 a n) (up_to n)) (write_of a n) (after_page 64 (omega arith) a n) (first_is a n) refl

some_sent : (n : ℕ) → 1 ≤ n → eqb (up_to n) 0 ≡ false
some_sent n h =
    split (ltb n 64)
    (λ t. let l = ltb-true n 64 t in simp (t) (ne_eqb n 0 (λ e. omega arith)))
    (λ t. simp (t))

ended : (k p : ℕ) (page : List ℕ) (s : Sent) → eqb k 0 ≡ false → sent_by p k ≡ s
    → write_ends (taking k p page) k false ≡ answered (record { frame = Idle; cycle = Some s; counter = Some p; page = page }) Starts
ended k p page s e g = simp (e, g)

-- the chip that writes these data bytes from the place a on
abbrev pub writing : ℕ → List ℕ → Eeprom
writing a ds = record {
  frame = Idle;
  cycle = Some (write_of a (length ds));
  counter = Some (place_after 64 a (length ds));
  page = roll 64 (a % 64) ds blank;
}

pub written : (lock bit : Bool) (w : ℕ) (ds : List ℕ) (a : ℕ) → a < eeprom_size → 1 ≤ length ds → stop_of (takes lock w bit (taking 0 a blank) ds) false ≡ answered (writing a ds) Starts
written lock bit w ds a h l =
    let z : 0 + length ds ≡ length ds = omega arith in
    let e = rw z at (takes_is lock bit w ds 0 a blank (omega arith) h) in
    ap (λ (x : Eeprom). stop_of x false) e
    ∙ ended (up_to (length ds)) (place_after 64 a (length ds)) (roll 64 (a % 64) ds blank) (write_of a (length ds)) (some_sent (length ds) l) (sent_is a (length ds))

-- its places are those that the bytes went to
pub sent_as : (a n q : ℕ) → sent_place 64 (write_of a n).first (write_of a n).count q ≡ sent_place 64 (a % 64) n q
sent_as a n q =
    split (ltb n 64) (λ t. simp (t))
    (λ t. simp (t) (sent_all_lem 64 0 (omega arith) 64 q (omega arith) ∙ sym (sent_all_lem 64 (a % 64) (omega arith) n q (ltb-false n 64 t))))

-- 'a later byte for a place replaces the earlier': byte d stands where it went, if none of the later ones goes there
pub later_stays : (a : ℕ) (before : List ℕ) (d : ℕ) (later : List ℕ) → ((k : ℕ) → k < length later → place 64 (a % 64) (length before + suc k) ≢ place 64 (a % 64) (length before))
    → get_or (writing a (before ++ (d ∷ later))).page (place 64 (a % 64) (length before)) 0 ≡ d
later_stays a before d later none = roll_sent 64 (a % 64) before blank d later (omega arith) (length-replicate {A = ℕ} 64 0) none

-- `sta`, the own address for writing and two address bytes, with no cycle
own_write : (n : Option ℕ) (page : List ℕ) (b w : ℕ) → own_address b w ≡ true → eqb (b % 2) 1 ≡ false
    → address_byte (record { frame = Opened false; cycle = None; counter = n; page = page }) false b w ≡ answered (in_frame (record { frame = Opened false; cycle = None; counter = n; page = page }) Addressed) Ack
own_write n page b w e g = simp (e, g)

pub address_taken : (f : EepromFrame) (n : Option ℕ) (page : List ℕ) (lock bit : Bool) (w b high low : ℕ) → own_address b w ≡ true → eqb (b % 2) 1 ≡ false
    → takes lock w bit (step_of (record { frame = f; cycle = None; counter = n; page = page }) Start (record { supply = true; lock = lock }) w).chip (b ∷ high ∷ low ∷ [])
    ≡ taking 0 (address_of (high % 128) low) blank
unfolding takes
address_taken f n page lock bit w b high low e g =
    ap (λ (s : EepromStep). takes lock w bit s.chip (high ∷ low ∷ [])) (own_write n blank b w e g)
