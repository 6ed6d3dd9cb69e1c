-- Two chips that are in one state by document 01 are one value: the places that were sent decide the first place and the count, and where nothing was
-- sent the page holds 0.
-- Assumes nothing.
use Prim.Native.Nat.{ℕ, ◌+◌, ◌-◌, ◌%◌, ◌<◌, ◌≤◌}
use native.Mathlib.Omega.{arith}
use mathlib.Core.Bool.{true, false}
use mathlib.Core.Path.{◌≡◌, refl, sym, ap, subst, ◌∙◌}
use mathlib.Core.List.{List}
use lib.Dec.{ltb}
use lib.ListN.{length, get_or}
use lib.Seq.{ext_get_or}
use borrow.Author.Tests.{ltb-true, ltb-false, lt-ltb}
use Rattle.std.proofs.Common.{rules}
use Rattle.std.specs.Prelude.{Option, Some, None}
use Rattle.law.specs.Choice.{split, true_not_false}
use Rattle.eeprom.specs.Chip.{running_of, place_of}
use Rattle.page.specs.Rolling.{sent_place}
use Rattle.eeprom.specs.Write.{first_sent, sent_by}
use Rattle.eeprom.specs.Good.{FrameGood, Waits, FrameIn, SentGood, CycleIn, count_of, sent_in, ChipGood}
use Rattle.eeprom.specs.declared.Sent.{Sent}
use Rattle.eeprom.specs.declared.EepromFrame.{EepromFrame}
use Rattle.eeprom.specs.declared.EepromFrame.TheVariants.{Idle, Void, Opened, Addressed, Half, Taking, Reading}
use Rattle.eeprom.specs.declared.Eeprom.{Eeprom}
use Rattle.eeprom.proofs.Rolling.{first_less}
use Rattle.eeprom.proofs.ByParts.{chip_cong, sent_cong}
use Rattle.eeprom.proofs.Bounds.{is_next}

-- the same places were sent
abbrev pub SamePlaces : Sent → Sent → Type 0
SamePlaces s t = (q : ℕ) → q < 64 → sent_place 64 s.first s.count q ≡ sent_place 64 t.first t.count q

-- what is sent by one is sent by the other
passes : (s t : Sent) → SamePlaces s t → (q : ℕ) → q < 64 → (q + (64 - s.first)) % 64 < s.count → (q + (64 - t.first)) % 64 < t.count
passes s t same q l h = ltb-true _ _ (sym (same q l) ∙ lt-ltb _ _ h)

turned : (s t : Sent) → SamePlaces s t → SamePlaces t s
turned s t same q l = sym (same q l)

-- the k-th place from the first
kth : (f k : ℕ) → f < 64 → k < 64 → ((f + k) % 64 + (64 - f)) % 64 ≡ k
kth f k h l = omega arith

kth_small : (f k : ℕ) → (f + k) % 64 < 64
kth_small f k = omega arith

-- no more places by one than by the other
no_more_places : (s t : Sent) → SamePlaces s t → s.first ≡ t.first → s.first < 64 → s.count ≤ 64 → s.count ≤ t.count
no_more_places s t same e h l =
    split (ltb t.count s.count)
    (λ b.
    let m : t.count < s.count = ltb-true _ _ b in
    let o : ((s.first + t.count) % 64 + (64 - s.first)) % 64 ≡ t.count = kth s.first t.count h (omega arith) in
    let z : ((s.first + t.count) % 64 + (64 - t.first)) % 64 < t.count
    = passes s t same ((s.first + t.count) % 64) (kth_small s.first t.count) (rw o m) in
    let y : ((s.first + t.count) % 64 + (64 - s.first)) % 64 < t.count = rw (← e) at z in
    omega arith)
    (λ b. ltb-false _ _ b)

-- where one has all, so has the other
all_too : (s t : Sent) → SamePlaces s t → t.first < 64 → 64 ≤ s.count → 64 ≤ t.count
all_too s t same h l =
    let o = kth t.first 63 h (omega arith) in
    let z : ((t.first + 63) % 64 + (64 - t.first)) % 64 < t.count
    = passes s t same ((t.first + 63) % 64) (kth_small t.first 63) (omega arith) in
    omega arith

-- a place that is sent, and the one before it not, is the first
is_first : (f g m : ℕ) → f < 64 → g < 64 → (f + (64 - g)) % 64 < m → m ≤ ((f + 63) % 64 + (64 - g)) % 64 → f ≡ g
is_first f g m h l a b = omega arith

first_place_lem : (s t : Sent) → SamePlaces s t → s.first < 64 → t.first < 64 → 1 ≤ s.count → s.count < 64 → s.first ≡ t.first
first_place_lem s t same h l some few =
    is_first s.first t.first t.count h l
    (passes s t same s.first h (omega arith))
    (split (ltb (((s.first + 63) % 64 + (64 - t.first)) % 64) t.count)
    (λ b.
    let z = passes t s (turned s t same) ((s.first + 63) % 64) (kth_small s.first 63) (ltb-true _ _ b) in
    let o = kth s.first 63 h (omega arith) in absurd (omega arith))
    (λ b. ltb-false _ _ b))

-- ---- of a cycle, the page and the places that were sent decide
pub places_decide : (s t : Sent) (p r : ℕ) → SentGood s p → SentGood t r → s.page ≡ t.page → SamePlaces s t → s ≡ t
places_decide s t p r h k e same =
    let f : s.first ≡ t.first
    = split (ltb s.count 64)
    (λ b. first_place_lem s t same h.in_page_lem k.in_page_lem h.some (ltb-true _ _ b))
    (λ b. h.all (ltb-false _ _ b) ∙ sym (k.all (all_too s t same k.in_page_lem (ltb-false _ _ b)))) in
    let a = no_more_places s t same f h.in_page_lem h.no_more in
    let b = no_more_places t s (turned s t same) (sym f) k.in_page_lem k.no_more in
    sent_cong s t e f (omega arith)

-- ---- of a frame, the counter and the places that were sent decide
-- with m > k bytes before one place, the first of the m is not of the k
before_them : (a k m : ℕ) → a < 64 → k < m → m < 64 → k ≤ ((a + (64 - m)) % 64 + (64 - (a + (64 - k)) % 64)) % 64
before_them a k m h l j = omega arith

not_fewer : (p k m : ℕ) → SamePlaces (sent_by p k) (sent_by p m) → k < m → m ≤ 64 → ⊥
not_fewer p k m same l j =
    split (ltb m 64)
    (λ b.
    let i = ltb-true m 64 b in
    let z : ((p % 64 + (64 - m)) % 64 + (64 - first_sent p k)) % 64 < k
    = passes (sent_by p m) (sent_by p k) (turned (sent_by p k) (sent_by p m) same) ((p % 64 + (64 - m)) % 64) (kth_small (p % 64) (64 - m))
    (rw (first_less p m i) (starts ((p % 64 + (64 - m)) % 64) m (kth_small (p % 64) (64 - m)) (omega arith))) in
    let y : ((p % 64 + (64 - m)) % 64 + (64 - (p % 64 + (64 - k)) % 64)) % 64 < k = rw (first_less p k (omega arith)) at z in
    let x = before_them (p % 64) k m (omega arith) l i in omega arith)
    (λ b.
    let i = ltb-false m 64 b in
    let z : (p % 64 + (64 - first_sent p k)) % 64 < k
    = passes (sent_by p m) (sent_by p k) (turned (sent_by p k) (sent_by p m) same) (p % 64) (omega arith) (omega arith) in
    let y : (p % 64 + (64 - (p % 64 + (64 - k)) % 64)) % 64 < k = rw (first_less p k (omega arith)) at z in
    let x = is_next (p % 64) k (omega arith) (omega arith) in omega arith)
  where
    starts : (f n : ℕ) → f < 64 → 1 ≤ n → (f + (64 - f)) % 64 < n
    starts f n h l = omega arith

pub count_decides : (p k m : ℕ) → k ≤ 64 → m ≤ 64 → SamePlaces (sent_by p k) (sent_by p m) → k ≡ m
count_decides p k m h l same =
    split (ltb k m)
    (λ b. absurd (not_fewer p k m same (ltb-true k m b) l))
    (λ b.
    split (ltb m k)
    (λ d. absurd (not_fewer p m k (turned (sent_by p k) (sent_by p m) same) (ltb-true m k d) h))
    (λ d. let x = ltb-false k m b in let y = ltb-false m k d in omega arith))

-- ---- whole chips
-- a frame but for the count of its data bytes
abbrev pub kind_of : EepromFrame → EepromFrame
kind_of Idle = Idle
kind_of Void = Void
kind_of (Opened b) = Opened b
kind_of Addressed = Addressed
kind_of (Half h) = Half h
kind_of (Taking k) = Taking 0
kind_of Reading = Reading

abbrev with_count : ℕ → EepromFrame → EepromFrame
with_count k Idle = Idle
with_count k Void = Void
with_count k (Opened b) = Opened b
with_count k Addressed = Addressed
with_count k (Half h) = Half h
with_count k (Taking m) = Taking k
with_count k Reading = Reading

frame_back : (f : EepromFrame) → with_count (count_of f) (kind_of f) ≡ f
frame_back f = search rules

abbrev pub page_number : Option Sent → ℕ
page_number None = 0
page_number (Some s) = s.page

abbrev pub sent_of : Eeprom → Sent
sent_of x = sent_in x.cycle x.frame x.counter

-- one state: the same counter, kind of frame, cycle and its page; the same places sent, and the same bytes for them
pub record Alike (x y : Eeprom) : Type 0 where
  pub counters : x.counter ≡ y.counter
  pub kinds : kind_of x.frame ≡ kind_of y.frame
  pub cycles : running_of x.cycle ≡ running_of y.cycle
  pub pages : page_number x.cycle ≡ page_number y.cycle
  pub places : SamePlaces (sent_of x) (sent_of y)
  pub bytes : (q : ℕ) → q < 64 → sent_place 64 (sent_of x).first (sent_of x).count q ≡ true → get_or x.page q 0 ≡ get_or y.page q 0

count_small : (f : EepromFrame) (n : Option ℕ) → FrameGood f n → count_of f ≤ 64
count_small f n h = search rules

count_none : (f : EepromFrame) → Waits f → count_of f ≡ 0
count_none f h = search rules

-- the cycles are the same, and so are the counts of the frames
parts_same : (c d : Option Sent) (f g : EepromFrame) (n : Option ℕ) → FrameIn c f n → FrameIn d g n → CycleIn c n → CycleIn d n
    → running_of c ≡ running_of d → page_number c ≡ page_number d → SamePlaces (sent_in c f n) (sent_in d g n) → (c ≡ d) × (count_of f ≡ count_of g)
parts_same None None f g n hf hg hc hd r e same = (refl, count_decides (place_of n) (count_of f) (count_of g) (count_small f n hf) (count_small g n hg) same)
parts_same None (Some t) f g n hf hg hc hd r e same = absurd (true_not_false (sym r))
parts_same (Some s) None f g n hf hg hc hd r e same = absurd (true_not_false r)
parts_same (Some s) (Some t) f g n hf hg hc hd r e same =
    (ap Some (places_decide s t (place_of n) (place_of n) hc hd e same), count_none f hf ∙ sym (count_none g hg))

page_same : (s t : Sent) (p r : List ℕ) → length p ≡ 64 → length r ≡ 64
    → ((q : ℕ) → q < 64 → sent_place 64 s.first s.count q ≡ false → get_or p q 0 ≡ 0) → ((q : ℕ) → q < 64 → sent_place 64 t.first t.count q ≡ false → get_or r q 0 ≡ 0)
    → SamePlaces s t → ((q : ℕ) → q < 64 → sent_place 64 s.first s.count q ≡ true → get_or p q 0 ≡ get_or r q 0) → p ≡ r
page_same s t p r lp lr zp zr same data' =
    ext_get_or 0 p r (lp ∙ sym lr)
    (λ q l.
    let h : q < 64 = subst (λ (n : ℕ). q < n) lp l in
    split (sent_place 64 s.first s.count q) (λ b. data' q h b) (λ b. zp q h b ∙ sym (zr q h (sym (same q h) ∙ b))))

pub canonical : (x y : Eeprom) → ChipGood x → ChipGood y → Alike x y → x ≡ y
canonical x y h k a =
    let e = sym a.counters in
    let both
    = parts_same x.cycle y.cycle x.frame y.frame x.counter h.in_frame
    (subst (λ (n : Option ℕ). FrameIn y.cycle y.frame n) e k.in_frame) h.in_cycle_lem
    (subst (λ (n : Option ℕ). CycleIn y.cycle n) e k.in_cycle_lem) a.cycles a.pages
    (subst (λ (n : Option ℕ). SamePlaces (sent_of x) (sent_in y.cycle y.frame n)) e a.places) in
    let f : x.frame ≡ y.frame
    = sym (frame_back x.frame) ∙ ap (λ (m : ℕ). with_count m (kind_of x.frame)) both.1
    ∙ ap (λ (z : EepromFrame). with_count (count_of y.frame) z) a.kinds ∙ frame_back y.frame in
    chip_cong x y f both.0 a.counters
    (page_same (sent_of x) (sent_of y) x.page y.page h.long k.long h.empty k.empty a.places a.bytes)
