-- Two outcomes of the machine that are reached can be told apart: a state and its replies are numbers and lists of numbers, and the times of all pages are told by those of the first ones.
use mathlib.Core.Path.{◌≡◌, refl, sym, ap, ap₂, subst, ◌∙◌}
use mathlib.Core.Bool.{Bool, true, false}
use mathlib.Core.Logic.{◌⊎◌, inl, inr, ⊎_elim}
use mathlib.Core.List.{List, [], ◌∷◌}
use Prim.Native.Nat.{ℕ, zero, suc, ◌+◌, ◌≤◌, ◌<◌}
use native.Mathlib.Omega.{arith}
use lib.Dec.{eqb}
use borrow.Author.Tests.{eqb-true, eqb-false, ne_eqb}
use Rattle.law.specs.Choice.{split, lt_or_le}
use Rattle.law.specs.Deciding.{Decides, decides_true, decides_false, decides_as, eqb_decides}
use Rattle.law.specs.Words.{All}
use Rattle.meaning.specs.Meaning.{Channel, Outcome, after, outcome}
use Rattle.meaning.specs.Channels.{channels}
use Rattle.meaning.proofs.Channels.{every_channel}
use Rattle.record.specs.declared.Board.{Board}
use Rattle.record.specs.declared.Record.{Record}
use Rattle.record.specs.declared.Reply.{Reply}
use Rattle.record.specs.Replies.{reply_kind, reply_value, reply_mask}
use Rattle.record.specs.ReplyOf.{reply_of}
use Rattle.record.proofs.ReplyOf.{reply_back}
use Rattle.controls.specs.declared.Controls.{Controls}
use Rattle.controls.specs.contracts.ControlsPartialEq.TheImpl as controls-eq
use Rattle.controls.proofs.Compared.{controls_decides}
use Rattle.controls.specs.Play.{moved_of}
use Rattle.image.specs.Image.{Image}
use Rattle.image.specs.Images.{Images}
use Rattle.times.specs.declared.Pages.{Pages}
use Rattle.times.specs.declared.Pages.TheVariants as pages
use Rattle.times.specs.Times.{Time, never, written, Times, timed_at}
use Rattle.machine.specs.Effects.{touched_by}
use Rattle.machine.specs.Machine.{Machine, machine_at_start, on_machine, play_on}

-- it can be told whether P holds
abbrev Tells : Type 0 → Type 0
Tells P = (t : Bool) × Decides t P

yes : {P : Type 0} → P → Tells P
yes p = (true, decides_true p)

no : {P : Type 0} → (P → ⊥) → Tells P
no n = (false, decides_false n)

both : {P Q : Type 0} → Tells P → Tells Q → Tells (P × Q)
both p q =
    split p.0 (λ e. split q.0 (λ k. yes (p.1.holds e, q.1.holds k)) (λ k. no (λ r. q.1.fails k r.1))) (λ e. no (λ r. p.1.fails e r.0))

-- P and R are one question
same : {P R : Type 0} → Tells P → (P → R) → (R → P) → Tells R
same p f g = (p.0, decides_as p.1 f g)

number : (a b : ℕ) → Tells (a ≡ b)
number a b = (eqb a b, eqb_decides a b)

list : {X : Type 0} → ((a b : X) → Tells (a ≡ b)) → (l k : List X) → Tells (l ≡ k)
list tell [] [] = yes refl
list tell [] (b ∷ k) = no (λ e. let n : ◌≡◌ {A = ℕ} 0 1 = cc in omega arith)
list tell (a ∷ l) [] = no (λ e. let n : ◌≡◌ {A = ℕ} 0 1 = cc in omega arith)
list tell (a ∷ l) (b ∷ k) = same (both (tell a b) (list tell l k)) (λ p. ap₂ ◌∷◌ p.0 p.1) (λ e. (cc, cc))

bytes : (l k : List ℕ) → Tells (l ≡ k)
bytes = list number

-- ---- the machine
controls : (a b : Controls) → Tells (a ≡ b)
controls a b = (controls-eq.ghosts.eq a b, controls_decides a b)

image : (a b : Image) → Tells (a ≡ b)
image a b =
    same (both (bytes a.values b.values) (bytes a.masks b.masks)) (λ p i. record { values = p.0 i; masks = p.1 i })
    (λ e. (ap (λ (k : Image). k.values) e, ap (λ (k : Image). k.masks) e))

images : (a b : Images) → Tells (a ≡ b)
images a b =
    same (both (image a.flash b.flash) (image a.eeprom b.eeprom)) (λ p i. record { flash = p.0 i; eeprom = p.1 i })
    (λ e. (ap (λ (k : Images). k.flash) e, ap (λ (k : Images). k.eeprom) e))

-- ---- the times: every page from some page on has one time, as at the start, so that those up to there decide
time : (a b : Time) → Tells (a ≡ b)
time never never = yes refl
time never (written t) = no (λ e. let n : ◌≡◌ {A = ℕ} 0 1 = cc in omega arith)
time (written t) never = no (λ e. let n : ◌≡◌ {A = ℕ} 0 1 = cc in omega arith)
time (written t) (written u) = same (number t u) (ap written) (λ e. cc)

below : (P : ℕ → Type 0) → ((n : ℕ) → Tells (P n)) → (k : ℕ) → Tells ((n : ℕ) → n < k → P n)
below P tell zero = yes (λ n l. absurd (omega arith))
below P tell (suc k) =
    same (both (tell k) (below P tell k))
    (λ p n l. split (eqb n k) (λ e. subst P (sym (eqb-true n k e)) p.0) (λ e. p.1 n (omega (arith, eqb-false n k e))))
    (λ h. (h k (omega arith), λ n l. h n (omega arith)))

abbrev OneFrom : (ℕ → Time) → Type 0
OneFrom y = (last : ℕ) × ((n : ℕ) → last ≤ n → y n ≡ y last)

module _ (y z : ℕ → Time) (f : OneFrom y) (g : OneFrom z) where
  abbrev far : ℕ
  far = f.0 + g.0

  all_pages : ((n : ℕ) → n < suc far → y n ≡ z n) → (n : ℕ) → y n ≡ z n
  all_pages h n =
      ⊎_elim (h n) (λ l. f.1 n (omega arith) ∙ sym (f.1 far (omega arith)) ∙ h far (omega arith) ∙ g.1 far (omega arith) ∙ sym (g.1 n (omega arith))) (lt_or_le n (suc far))

  page_times : Tells (y ≡ z)
  page_times = same (below (λ n. y n ≡ z n) (λ n. time (y n) (z n)) (suc far)) (λ h i n. all_pages h n i) (λ e n l. ap (λ (w : ℕ → Time). w n) e)

timed : (t : ℕ) (p : Pages) (y : ℕ → Time) → OneFrom y → OneFrom (timed_at t p y)
timed t pages.None y h = h
timed t (pages.One k) y h = (
  h.0 + suc k,
  λ n l. simp (ne_eqb n k (λ e. omega arith), ne_eqb (h.0 + suc k) k (λ e. omega arith)) (h.1 n (omega arith) ∙ sym (h.1 (h.0 + suc k) (omega arith))),
)
timed t pages.All y h = (0, λ n l. refl)

-- ---- a machine of which this is so: at the start, and after any records
pub record Steady (m : Machine) : Type 0 where
  pub flash : OneFrom m.times.flash
  pub eeprom : OneFrom m.times.eeprom

pub steady_start : (b : Board) (x : Images) → Steady (machine_at_start b x)
steady_start b x = record { flash = (0, λ n l. refl); eeprom = (0, λ n l. refl) }

module _ (b : Board) where
  steady_play : (m : Machine) (r : Record) → Steady m → Steady (play_on b m r)
  unfolding play_on
  steady_play m r s =
      let x = touched_by b m.controls r.event (moved_of b m.controls r).reply in
      record { flash = timed r.stamp x.flash m.times.flash s.flash; eeprom = timed r.stamp x.eeprom m.times.eeprom s.eeprom }

  pub steady_after : (o : List Record) (m : Machine) → Steady m → Steady (after (on_machine b) o m)
  unfolding after
  steady_after [] m s = s
  steady_after (r ∷ o) m s = steady_after o (play_on b m r) (steady_play m r s)

times : (a b : Machine) → Steady a → Steady b → Tells (a.times ≡ b.times)
times a b s z =
    same (both (page_times _ _ s.flash z.flash) (page_times _ _ s.eeprom z.eeprom)) (λ p i. record { flash = p.0 i; eeprom = p.1 i })
    (λ e. (ap (λ (k : Times). k.flash) e, ap (λ (k : Times). k.eeprom) e))

machine : (a b : Machine) → Steady a → Steady b → Tells (a ≡ b)
machine a b s z =
    same (both (controls a.controls b.controls) (both (images a.images b.images) (times a b s z)))
    (λ p i. record { controls = p.0 i; images = p.1.0 i; times = p.1.1 i })
    (λ e. (ap (λ (k : Machine). k.controls) e, (ap (λ (k : Machine). k.images) e, ap (λ (k : Machine). k.times) e)))

-- ---- a reply, by its kind, its value and its mask
reply : (a b : Reply) → Tells (a ≡ b)
reply a b =
    same (both (number (reply_kind a) (reply_kind b)) (both (number (reply_value a) (reply_value b)) (number (reply_mask a) (reply_mask b))))
    (λ p. sym (reply_back a) ∙ (λ i. reply_of (p.0 i) (p.1.0 i) (p.1.1 i)) ∙ reply_back b)
    (λ e. (ap reply_kind e, (ap reply_value e, ap reply_mask e)))

-- ---- each channel's
module _ (P : Channel → Type 0) where
  tell_each : ((c : Channel) → Tells (P c)) → (cs : List Channel) → Tells (All P cs)
  unfolding All
  tell_each t [] = yes tt
  tell_each t (c ∷ cs) = both (t c) (tell_each t cs)

  for_each : ((c : Channel) → P c) → (cs : List Channel) → All P cs
  unfolding All
  for_each h [] = tt
  for_each h (c ∷ cs) = (h c, for_each h cs)

  each : ((c : Channel) → Tells (P c)) → Tells ((c : Channel) → P c)
  each t = same (tell_each t channels) (every_channel P) (λ h. for_each h channels)

outcomes : (a b : Outcome Machine Reply) → Steady a.state → Steady b.state → Tells (a ≡ b)
outcomes a b s z =
    same (both (machine a.state b.state s z) (each (λ c. a.replies c ≡ b.replies c) (λ c. list reply (a.replies c) (b.replies c))))
    (λ p i. record { state = p.0 i; replies = λ c. p.1 c i })
    (λ e. (ap (λ (k : Outcome Machine Reply). k.state) e, λ c. ap (λ (k : Outcome Machine Reply). k.replies c) e))

-- how two orders end
pub tell : (b : Board) (o q : List Record) (m : Machine) → Steady m → (outcome (on_machine b) o m ≡ outcome (on_machine b) q m) ⊎ (outcome (on_machine b) o m ≡ outcome (on_machine b) q m → ⊥)
tell b o q m s =
    let t = outcomes (outcome (on_machine b) o m) (outcome (on_machine b) q m) (steady_after b o m s) (steady_after b q m s) in
    split t.0 (λ e. inl (t.1.holds e)) (λ e. inr (t.1.fails e))
