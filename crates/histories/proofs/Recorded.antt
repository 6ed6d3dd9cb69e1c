-- What was recorded as a reply moves nothing in a history and is not what is replied there: SO of a flash's byte; of an EEPROM's byte the byte itself where it is read, and the acknowledge bit where it is not (where it is read, that bit is the master's).
use mathlib.Core.Path.{◌≡◌, refl, sym, ap, ◌∙◌}
use mathlib.Core.Bool.{Bool}
use Prim.Native.Nat.{ℕ, suc, ◌/◌, ◌%◌}
use lib.ListN.{get_or}
use Rattle.law.specs.Words.{pick}
use Rattle.page.specs.Geometry.{flash_page, eeprom_page}
use Rattle.record.specs.declared.Board.{Board}
use Rattle.record.specs.declared.Chip.{Chip}
use Rattle.record.specs.declared.Record.{Record}
use Rattle.record.specs.declared.Event.{Event}
use Rattle.record.specs.declared.Event.TheVariants as event
use Rattle.record.specs.declared.FlashEvent.TheVariants as flash-event
use Rattle.record.specs.declared.EepromEvent.{EepromEvent}
use Rattle.record.specs.declared.EepromEvent.TheVariants as eeprom-event
use Rattle.record.specs.declared.Skeleton.{Skeleton}
use Rattle.record.specs.declared.Skeleton.TheVariants.{Silent}
use Rattle.image.specs.Images.{per_chip, page_size}
use Rattle.times.specs.Times.{reaches}
use Rattle.eeprom.specs.declared.Eeprom.{Eeprom}
use Rattle.eeprom.specs.declared.EepromStep.{EepromStep}
use Rattle.eeprom.specs.declared.EepromFrame.{EepromFrame}
use Rattle.eeprom.specs.declared.EepromFrame.TheVariants.{Idle, Void, Opened, Addressed, Half, Taking, Reading}
use Rattle.eeprom.specs.Chip.{answered}
use Rattle.eeprom.specs.Frame.{byte_in}
use Rattle.controls.specs.declared.Moved.{Moved}
use Rattle.controls.specs.Play.{event_moved, moved_of}
use Rattle.machine.specs.declared.effects.Stroke.TheVariants.{Nothing}
use Rattle.machine.specs.Effects.{stroke_of, flash_touched, eeprom_touched}
use Rattle.histories.specs.History.{Fate, stays, becomes, flash_fate, eeprom_fate, fate_at, Real, play_real, delivered_real, says_real}

-- both records make the same of the chips in a history, and are replied to alike
pub record NoMatter (b : Board) (s : Real) (r r' : Record) : Type 0 where
  pub plays : play_real b s r ≡ play_real b s r'
  pub says : says_real b s r ≡ says_real b s r'

abbrev recorded : ℕ → Event → Record
recorded t v = record { stamp = t; event = v }

bit_in : (f : EepromFrame) → (f ≡ Reading → ⊥) → (x : Eeprom) (d : ℕ) (bit other : Bool) (wired : ℕ) → byte_in f x d bit wired ≡ byte_in f x d other wired
bit_in Idle h x d bit other wired = refl
bit_in Void h x d bit other wired = refl
bit_in (Opened barred) h x d bit other wired = refl
bit_in Addressed h x d bit other wired = refl
bit_in (Half high) h x d bit other wired = refl
bit_in (Taking n) h x d bit other wired = refl
bit_in Reading h x d bit other wired = absurd (h refl)

module _ (b : Board) (s : Real) (t : ℕ) where
  pub so_not_asked : (si so other : ℕ) → NoMatter b s (recorded t (event.Flash (flash-event.Byte si so))) (recorded t (event.Flash (flash-event.Byte si other)))
  unfolding play_real says_real fate_at moved_of
  so_not_asked si so other = record { plays = refl; says = refl }

  -- a record of the EEPROM's bus makes of the chips what the controls make of it
  fate_by : Skeleton → Chip → ℕ → Fate
  fate_by y chip k =
      let c = s.controls in
      let stroke = per_chip Nothing (stroke_of y) chip in
      pick (reaches (per_chip (flash_touched Nothing b.sector c.flash) (eeprom_touched (stroke_of y) c.eeprom) chip) (k / page_size chip))
      (per_chip (flash_fate stroke c.flash.cycle (get_or c.flash.page (k % flash_page) 0)) (eeprom_fate stroke c.eeprom.cycle c.eeprom.page (k % eeprom_page)) chip)
      stays

  played : Moved → Real
  played m = record {
    controls = m.controls;
    bits = λ chip k j. becomes (fate_by m.reply chip k) j (s.choices 0 chip k j) (s.bits chip k j);
    choices = λ n. s.choices (suc n);
  }

  plays_as : (e : EepromEvent) → play_real b s (recorded t (event.Eeprom e)) ≡ played (event_moved b s.controls (event.Eeprom e))
  unfolding play_real played fate_by fate_at moved_of
  plays_as e i = record {
    controls = (event_moved b s.controls (event.Eeprom e)).controls;
    bits = λ chip k j. becomes (fate_as e chip k i) j (s.choices 0 chip k j) (s.bits chip k j);
    choices = λ n. s.choices (suc n);
  }
    where
      fate_as : (e : EepromEvent) (chip : Chip) (k : ℕ) → fate_at b s.controls (recorded t (event.Eeprom e)) chip k ≡ fate_by (event_moved b s.controls (event.Eeprom e)).reply chip k
      fate_as e Chip.Flash k = refl
      fate_as e Chip.Eeprom k = refl

  no_matter : (e e' : EepromEvent) → event_moved b s.controls (event.Eeprom e) ≡ event_moved b s.controls (event.Eeprom e') → NoMatter b s (recorded t (event.Eeprom e)) (recorded t (event.Eeprom e'))
  unfolding says_real moved_of
  no_matter e e' h = record { plays = plays_as e ∙ ap played h ∙ sym (plays_as e'); says = ap (λ (m : Moved). delivered_real (s.bits Chip.Eeprom) m.reply) h }

  -- a byte, by what it does with the supply on
  stepped : EepromStep → Moved
  stepped x =
      let y = pick s.controls.lines.supply x (answered s.controls.eeprom Silent) in
      record { controls = record { flash = s.controls.flash; eeprom = y.chip; lines = s.controls.lines }; reply = y.reply }

  pub read_not_asked : s.controls.eeprom.frame ≡ Reading → (d other : ℕ) (bit : Bool) → NoMatter b s (recorded t (event.Eeprom (eeprom-event.Byte d bit))) (recorded t (event.Eeprom (eeprom-event.Byte other bit)))
  unfolding stepped
  read_not_asked h d other bit =
      let x = s.controls.eeprom in
      let at : (n : ℕ) → byte_in x.frame x n bit b.address ≡ byte_in Reading x n bit b.address = λ n. ap (λ (f : EepromFrame). byte_in f x n bit b.address) h in
      no_matter (eeprom-event.Byte d bit) (eeprom-event.Byte other bit) (ap stepped (at d ∙ sym (at other)))

  pub bit_not_asked : (s.controls.eeprom.frame ≡ Reading → ⊥) → (d : ℕ) (bit other : Bool) → NoMatter b s (recorded t (event.Eeprom (eeprom-event.Byte d bit))) (recorded t (event.Eeprom (eeprom-event.Byte d other)))
  unfolding stepped
  bit_not_asked h d bit other =
      let x = s.controls.eeprom in
      no_matter (eeprom-event.Byte d bit) (eeprom-event.Byte d other) (ap stepped (bit_in x.frame h x d bit other b.address))
