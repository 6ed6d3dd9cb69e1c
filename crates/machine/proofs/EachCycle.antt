-- What each cycle, whole or cut, keeps of an image, a record keeps of every image. Assumes nothing.
use mathlib.Core.List.{List}
use Prim.Native.Nat.{ℕ}
use Rattle.record.specs.declared.Board.{Board}
use Rattle.record.specs.declared.Chip.{Chip}
use Rattle.record.specs.declared.Event.{Event}
use Rattle.record.specs.declared.Skeleton.{Skeleton}
use Rattle.image.specs.Image.{Image}
use Rattle.image.specs.Images.{Images, image_at}
use Rattle.image.specs.Cycles.{program_page, cut_program_page, erase_all, cut_erase_all, store_page, cut_store_page}
use Rattle.times.specs.declared.Pages.{Pages}
use Rattle.times.specs.declared.Pages.TheVariants as pages
use Rattle.times.specs.Times.{on_pages}
use Rattle.flash.specs.declared.Flash.{Flash}
use Rattle.eeprom.specs.declared.Eeprom.{Eeprom}
use Rattle.eeprom.specs.declared.Sent.{Sent}
use Rattle.controls.specs.declared.Controls.{Controls}
use Rattle.machine.specs.declared.effects.Stroke.{Stroke}
use Rattle.machine.specs.declared.effects.Stroke.TheVariants.{Nothing, Whole, Cut}
use Rattle.machine.specs.Effects.{stroke_for, flash_touched, eeprom_touched, program_by, erase_by, sent_in, store_by, flash_after, eeprom_after, images_after}

-- P is kept by what each cycle makes of an image
pub record EachCycle (P : Image → Type 0) : Type 0 where
  pub program : (number : ℕ) (bytes : List ℕ) (i : Image) → P i → P (program_page number bytes i)
  pub cut_program : (number : ℕ) (bytes : List ℕ) (i : Image) → P i → P (cut_program_page number bytes i)
  pub erase : (i : Image) → P i → P (erase_all i)
  pub cut_erase : (i : Image) → P i → P (cut_erase_all i)
  pub store : (number first count : ℕ) (bytes : List ℕ) (i : Image) → P i → P (store_page number first count bytes i)
  pub cut_store : (number : ℕ) (i : Image) → P i → P (cut_store_page number i)

module _ {P : Image → Type 0} (each : EachCycle P) (i : Image) (h : P i) where
  -- on the pages that a stroke touches
  on_pages_lem : (one : ℕ → Image → Image) (all : Image → Image) (p : Pages) → ((n : ℕ) → P (one n i)) → P (all i) → P (on_pages one all p i)
  on_pages_lem one all pages.None k g = h
  on_pages_lem one all (pages.One n) k g = k n
  on_pages_lem one all pages.All k g = g

  program_by_lem : (s : Stroke) (bytes : List ℕ) (n : ℕ) → P (program_by s bytes n i)
  program_by_lem Nothing bytes n = h
  program_by_lem Whole bytes n = each.program n bytes i h
  program_by_lem Cut bytes n = each.cut_program n bytes i h

  erase_by_lem : (s : Stroke) → P (erase_by s i)
  erase_by_lem Nothing = h
  erase_by_lem Whole = each.erase i h
  erase_by_lem Cut = each.cut_erase i h

  store_by_lem : (s : Stroke) (sent : Sent) (bytes : List ℕ) (n : ℕ) → P (store_by s sent bytes n i)
  store_by_lem Nothing sent bytes n = h
  store_by_lem Whole sent bytes n = each.store n sent.first sent.count bytes i h
  store_by_lem Cut sent bytes n = each.cut_store n i h

  flash_after_lem : (s : Stroke) (watched : ℕ) (x : Flash) → P (flash_after s watched x i)
  unfolding flash_after
  flash_after_lem s watched x = on_pages_lem _ _ (flash_touched s watched x) (program_by_lem s x.page) (erase_by_lem s)

  eeprom_after_lem : (s : Stroke) (x : Eeprom) → P (eeprom_after s x i)
  unfolding eeprom_after
  eeprom_after_lem s x = on_pages_lem _ _ (eeprom_touched s x) (store_by_lem s (sent_in x.cycle) x.page) h

pub images_keep : (P : Chip → Image → Type 0) → ((chip : Chip) → EachCycle (P chip)) → (b : Board) (c : Controls) (v : Event) (k : Skeleton) (x : Images) →
    ((chip : Chip) → P chip (image_at chip x)) → (chip : Chip) → P chip (image_at chip (images_after b c v k x))
images_keep P each b c v k x h Chip.Flash = flash_after_lem (each Chip.Flash) x.flash (h Chip.Flash) (stroke_for Chip.Flash c.lines v k) b.sector c.flash
images_keep P each b c v k x h Chip.Eeprom = eeprom_after_lem (each Chip.Eeprom) x.eeprom (h Chip.Eeprom) (stroke_for Chip.Eeprom c.lines v k) c.eeprom
