-- Believed: What the cycles do to the images, whole at `end` and cut by `off` (document 01, 'Flash rules', 'EEPROM rules', 'Supply'; requests 1/12 and 3/12), and which pages they touch.
use Rattle.std.specs.Prelude.{ℕ, ◌+◌, ◌/◌, ◌%◌, Bool, true, not, List, eqb, Option}
use Rattle.std.specs.declared.option.Option.TheVariants as option
use Rattle.law.specs.Words.{pick}
use Rattle.record.specs.declared.Board.{Board}
use Rattle.record.specs.declared.Chip.{Chip}
use Rattle.record.specs.declared.Chip.TheVariants as chip
use Rattle.record.specs.declared.Event.{Event}
use Rattle.record.specs.declared.Event.TheVariants as event
use Rattle.record.specs.declared.Skeleton.{Skeleton}
use Rattle.record.specs.declared.Skeleton.TheVariants as skeleton
use Rattle.record.specs.declared.Lines.{Lines}
use Rattle.record.specs.declared.LineEvent.{LineEvent}
use Rattle.record.specs.LineRules.{goes_off}
use Rattle.flash.specs.declared.Flash.{Flash}
use Rattle.flash.specs.declared.FlashCycle.{FlashCycle}
use Rattle.flash.specs.declared.FlashCycle.TheVariants as flash-cycle
use Rattle.flash.specs.Code.{sector_locked}
use Rattle.eeprom.specs.declared.Eeprom.{Eeprom}
use Rattle.eeprom.specs.declared.Sent.{Sent}
use Rattle.controls.specs.declared.Controls.{Controls}
use Rattle.page.specs.Geometry.{sector_pages}
use Rattle.image.specs.Image.{Image}
use Rattle.image.specs.Images.{Images, per_chip}
use Rattle.image.specs.Cycles.{program_page, cut_program_page, erase_all, cut_erase_all, store_page, cut_store_page}
use Rattle.times.specs.declared.Pages.{Pages}
use Rattle.times.specs.declared.Pages.TheVariants.{None, One, All}
use Rattle.times.specs.declared.Touched.{Touched}
use Rattle.times.specs.Times.{on_pages}
use Rattle.machine.specs.declared.effects.Stroke.{Stroke}
use Rattle.machine.specs.declared.effects.Stroke.TheVariants.{Nothing, Whole, Cut}

-- an `end` that finds a cycle is its whole effect
abbrev pub stroke_of : Skeleton → Stroke
stroke_of skeleton.Silent = Nothing
stroke_of (skeleton.Given b) = Nothing
stroke_of (skeleton.Fetch p) = Nothing
stroke_of skeleton.Ack = Nothing
stroke_of skeleton.NoAck = Nothing
stroke_of skeleton.Starts = Nothing
stroke_of skeleton.Ends = Whole
stroke_of skeleton.NoCycle = Nothing

-- a supply that goes off cuts both chips' cycles
abbrev pub line_stroke : Lines → LineEvent → Stroke
line_stroke l e = pick (goes_off l e) Cut Nothing

-- what a record does to a chip's cycle, by its reply, after these lines: one of the chip's own bus may end it, one of the lines cut it
abbrev pub stroke_for : Chip → Lines → Event → Skeleton → Stroke
stroke_for chip l (event.Flash e) k = per_chip (stroke_of k) Nothing chip
stroke_for chip l (event.Eeprom e) k = per_chip Nothing (stroke_of k) chip
stroke_for chip l (event.Line e) k = line_stroke l e

-- page n of the chip is page `in_sector n` of sector `sector_of_page n`
abbrev pub sector_of_page : ℕ → ℕ
sector_of_page n = n / sector_pages + 1

abbrev pub in_sector : ℕ → ℕ
in_sector n = n % sector_pages

-- chip erase clears the unlocked sectors; a cycle's status is known, so what stands for a lost one never counts
abbrev pub reached : Option ℕ → ℕ → Bool
reached option.None watched = true
reached (option.Some s) watched = not (sector_locked s watched)

-- which of the kept pages the flash's cycle touches, whole or cut: outside the watched sector none, and WRSR none. 'A program touches its page even if no bit changes, an erase every page it reaches' (request 1/12)
abbrev pub flash_pages : ℕ → Option FlashCycle → Option ℕ → Pages
flash_pages watched option.None status = None
flash_pages watched (option.Some (flash-cycle.Program n)) status = pick (eqb (sector_of_page n) watched) (One (in_sector n)) None
flash_pages watched (option.Some (flash-cycle.SectorErase sector)) status = pick (eqb sector watched) All None
flash_pages watched (option.Some flash-cycle.ChipErase) status = pick (reached status watched) All None
flash_pages watched (option.Some (flash-cycle.WriteStatus bits)) status = None

-- and the EEPROM's, of which all bytes are kept
abbrev pub eeprom_pages : Option Sent → Pages
eeprom_pages option.None = None
eeprom_pages (option.Some s) = One s.page

-- a stroke touches the pages of the cycle that it ends or cuts
abbrev pub stroke_pages : Stroke → Pages → Pages
stroke_pages Nothing p = None
stroke_pages Whole p = p
stroke_pages Cut p = p

abbrev pub flash_touched : Stroke → ℕ → Flash → Pages
flash_touched s watched f = stroke_pages s (flash_pages watched f.cycle f.status)

abbrev pub eeprom_touched : Stroke → Eeprom → Pages
eeprom_touched s e = stroke_pages s (eeprom_pages e.cycle)

-- the rule for a page and for all: at `end` that of a whole cycle, at `off` that of a cut one; without a stroke no page is touched
abbrev pub program_by : Stroke → List ℕ → ℕ → Image → Image
program_by Nothing bytes n i = i
program_by Whole bytes n i = program_page n bytes i
program_by Cut bytes n i = cut_program_page n bytes i

abbrev pub erase_by : Stroke → Image → Image
erase_by Nothing i = i
erase_by Whole i = erase_all i
erase_by Cut i = cut_erase_all i

-- what was sent in a write; where none runs, no page is touched either
abbrev pub sent_in : Option Sent → Sent
sent_in option.None = record { page = 0; first = 0; count = 0 }
sent_in (option.Some s) = s

abbrev pub store_by : Stroke → Sent → List ℕ → ℕ → Image → Image
store_by Nothing sent bytes n i = i
store_by Whole sent bytes n i = store_page n sent.first sent.count bytes i
store_by Cut sent bytes n i = cut_store_page n i

-- what a stroke makes of the image, on the pages that it touches
unfoldable pub flash_after : Stroke → ℕ → Flash → Image → Image
flash_after s watched f i = on_pages (program_by s f.page) (erase_by s) (flash_touched s watched f) i

-- the EEPROM has no erase
unfoldable pub eeprom_after : Stroke → Eeprom → Image → Image
eeprom_after s e i = on_pages (store_by s (sent_in e.cycle) e.page) (λ i. i) (eeprom_touched s e) i

-- what a record makes of the images, by its event and its reply, with these controls before it: each chip's image by its own stroke
abbrev pub images_after : Board → Controls → Event → Skeleton → Images → Images
images_after b c v k x = record {
  flash = flash_after (stroke_for chip.Flash c.lines v k) b.sector c.flash x.flash;
  eeprom = eeprom_after (stroke_for chip.Eeprom c.lines v k) c.eeprom x.eeprom;
}

-- and the pages that it touches
abbrev pub touched_by : Board → Controls → Event → Skeleton → Touched
touched_by b c v k = record {
  flash = flash_touched (stroke_for chip.Flash c.lines v k) b.sector c.flash;
  eeprom = eeprom_touched (stroke_for chip.Eeprom c.lines v k) c.eeprom;
}
