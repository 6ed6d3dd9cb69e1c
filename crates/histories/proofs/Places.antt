-- What a record makes of the kept byte at a place is what the byte's fate says, and every image keeps its length. By the stroke, the cycle and the pages that it touches.
use mathlib.Core.Path.{◌≡◌, refl, sym, ◌∙◌}
use mathlib.Core.Bool.{Bool, true, false}
use mathlib.Core.List.{List}
use Prim.Native.Nat.{ℕ, ◌/◌, ◌%◌, ◌<◌}
use native.Mathlib.Omega.{arith}
use borrow.Author.Tests.{eqb-true, eqb-false}
use lib.Dec.{eqb}
use lib.ListN.{get_or}
use Rattle.std.specs.Prelude.{Option}
use Rattle.std.specs.declared.option.Option.TheVariants as option
use Rattle.law.specs.Words.{pick}
use Rattle.law.specs.Choice.{split}
use Rattle.record.specs.declared.Board.{Board}
use Rattle.record.specs.declared.Chip.{Chip}
use Rattle.record.specs.declared.Record.{Record}
use Rattle.cell.specs.declared.Cell.{Cell}
use Rattle.cell.specs.Rules.{stored_cell, programmed_cell, cut_cell, doubtful_cell}
use Rattle.page.specs.Geometry.{flash_page, flash_sector, eeprom_page, eeprom_size}
use Rattle.page.specs.Rolling.{sent_place}
use Rattle.image.specs.Image.{Image, spans, cell_at, in_page, on_page}
use Rattle.image.specs.Images.{Images, image_at, kept_bytes, Kept}
use Rattle.image.specs.Cycles.{program_page, cut_program_page, erase_all, cut_erase_all, store_page, cut_store_page}
use Rattle.image.proofs.Pages.{in_page_lem, off_page}
use Rattle.image.proofs.Reading.{page_at_lem, page_off}
use Rattle.image.proofs.AtPlace.{erase_all_at, cut_erase_all_at}
use Rattle.image.proofs.Keeping.{spans_program_page, spans_cut_program_page, spans_erase_all, spans_cut_erase_all, spans_store_page, spans_cut_store_page}
use Rattle.times.specs.declared.Pages.{Pages}
use Rattle.times.specs.declared.Pages.TheVariants.{None, One, All}
use Rattle.times.specs.Times.{reaches, on_pages}
use Rattle.flash.specs.declared.Flash.{Flash}
use Rattle.flash.specs.declared.FlashCycle.{FlashCycle}
use Rattle.flash.specs.declared.FlashCycle.TheVariants.{Program, SectorErase, ChipErase, WriteStatus}
use Rattle.eeprom.specs.declared.Sent.{Sent}
use Rattle.controls.specs.declared.Controls.{Controls}
use Rattle.controls.specs.Play.{moved_of}
use Rattle.machine.specs.declared.effects.Stroke.{Stroke}
use Rattle.machine.specs.declared.effects.Stroke.TheVariants.{Nothing, Whole, Cut}
use Rattle.machine.specs.Effects.{stroke_for, sector_of_page, in_sector, reached, flash_pages, eeprom_pages, stroke_pages, program_by, erase_by, sent_in, store_by, flash_after, eeprom_after, images_after}
use Rattle.machine.proofs.EachCycle.{EachCycle, images_keep}
use Rattle.histories.specs.History.{Fate, stays, programs, erases, stores, old_or_new, any_value, flash_fate, eeprom_fate, fate_at}
use Rattle.histories.proofs.OneBit.{cell_by, DataByte, Turns}
use Rattle.flash.proofs.Within.{BytePage, byte_at}

-- nothing changes
unchanged : (c : Cell) → Turns stays c c
unchanged c = record { is = refl; byte = tt }

-- a fate that a test allows
allowed : (t : Bool) (f : Fate) (c d : Cell) → DataByte f → d ≡ pick t (cell_by f c) c → Turns (pick t f stays) c d
allowed true f c d s e = record { is = e; byte = s }
allowed false f c d s e = record { is = e; byte = tt }

-- one that two allow, as at the places sent of a page
allowed_twice : (t u : Bool) (f : Fate) (c d : Cell) → DataByte f → d ≡ pick t (pick u (cell_by f c) c) c → Turns (pick t (pick u f stays) stays) c d
allowed_twice true u f c d s e = allowed u f c d s e
allowed_twice false u f c d s e = record { is = e; byte = tt }

-- the fate on the pages that are touched, and the image after it
abbrev OnTouched : Image → ℕ → ℕ → (ℕ → Image → Image) → (Image → Image) → Fate → Pages → Type 0
OnTouched i k size one all f p = Turns (pick (reaches p (k / size)) f stays) (cell_at i k) (cell_at (on_pages one all p i) k)

-- pages that a test allows
tested : (i : Image) (k size : ℕ) (one : ℕ → Image → Image) (all : Image → Image) (f : Fate) (t : Bool) (p : Pages) → OnTouched i k size one all f p → OnTouched i k size one all f (pick t p None)
tested i k size one all f true p w = w
tested i k size one all f false p w = unchanged (cell_at i k)

-- an image of n bytes, and a place of it
module _ (i : Image) (n : ℕ) (spanned : spans n i ≡ true) (k : ℕ) (l : k < n) where
  page_place : (size number : ℕ) (rule : ℕ → Cell → Cell) → (k / size ≡ number → number < n / size) → cell_at (on_page size number rule i) k ≡ in_page size number rule k (cell_at i k)
  page_place size number rule h =
      split (eqb (k / size) number)
      (λ e. page_at_lem size number rule i n spanned (h (eqb-true _ _ e)) k l (eqb-true _ _ e) ∙ sym (in_page_lem size number rule k (cell_at i k) (eqb-true _ _ e)))
      (λ e. page_off size number rule i k (eqb-false _ _ e) ∙ sym (off_page size number rule k (cell_at i k) (eqb-false _ _ e)))

-- ---- the flash
module _ (i : Image) (spanned : spans flash_sector i ≡ true) (k : ℕ) (l : k < flash_sector) where
  flash_place : (number : ℕ) (rule : ℕ → Cell → Cell) → cell_at (on_page flash_page number rule i) k ≡ in_page flash_page number rule k (cell_at i k)
  flash_place number rule = page_place i flash_sector spanned k l flash_page number rule (λ e. omega arith)

  erase_turns : Turns erases (cell_at i k) (cell_at (erase_all i) k)
  erase_turns = record { is = erase_all_at i flash_sector spanned k l; byte = tt }

  cut_erase_turns : Turns any_value (cell_at i k) (cell_at (cut_erase_all i) k)
  cut_erase_turns = record { is = cut_erase_all_at i flash_sector spanned k l; byte = tt }

  -- what a stroke of this cycle makes of the place
  abbrev Struck : Stroke → ℕ → Option FlashCycle → List ℕ → Option ℕ → Type 0
  Struck s watched cycle page status =
      OnTouched i k flash_page (program_by s page) (erase_by s) (flash_fate s cycle (get_or page (k % flash_page) 0)) (stroke_pages s (flash_pages watched cycle status))

  whole_turns : (watched : ℕ) (cycle : Option FlashCycle) (page : List ℕ) (status : Option ℕ) → Struck Whole watched cycle page status
  unfolding program_page
  whole_turns watched option.None page status = unchanged (cell_at i k)
  whole_turns watched (option.Some (Program n)) page status =
      let d = get_or page (k % flash_page) 0 in
      tested i k flash_page (program_by Whole page) (erase_by Whole) (programs d) (eqb (sector_of_page n) watched) (One (in_sector n))
      (allowed (eqb (k / flash_page) (in_sector n)) (programs d) (cell_at i k) (cell_at (program_page (in_sector n) page i) k) tt (flash_place (in_sector n) (λ q c. programmed_cell c (get_or page q 0))))
  whole_turns watched (option.Some (SectorErase sector)) page status =
      tested i k flash_page (program_by Whole page) (erase_by Whole) erases (eqb sector watched) All erase_turns
  whole_turns watched (option.Some ChipErase) page status =
      tested i k flash_page (program_by Whole page) (erase_by Whole) erases (reached status watched) All erase_turns
  whole_turns watched (option.Some (WriteStatus bits)) page status = unchanged (cell_at i k)

  cut_turns : (watched : ℕ) (cycle : Option FlashCycle) (page : List ℕ) (status : Option ℕ) → BytePage page → Struck Cut watched cycle page status
  unfolding cut_program_page
  cut_turns watched option.None page status h = unchanged (cell_at i k)
  cut_turns watched (option.Some (Program n)) page status h =
      let d = get_or page (k % flash_page) 0 in
      tested i k flash_page (program_by Cut page) (erase_by Cut) (old_or_new d) (eqb (sector_of_page n) watched) (One (in_sector n))
      (allowed (eqb (k / flash_page) (in_sector n)) (old_or_new d) (cell_at i k) (cell_at (cut_program_page (in_sector n) page i) k) (byte_at page h (k % flash_page)) (flash_place (in_sector n) (λ q c. cut_cell c (get_or page q 0))))
  cut_turns watched (option.Some (SectorErase sector)) page status h =
      tested i k flash_page (program_by Cut page) (erase_by Cut) any_value (eqb sector watched) All cut_erase_turns
  cut_turns watched (option.Some ChipErase) page status h =
      tested i k flash_page (program_by Cut page) (erase_by Cut) any_value (reached status watched) All cut_erase_turns
  cut_turns watched (option.Some (WriteStatus bits)) page status h = unchanged (cell_at i k)

  flash_turns : (s : Stroke) (watched : ℕ) (f : Flash) → BytePage f.page → Struck s watched f.cycle f.page f.status
  flash_turns Nothing watched f h = unchanged (cell_at i k)
  flash_turns Whole watched f h = whole_turns watched f.cycle f.page f.status
  flash_turns Cut watched f h = cut_turns watched f.cycle f.page f.status h

-- ---- the EEPROM
module _ (i : Image) (spanned : spans eeprom_size i ≡ true) (k : ℕ) (l : k < eeprom_size) where
  eeprom_place : (number : ℕ) (rule : ℕ → Cell → Cell) → cell_at (on_page eeprom_page number rule i) k ≡ in_page eeprom_page number rule k (cell_at i k)
  eeprom_place number rule = page_place i eeprom_size spanned k l eeprom_page number rule (λ e. omega arith)

  abbrev Stored : Stroke → Option Sent → List ℕ → Type 0
  Stored s cycle page = OnTouched i k eeprom_page (store_by s (sent_in cycle) page) (λ z. z) (eeprom_fate s cycle page (k % eeprom_page)) (stroke_pages s (eeprom_pages cycle))

  eeprom_turns : (s : Stroke) (cycle : Option Sent) (page : List ℕ) → Stored s cycle page
  unfolding store_page cut_store_page
  eeprom_turns Nothing cycle page = unchanged (cell_at i k)
  eeprom_turns Whole option.None page = unchanged (cell_at i k)
  eeprom_turns Whole (option.Some s) page =
      allowed_twice (eqb (k / eeprom_page) s.page) (sent_place eeprom_page s.first s.count (k % eeprom_page)) (stores (get_or page (k % eeprom_page) 0)) (cell_at i k)
      (cell_at (store_page s.page s.first s.count page i) k) tt
      (eeprom_place s.page (λ q c. pick (sent_place eeprom_page s.first s.count q) (stored_cell (get_or page q 0)) c))
  eeprom_turns Cut option.None page = unchanged (cell_at i k)
  eeprom_turns Cut (option.Some s) page =
      allowed (eqb (k / eeprom_page) s.page) any_value (cell_at i k) (cell_at (cut_store_page s.page i) k) tt (eeprom_place s.page (λ q c. doubtful_cell))

-- ---- a record, and each chip
pub place_turns : (b : Board) (c : Controls) (r : Record) (x : Images) → Kept x → BytePage c.flash.page → (chip : Chip) (k : ℕ) → k < kept_bytes chip →
    Turns (fate_at b c r chip k) (cell_at (image_at chip x) k) (cell_at (image_at chip (images_after b c r.event (moved_of b c r).reply x)) k)
unfolding fate_at flash_after eeprom_after
place_turns b c r x kept h Chip.Flash k l =
    flash_turns x.flash (kept Chip.Flash) k l (stroke_for Chip.Flash c.lines r.event (moved_of b c r).reply) b.sector c.flash h
place_turns b c r x kept h Chip.Eeprom k l =
    eeprom_turns x.eeprom (kept Chip.Eeprom) k l (stroke_for Chip.Eeprom c.lines r.event (moved_of b c r).reply) c.eeprom.cycle c.eeprom.page

-- ---- every image keeps its length
spans_cycles : (n : ℕ) → EachCycle (λ i. spans n i ≡ true)
spans_cycles n = record {
  program = λ m bytes i h. spans_program_page i n m bytes ∙ h;
  cut_program = λ m bytes i h. spans_cut_program_page i n m bytes ∙ h;
  erase = λ i h. spans_erase_all i n ∙ h;
  cut_erase = λ i h. spans_cut_erase_all i n ∙ h;
  store = λ m first count bytes i h. spans_store_page i n m first count bytes ∙ h;
  cut_store = λ m i h. spans_cut_store_page i n m ∙ h;
}

pub images_kept : (b : Board) (c : Controls) (r : Record) (x : Images) → Kept x → Kept (images_after b c r.event (moved_of b c r).reply x)
images_kept b c r x kept = images_keep (λ chip i. spans (kept_bytes chip) i ≡ true) (λ chip. spans_cycles (kept_bytes chip)) b c r.event (moved_of b c r).reply x kept
