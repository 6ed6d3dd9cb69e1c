-- What records make of one page: its time is the stamp of the last that wrote it, and where none did every place of it is as it was. By one step of the machine at a time.
use mathlib.Core.Path.{◌≡◌, refl, sym, ap, ◌∙◌}
use mathlib.Core.Bool.{Bool, false}
use mathlib.Core.Logic.{◌⊎◌, inl, inr}
use mathlib.Core.List.{List, [], ◌∷◌}
use Prim.Native.Nat.{ℕ, ◌/◌}
use lib.ListN.{get_or}
use borrow.Author.Tests.{eqb-false}
use Rattle.law.specs.Choice.{split, true_not_false}
use Rattle.law.specs.Words.{pick}
use Rattle.meaning.specs.Meaning.{after}
use Rattle.meaning.proofs.Steps.{after_append}
use Rattle.record.specs.declared.Board.{Board}
use Rattle.record.specs.declared.Chip.{Chip}
use Rattle.record.specs.declared.Record.{Record}
use Rattle.cell.specs.Rules.{stored_cell, doubtful_cell, programmed_cell, cut_cell}
use Rattle.page.specs.Geometry.{flash_page, eeprom_page}
use Rattle.page.specs.Rolling.{sent_place}
use Rattle.image.specs.Image.{Image, cell_at}
use Rattle.image.specs.Images.{per_chip, image_at, page_size}
use Rattle.image.specs.Cycles.{program_page, cut_program_page, store_page, cut_store_page}
use Rattle.image.proofs.Reading.{page_off}
use Rattle.controls.specs.Play.{moved_of}
use Rattle.eeprom.specs.declared.Sent.{Sent}
use Rattle.times.specs.declared.Pages.{Pages}
use Rattle.times.specs.declared.Pages.TheVariants.{None, One, All}
use Rattle.times.specs.Times.{reaches, on_pages, Time, written, Times}
use Rattle.machine.specs.declared.effects.Stroke.{Stroke}
use Rattle.machine.specs.declared.effects.Stroke.TheVariants.{Nothing, Whole, Cut}
use Rattle.machine.specs.Effects.{stroke_for, flash_touched, eeprom_touched, program_by, erase_by, sent_in, store_by, flash_after, eeprom_after}
use Rattle.machine.specs.Machine.{Machine, writes_page, play_on, on_machine}
use Rattle.demands.specs.Times.{NoneWrites, WrittenLast}

-- the time of a chip's page
abbrev pub time_of : Chip → ℕ → Times → Time
time_of chip n y = per_chip (y.flash n) (y.eeprom n) chip

-- ---- a place of a page that is not touched stays
on_pages_lem : (size : ℕ) (one : ℕ → Image → Image) (all : Image → Image) (i : Image) (k n : ℕ) → ((j : ℕ) → (k / size ≡ j → ⊥) → cell_at (one j i) k ≡ cell_at i k) →
    k / size ≡ n → (p : Pages) → reaches p n ≡ false → cell_at (on_pages one all p i) k ≡ cell_at i k
on_pages_lem size one all i k n off here None h = refl
on_pages_lem size one all i k n off here (One j) h = off j (λ e. eqb-false n j h (sym here ∙ e))
on_pages_lem size one all i k n off here All h = absurd (true_not_false h)

module _ (i : Image) (k : ℕ) where
  program_off_lem : (s : Stroke) (bytes : List ℕ) (j : ℕ) → (k / flash_page ≡ j → ⊥) → cell_at (program_by s bytes j i) k ≡ cell_at i k
  unfolding program_page cut_program_page
  program_off_lem Nothing bytes j h = refl
  program_off_lem Whole bytes j h = page_off flash_page j (λ q c. programmed_cell c (get_or bytes q 0)) i k h
  program_off_lem Cut bytes j h = page_off flash_page j (λ q c. cut_cell c (get_or bytes q 0)) i k h

  store_off : (s : Stroke) (sent : Sent) (bytes : List ℕ) (j : ℕ) → (k / eeprom_page ≡ j → ⊥) → cell_at (store_by s sent bytes j i) k ≡ cell_at i k
  unfolding store_page cut_store_page
  store_off Nothing sent bytes j h = refl
  store_off Whole sent bytes j h = page_off eeprom_page j (λ q c. pick (sent_place eeprom_page sent.first sent.count q) (stored_cell (get_or bytes q 0)) c) i k h
  store_off Cut sent bytes j h = page_off eeprom_page j (λ q c. doubtful_cell) i k h

module _ (b : Board) where
  -- ---- one record
  time_play : (chip : Chip) (n : ℕ) (m : Machine) (r : Record) → time_of chip n (play_on b m r).times ≡ pick (writes_page b m.controls r chip n) (written r.stamp) (time_of chip n m.times)
  unfolding play_on
  time_play Chip.Flash n m r = refl
  time_play Chip.Eeprom n m r = refl

  place_play : (chip : Chip) (n k : ℕ) → k / page_size chip ≡ n → (m : Machine) (r : Record) → writes_page b m.controls r chip n ≡ false → cell_at (image_at chip (play_on b m r).images) k ≡ cell_at (image_at chip m.images) k
  unfolding play_on flash_after eeprom_after
  place_play Chip.Flash n k here m r h =
      let s = stroke_for Chip.Flash m.controls.lines r.event (moved_of b m.controls r).reply in
      let f = m.controls.flash in
      on_pages_lem flash_page (program_by s f.page) (erase_by s) m.images.flash k n (program_off_lem m.images.flash k s f.page) here (flash_touched s b.sector f) h
  place_play Chip.Eeprom n k here m r h =
      let s = stroke_for Chip.Eeprom m.controls.lines r.event (moved_of b m.controls r).reply in
      let e = m.controls.eeprom in
      on_pages_lem eeprom_page (store_by s (sent_in e.cycle) e.page) (λ i. i) m.images.eeprom k n (store_off m.images.eeprom k s (sent_in e.cycle) e.page) here (eeprom_touched s e) h

  -- ---- all records
  module _ (chip : Chip) (n : ℕ) where
    pub none_time : (o : List Record) (m : Machine) → NoneWrites b m o chip n → time_of chip n (after (on_machine b) o m).times ≡ time_of chip n m.times
    unfolding after NoneWrites
    none_time [] m h = refl
    none_time (r ∷ o) m h =
        none_time o (play_on b m r) h.1 ∙ time_play chip n m r ∙ ap (λ (w : Bool). pick w (written r.stamp) (time_of chip n m.times)) h.0

    pub written_time : (o : List Record) (m : Machine) (t : ℕ) → WrittenLast b m o chip n t → time_of chip n (after (on_machine b) o m).times ≡ written t
    unfolding after WrittenLast
    written_time o m t h =
        let s = after (on_machine b) h.0 m in
        let r = h.1 in
        ap (λ (l : List Record). time_of chip n (after (on_machine b) l m).times) h.3
        ∙ ap (λ (k : Machine). time_of chip n k.times) (after_append (on_machine b) h.0 (r ∷ h.2) m)
        ∙ none_time h.2 (play_on b s r) h.6
        ∙ time_play chip n s r
        ∙ (λ i. pick (h.4 i) (written (h.5 i)) (time_of chip n s.times))

    pub none_place : (k : ℕ) → k / page_size chip ≡ n → (o : List Record) (m : Machine) → NoneWrites b m o chip n → cell_at (image_at chip (after (on_machine b) o m).images) k ≡ cell_at (image_at chip m.images) k
    unfolding after NoneWrites
    none_place k here [] m h = refl
    none_place k here (r ∷ o) m h = none_place k here o (play_on b m r) h.1 ∙ place_play chip n k here m r h.0

    -- the page was written, or it was not
    written_first : (r : Record) (o : List Record) (m : Machine) → NoneWrites b (play_on b m r) o chip n → ((t : ℕ) × WrittenLast b m (r ∷ o) chip n t) ⊎ NoneWrites b m (r ∷ o) chip n
    unfolding after NoneWrites WrittenLast
    written_first r o m none = split (writes_page b m.controls r chip n) (λ w. inl (r.stamp, ([], r, o, refl, w, refl, none))) (λ w. inr (w, none))

    written_later : (r : Record) (o : List Record) (m : Machine) (t : ℕ) → WrittenLast b (play_on b m r) o chip n t → WrittenLast b m (r ∷ o) chip n t
    unfolding after WrittenLast
    written_later r o m t h = (r ∷ h.0, h.1, h.2, ap (λ (l : List Record). r ∷ l) h.3, h.4, h.5, h.6)

    pub one_of_two : (o : List Record) (m : Machine) → ((t : ℕ) × WrittenLast b m o chip n t) ⊎ NoneWrites b m o chip n
    unfolding NoneWrites
    one_of_two [] m = inr tt
    one_of_two (r ∷ o) m = either (one_of_two o (play_on b m r))
      where
        either : ((t : ℕ) × WrittenLast b (play_on b m r) o chip n t) ⊎ NoneWrites b (play_on b m r) o chip n → ((t : ℕ) × WrittenLast b m (r ∷ o) chip n t) ⊎ NoneWrites b m (r ∷ o) chip n
        either (inl h) = inl (h.0, written_later r o m h.0 h.1)
        either (inr none) = written_first r o m none
