-- Why the sentences of the bench sheet hold: the controls by computing, a byte of an image by the law of the page that a cycle writes.
use mathlib.Core.Path.{◌≡◌, refl, sym, ap, subst, ◌∙◌}
use mathlib.Core.Bool.{true, false}
use mathlib.Core.List.{List, [], ◌∷◌, ◌++◌, append_assoc}
use Prim.Native.Nat.{ℕ, ◌%◌, ◌≤◌}
use native.Mathlib.Omega.{arith}
use lib.ListN.{length, get_or, set, length-append}
use Rattle.law.specs.Words.{pick, filter, keep, All}
use Rattle.law.specs.Lists.{gather}
use Rattle.meaning.specs.Meaning.{F, Outcome, after, replies, Alike}
use Rattle.meaning.specs.Listing.{said}
use Rattle.meaning.proofs.Channels.{same_outcome}
use Rattle.meaning.proofs.Onward.{goes_on}
use Rattle.meaning.proofs.AllOrders.{places, orders, behind, listed_alike, alike_listed}
use Rattle.meaning.proofs.Steps.{means_end, means_differ}
use Rattle.record.specs.declared.Record.{Record}
use Rattle.record.specs.declared.FlashEvent.TheVariants as flash
use Rattle.record.specs.declared.LineEvent.TheVariants.{SupplyOff}
use Rattle.record.specs.declared.Reply.{Reply}
use Rattle.record.specs.declared.Reply.TheVariants.{Silent, Starts}
use Rattle.cell.specs.declared.Cell.{Cell}
use Rattle.cell.specs.Rules.{programmed_cell, cut_cell, stored_cell}
use Rattle.page.specs.Rolling.{sent_place}
use Rattle.page.specs.Roll.{place_after}
use Rattle.record.specs.declared.Chip.{Chip}
use Rattle.image.specs.Image.{Image, spans, cell_at}
use Rattle.image.specs.Images.{Images, kept_bytes}
use Rattle.image.specs.Cycles.{program_page, cut_program_page, store_page}
use Rattle.image.proofs.AtPlace.{program_page_at, cut_program_page_at, store_page_at}
use Rattle.image.proofs.Keeping.{spans_program_page, spans_cut_program_page}
use Rattle.image.proofs.Reading.{page_behind}
use Rattle.controls.specs.Play.{moved_of}
use Rattle.flash.specs.Cycle.{blank}
use Rattle.flash.proofs.Written as program
use Rattle.flash.proofs.Written.{Sends, done, byte}
use Rattle.flash.specs.declared.FlashFrame.TheVariants.{Idle}
use Rattle.eeprom.specs.Chip as eeprom_chip
use Rattle.times.specs.Times.{never_written}
use Rattle.machine.specs.declared.effects.Stroke.TheVariants.{Whole}
use Rattle.machine.proofs.FlashWritten.{cycle_ends, later_replaces}
use Rattle.machine.specs.Effects.{flash_after, eeprom_after}
use Rattle.machine.specs.Replies.{delivered}
use Rattle.machine.specs.Machine.{Machine, machine_at_start, on_machine, play_on, says_on}
use Rattle.call.specs.Replay.{shown, shown_as}
use Rattle.demands.proofs.OneStamp.{one_channel, few, stamp_passes}
use Rattle.record.specs.Records.{on_f, on_l}
use Rattle.demands.specs.Bench.{plain, xs, opened, wren, three, programmed, Case1, Case2, Case3, Case4, Case5, Case6, Case7, Case8, Case9, Case10, Case11, Case12}

-- one byte d sent to place 0
abbrev sent : ℕ → List ℕ
sent d = set blank 0 d

-- place 0 after a whole PROGRAM of it, and after a cut one
whole_at : (i : Image) → spans (kept_bytes Chip.Flash) i ≡ true → (d : ℕ) → cell_at (program_page 0 (sent d) i) 0 ≡ programmed_cell (cell_at i 0) d
whole_at i fit d = program_page_at i (kept_bytes Chip.Flash) fit 0 (sent d) (omega arith) 0 (omega arith)

cut_at : (i : Image) → spans (kept_bytes Chip.Flash) i ≡ true → (d : ℕ) → cell_at (cut_program_page 0 (sent d) i) 0 ≡ cut_cell (cell_at i 0) d
cut_at i fit d = cut_program_page_at i (kept_bytes Chip.Flash) fit 0 (sent d) (omega arith) 0 (omega arith)

-- the records of a frame send its bytes
sends_xs : (stamp : ℕ) (bs : List ℕ) → Sends (xs stamp bs) bs
sends_xs stamp [] = done
sends_xs stamp (b ∷ bs) = byte stamp b 0xff (sends_xs stamp bs)

-- a whole PROGRAM at 00000
whole_program : (x : Images) (ds : List ℕ) → 1 ≤ length ds
    → (after (on_machine plain) (programmed 0x00000 ds) (machine_at_start plain x)).images.flash ≡ flash_after Whole 1 (program.programming 0x02 0x00000 ds) x.flash
unfolding after play_on moved_of flash_after eeprom_after
whole_program x ds some =
    ap (λ (rs : List Record). (after (on_machine plain) (wren 0 ++ (on_f 0 flash.Select ∷ rs)) (machine_at_start plain x)).images.flash)
    (append_assoc (xs 0 (0x02 ∷ (three 0x00000 ++ ds))) (on_f 0 flash.Deselect ∷ []) (on_f 0 flash.End ∷ []))
    ∙ cycle_ends plain 0x02 refl 0x02 0x00 0x00 0x00 refl refl ds some (sends_xs 0 (0x02 ∷ (three 0x00000 ++ ds))) Idle blank false eeprom_chip.start_of x never_written 0 0 0

module _ (x : Images) (fit : spans (kept_bytes Chip.Flash) x.flash ≡ true) where
  pub case1 : Case1 x
  unfolding after play_on moved_of flash_after eeprom_after
  case1 h = whole_at x.flash fit 0xa5 ∙ ap (λ (c : Cell). programmed_cell c 0xa5) h

  pub case2 : Case2 x
  unfolding after play_on moved_of flash_after eeprom_after
  case2 h =
      whole_at (program_page 0 (sent 0xa5) x.flash) (spans_program_page x.flash (kept_bytes Chip.Flash) 0 (sent 0xa5) ∙ fit) 0x3c
      ∙ ap (λ (c : Cell). programmed_cell c 0x3c) (whole_at x.flash fit 0xa5 ∙ ap (λ (c : Cell). programmed_cell c 0xa5) h)

  pub case3 : Case3 x
  unfolding after play_on moved_of flash_after eeprom_after
  case3 h = cut_at x.flash fit 0x0f ∙ ap (λ (c : Cell). cut_cell c 0x0f) h

  pub case4 : Case4 x
  unfolding after play_on moved_of flash_after eeprom_after
  case4 h =
      whole_at (cut_program_page 0 (sent 0x0f) x.flash) (spans_cut_program_page x.flash (kept_bytes Chip.Flash) 0 (sent 0x0f) ∙ fit) 0x3c
      ∙ ap (λ (c : Cell). programmed_cell c 0x3c) (cut_at x.flash fit 0x0f ∙ ap (λ (c : Cell). cut_cell c 0x0f) h)

  pub case5 : Case5 x
  unfolding said play_on says_on moved_of delivered flash_after eeprom_after
  case5 = refl

  pub case6 : Case6 x
  unfolding after play_on moved_of flash_after eeprom_after program_page
  case6 =
      let page : List ℕ = set (set blank 255 0x11) 0 0x22 in (
        program_page_at x.flash (kept_bytes Chip.Flash) fit 0 page (omega arith) 0x00 (omega arith),
        program_page_at x.flash (kept_bytes Chip.Flash) fit 0 page (omega arith) 0xff (omega arith),
        page_behind 256 0 (λ q c. programmed_cell c (get_or page q 0)) x.flash 0x100 (omega arith) (omega arith),
      )

  pub case7 : Case7 x
  case7 ds last h =
      let some : 1 ≤ length (ds ++ (last ∷ [])) = subst (λ (n : ℕ). 1 ≤ n) (sym (length-append ds (last ∷ []))) (omega arith) in
      let here : place_after 256 0 (length ds) % 0x8000 ≡ 0 = ap (λ (n : ℕ). place_after 256 0 n % 0x8000) h in
      ap (λ (i : Image). cell_at i 0) (whole_program x (ds ++ (last ∷ [])) some)
      ∙ ap (cell_at (flash_after Whole 1 (program.programming 0x02 0x00000 (ds ++ (last ∷ []))) x.flash)) (sym here)
      ∙ later_replaces 0x02 0x00000 (omega arith) ds last [] (λ j l. absurd (omega arith)) x.flash fit
      ∙ ap (λ (k : ℕ). programmed_cell (cell_at x.flash k) last) here

  pub case8 : Case8 x
  unfolding said play_on says_on moved_of delivered flash_after eeprom_after
  case8 = (refl, refl)

module _ (x : Images) (fit : spans (kept_bytes Chip.Eeprom) x.eeprom ≡ true) where
  pub case9 : Case9 x
  unfolding after play_on moved_of flash_after eeprom_after store_page
  case9 =
      let page : List ℕ = set (set eeprom_chip.blank 63 0x11) 0 0x22 in (
        store_page_at x.eeprom (kept_bytes Chip.Eeprom) fit 0 63 2 page (omega arith) 0x00 (omega arith) refl,
        store_page_at x.eeprom (kept_bytes Chip.Eeprom) fit 0 63 2 page (omega arith) 0x3f (omega arith) refl,
        page_behind 64 0 (λ q c. pick (sent_place 64 63 2 q) (stored_cell (get_or page q 0)) c) x.eeprom 0x40 (omega arith) (omega arith),
      )

  pub case10 : Case10 x
  unfolding said play_on says_on moved_of delivered flash_after eeprom_after
  case10 = refl

-- ---- cases 11 and 12: a stamp with records of one channel passes; then `des` and `off` in either order
abbrev des_off : ℕ → List Record
des_off stamp = on_f stamp flash.Deselect ∷ on_l stamp SupplyOff ∷ []

module _ (x : Images) where
  -- WREN's frame is open
  abbrev enabling : Machine
  enabling = after (on_machine plain) (opened 10 (0x06 ∷ [])) (machine_at_start plain x)

  des_off_alike : Alike (on_machine plain) (des_off 20) enabling
  unfolding All gather orders places behind after replies keep play_on says_on moved_of delivered flash_after eeprom_after
  des_off_alike =
      listed_alike (on_machine plain) (des_off 20) enabling (refl, (same_outcome _ _ refl (refl, (refl, (refl, tt))), tt))

  pub case11 : Case11 x
  unfolding filter keep All after play_on moved_of flash_after eeprom_after shown shown_as goes_on
  case11 =
      let frame : List Record = opened 10 (0x06 ∷ []) in
      let last = stamp_passes (on_machine plain) (des_off 20) [] 20 (refl, (refl, tt)) tt refl enabling refl
      des_off_alike refl _ (means_end (on_machine plain) _ refl) in (
        _,
        stamp_passes (on_machine plain) frame (des_off 20) 10 (refl, (refl, tt)) (omega arith, (omega arith, tt)) refl (machine_at_start plain x) refl
            (one_channel (on_machine plain) F frame (refl, (refl, tt)) (machine_at_start plain x)) refl _ last,
        refl,
      )

  -- a PROGRAM's frame is open, with write enable on
  abbrev written : List Record
  written = opened 20 (0x02 ∷ (three 0x00000 ++ (0xa5 ∷ [])))

  abbrev enabled : Machine
  enabled = after (on_machine plain) (wren 10) (machine_at_start plain x)

  abbrev programming : Machine
  programming = after (on_machine plain) written enabled

  -- `des` first starts a cycle, `off` first does not
  des_off_differ : Alike (on_machine plain) (des_off 30) programming → ⊥
  unfolding All gather orders places behind keep after replies play_on says_on moved_of delivered flash_after eeprom_after
  des_off_differ a =
      let k = (alike_listed (on_machine plain) (des_off 30) 30 (refl, (refl, tt)) programming a).1.0 in
      let r : Silent ∷ [] ≡ Starts ∷ [] = ap (λ (v : Outcome Machine Reply). v.replies F) k in
      let z : ◌≡◌ {A = ℕ} 0 1 = cc in
      omega arith

  pub case12 : Case12 x
  unfolding filter keep All after play_on moved_of flash_after eeprom_after shown shown_as goes_on
  case12 =
      let six : All (λ (r : Record). r.stamp ≡ 20) written = (refl, (refl, (refl, (refl, (refl, (refl, tt)))))) in
      let last = means_differ (on_machine plain) (des_off 30) [] 30 (refl, (refl, tt)) tt programming refl
      (few (on_machine plain) (des_off 30) [] 30 (refl, (refl, tt)) tt refl) des_off_differ in
      let next = stamp_passes (on_machine plain) written (des_off 30) 20 six (omega arith, (omega arith, tt)) refl enabled refl
      (one_channel (on_machine plain) F written (refl, (refl, (refl, (refl, (refl, (refl, tt)))))) enabled) refl _ last in (
        _,
        stamp_passes (on_machine plain) (wren 10) (written ++ des_off 30) 10 (refl, (refl, (refl, tt)))
            (omega arith, (omega arith, (omega arith, (omega arith, (omega arith, (omega arith, (omega arith, (omega arith, tt))))))))
            refl (machine_at_start plain x) refl
            (one_channel (on_machine plain) F (wren 10) (refl, (refl, (refl, tt))) (machine_at_start plain x)) refl _ next,
        refl,
      )
