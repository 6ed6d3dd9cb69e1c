-- A whole PROGRAM on the machine, from `sel` to `end` or to `off`: only the bytes sent change, and a later byte for a place replaces the earlier. Assumes nothing.
use Prim.Native.Nat.{ℕ, suc, ◌+◌, ◌-◌, ◌*◌, ◌/◌, ◌%◌, ◌<◌, ◌≤◌}
use native.Mathlib.Nat.{mod-lt}
use native.Mathlib.Omega.{arith}
use mathlib.Core.Bool.{Bool, true, false}
use mathlib.Core.Logic.{◌≢◌}
use mathlib.Core.Path.{◌≡◌, refl, sym, ap, ap₂, ◌∙◌}
use mathlib.Core.List.{List, [], ◌∷◌, ◌++◌}
use lib.Dec.{ltb, eqb}
use lib.ListN.{length, get_or}
use borrow.Author.Tests.{eqb-true, eqb-false, eq-eqb, ne_eqb}
use Rattle.law.specs.Choice.{split, true_not_false}
use Rattle.law.specs.Words.{pick}
use Rattle.meaning.specs.Meaning.{after}
use Rattle.meaning.proofs.Steps.{after_append}
use Rattle.page.specs.Geometry.{flash_page, flash_sector, flash_size, sector_pages}
use Rattle.page.specs.Rolling.{sent_place}
use Rattle.page.specs.Roll.{place, roll, place_after}
use Rattle.page.specs.Laws.{none_sent}
use Rattle.record.specs.declared.Board.{Board}
use Rattle.record.specs.declared.Record.{Record}
use Rattle.record.specs.declared.Event.{Event}
use Rattle.record.specs.declared.Event.TheVariants as event
use Rattle.record.specs.Records.{on_f, on_l}
use Rattle.record.specs.declared.FlashEvent.TheVariants as flash
use Rattle.record.specs.declared.LineEvent.TheVariants.{SupplyOn, SupplyOff, LockOn, LockOff}
use Rattle.cell.specs.Rules.{programmed_cell, cut_cell}
use Rattle.cell.specs.Bytes.{ByteCell}
use Rattle.image.specs.Image.{Image, spans, cell_at}
use Rattle.image.specs.Images.{Images}
use Rattle.image.specs.Cycles.{program_page, cut_program_page}
use Rattle.image.proofs.Reading.{page_off}
use Rattle.image.proofs.AtPlace.{program_page_at, cut_program_page_at, program_page_unsent, cut_program_page_unsent}
use Rattle.flash.specs.Code.{decode_of, sector_of, sector_locked, enabled}
use Rattle.flash.specs.Frame.{fetch_of, identity_of, reply_to}
use Rattle.flash.specs.Cycle.{blank}
use Rattle.flash.specs.Step.{byte_in, end_of, dark_of, step_of}
use Rattle.flash.specs.declared.Op.{Op}
use Rattle.flash.specs.declared.Op.TheVariants as op
use Rattle.flash.specs.declared.Sent.{Sent}
use Rattle.flash.specs.declared.FlashFrame.{FlashFrame}
use Rattle.flash.specs.declared.FlashFrame.TheVariants.{Idle, Void, Selected, Command}
use Rattle.std.specs.Prelude.{Option}
use Rattle.std.specs.declared.option.Option.TheVariants as option
use Rattle.flash.specs.declared.Flash.{Flash}
use Rattle.flash.specs.declared.FlashStep.{FlashStep}
use Rattle.flash.proofs.Written.{side_moved, side_after, beside, Sends, done, byte, other, awake, address_of, programming, starting, deselected, written, later_stays}
use Rattle.eeprom.specs.declared.Eeprom.{Eeprom}
use Rattle.controls.specs.Sides.{flash_side}
use Rattle.controls.specs.Play.{moved_of}
use Rattle.times.specs.declared.Pages.TheVariants.{None, One}
use Rattle.times.specs.Times.{reaches, Times, timed_at}
use Rattle.times.specs.Times as times
use Rattle.machine.specs.declared.effects.Stroke.{Stroke}
use Rattle.machine.specs.declared.effects.Stroke.TheVariants.{Nothing, Whole, Cut}
use Rattle.machine.specs.Effects.{stroke_of, sector_of_page, in_sector, flash_touched, flash_after, eeprom_after}
use Rattle.machine.specs.Machine.{Machine, machine_of, play_on, on_machine}
use Rattle.machine.proofs.Memory.{Memory, flash_struck}

-- ---- the flash's side of the machine moves by the flash's own rules
module _ (b : Board) where
  side_moved_lem : (m : Machine) (stamp : ℕ) (e : Event) → flash_side (play_on b m (record { stamp = stamp; event = e })).controls ≡ side_moved b.sector (flash_side m.controls) e
  unfolding play_on moved_of
  side_moved_lem m stamp (event.Flash e) = refl
  side_moved_lem m stamp (event.Eeprom e) = refl
  side_moved_lem m stamp (event.Line e) = refl

  side_after_lem : (rs : List Record) (m : Machine) → flash_side (after (on_machine b) rs m).controls ≡ side_after b.sector rs (flash_side m.controls)
  unfolding after side_after
  side_after_lem [] m = refl
  side_after_lem (r ∷ rs) m = side_after_lem rs (play_on b m r) ∙ ap (side_after b.sector rs) (side_moved_lem m r.stamp r.event)

-- ---- a byte ends no cycle
fetch_quiet : (sent : Sent) (watched : ℕ) → stroke_of (fetch_of sent watched) ≡ Nothing
fetch_quiet sent watched =
    split (ltb sent.count 4) (λ t. simp (t))
    (λ t. split (eqb (sector_of sent.place) watched) (λ u. simp (t, u)) (λ u. simp (t, u)))

identity_quiet : (count : ℕ) → stroke_of (identity_of count) ≡ Nothing
identity_quiet count = split (eqb count 1) (λ t. simp (t)) (λ t. split (eqb count 2) (λ u. simp (t, u)) (λ u. simp (t, u)))

reply_quiet : (o : Op) (sent : Sent) (busy : Bool) (status : Option ℕ) (watched : ℕ) → stroke_of (reply_to o sent busy status watched) ≡ Nothing
reply_quiet op.WriteEnable sent busy status watched = refl
reply_quiet op.WriteDisable sent busy status watched = refl
reply_quiet op.ReadStatus sent busy option.None watched = refl
reply_quiet op.ReadStatus sent busy (option.Some s) watched = refl
reply_quiet op.WriteStatus sent busy status watched = refl
reply_quiet op.Read sent busy status watched = fetch_quiet sent watched
reply_quiet op.Program sent busy status watched = refl
reply_quiet op.SectorErase sent busy status watched = refl
reply_quiet op.ChipErase sent busy status watched = refl
reply_quiet op.Identify sent busy status watched = identity_quiet sent.count

frame_quiet : (frame : FlashFrame) (f : Flash) (si watched : ℕ) → stroke_of (byte_in frame f si watched).reply ≡ Nothing
frame_quiet Idle f si watched = refl
frame_quiet Void f si watched = refl
frame_quiet (Selected fact) f si watched = refl
frame_quiet (Command o sent fact) f si watched = reply_quiet o sent _ f.status watched

byte_quiet : (supply : Bool) (f : Flash) (si so : ℕ) (lock : Bool) (watched : ℕ) → stroke_of (step_of f (flash.Byte si so) (record { supply = supply; lock = lock }) watched).reply ≡ Nothing
byte_quiet true f si so lock watched = frame_quiet f.frame f si watched
byte_quiet false f si so lock watched = refl

-- so the flash's image and its pages' times stay as they are while bytes are sent
abbrev memory : Machine → Memory
memory m = record { image = m.images.flash; times = m.times.flash }

module _ (b : Board) where
  memory_kept : (m : Machine) (stamp : ℕ) (e : Event) → beside e ≡ true → memory (play_on b m (record { stamp = stamp; event = e })) ≡ memory m
  unfolding play_on moved_of flash_after
  memory_kept m stamp (event.Flash e) t = absurd (true_not_false (sym t))
  memory_kept m stamp (event.Eeprom e) t = refl
  memory_kept m stamp (event.Line SupplyOn) t = refl
  memory_kept m stamp (event.Line SupplyOff) t = absurd (true_not_false (sym t))
  memory_kept m stamp (event.Line LockOn) t = refl
  memory_kept m stamp (event.Line LockOff) t = refl

  byte_kept : (m : Machine) (stamp si so : ℕ) → memory (play_on b m (record { stamp = stamp; event = event.Flash (flash.Byte si so) })) ≡ memory m
  unfolding play_on moved_of flash_after
  byte_kept m stamp si so =
      ap (λ (k : Stroke). flash_struck stamp b.sector m.controls.flash k (memory m))
      (byte_quiet m.controls.lines.supply m.controls.flash si so m.controls.lines.lock b.sector)

  sends_kept : {rs : List Record} {ds : List ℕ} → Sends rs ds → (m : Machine) → memory (after (on_machine b) rs m) ≡ memory m
  unfolding after
  sends_kept done m = refl
  sends_kept (byte stamp si so k) m = sends_kept k (play_on b m _) ∙ byte_kept m stamp si so
  sends_kept (other r t k) m = sends_kept k (play_on b m r) ∙ memory_kept m r.stamp r.event t

-- ---- a whole PROGRAM: `sel`, the bytes, `des`, and what ends its cycle
-- the machine with the supply on, no flash cycle, and the status known
abbrev pub ready : FlashFrame → ℕ → List ℕ → Bool → Eeprom → Images → Times → Machine
ready frame status page lock e x y =
    machine_of (record { flash = (awake frame status page lock).chip; eeprom = e; lines = (awake frame status page lock).lines }) x y

module _ (b : Board) where
  moved_on : (m : Machine) (stamp : ℕ) (e : Event) → beside e ≡ true → m.controls.lines.supply ≡ true → (play_on b m (record { stamp = stamp; event = e })).controls.lines.supply ≡ true
  unfolding play_on moved_of
  moved_on m stamp (event.Flash e) t h = absurd (true_not_false (sym t))
  moved_on m stamp (event.Eeprom e) t h = h
  moved_on m stamp (event.Line SupplyOn) t h = refl
  moved_on m stamp (event.Line SupplyOff) t h = absurd (true_not_false (sym t))
  moved_on m stamp (event.Line LockOn) t h = h
  moved_on m stamp (event.Line LockOff) t h = h

  byte_on : (m : Machine) (stamp si so : ℕ) → m.controls.lines.supply ≡ true → (play_on b m (record { stamp = stamp; event = event.Flash (flash.Byte si so) })).controls.lines.supply ≡ true
  unfolding play_on moved_of
  byte_on m stamp si so h = h

  -- the supply stays on
  sends_on : {rs : List Record} {ds : List ℕ} → Sends rs ds → (m : Machine) → m.controls.lines.supply ≡ true → (after (on_machine b) rs m).controls.lines.supply ≡ true
  unfolding after
  sends_on done m h = h
  sends_on (byte stamp si so k) m h = sends_on k (play_on b m _) (byte_on m stamp si so h)
  sends_on (other r t k) m h = sends_on k (play_on b m r) (moved_on m r.stamp r.event t h)

  -- `des` that starts the cycle, then `end` or `off`
  module _ (m : Machine) (on : m.controls.lines.supply ≡ true) (status a : ℕ) (ds : List ℕ)
      (starts : deselected b.sector (flash_side m.controls) ≡ starting (programming status a ds)) (u v : ℕ) where
    deselects : play_on b m (on_f u flash.Deselect) ≡ machine_of (record { flash = programming status a ds; eeprom = m.controls.eeprom; lines = m.controls.lines }) m.images m.times
    unfolding play_on moved_of flash_after eeprom_after
    deselects =
        ap (λ (s : FlashStep).
        machine_of (record { flash = s.chip; eeprom = m.controls.eeprom; lines = m.controls.lines })
        (record { flash = flash_after (stroke_of s.reply) b.sector m.controls.flash m.images.flash; eeprom = m.images.eeprom })
        (record { flash = timed_at u (flash_touched (stroke_of s.reply) b.sector m.controls.flash) m.times.flash; eeprom = m.times.eeprom })) starts

    ends : memory (after (on_machine b) (on_f u flash.Deselect ∷ on_f v flash.End ∷ []) m) ≡ flash_struck v b.sector (programming status a ds) Whole (memory m)
    unfolding after play_on moved_of
    ends =
        ap (λ (n : Machine). memory (play_on b n (on_f v flash.End))) deselects
        ∙ ap (λ (s : Bool).
        flash_struck v b.sector (programming status a ds)
        (stroke_of (pick s (end_of (programming status a ds)) (dark_of (programming status a ds) flash.End)).reply) (memory m)) on

    cuts : memory (after (on_machine b) (on_f u flash.Deselect ∷ on_l v SupplyOff ∷ []) m) ≡ flash_struck v b.sector (programming status a ds) Cut (memory m)
    unfolding after play_on moved_of
    cuts =
        ap (λ (n : Machine). memory (play_on b n (on_l v SupplyOff))) deselects
        ∙ ap (λ (s : Bool). flash_struck v b.sector (programming status a ds) (pick s Cut Nothing) (memory m)) on

-- ---- what the cycle of a PROGRAM does to the image of the watched sector
-- place k of a sector, in the whole chip
abbrev pub in_chip : ℕ → ℕ → ℕ
in_chip sector k = (sector - 1) * flash_sector + k

-- does the address a lie on page n of the sector? It does where it lies on the page of the chip that begins there
abbrev pub on_page : ℕ → ℕ → ℕ → Bool
on_page sector n a = eqb (a / flash_page) (in_chip sector (flash_page * n) / flash_page)

touched_page : (sector n a : ℕ) → n < sector_pages → 1 ≤ sector → reaches (pick (eqb (sector_of_page (a / flash_page)) sector) (One (in_sector (a / flash_page))) None) n ≡ on_page sector n a
touched_page sector n a l some-sector =
    split (eqb (sector_of_page (a / flash_page)) sector)
    (λ t. let e = eqb-true (sector_of_page (a / flash_page)) sector t in
    split (eqb n (in_sector (a / flash_page)))
    (λ u. let f = eqb-true n (in_sector (a / flash_page)) u in simp (t, u, eq-eqb (a / flash_page) (in_chip sector (flash_page * n) / flash_page) (omega arith)))
    (λ u. let f = eqb-false n (in_sector (a / flash_page)) u in simp (t, u, ne_eqb (a / flash_page) (in_chip sector (flash_page * n) / flash_page) (λ z. f (omega arith)))))
    (λ t. let e = eqb-false (sector_of_page (a / flash_page)) sector t in simp (t, ne_eqb (a / flash_page) (in_chip sector (flash_page * n) / flash_page) (λ z. e (omega arith))))

-- no byte of n from address a on goes to place k of the sector
abbrev pub NoneFor : ℕ → ℕ → ℕ → ℕ → Type 0
NoneFor a n sector k = (j : ℕ) → j < n → place_after flash_page a j ≢ in_chip sector k

module _ (status a : ℕ) (ds : List ℕ) (sector : ℕ) (i : Image) (k : ℕ) where
  -- in the page, a place that is not sent
  not_in_page : sector_of_page (a / flash_page) ≡ sector → k / flash_page ≡ in_sector (a / flash_page) → NoneFor a (length ds) sector k
      → sent_place flash_page (a % flash_page) (length ds) (k % flash_page) ≡ false
  not_in_page s p none =
      none_sent flash_page (a % flash_page) (omega arith) (length ds) (k % flash_page) (omega arith)
      (λ j l h. none j l (ap (λ (q : ℕ). a / flash_page * flash_page + q) h ∙ here)) where
        here : a / flash_page * flash_page + k % flash_page ≡ in_chip sector k
        here = omega arith

  -- 'Only the bytes sent in the addressed page change': at `end`, and at `off`
  module _ (c : ByteCell (cell_at i k)) (none : NoneFor a (length ds) sector k) where
    pub only_sent : cell_at (flash_after Whole sector (programming status a ds) i) k ≡ cell_at i k
    unfolding flash_after program_page
    only_sent =
        split (eqb (sector_of_page (a / flash_page)) sector)
        (λ s.
        split (eqb (k / flash_page) (in_sector (a / flash_page)))
        (λ p. simp (s) (program_page_unsent (in_sector (a / flash_page)) (a % flash_page) ds i k c (omega arith) (not_in_page (eqb-true _ _ s) (eqb-true _ _ p) none)))
        (λ p. simp (s) (page_off flash_page (in_sector (a / flash_page)) (λ q d. programmed_cell d (get_or (roll flash_page (a % flash_page) ds blank) q 0)) i k (eqb-false _ _ p))))
        (λ s. simp (s))

    pub only_sent_cut : cell_at (flash_after Cut sector (programming status a ds) i) k ≡ cell_at i k
    unfolding flash_after cut_program_page
    only_sent_cut =
        split (eqb (sector_of_page (a / flash_page)) sector)
        (λ s.
        split (eqb (k / flash_page) (in_sector (a / flash_page)))
        (λ p. simp (s) (cut_program_page_unsent (in_sector (a / flash_page)) (a % flash_page) ds i k c (omega arith) (not_in_page (eqb-true _ _ s) (eqb-true _ _ p) none)))
        (λ p. simp (s) (page_off flash_page (in_sector (a / flash_page)) (λ q d. cut_cell d (get_or (roll flash_page (a % flash_page) ds blank) q 0)) i k (eqb-false _ _ p))))
        (λ s. simp (s))

-- 'a later byte for a place replaces the earlier': byte d changes the place that it went to, if none of the later ones goes there
module _ (status a : ℕ) (inside : a < flash_size) (before : List ℕ) (d : ℕ) (later : List ℕ)
    (none : (j : ℕ) → j < length later → place_after flash_page a (length before + suc j) ≢ place_after flash_page a (length before))
    (i : Image) (fit : spans flash_sector i ≡ true) where
  -- where it went, in its sector
  abbrev pub went_to : ℕ
  went_to = place_after flash_page a (length before) % flash_sector

  abbrev at : ℕ
  at = place flash_page (a % flash_page) (length before)

  its_place : flash_page * in_sector (a / flash_page) + at ≡ went_to
  its_place = in_sector_lem (a / flash_page) at (mod-lt (a % flash_page + length before) (omega arith)) where
    in_sector_lem : (n q : ℕ) → q < flash_page → flash_page * in_sector n + q ≡ (n * flash_page + q) % flash_sector
    in_sector_lem n q l = omega arith

  its_byte : get_or (programming status a (before ++ (d ∷ later))).page at 0 ≡ d
  its_byte = later_stays status a before d later (λ j l e. none j l (ap (λ (q : ℕ). a / flash_page * flash_page + q) e))

  pub later_replaces : cell_at (flash_after Whole (sector_of a) (programming status a (before ++ (d ∷ later))) i) went_to ≡ programmed_cell (cell_at i went_to) d
  unfolding flash_after
  later_replaces =
      let s : eqb (sector_of_page (a / flash_page)) (sector_of a) ≡ true = eq-eqb (sector_of_page (a / flash_page)) (sector_of a) (omega arith) in
      simp (s)
      (ap (cell_at (program_page (in_sector (a / flash_page)) (roll flash_page (a % flash_page) (before ++ (d ∷ later)) blank) i)) (sym its_place)
      ∙ program_page_at i flash_sector fit (in_sector (a / flash_page)) (roll flash_page (a % flash_page) (before ++ (d ∷ later)) blank) (omega arith) at (mod-lt (a % flash_page + length before) (omega arith))
      ∙ ap₂ (λ (q e : ℕ). programmed_cell (cell_at i q) e) its_place its_byte)

  pub later_replaces_cut : cell_at (flash_after Cut (sector_of a) (programming status a (before ++ (d ∷ later))) i) went_to ≡ cut_cell (cell_at i went_to) d
  unfolding flash_after
  later_replaces_cut =
      let s : eqb (sector_of_page (a / flash_page)) (sector_of a) ≡ true = eq-eqb (sector_of_page (a / flash_page)) (sector_of a) (omega arith) in
      simp (s)
      (ap (cell_at (cut_program_page (in_sector (a / flash_page)) (roll flash_page (a % flash_page) (before ++ (d ∷ later)) blank) i)) (sym its_place)
      ∙ cut_program_page_at i flash_sector fit (in_sector (a / flash_page)) (roll flash_page (a % flash_page) (before ++ (d ∷ later)) blank) (omega arith) at (mod-lt (a % flash_page + length before) (omega arith))
      ∙ ap₂ (λ (q e : ℕ). cut_cell (cell_at i q) e) its_place its_byte)

-- ---- a PROGRAM of these data bytes, which may start, on a machine with the supply on, no flash cycle and the status known; whatever the frame, the page and the lock,
-- the EEPROM, the images and the times
module _ (b : Board) (status : ℕ) (enable : enabled status ≡ true) (code high middle low : ℕ) (program : decode_of code ≡ decode_of 0x02)
    (free : sector_locked status (sector_of (address_of high middle low)) ≡ false) (ds : List ℕ) (some : 1 ≤ length ds)
    {rs : List Record} (sends : Sends rs (code ∷ high ∷ middle ∷ low ∷ ds))
    (frame : FlashFrame) (page : List ℕ) (lock : Bool) (e : Eeprom) (x : Images) (y : Times) (t u v : ℕ) where
  abbrev a : ℕ
  a = address_of high middle low

  -- `sel` and the bytes
  abbrev sent : Machine
  sent = after (on_machine b) (on_f t flash.Select ∷ rs) (ready frame status page lock e x y)

  sent_memory : memory sent ≡ record { image = x.flash; times = y.flash }
  unfolding after play_on moved_of flash_after
  sent_memory = sends_kept b sends (play_on b (ready frame status page lock e x y) (on_f t flash.Select))

  sent_on : sent.controls.lines.supply ≡ true
  unfolding after play_on moved_of
  sent_on = sends_on b sends (play_on b (ready frame status page lock e x y) (on_f t flash.Select)) refl

  sent_starts : deselected b.sector (flash_side sent.controls) ≡ starting (programming status a ds)
  unfolding side_after
  sent_starts =
      ap (deselected b.sector) (side_after_lem b (on_f t flash.Select ∷ rs) (ready frame status page lock e x y))
      ∙ written b.sector status enable code high middle low program free ds sends some frame page lock

  -- the image and the times after `end`, and after `off`: the stamp is that of the record that ends or cuts the cycle
  ended : memory (after (on_machine b) (on_f t flash.Select ∷ (rs ++ (on_f u flash.Deselect ∷ on_f v flash.End ∷ []))) (ready frame status page lock e x y))
      ≡ flash_struck v b.sector (programming status a ds) Whole (record { image = x.flash; times = y.flash })
  ended =
      ap memory (after_append (on_machine b) (on_f t flash.Select ∷ rs) (on_f u flash.Deselect ∷ on_f v flash.End ∷ []) (ready frame status page lock e x y))
      ∙ ends b sent sent_on status a ds sent_starts u v
      ∙ ap (flash_struck v b.sector (programming status a ds) Whole) sent_memory

  cut_off : memory (after (on_machine b) (on_f t flash.Select ∷ (rs ++ (on_f u flash.Deselect ∷ on_l v SupplyOff ∷ []))) (ready frame status page lock e x y))
      ≡ flash_struck v b.sector (programming status a ds) Cut (record { image = x.flash; times = y.flash })
  cut_off =
      ap memory (after_append (on_machine b) (on_f t flash.Select ∷ rs) (on_f u flash.Deselect ∷ on_l v SupplyOff ∷ []) (ready frame status page lock e x y))
      ∙ cuts b sent sent_on status a ds sent_starts u v
      ∙ ap (flash_struck v b.sector (programming status a ds) Cut) sent_memory

  pub cycle_ends : (after (on_machine b) (on_f t flash.Select ∷ (rs ++ (on_f u flash.Deselect ∷ on_f v flash.End ∷ []))) (ready frame status page lock e x y)).images.flash
      ≡ flash_after Whole b.sector (programming status a ds) x.flash
  cycle_ends = ap (λ (m : Memory). m.image) ended

  pub cycle_cut : (after (on_machine b) (on_f t flash.Select ∷ (rs ++ (on_f u flash.Deselect ∷ on_l v SupplyOff ∷ []))) (ready frame status page lock e x y)).images.flash
      ≡ flash_after Cut b.sector (programming status a ds) x.flash
  cycle_cut = ap (λ (m : Memory). m.image) cut_off

  -- so the page that the address lies on was last written at v, not at u, whatever the data; the times of the others stay
  module _ (n : ℕ) (l : n < sector_pages) (some-sector : 1 ≤ b.sector) where
    pub page_ends : (after (on_machine b) (on_f t flash.Select ∷ (rs ++ (on_f u flash.Deselect ∷ on_f v flash.End ∷ []))) (ready frame status page lock e x y)).times.flash n
        ≡ pick (on_page b.sector n a) (times.written v) (y.flash n)
    page_ends = ap (λ (m : Memory). m.times n) ended ∙ ap (λ (q : Bool). pick q (times.written v) (y.flash n)) (touched_page b.sector n a l some-sector)

    pub page_cut_lem : (after (on_machine b) (on_f t flash.Select ∷ (rs ++ (on_f u flash.Deselect ∷ on_l v SupplyOff ∷ []))) (ready frame status page lock e x y)).times.flash n
        ≡ pick (on_page b.sector n a) (times.written v) (y.flash n)
    page_cut_lem = ap (λ (m : Memory). m.times n) cut_off ∙ ap (λ (q : Bool). pick q (times.written v) (y.flash n)) (touched_page b.sector n a l some-sector)

  -- so a place that no byte went to is as it was
  module _ (k : ℕ) (c : ByteCell (cell_at x.flash k)) (none : NoneFor a (length ds) b.sector k) where
    pub unsent_ends : cell_at (after (on_machine b) (on_f t flash.Select ∷ (rs ++ (on_f u flash.Deselect ∷ on_f v flash.End ∷ []))) (ready frame status page lock e x y)).images.flash k ≡ cell_at x.flash k
    unsent_ends = ap (λ (i : Image). cell_at i k) cycle_ends ∙ only_sent status a ds b.sector x.flash k c none

    pub unsent_cut : cell_at (after (on_machine b) (on_f t flash.Select ∷ (rs ++ (on_f u flash.Deselect ∷ on_l v SupplyOff ∷ []))) (ready frame status page lock e x y)).images.flash k ≡ cell_at x.flash k
    unsent_cut = ap (λ (i : Image). cell_at i k) cycle_cut ∙ only_sent_cut status a ds b.sector x.flash k c none
