-- The records of an entry that starts: one cycle starts and ends, the control is as before, and the cycle's effect on the image is the entry's. Assumes nothing.
use Prim.Native.Nat.{ℕ, suc, ◌+◌, ◌-◌, ◌*◌, ◌/◌, ◌%◌, ◌≤◌, ◌<◌}
use mathlib.Core.Path.{◌≡◌, refl, sym, ap, ap₂, ◌∙◌}
use mathlib.Core.Bool.{Bool, true, false, not}
use mathlib.Core.List.{List, [], ◌∷◌, ◌++◌, append-nil, append_assoc}
use native.Mathlib.Nat.{add-zero, mod-eq_of_lt}
use native.Mathlib.Numerals.{add-one}
use native.Mathlib.Omega.{arith}
use lib.ListN.{length, set, drop, length-replicate, drop_of_length-le}
use lib.Seq.{sets, sets-eq}
use borrow.Author.Tests.{not-true}
use Rattle.page.specs.Geometry.{flash_page, flash_sector, flash_sectors}
use Rattle.page.specs.Roll.{roll}
use Rattle.record.specs.declared.FlashEvent.{FlashEvent}
use Rattle.record.specs.declared.FlashEvent.TheVariants.{Deselect, End}
use Rattle.record.specs.declared.Reply.{Reply}
use Rattle.flash.specs.declared.Op.TheVariants as op
use Rattle.flash.specs.declared.LockFact.{LockFact}
use Rattle.flash.specs.declared.FlashCycle.TheVariants as cycle
use Rattle.std.specs.Prelude.{Some}
use Rattle.flash.specs.Code.{sector_of, sector_locked, kept_bits, with_enable}
use Rattle.flash.specs.Frame.{fact_by}
use Rattle.flash.specs.Cycle.{blank}
use Rattle.image.specs.Image.{Image}
use Rattle.fewest.specs.Entries.{Entry, sector_erase, chip_erase, program, starts}
use Rattle.refill.specs.Records.{bytes_sent, opened, framed, wren, instruction_of, events_of}
use Rattle.refill.specs.Refill.{Sized}
use Rattle.refill.proofs.Halves.{Half, half, played, tally, powered, idle, in_command, whole_of}
use Rattle.refill.proofs.Playing.{played_append, wren_played, erase_sent, chip_sent, program_sent, place_sent, roll_place, roll_small, first_played, erase_ended, chip_ended, program_ended, enabled_enable, locked_enable, kept_enable, address_sent}
use Rattle.refill.proofs.Images.{cycle_of, page_of_cycle}
use Rattle.refill.proofs.Counting.{Counts, as_reply, tally_append, wren_quiet, opened_quiet, erase_counts, chip_counts, program_counts}

-- ---- a whole page sent from its first place is the page

roll_run : (r : ℕ) (ds page : List ℕ) → r + length ds ≤ 256 → roll 256 r ds page ≡ sets page r ds
roll_run r [] page h = refl
roll_run r (d ∷ []) page h = refl
roll_run r (d ∷ e ∷ ds) page h =
    ap (λ (k : ℕ). roll 256 k (e ∷ ds) (set page r d)) (mod-eq_of_lt (omega arith) ∙ add-one r) ∙ roll_run (suc r) (e ∷ ds) (set page r d) (omega arith)

roll_page : (bytes page : List ℕ) → length bytes ≡ 256 → length page ≡ 256 → roll 256 0 bytes page ≡ bytes
roll_page bytes page h g =
    let z : 0 + length bytes ≡ 256 = omega arith in
    roll_run 0 bytes page (omega arith)
    ∙ sets-eq bytes page 0 (omega arith)
    ∙ ap (λ (k : ℕ). bytes ++ drop k page) z
    ∙ ap (λ (l : List ℕ). bytes ++ l) (drop_of_length-le page {i = 256} (omega arith))
    ∙ append-nil bytes

-- ---- places of a page and of a sector

pub same_sector : (n r : ℕ) → r < 256 → sector_of (256 * n + r) ≡ sector_of (flash_page * n)
same_sector n r l = omega arith

pub same_page : (n r : ℕ) → r < 256 → (256 * n + r) / 256 ≡ n
same_page n r l = omega arith

sector_first : (t : ℕ) → 1 ≤ t → t ≤ flash_sectors → sector_of (flash_sector * (t - 1)) ≡ t
sector_first t a b = omega arith

-- write enable changes no lock
pub unlocked : (s x y : ℕ) → x ≡ y → not (sector_locked s y) ≡ true → sector_locked (with_enable s) x ≡ false
unlocked s x y e h = locked_enable s x ∙ ap (sector_locked s) e ∙ not-true (sector_locked s y) h

-- ---- one entry

module _ (lock : Bool) (watched : ℕ) where
  framed_played : (bs : List ℕ) (h : Half)
      → played (powered lock) watched (framed bs ++ (End ∷ [])) h ≡ played (powered lock) watched (Deselect ∷ End ∷ []) (played (powered lock) watched (opened bs) h)
  unfolding played
  framed_played bs h =
      played_append lock watched (framed bs) (End ∷ []) h
      ∙ ap (λ (x : Half). played (powered lock) watched (End ∷ []) x) (played_append lock watched (opened bs) (Deselect ∷ []) h)

  -- WREN's frame, a frame of these bytes, `end`
  pub bytes_played : (bs : List ℕ) (s : ℕ) (i : Image)
      → played (powered lock) watched (wren ++ (framed bs ++ (End ∷ []))) (half (idle s) i)
      ≡ played (powered lock) watched (Deselect ∷ End ∷ []) (played (powered lock) watched (opened bs) (half (idle (with_enable s)) i))
  bytes_played bs s i =
      played_append lock watched wren (framed bs ++ (End ∷ [])) (half (idle s) i)
      ∙ ap (λ (x : Half). played (powered lock) watched (framed bs ++ (End ∷ [])) x) (wren_played lock watched s i)
      ∙ framed_played bs (half (idle (with_enable s)) i)

  -- with the data behind the address
  pub program_opened : (s a b c d : ℕ) (ds : List ℕ) (i : Image)
      → played (powered lock) watched (opened (0x02 ∷ a ∷ b ∷ c ∷ d ∷ ds)) (half (idle s) i)
      ≡ played (powered lock) watched (bytes_sent (d ∷ ds)) (played (powered lock) watched (opened (0x02 ∷ a ∷ b ∷ c ∷ [])) (half (idle s) i))
  unfolding played
  program_opened s a b c d ds i = refl

  -- the state in which `des` finds the control: from there `des` and `end` start and end the entry's cycle
  pub record Ready (f : Reply → ℕ) (o : Entry) (s : ℕ) (i : Image) : Type 0 where
    pub found : Half
    pub sent : played (powered lock) watched (opened (instruction_of o)) (half (idle (with_enable s)) i) ≡ found
    pub ends : played (powered lock) watched (Deselect ∷ End ∷ []) found ≡ half (idle (kept_bits s)) (whole_of watched (cycle_of o) (page_of_cycle o) (with_enable s) i)
    pub counts : tally (powered lock) watched (as_reply f) (Deselect ∷ End ∷ []) found ≡ 1

  module _ (f : Reply → ℕ) (count : Counts f) where
    pub readied : (o : Entry) (s : ℕ) (i : Image) → Sized o → starts s o ≡ true → Ready f o s i
    readied (sector_erase t) s i ok st =
        let a = flash_sector * (t - 1) in
        let e = address_sent a (omega (arith, ok.1)) in
        let fact : LockFact = fact_by (Some (with_enable s)) lock in
        let sec : sector_of a ≡ t = sector_first t ok.0 ok.1 in
        let u = unlocked s (sector_of a) t sec st in record {
          found = half (in_command op.SectorErase 4 a fact (with_enable s) blank) i;
          sent = erase_sent lock watched (with_enable s) (a / 65536 % 256) (a / 256 % 256) (a % 256) i
              ∙ ap (λ (p : ℕ). half (in_command op.SectorErase 4 p fact (with_enable s) blank) i) e;
          ends = erase_ended lock watched (with_enable s) a fact i u (enabled_enable s)
              ∙ ap₂ (λ (x y : ℕ). half (idle x) (whole_of watched (cycle.SectorErase y) blank (with_enable s) i)) (kept_enable s) sec;
          counts = erase_counts f count lock watched (with_enable s) a fact i u (enabled_enable s);
        }
    readied chip_erase s i ok st =
        let fact : LockFact = fact_by (Some (with_enable s)) lock in
        let u = unlocked s 1 1 refl st in record {
          found = half (in_command op.ChipErase 1 0 fact (with_enable s) blank) i;
          sent = chip_sent lock watched (with_enable s) i;
          ends = chip_ended lock watched (with_enable s) 0 fact i u (enabled_enable s)
              ∙ ap (λ (x : ℕ). half (idle x) (whole_of watched cycle.ChipErase blank (with_enable s) i)) (kept_enable s);
          counts = chip_counts f count lock watched (with_enable s) 0 fact i u (enabled_enable s);
        }
    readied (program n []) s i ok st = absurd (omega (arith, ok.1))
    readied (program n (d ∷ ds)) s i ok st =
        let a = flash_page * n in
        let e : place_sent (a / 65536 % 256) (a / 256 % 256) (a % 256) ≡ 256 * n + 0 = address_sent a (omega (arith, ok.0)) ∙ sym (add-zero (256 * n)) in
        let fact : LockFact = fact_by (Some (with_enable s)) lock in
        let q = roll_place 0 (d ∷ ds) in
        let small = roll_small 0 (d ∷ ds) (omega arith) in
        let u = unlocked s (sector_of (256 * n + q)) (sector_of (flash_page * n)) (same_sector n q small) st in record {
          found = half (in_command op.Program 5 (256 * n + q) fact (with_enable s) (d ∷ ds)) i;
          sent = program_opened (with_enable s) (a / 65536 % 256) (a / 256 % 256) (a % 256) d ds i
              ∙ ap (λ (x : Half). played (powered lock) watched (bytes_sent (d ∷ ds)) x) (program_sent lock watched (with_enable s) (a / 65536 % 256) (a / 256 % 256) (a % 256) i)
              ∙ ap (λ (x : ℕ). played (powered lock) watched (bytes_sent (d ∷ ds)) (half (in_command op.Program 4 x fact (with_enable s) blank) i)) e
              ∙ first_played lock watched (with_enable s) n 0 d fact blank i ds (omega arith)
              ∙ ap (λ (x : List ℕ). half (in_command op.Program 5 (256 * n + q) fact (with_enable s) x) i) (roll_page (d ∷ ds) blank ok.1 (length-replicate {A = ℕ} 256 255));
          ends = program_ended lock watched (with_enable s) (256 * n + q) fact (d ∷ ds) i u (enabled_enable s)
              ∙ ap₂ (λ (x y : ℕ). half (idle x) (whole_of watched (cycle.Program y) (d ∷ ds) (with_enable s) i)) (kept_enable s) (same_page n q small);
          counts = program_counts f count lock watched (with_enable s) (256 * n + q) fact (d ∷ ds) i u (enabled_enable s);
        }

    -- so its records leave the control as it was, with the cycle's effect on the image
    pub entry_played : (o : Entry) (s : ℕ) (i : Image) → Sized o → starts s o ≡ true
        → played (powered lock) watched (events_of o) (half (idle s) i) ≡ half (idle (kept_bits s)) (whole_of watched (cycle_of o) (page_of_cycle o) (with_enable s) i)
    entry_played o s i ok st =
        let r = readied o s i ok st in
        bytes_played (instruction_of o) s i ∙ ap (λ (x : Half). played (powered lock) watched (Deselect ∷ End ∷ []) x) r.sent ∙ r.ends

    -- and one cycle starts, one ends: WREN's frame gives neither, nor do the entry's bytes
    pub entry_counts : (o : Entry) (s : ℕ) (i : Image) → Sized o → starts s o ≡ true → tally (powered lock) watched (as_reply f) (events_of o) (half (idle s) i) ≡ 1
    entry_counts o s i ok st =
        let r = readied o s i ok st in
        let bs = instruction_of o in
        let ready = half (idle (with_enable s)) i in
        tally_append f count lock watched wren (framed bs ++ (End ∷ [])) (half (idle s) i)
        ∙ ap₂ (λ (x : ℕ) (h : Half). x + tally (powered lock) watched (as_reply f) (framed bs ++ (End ∷ [])) h) (wren_quiet f count lock watched s i) (wren_played lock watched s i)
        ∙ ap (λ (es : List FlashEvent). 0 + tally (powered lock) watched (as_reply f) es ready) (append_assoc (opened bs) (Deselect ∷ []) (End ∷ []))
        ∙ ap (λ (x : ℕ). 0 + x) (tally_append f count lock watched (opened bs) (Deselect ∷ End ∷ []) ready)
        ∙ ap₂ (λ (x y : ℕ). 0 + (x + y)) (opened_quiet f count lock watched o (with_enable s) i)
        (ap (λ (h : Half). tally (powered lock) watched (as_reply f) (Deselect ∷ End ∷ []) h) r.sent ∙ r.counts)
