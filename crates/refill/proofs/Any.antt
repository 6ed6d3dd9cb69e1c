-- Sector erases at any address, chip erases, and PROGRAM at any place with any data, by any op-code of theirs, are entries where they start a cycle: by their effect on every
-- watched sector. And records there are for any events. Assumes nothing.
use Prim.Native.Nat.{ℕ, suc, ◌+◌, ◌*◌, ◌/◌, ◌%◌, ◌<◌}
use mathlib.Core.Path.{◌≡◌, refl, ap, ap₂, ◌∙◌}
use mathlib.Core.Bool.{Bool, true, false}
use mathlib.Core.List.{List, [], ◌∷◌, ◌++◌}
use native.Mathlib.Omega.{arith}
use Rattle.page.specs.Geometry.{flash_page, flash_sectors, flash_size}
use Rattle.page.specs.Roll.{roll}
use Rattle.record.specs.declared.Record.{Record}
use Rattle.record.specs.Records.{on_f}
use Rattle.record.specs.declared.FlashEvent.{FlashEvent}
use Rattle.record.specs.declared.FlashEvent.TheVariants.{Deselect, End}
use Rattle.flash.specs.declared.Op.TheVariants as op
use Rattle.flash.specs.declared.LockFact.{LockFact}
use Rattle.flash.specs.declared.FlashCycle.TheVariants as cycle
use Rattle.std.specs.Prelude.{Some, None}
use Rattle.flash.specs.Code.{decode_of, sector_of, kept_bits, with_enable}
use Rattle.flash.specs.Frame.{fact_by, opened_by, with_byte}
use Rattle.flash.specs.Cycle.{blank}
use Rattle.flash.proofs.Written.{address_of}
use Rattle.image.specs.Image.{Image}
use Rattle.machine.specs.Effects.{flash_after}
use Rattle.fewest.specs.Entries.{sector_erase, chip_erase, program, starts, byte_after}
use Rattle.refill.specs.Records.{bytes_sent, opened, framed, wren, Bear}
use Rattle.refill.proofs.Halves.{Half, half, played, powered, idle, in_command, whole_of}
use Rattle.refill.proofs.Playing.{place_sent, roll_place, roll_small, erase_sent, program_sent, first_played, erase_ended, program_ended, enabled_enable, kept_enable, chip_sent, chip_ended}
use Rattle.refill.proofs.Images.{Holds, by_sector, by_program, by_chip_lem}
use Rattle.refill.proofs.Whole.{same_sector, same_page, unlocked, bytes_played, program_opened}
use Rattle.refill.proofs.Replayed.{Leaves}

-- any events are borne by records, of whatever stamp
pub some_records : (t : ℕ) (es : List FlashEvent) → (rs : List Record) × Bear rs es
unfolding Bear
some_records t [] = ([], tt)
some_records t (e ∷ es) =
    let r = some_records t es in
    (on_f t e ∷ r.0, (refl, r.1))

-- the place of any three address bytes: 'A23 to A17 are ignored'
byte_in_lem : (p b : ℕ) → with_byte (p % flash_size) b ≡ (p * 256 + b) % flash_size
byte_in_lem p b = omega arith

address_in : (high middle low : ℕ) → place_sent high middle low ≡ address_of high middle low
address_in high middle low =
    let first : with_byte 0 high ≡ high % flash_size = omega arith in
    let second : with_byte (with_byte 0 high) middle ≡ (high * 256 + middle) % flash_size = ap (λ (p : ℕ). with_byte p middle) first ∙ byte_in_lem high middle in
    ap (λ (p : ℕ). with_byte p low) second ∙ byte_in_lem (high * 256 + middle) low ∙ ap (λ (n : ℕ). n % flash_size) (omega arith)

-- WREN's frame, a frame of these bytes, `end`
abbrev pub sends : List ℕ → List FlashEvent
sends bs = wren ++ (framed bs ++ (End ∷ []))

-- 'x in an op-code is don't care': the frame goes on as with another code of the same instruction
same_code : (lock : Bool) (watched s : ℕ) (i : Image) (code other : ℕ) (bs : List ℕ) → decode_of code ≡ decode_of other
    → played (powered lock) watched (opened (code ∷ bs)) (half (idle s) i) ≡ played (powered lock) watched (opened (other ∷ bs)) (half (idle s) i)
unfolding played flash_after
same_code lock watched s i code other bs e =
    ap (λ d. played (powered lock) watched (bytes_sent bs) (half (record { frame = opened_by false d (fact_by (Some s) lock); cycle = None; status = Some s; page = blank }) i)) e

module _ (lock : Bool) (w s : ℕ) (l : w < flash_sectors) (kept : kept_bits s ≡ s) (i : Image) (content : ℕ → ℕ) (h : Holds w i content) (code high middle low : ℕ) where
  abbrev a : ℕ
  a = address_of high middle low

  abbrev fact : LockFact
  fact = fact_by (Some (with_enable s)) lock

  -- a sector erase erases its address's sector
  pub any_erase : decode_of code ≡ decode_of 0x52 → starts s (sector_erase (sector_of a)) ≡ true
      → Leaves w (λ k. byte_after s (sector_erase (sector_of a)) k (content k)) s (played (powered lock) (suc w) (sends (code ∷ high ∷ middle ∷ low ∷ [])) (half (idle s) i))
  any_erase is st =
      let j = whole_of (suc w) (cycle.SectorErase (sector_of a)) blank (with_enable s) i in
      record {
        image = j;
        holds = by_sector w s l i content h (sector_of a) st;
        ends = bytes_played lock (suc w) (code ∷ high ∷ middle ∷ low ∷ []) s i
            ∙ ap (λ (x : Half). played (powered lock) (suc w) (Deselect ∷ End ∷ []) x)
            (same_code lock (suc w) (with_enable s) i code 0x52 (high ∷ middle ∷ low ∷ []) is ∙ erase_sent lock (suc w) (with_enable s) high middle low i)
            ∙ ap (λ (p : ℕ). played (powered lock) (suc w) (Deselect ∷ End ∷ []) (half (in_command op.SectorErase 4 p fact (with_enable s) blank) i)) (address_in high middle low)
            ∙ erase_ended lock (suc w) (with_enable s) a fact i (unlocked s (sector_of a) (sector_of a) refl st) (enabled_enable s)
            ∙ ap (λ (x : ℕ). half (idle x) j) (kept_enable s ∙ kept);
      }

  -- PROGRAM of one data byte or more programs its address's page with what the rolling leaves, ff where nothing was sent
  pub any_program : decode_of code ≡ decode_of 0x02 → (d : ℕ) (ds : List ℕ) → starts s (program (a / flash_page) (roll flash_page (a % flash_page) (d ∷ ds) blank)) ≡ true
      → Leaves w (λ k. byte_after s (program (a / flash_page) (roll flash_page (a % flash_page) (d ∷ ds) blank)) k (content k)) s
      (played (powered lock) (suc w) (sends (code ∷ high ∷ middle ∷ low ∷ d ∷ ds)) (half (idle s) i))
  any_program is d ds st =
      let n = a / 256 in
      let r = a % 256 in
      let e : place_sent high middle low ≡ 256 * n + r = address_in high middle low ∙ omega arith in
      let q = roll_place r (d ∷ ds) in
      let small = roll_small r (d ∷ ds) (omega arith) in
      let page = roll 256 r (d ∷ ds) blank in
      let u = unlocked s (sector_of (256 * n + q)) (sector_of (flash_page * n)) (same_sector n q small) st in
      let sent : played (powered lock) (suc w) (opened (code ∷ high ∷ middle ∷ low ∷ d ∷ ds)) (half (idle (with_enable s)) i) ≡ half (in_command op.Program 5 (256 * n + q) fact (with_enable s) page) i =
      same_code lock (suc w) (with_enable s) i code 0x02 (high ∷ middle ∷ low ∷ d ∷ ds) is
      ∙ program_opened lock (suc w) (with_enable s) high middle low d ds i
      ∙ ap (λ (x : Half). played (powered lock) (suc w) (bytes_sent (d ∷ ds)) x) (program_sent lock (suc w) (with_enable s) high middle low i)
      ∙ ap (λ (x : ℕ). played (powered lock) (suc w) (bytes_sent (d ∷ ds)) (half (in_command op.Program 4 x fact (with_enable s) blank) i)) e
      ∙ first_played lock (suc w) (with_enable s) n r d fact blank i ds (omega arith) in
      record {
        image = whole_of (suc w) (cycle.Program n) page (with_enable s) i;
        holds = by_program w s l i content h n page (omega arith) st;
        ends = bytes_played lock (suc w) (code ∷ high ∷ middle ∷ low ∷ d ∷ ds) s i
            ∙ ap (λ (x : Half). played (powered lock) (suc w) (Deselect ∷ End ∷ []) x) sent
            ∙ program_ended lock (suc w) (with_enable s) (256 * n + q) fact page i u (enabled_enable s)
            ∙ ap₂ (λ (x y : ℕ). half (idle x) (whole_of (suc w) (cycle.Program y) page (with_enable s) i)) (kept_enable s ∙ kept) (same_page n q small);
      }

-- a chip erase
pub any_chip : (lock : Bool) (w s : ℕ) → w < flash_sectors → kept_bits s ≡ s → (i : Image) (content : ℕ → ℕ) → Holds w i content → (code : ℕ) → decode_of code ≡ decode_of 0x62
    → starts s chip_erase ≡ true → Leaves w (λ k. byte_after s chip_erase k (content k)) s (played (powered lock) (suc w) (sends (code ∷ [])) (half (idle s) i))
any_chip lock w s l kept i content h code is st =
    let j = whole_of (suc w) cycle.ChipErase blank (with_enable s) i in
    record {
      image = j;
      holds = by_chip_lem w s l i content h st;
      ends = bytes_played lock (suc w) (code ∷ []) s i
          ∙ ap (λ (x : Half). played (powered lock) (suc w) (Deselect ∷ End ∷ []) x)
          (same_code lock (suc w) (with_enable s) i code 0x62 [] is ∙ chip_sent lock (suc w) (with_enable s) i)
          ∙ chip_ended lock (suc w) (with_enable s) 0 (fact_by (Some (with_enable s)) lock) i (unlocked s 1 1 refl st) (enabled_enable s)
          ∙ ap (λ (x : ℕ). half (idle x) j) (kept_enable s ∙ kept);
    }
