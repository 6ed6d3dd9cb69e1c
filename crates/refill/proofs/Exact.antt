-- Every list of entries, also with some that start nothing: as many cycles start and end as `cycles` says, and the watched sector's bytes are as the list leaves them. Assumes nothing.
use Prim.Native.Nat.{ℕ, suc, ◌+◌, ◌-◌, ◌*◌, ◌/◌, ◌%◌, ◌≤◌, ◌<◌}
use mathlib.Core.Path.{◌≡◌, refl, sym, ap, ap₂, subst, ◌∙◌}
use mathlib.Core.Bool.{Bool, true, false, not}
use mathlib.Core.List.{List, [], ◌∷◌, ◌++◌, append_assoc}
use native.Mathlib.Nat.{add-zero}
use native.Mathlib.Omega.{arith}
use lib.ListN.{get_or}
use Rattle.law.specs.Words.{All, pick}
use Rattle.law.specs.Choice.{split, true_not_false}
use Rattle.page.specs.Geometry.{flash_page, flash_sector, flash_sectors}
use Rattle.meaning.specs.Meaning.{F, after, replies}
use Rattle.cell.specs.declared.Cell.{Cell}
use Rattle.record.specs.declared.Lines.{Lines}
use Rattle.flash.specs.declared.Flash.{Flash}
use Rattle.machine.specs.Machine.{Machine, on_machine}
use Rattle.record.specs.declared.FlashEvent.{FlashEvent}
use Rattle.record.specs.declared.FlashEvent.TheVariants.{Deselect, End}
use Rattle.record.specs.declared.Reply.{Reply}
use Rattle.record.specs.declared.Reply.TheVariants as reply
use Rattle.flash.specs.declared.Op.TheVariants as op
use Rattle.flash.specs.declared.LockFact.{LockFact}
use Rattle.std.specs.Prelude.{Some}
use Rattle.flash.specs.Code.{sector_of, sector_locked, kept_bits, with_enable}
use Rattle.flash.specs.Frame.{fact_by}
use Rattle.flash.specs.Cycle.{blank}
use Rattle.image.specs.Image.{Image, cell_at}
use Rattle.machine.specs.Effects.{flash_after}
use Rattle.machine.specs.Replies.{delivered}
use Rattle.page.specs.Roll.{roll}
use Rattle.fewest.specs.Entries.{Entry, sector_erase, chip_erase, program, starts, byte_after, byte_after_all, Yields, cycles, sure}
use Rattle.refill.specs.Records.{bytes_sent, opened, framed, wren, instruction_of, events_of, events_of_all, Shows}
use Rattle.refill.specs.Refill.{Sized, of_kind, count}
use Rattle.refill.specs.Played.{Run, EntriesPlayed, FewestPlayed}
use Rattle.refill.proofs.Halves.{Half, half, played, tally, powered, idle, in_command, whole_of}
use Rattle.refill.proofs.Playing.{played_append, wren_played, erase_sent, chip_sent, program_sent, place_sent, roll_place, roll_small, first_played, locked_enable, kept_enable, address_sent}
use Rattle.refill.proofs.Images.{Holds, cycle_of, page_of_cycle}
use Rattle.refill.proofs.Counting.{Counts, starts_count, ends_count, as_reply, tally_append, wren_quiet, opened_quiet}
use Rattle.refill.proofs.Whole.{same_sector, bytes_played, program_opened, entry_played, entry_counts}
use Rattle.refill.proofs.Replayed.{held, half_of, half_played, replies_count}
use Rattle.refill.proofs.Claims.{all_plan_claims}

locked_if : (b : Bool) → not b ≡ false → b ≡ true
locked_if true h = refl
locked_if false h = absurd (true_not_false h)

locked : (s x y : ℕ) → x ≡ y → not (sector_locked s y) ≡ false → sector_locked (with_enable s) x ≡ true
locked s x y e h = locked_enable s x ∙ ap (sector_locked s) e ∙ locked_if (sector_locked s y) h

sector_first : (t : ℕ) → 1 ≤ t → t ≤ flash_sectors → sector_of (flash_sector * (t - 1)) ≡ t
sector_first t a b = omega arith

enable_twice : (s : ℕ) → with_enable (with_enable s) ≡ with_enable s
enable_twice s = ap (λ (x : ℕ). x + 2) (kept_enable s)

enable_kept : (s : ℕ) → with_enable (kept_bits s) ≡ with_enable s
enable_kept s = omega arith

module _ (lock : Bool) (watched : ℕ) where
  -- `des` and `end` where it is barred
  erase_barred : (s p : ℕ) (fact : LockFact) (i : Image) → sector_locked s (sector_of p) ≡ true
      → played (powered lock) watched (Deselect ∷ End ∷ []) (half (in_command op.SectorErase 4 p fact s blank) i) ≡ half (idle s) i
  unfolding played flash_after
  erase_barred s p fact i u = rw u refl

  chip_barred : (s p : ℕ) (fact : LockFact) (i : Image) → sector_locked s 1 ≡ true
      → played (powered lock) watched (Deselect ∷ End ∷ []) (half (in_command op.ChipErase 1 p fact s blank) i) ≡ half (idle s) i
  unfolding played flash_after
  chip_barred s p fact i u = rw u refl

  program_barred : (s p : ℕ) (fact : LockFact) (page : List ℕ) (i : Image) → sector_locked s (sector_of p) ≡ true
      → played (powered lock) watched (Deselect ∷ End ∷ []) (half (in_command op.Program 5 p fact s page) i) ≡ half (idle s) i
  unfolding played flash_after
  program_barred s p fact page i u = rw u refl

  module _ (f : Reply → ℕ) (c : Counts f) (none : f reply.NoCycle ≡ 0) where
    erase_none : (s p : ℕ) (fact : LockFact) (i : Image) → sector_locked s (sector_of p) ≡ true
        → tally (powered lock) watched (as_reply f) (Deselect ∷ End ∷ []) (half (in_command op.SectorErase 4 p fact s blank) i) ≡ 0
    unfolding tally delivered
    erase_none s p fact i u = rw u (ap₂ (λ (x y : ℕ). x + (y + 0)) c.silent none)

    chip_none : (s p : ℕ) (fact : LockFact) (i : Image) → sector_locked s 1 ≡ true
        → tally (powered lock) watched (as_reply f) (Deselect ∷ End ∷ []) (half (in_command op.ChipErase 1 p fact s blank) i) ≡ 0
    unfolding tally delivered
    chip_none s p fact i u = rw u (ap₂ (λ (x y : ℕ). x + (y + 0)) c.silent none)

    program_none : (s p : ℕ) (fact : LockFact) (page : List ℕ) (i : Image) → sector_locked s (sector_of p) ≡ true
        → tally (powered lock) watched (as_reply f) (Deselect ∷ End ∷ []) (half (in_command op.Program 5 p fact s page) i) ≡ 0
    unfolding tally delivered
    program_none s p fact page i u = rw u (ap₂ (λ (x y : ℕ). x + (y + 0)) c.silent none)

    record Barred (o : Entry) (s : ℕ) (i : Image) : Type 0 where
      found : Half
      sent : played (powered lock) watched (opened (instruction_of o)) (half (idle (with_enable s)) i) ≡ found
      ends : played (powered lock) watched (Deselect ∷ End ∷ []) found ≡ half (idle (with_enable s)) i
      counts : tally (powered lock) watched (as_reply f) (Deselect ∷ End ∷ []) found ≡ 0

    barred : (o : Entry) (s : ℕ) (i : Image) → Sized o → starts s o ≡ false → Barred o s i
    barred (sector_erase t) s i ok st =
        let a = flash_sector * (t - 1) in
        let e = address_sent a (omega (arith, ok.1)) in
        let fact : LockFact = fact_by (Some (with_enable s)) lock in
        let u = locked s (sector_of a) t (sector_first t ok.0 ok.1) st in record {
          found = half (in_command op.SectorErase 4 a fact (with_enable s) blank) i;
          sent = erase_sent lock watched (with_enable s) (a / 65536 % 256) (a / 256 % 256) (a % 256) i
              ∙ ap (λ (p : ℕ). half (in_command op.SectorErase 4 p fact (with_enable s) blank) i) e;
          ends = erase_barred (with_enable s) a fact i u;
          counts = erase_none (with_enable s) a fact i u;
        }
    barred chip_erase s i ok st =
        let fact : LockFact = fact_by (Some (with_enable s)) lock in
        let u = locked s 1 1 refl st in record {
          found = half (in_command op.ChipErase 1 0 fact (with_enable s) blank) i;
          sent = chip_sent lock watched (with_enable s) i;
          ends = chip_barred (with_enable s) 0 fact i u;
          counts = chip_none (with_enable s) 0 fact i u;
        }
    barred (program n []) s i ok st = absurd (omega (arith, ok.1))
    barred (program n (d ∷ ds)) s i ok st =
        let a = flash_page * n in
        let e : place_sent (a / 65536 % 256) (a / 256 % 256) (a % 256) ≡ 256 * n + 0 = address_sent a (omega (arith, ok.0)) ∙ sym (add-zero (256 * n)) in
        let fact : LockFact = fact_by (Some (with_enable s)) lock in
        let q = roll_place 0 (d ∷ ds) in
        let small = roll_small 0 (d ∷ ds) (omega arith) in
        let page = roll 256 0 (d ∷ ds) blank in
        let u = locked s (sector_of (256 * n + q)) (sector_of (flash_page * n)) (same_sector n q small) st in record {
          found = half (in_command op.Program 5 (256 * n + q) fact (with_enable s) page) i;
          sent = program_opened lock watched (with_enable s) (a / 65536 % 256) (a / 256 % 256) (a % 256) d ds i
              ∙ ap (λ (x : Half). played (powered lock) watched (bytes_sent (d ∷ ds)) x) (program_sent lock watched (with_enable s) (a / 65536 % 256) (a / 256 % 256) (a % 256) i)
              ∙ ap (λ (x : ℕ). played (powered lock) watched (bytes_sent (d ∷ ds)) (half (in_command op.Program 4 x fact (with_enable s) blank) i)) e
              ∙ first_played lock watched (with_enable s) n 0 d fact blank i ds (omega arith);
          ends = program_barred (with_enable s) (256 * n + q) fact page i u;
          counts = program_none (with_enable s) (256 * n + q) fact page i u;
        }

    -- an entry that starts nothing leaves the image, and write enable on
    pub nothing_played : (o : Entry) (s : ℕ) (i : Image) → Sized o → starts s o ≡ false
        → played (powered lock) watched (events_of o) (half (idle s) i) ≡ half (idle (with_enable s)) i
    nothing_played o s i ok st =
        let r = barred o s i ok st in
        bytes_played lock watched (instruction_of o) s i ∙ ap (λ (x : Half). played (powered lock) watched (Deselect ∷ End ∷ []) x) r.sent ∙ r.ends

    pub nothing_counts : (o : Entry) (s : ℕ) (i : Image) → Sized o → starts s o ≡ false → tally (powered lock) watched (as_reply f) (events_of o) (half (idle s) i) ≡ 0
    nothing_counts o s i ok st =
        let r = barred o s i ok st in
        let bs = instruction_of o in
        let ready = half (idle (with_enable s)) i in
        tally_append f c lock watched wren (framed bs ++ (End ∷ [])) (half (idle s) i)
        ∙ ap₂ (λ (x : ℕ) (h : Half). x + tally (powered lock) watched (as_reply f) (framed bs ++ (End ∷ [])) h) (wren_quiet f c lock watched s i) (wren_played lock watched s i)
        ∙ ap (λ (es : List FlashEvent). 0 + tally (powered lock) watched (as_reply f) es ready) (append_assoc (opened bs) (Deselect ∷ []) (End ∷ []))
        ∙ ap (λ (x : ℕ). 0 + x) (tally_append f c lock watched (opened bs) (Deselect ∷ End ∷ []) ready)
        ∙ ap₂ (λ (x y : ℕ). 0 + (x + y)) (opened_quiet f c lock watched o (with_enable s) i)
        (ap (λ (h : Half). tally (powered lock) watched (as_reply f) (Deselect ∷ End ∷ []) h) r.sent ∙ r.counts)

-- ---- the list: from any status that write enable makes the same

pub record Comes (w : ℕ) (content : ℕ → ℕ) (s : ℕ) (h : Half) : Type 0 where
  pub status : ℕ
  pub same : with_enable status ≡ with_enable s
  pub image : Image
  pub holds : Holds w image content
  pub ends : h ≡ half (idle status) image

module _ (lock : Bool) (w s : ℕ) (l : w < flash_sectors) (f : Reply → ℕ) (c : Counts f) (none : f reply.NoCycle ≡ 0) where
  -- WREN's frame forgets whether write enable was on
  same_played : (o : Entry) (t : ℕ) (i : Image) → with_enable t ≡ with_enable s
      → played (powered lock) (suc w) (events_of o) (half (idle t) i) ≡ played (powered lock) (suc w) (events_of o) (half (idle s) i)
  same_played o t i e =
      bytes_played lock (suc w) (instruction_of o) t i
      ∙ ap (λ (x : ℕ). played (powered lock) (suc w) (Deselect ∷ End ∷ []) (played (powered lock) (suc w) (opened (instruction_of o)) (half (idle x) i))) e
      ∙ sym (bytes_played lock (suc w) (instruction_of o) s i)

  same_counts : (o : Entry) (t : ℕ) (i : Image) → with_enable t ≡ with_enable s
      → tally (powered lock) (suc w) (as_reply f) (events_of o) (half (idle t) i) ≡ tally (powered lock) (suc w) (as_reply f) (events_of o) (half (idle s) i)
  same_counts o t i e = from t ∙ ap (λ (x : ℕ). 0 + tally (powered lock) (suc w) (as_reply f) (framed (instruction_of o) ++ (End ∷ [])) (half (idle x) i)) e ∙ sym (from s)
    where
      from : (t : ℕ) → tally (powered lock) (suc w) (as_reply f) (events_of o) (half (idle t) i) ≡ 0 + tally (powered lock) (suc w) (as_reply f) (framed (instruction_of o) ++ (End ∷ [])) (half (idle (with_enable t)) i)
      from t =
          tally_append f c lock (suc w) wren (framed (instruction_of o) ++ (End ∷ [])) (half (idle t) i)
          ∙ ap₂ (λ (x : ℕ) (h : Half). x + tally (powered lock) (suc w) (as_reply f) (framed (instruction_of o) ++ (End ∷ [])) h) (wren_quiet f c lock (suc w) t i) (wren_played lock (suc w) t i)

  -- one entry, by whether it starts
  one_comes : (o : Entry) (t : ℕ) → with_enable t ≡ with_enable s → (i : Image) (content : ℕ → ℕ) → Holds w i content → Sized o
      → Comes w (λ k. byte_after s o k (content k)) s (played (powered lock) (suc w) (events_of o) (half (idle t) i))
  one_comes o t e i content h ok =
      split (starts s o)
      (λ st. record {
        status = kept_bits s;
        same = enable_kept s;
        image = whole_of (suc w) (cycle_of o) (page_of_cycle o) (with_enable s) i;
        holds = held w s l i content h o ok st;
        ends = same_played o t i e ∙ entry_played lock (suc w) f c o s i ok st;
      })
      (λ st. record {
        status = with_enable s;
        same = enable_twice s;
        image = i;
        holds = record { fit = h.fit; cells = λ q small. h.cells q small ∙ ap (λ (v : ℕ). record { value = v; mask = 0 }) (stays o st (flash_sector * w + q) (content (flash_sector * w + q))) };
        ends = same_played o t i e ∙ nothing_played lock (suc w) f c none o s i ok st;
      })
    where
      stays : (o : Entry) → starts s o ≡ false → (k v : ℕ) → v ≡ byte_after s o k v
      stays o st k v = rw st refl

  one_counts : (o : Entry) (t : ℕ) → with_enable t ≡ with_enable s → (i : Image) → Sized o
      → tally (powered lock) (suc w) (as_reply f) (events_of o) (half (idle t) i) ≡ pick (starts s o) 1 0
  one_counts o t e i ok =
      split (starts s o)
      (λ st. same_counts o t i e ∙ entry_counts lock (suc w) f c o s i ok st ∙ ap (λ (b : Bool). pick b 1 0) (sym st))
      (λ st. same_counts o t i e ∙ nothing_counts lock (suc w) f c none o s i ok st ∙ ap (λ (b : Bool). pick b 1 0) (sym st))

  pub list_comes : (os : List Entry) (t : ℕ) → with_enable t ≡ with_enable s → (i : Image) (content : ℕ → ℕ) → Holds w i content → All Sized os
      → Comes w (λ k. byte_after_all s os k (content k)) s (played (powered lock) (suc w) (events_of_all os) (half (idle t) i))
  unfolding All byte_after_all events_of_all played
  list_comes [] t e i content h ok = record { status = t; same = e; image = i; holds = h; ends = refl }
  list_comes (o ∷ os) t e i content h ok =
      let r = one_comes o t e i content h ok.0 in
      let q = list_comes os r.status r.same r.image (λ k. byte_after s o k (content k)) r.holds ok.1 in
      record {
        status = q.status;
        same = q.same;
        image = q.image;
        holds = q.holds;
        ends = played_append lock (suc w) (events_of o) (events_of_all os) (half (idle t) i)
            ∙ ap (λ (x : Half). played (powered lock) (suc w) (events_of_all os) x) r.ends
            ∙ q.ends;
      }

  pub list_counts : (os : List Entry) (t : ℕ) → with_enable t ≡ with_enable s → (i : Image) (content : ℕ → ℕ) → Holds w i content → All Sized os
      → tally (powered lock) (suc w) (as_reply f) (events_of_all os) (half (idle t) i) ≡ cycles s os
  unfolding All cycles events_of_all tally
  list_counts [] t e i content h ok = refl
  list_counts (o ∷ os) t e i content h ok =
      let r = one_comes o t e i content h ok.0 in
      tally_append f c lock (suc w) (events_of o) (events_of_all os) (half (idle t) i)
      ∙ ap₂ (λ (x y : ℕ). x + y) (one_counts o t e i ok.0)
      (ap (λ (x : Half). tally (powered lock) (suc w) (as_reply f) (events_of_all os) x) r.ends
      ∙ list_counts os r.status r.same r.image (λ k. byte_after s o k (content k)) r.holds ok.1)

-- ---- on the machine

module _ (status : ℕ) (present : List ℕ) (os : List Entry) (sized : All Sized os) (w : ℕ) (l : w < flash_sectors) (r : Run status present os w) where
  abbrev m : Machine
  m = r.machine

  abbrev lock : Bool
  lock = m.controls.lines.lock

  lines : m.controls.lines ≡ powered lock
  lines = λ j. record { supply = r.on j; lock = lock }

  there : Comes w (λ k. byte_after_all status os k (get_or present k 0)) status (played (powered lock) (suc w) (events_of_all os) (half (idle (kept_bits status)) m.images.flash))
  there =
      list_comes lock w status l (of_kind 5) starts_count refl os (kept_bits status) (enable_kept status) m.images.flash (λ k. get_or present k 0)
      (record { fit = r.shows.fit; cells = r.shows.cells }) sized

  ran : half_of (after (on_machine r.board) r.records m) ≡ half (idle there.status) there.image
  ran =
      half_played r.board r.records (events_of_all os) r.bear m
      ∙ ap₂ (λ (x : Lines) (n : ℕ). played x n (events_of_all os) (half_of m)) lines r.watched
      ∙ ap (λ (x : Flash). played (powered lock) (suc w) (events_of_all os) (half x m.images.flash)) r.begin
      ∙ there.ends

  -- each byte is as the list leaves it, without doubt
  run_shows : (q : ℕ) → q < flash_sector
      → cell_at (after (on_machine r.board) r.records m).images.flash q ≡ sure (byte_after_all status os (flash_sector * w + q) (get_or present (flash_sector * w + q) 0))
  run_shows q small = ap (λ (h : Half). cell_at h.image q) ran ∙ there.holds.cells q small

  -- and just those entries that start by the definition start a cycle, and end it
  all_counted : (f : Reply → ℕ) → Counts f → f reply.NoCycle ≡ 0 → count f (replies (on_machine r.board) F r.records m) ≡ cycles status os
  all_counted f c none =
      replies_count r.board f c r.records (events_of_all os) r.bear m
      ∙ ap₂ (λ (x : Lines) (n : ℕ). tally x n (as_reply f) (events_of_all os) (half_of m)) lines r.watched
      ∙ ap (λ (x : Flash). tally (powered lock) (suc w) (as_reply f) (events_of_all os) (half x m.images.flash)) r.begin
      ∙ list_counts lock w status l f c none os (kept_bits status) (enable_kept status) m.images.flash (λ k. get_or present k 0)
      (record { fit = r.shows.fit; cells = r.shows.cells }) sized

  run_starts : count (of_kind 5) (replies (on_machine r.board) F r.records m) ≡ cycles status os
  run_starts = all_counted (of_kind 5) starts_count refl

  run_ends : count (of_kind 6) (replies (on_machine r.board) F r.records m) ≡ cycles status os
  run_ends = all_counted (of_kind 6) ends_count refl

-- what yields on the machine, sector by sector, yields by the definition
machine_yields : (status : ℕ) (present wanted : List ℕ) (os : List Entry) → All Sized os
    → ((w : ℕ) → w < flash_sectors → (r : Run status present os w) × Shows w (after (on_machine r.board) r.records r.machine).images.flash wanted)
    → Yields status present wanted os
unfolding Yields
machine_yields status present wanted os sized runs k small =
    let w = k / flash_sector in
    let q = k % flash_sector in
    let l : w < flash_sectors = omega arith in
    let is : flash_sector * w + q ≡ k = omega arith in
    let r = runs w l in
    let here : byte_after_all status os (flash_sector * w + q) (get_or present (flash_sector * w + q) 0) ≡ get_or wanted (flash_sector * w + q) 0 =
    ap (λ (x : Cell). x.value) (sym (run_shows status present os sized w l r.0 q (omega arith)) ∙ r.1.cells q (omega arith)) in
    subst (λ (p : ℕ). byte_after_all status os p (get_or present p 0) ≡ get_or wanted p 0) is here

-- ---- the claims

pub entries_played : EntriesPlayed
entries_played status present os sized w l r = (run_shows status present os sized w l r, run_starts status present os sized w l r, run_ends status present os sized w l r)

pub fewest_played : FewestPlayed
fewest_played status present wanted list result byte p v left h nought os read other sized runs w l r =
    let few = ((all_plan_claims status present wanted list result byte p v left h).fewest nought os read other (machine_yields status present wanted other sized runs)).1 in
    omega (arith, few, run_starts status present other sized w l r)
