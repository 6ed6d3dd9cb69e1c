-- What the call tells in the table, and what a mark of 0 says of the image: by what it shows, and by what the records make of a page.
use mathlib.Core.Path.{◌≡◌, refl, sym, ap, subst, ◌∙◌}
use mathlib.Core.Logic.{◌⊎◌, inl, inr}
use mathlib.Core.List.{List, ◌∷◌}
use Prim.Native.Nat.{ℕ, ◌/◌, ◌≤◌, ◌<◌}
use native.Mathlib.Omega.{arith}
use lib.ListN.{length, get_or}
use borrow.Author.Tests.{le-ltb}
use Rattle.law.specs.Lists.{all_behind, all_filter}
use Rattle.law.specs.Words.{All}
use Rattle.meaning.specs.Meaning.{Allowed, after}
use Rattle.meaning.proofs.Allowing.{allowed_all}
use Rattle.record.specs.declared.Board.{Board}
use Rattle.record.specs.declared.Chip.{Chip}
use Rattle.record.specs.declared.Record.{Record}
use Rattle.field.specs.Decimal.{largest}
use Rattle.image.specs.Image.{cell_at}
use Rattle.image.specs.Images.{Images, image_at, page_size}
use Rattle.times.specs.Times.{Time, never, written, pages_of, entry_bytes, time_bytes}
use Rattle.machine.specs.Machine.{Machine, machine_at_start, on_machine}
use Rattle.call.specs.Replay.{Ended}
use Rattle.demands.specs.Lines.{records_of, left_by}
use Rattle.demands.specs.Times.{NoneWrites, WrittenLast, entry_place, entry_at, TellsLast, EntryTells, NeverAsLent}
use Rattle.demands.proofs.Readable.{stamps_fit}
use Rattle.demands.proofs.Shown.{call_left}
use Rattle.demands.proofs.Stops.{settled_shows, stop_shows}
use Rattle.demands.proofs.LastTime.{time_of, none_time, written_time, none_place, one_of_two}
use Rattle.demands.proofs.Entries.{table_length, entry_bytes_lem, mark_never}

abbrev Fits : List Record → Type 0
Fits l = All (λ (r : Record). r.stamp ≤ largest) l

-- the last that wrote a page is one of the records
pub last_fits : (b : Board) (m : Machine) (o : List Record) (chip : Chip) (n t : ℕ) → WrittenLast b m o chip n t → Fits o → t ≤ largest
unfolding All WrittenLast
last_fits b m o chip n t h f =
    let k : h.1.stamp ≤ largest = (all_behind _ h.0 (h.1 ∷ h.2) (subst Fits h.3 f)).0 in
    subst (λ (u : ℕ). u ≤ largest) h.5 k

-- at the start none was written
pub at_start : (b : Board) (x : Images) (chip : Chip) (n : ℕ) → time_of chip n (machine_at_start b x).times ≡ never
at_start b x Chip.Flash n = refl
at_start b x Chip.Eeprom n = refl

-- 21
tells : (b : Board) (x : Images) (rs o : List Record) (table : List ℕ) → Fits rs → Allowed (on_machine b) rs o → table ≡ time_bytes (after (on_machine b) o (machine_at_start b x)).times → TellsLast b (machine_at_start b x) o table
tells b x rs o table f a is =
    let start = machine_at_start b x in
    let y = (after (on_machine b) o start).times in
    let told : (chip : Chip) (n : ℕ) → n < pages_of chip → (time : Time) → time_of chip n y ≡ time → entry_at chip n table ≡ entry_bytes time =
    λ chip n l time h. ap (entry_at chip n) is ∙ entry_bytes_lem y chip n l ∙ ap entry_bytes h in
    record {
      long = ap length is ∙ table_length y;
      written = λ chip n l t w. (told chip n l (written t) (written_time b chip n o start t w), last_fits b start o chip n t w (allowed_all (on_machine b) _ rs o a f));
      never = λ chip n l h. told chip n l never (none_time b chip n o start h ∙ at_start b x chip n);
      one_of_two = λ chip n. one_of_two b chip n o start;
    }

pub entry_tells : EntryTells
entry_tells text x e b rs p k =
    let f = stamps_fit rs k.readable.fits in
    record {
      settled = λ h o a. tells b x.images rs o e.buffers.times f a (settled_shows p k.fits k.within k.readable h o a).times;
      stopped = λ n t s o a. tells b x.images _ o e.buffers.times (all_filter _ _ rs f) a (stop_shows p k.fits k.within k.readable n t s o a).times;
    }

-- 22
never_none : (b : Board) (m : Machine) (o : List Record) (chip : Chip) (n : ℕ) → time_of chip n (after (on_machine b) o m).times ≡ never → NoneWrites b m o chip n
never_none b m o chip n h = by (one_of_two b chip n o m)
  where
    by : ((t : ℕ) × WrittenLast b m o chip n t) ⊎ NoneWrites b m o chip n → NoneWrites b m o chip n
    by (inl w) =
        let clash : written w.0 ≡ never = sym (written_time b chip n o m w.0 w.1) ∙ h in
        let z : ◌≡◌ {A = ℕ} 0 1 = cc in
        absurd (omega arith)
    by (inr none) = none

left_as_lent : (b : Board) (u t : ℕ) (ps : List Record) (m : Machine) (chip : Chip) (n : ℕ) → n < pages_of chip → get_or (left_by b u t ps m).buffers.times (entry_place chip n) 0 ≡ 0 →
    (k : ℕ) → k / page_size chip ≡ n → cell_at (image_at chip (left_by b u t ps m).buffers.images) k ≡ cell_at (image_at chip m.images) k
unfolding left_by
left_as_lent b u t ps m chip n l h k here = none_place b chip n k here ps m (never_none b m ps chip n (mark_never (after (on_machine b) ps m).times chip n l h))

pub never_as_lent : NeverAsLent
never_as_lent text x e b rs p k chip n l h j here =
    let z = call_left p k.fits (le-ltb _ _ k.within) k.readable in
    let mark = sym (ap (λ (w : Ended). get_or w.buffers.times (entry_place chip n) 0) z.2) ∙ h in
    ap (λ (w : Ended). cell_at (image_at chip w.buffers.images) j) z.2
    ∙ left_as_lent b _ _ (records_of b z.0 rs) (machine_at_start b x.images) chip n l mark j here
