-- Believed: Demands 21 and 22 (document 02, request 1/12), of a text that is taken: what the table tells of each page, and that a page which it tells as never written holds what was lent.
use Rattle.std.specs.Prelude.{◌≡◌, true, false, ◌⊎◌, List, [], ◌∷◌, ◌++◌, ℕ, ◌+◌, ◌*◌, ◌/◌, ◌≤◌, ◌<◌, length, take, drop, get_or}
use Rattle.meaning.specs.Meaning.{Reason, Allowed, after, before}
use Rattle.record.specs.declared.Board.{Board}
use Rattle.record.specs.declared.Chip.{Chip}
use Rattle.record.specs.declared.Record.{Record}
use Rattle.record.specs.Word.{word}
use Rattle.field.specs.Decimal.{largest}
use Rattle.image.specs.Image.{cell_at}
use Rattle.image.specs.Images.{image_at, page_size}
use Rattle.times.specs.Times.{pages_of, first_entry, entry_length, times_length}
use Rattle.machine.specs.Machine.{Machine, machine_at_start, writes_page, play_on, on_machine}
use Rattle.buffers.specs.Buffers.{Buffers}
use Rattle.call.specs.Replay.{Ended, Replays}
use Rattle.demands.specs.Grounds.{Taken}
use Rattle.demands.specs.Stops.{StopsAt}

-- ---- the last record that wrote a page
-- none of the records, played one after the other from m, writes page n of the chip (`writes_page`, machine)
unfoldable pub NoneWrites : Board → Machine → List Record → Chip → ℕ → Type 0
NoneWrites b m [] chip n = Unit {0}
NoneWrites b m (r ∷ o) chip n = (writes_page b m.controls r chip n ≡ false) × NoneWrites b (play_on b m r) o chip n

-- one does, at the stamp t, and none behind it
unfoldable pub WrittenLast : Board → Machine → List Record → Chip → ℕ → ℕ → Type 0
WrittenLast b m o chip n t =
    (earlier : List Record) × (r : Record) × (later : List Record)
    × (o ≡ earlier ++ (r ∷ later))
    × (writes_page b (after (on_machine b) earlier m).controls r chip n ≡ true)
    × (r.stamp ≡ t)
    × NoneWrites b (play_on b (after (on_machine b) earlier m) r) later chip n

-- ---- the table
-- where the entry of the chip's page n begins, and its bytes
abbrev pub entry_place : Chip → ℕ → ℕ
entry_place chip n = entry_length * (first_entry chip + n)

abbrev pub entry_at : Chip → ℕ → List ℕ → List ℕ
entry_at chip n table = take entry_length (drop (entry_place chip n) table)

-- it tells, of each page, the last of the records o, played from m, that wrote it: a mark 1 and the stamp's four bytes, which hold it, or five zeros where none did; one of the two is the case
pub record TellsLast (b : Board) (m : Machine) (o : List Record) (table : List ℕ) : Type 0 where
  pub long : length table ≡ times_length
  pub written : (chip : Chip) (n : ℕ) → n < pages_of chip → (t : ℕ) → WrittenLast b m o chip n t → (entry_at chip n table ≡ 1 ∷ word t) × (t ≤ largest)
  pub never : (chip : Chip) (n : ℕ) → n < pages_of chip → NoneWrites b m o chip n → entry_at chip n table ≡ 0 ∷ 0 ∷ 0 ∷ 0 ∷ 0 ∷ []
  pub one_of_two : (chip : Chip) (n : ℕ) → ((t : ℕ) × WrittenLast b m o chip n t) ⊎ NoneWrites b m o chip n

-- of a text that is taken, with the records rs: so it does of every allowed order of all records where it settles, and of those before the stop's stamp where it stops
pub record Tells (x : Buffers) (e : Ended) (b : Board) (rs : List Record) : Type 0 where
  pub settled : e.answer ≡ 0 → (o : List Record) → Allowed (on_machine b) rs o → TellsLast b (machine_at_start b x.images) o e.buffers.times
  pub stopped : (n : Reason) (t : ℕ) → StopsAt e n t → (o : List Record) → Allowed (on_machine b) (before (on_machine b) t rs) o → TellsLast b (machine_at_start b x.images) o e.buffers.times

-- 21. 'the stamp of the last cycle that ended or was cut on it'
abbrev pub EntryTells : Type 0
EntryTells = (text : List ℕ) (x : Buffers) (e : Ended) (b : Board) (rs : List Record) → Replays text x e → Taken text x b rs → Tells x e b rs

-- 22. where the mark of a page's entry is 0, each place k of the page is left as it was lent, whether the call settles or stops
abbrev pub NeverAsLent : Type 0
NeverAsLent =
    (text : List ℕ) (x : Buffers) (e : Ended) (b : Board) (rs : List Record) → Replays text x e → Taken text x b rs
    → (chip : Chip) (n : ℕ) → n < pages_of chip → get_or e.buffers.times (entry_place chip n) 0 ≡ 0
    → (k : ℕ) → k / page_size chip ≡ n → cell_at (image_at chip e.buffers.images) k ≡ cell_at (image_at chip x.images) k
