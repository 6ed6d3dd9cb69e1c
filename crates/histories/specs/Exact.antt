-- Believed: What doubt means (document 02, request 8/12), as claims about any outcome that the promise of the exported call admits with answer 0, 6, 7 or 8.
use Rattle.std.specs.Prelude.{◌≡◌, Bool, true, false, ◌⊎◌, ◌↔◌, List, ℕ, ◌+◌, ◌*◌, ◌≤◌, ◌<◌, get_or}
use Rattle.meaning.specs.Meaning.{Reason, before}
use Rattle.record.specs.declared.Board.{Board}
use Rattle.record.specs.declared.Chip.{Chip}
use Rattle.record.specs.declared.Record.{Record}
use Rattle.image.specs.Image.{cell_at}
use Rattle.image.specs.Images.{image_at, kept_bytes}
use Rattle.machine.specs.Machine.{on_machine}
use Rattle.buffers.specs.Buffers.{Buffers}
use Rattle.call.specs.Replay.{Ended, Replays}
use Rattle.demands.specs.Grounds.{Taken}
use Rattle.demands.specs.Stops.{StopsAt}
use Rattle.histories.specs.History.{bit_of, Bits, RealReply, byte, no_byte, StandFor, History, ends, replied}

-- A bit that is shown with a value and a mark, and that is a bit of each history of H: 'marked doubtful exactly when two chip histories .. end with different values there, and an unmarked bit has the shown value in all'
pub record MeansDoubt (H : Type 0) (bit : H → Bool) (value mark : Bool) : Type 0 where
  pub marked : (mark ≡ true) ↔ ((h : H) × (g : H) × (bit h ≡ bit g → ⊥))
  pub unmarked : mark ≡ false → (h : H) → bit h ≡ value

-- is it a byte, and bit j of it
abbrev pub is_byte : RealReply → Bool
is_byte (byte w) = true
is_byte no_byte = false

abbrev pub bit_in : RealReply → ℕ → Bool
bit_in (byte w) j = w j
bit_in no_byte j = false

-- of the histories of the records ps, from the images lent
pub record Exact (b : Board) (ps : List Record) (x : Buffers) (e : Ended) : Type 0 where
  -- there is one
  pub some : History b ps x.images
  -- each bit left in the images means doubt by how they end
  pub images : (chip : Chip) (k j : ℕ) → k < kept_bytes chip → j < 8 →
      MeansDoubt (History b ps x.images) (λ h. ends h chip k j) (bit_of (cell_at (image_at chip e.buffers.images) k).value j) (bit_of (cell_at (image_at chip e.buffers.images) k).mask j)
  -- and all at once: whatever values the marked bits are given, with the shown one for every other, a history ends with them
  pub free : (y : Bits) → StandFor e.buffers.images y →
      (h : History b ps x.images) × ((chip : Chip) (k j : ℕ) → k < kept_bytes chip → j < 8 → ends h chip k j ≡ y chip k j)
  -- a record's reply is a byte, kind 2, exactly where one is replied in a history, whichever it is
  pub kinds : (n : ℕ) (h : History b ps x.images) → (get_or e.buffers.replies (4 * n) 0 ≡ 2) ↔ (is_byte (replied h n) ≡ true)
  -- and each of its bits means doubt by what is replied in them to that record
  pub replies : (n j : ℕ) → j < 8 → get_or e.buffers.replies (4 * n) 0 ≡ 2 →
      MeansDoubt (History b ps x.images) (λ h. bit_in (replied h n) j) (bit_of (get_or e.buffers.replies (4 * n + 1) 0) j) (bit_of (get_or e.buffers.replies (4 * n + 2) 0) j)

-- the records that an outcome shows of those of a text that is taken: all where it settles, those before the stop's stamp where it stops
pub data RecordsShown (e : Ended) (b : Board) (rs : List Record) : List Record → Type 0 where
  settled : e.answer ≡ 0 → RecordsShown e b rs rs
  stopped : (n : Reason) (t : ℕ) → StopsAt e n t → RecordsShown e b rs (before (on_machine b) t rs)

-- 32. doubt means doubt, of the histories of the records shown
abbrev pub DoubtExact : Type 0
DoubtExact = (text : List ℕ) (x : Buffers) (e : Ended) (b : Board) (rs ps : List Record) → Replays text x e → Taken text x b rs → RecordsShown e b rs ps → Exact b ps x e

-- 33. every outcome with answer 0, 6, 7 or 8 has such a text and such records, so that 32 speaks of it
abbrev pub AnswerShows : Type 0
AnswerShows =
    (text : List ℕ) (x : Buffers) (e : Ended) → Replays text x e → (e.answer ≡ 0) ⊎ (6 ≤ e.answer)
    → (b : Board) × (rs : List Record) × (ps : List Record) × Taken text x b rs × RecordsShown e b rs ps
