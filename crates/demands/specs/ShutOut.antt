-- Believed: Demand 13: wrong programs are shut out (document 01, 'What the proofs must leave no room for'; requests 1/12, 2/12 and 3/12). Each claim names one text, which such a program would answer otherwise, and speaks of any outcome e that the promise of the exported call admits for it on any buffers that fit.
use Rattle.std.specs.Prelude.{◌≡◌, true, List, [], ◌∷◌, ◌++◌, ℕ, take, drop}
use Rattle.record.specs.declared.Record.{Record}
use Rattle.record.specs.declared.FlashEvent.TheVariants as flash
use Rattle.record.specs.declared.LineEvent.TheVariants.{SupplyOff}
use Rattle.cell.specs.Rules.{erased_cell, stored_cell, doubtful_cell}
use Rattle.image.specs.Image.{cell_at}
use Rattle.law.specs.Words.{All}
use Rattle.line.specs.Boards.{spelled_board}
use Rattle.line.specs.TypedWrong.{typed_wrong, typed_wrong_first}
use Rattle.text.specs.Texts.{spelled_trace}
use Rattle.buffers.specs.Buffers.{Buffers, fit, result_bytes}
use Rattle.call.specs.Replay.{Ended, Replays}
use Rattle.record.specs.Records.{on_f, on_l}
use Rattle.demands.specs.Bench.{plain, opened, framed, wren, three}
use Rattle.demands.specs.Worked.{page_cut}

-- ---- the texts
-- 'One listing in full', with the byte that was recorded for the status
abbrev pub asked : ℕ → List Record
asked so = on_f 10 flash.Select ∷ on_f 10 (flash.Byte 0x05 0xff) ∷ on_f 10 (flash.Byte 0x00 so) ∷ on_f 10 flash.Deselect ∷ []

abbrev pub listing : ℕ → List Record
listing so = asked so ++ (on_l 80 SupplyOff ∷ [])

-- case 11: WREN's `des` and `off` at one stamp
abbrev pub wren_off : List Record
wren_off = opened 10 (0x06 ∷ []) ++ (on_f 20 flash.Deselect ∷ on_l 20 SupplyOff ∷ [])

-- case 12: the same with a valid PROGRAM
abbrev pub program_off : List Record
program_off = wren 10 ++ (opened 20 (0x02 ∷ (three 0x00000 ++ (0xa5 ∷ []))) ++ (on_f 30 flash.Deselect ∷ on_l 30 SupplyOff ∷ []))

-- case 1: PROGRAM of a5 at 00000, to its `end`, the eleventh record, at the third stamp
abbrev pub sent : List Record
sent = framed 20 (0x02 ∷ (three 0x00000 ++ (0xa5 ∷ [])))

abbrev pub programmed : List Record
programmed = wren 10 ++ (sent ++ (on_f 30 flash.End ∷ []))

-- every outcome for a text, on any buffers that fit
abbrev pub EveryText : List ℕ → (Buffers → Ended → Type 0) → Type 0
EveryText text P = (x : Buffers) (e : Ended) → fit x ≡ true → Replays text x e → P x e

-- the same for the line `board 00 1 0` with these records
abbrev pub Every : List Record → (Buffers → Ended → Type 0) → Type 0
Every rs = EveryText (spelled_trace plain rs)

-- and for that line and any bytes after it
abbrev pub EveryAfter : List ℕ → (Buffers → Ended → Type 0) → Type 0
EveryAfter l = EveryText (spelled_board plain ++ l)

pub record ShutOut : Type 0 where
  -- a replay that refuses everything: this text settles
  pub refuses_everything : Every (listing 0x00) (λ x e. e.answer ≡ 0)
  -- one that always says settled: this text is answered 7
  pub always_settled : Every program_off (λ x e. e.answer ≡ 7)
  -- one that always says 7: this text settles
  pub always_differs : Every wren_off (λ x e. e.answer ≡ 0)
  -- one that leaves the images alone: a place that was ff/00 is a5/00
  pub leaves_the_images : Every programmed (λ x e. cell_at x.images.flash 0x00000 ≡ erased_cell → cell_at e.buffers.images.flash 0x00000 ≡ stored_cell 0xa5)
  -- one that plays the first stamp and then only reads on: the eleventh record, at the third stamp, has the reply bytes 6, 0, 0, 0
  pub plays_the_first_stamp : Every programmed (λ x e. take 4 (drop 40 e.buffers.replies) ≡ 6 ∷ 0 ∷ 0 ∷ 0 ∷ [])
  -- one whose count is invented: it is 0 where the status 00 was recorded as 00, and 1 where it was recorded as 01
  pub counts_none : Every (listing 0x00) (λ x e. e.buffers.result ≡ result_bytes 0 0 0 0)
  pub counts_one : Every (listing 0x01) (λ x e. e.buffers.result ≡ result_bytes 0 0 1 0)
  -- one that puts in doubt only the bytes sent (request 3/12): where the write of one byte to 007f is cut, 0040, which nothing was sent to, is 00/ff
  pub doubts_only_the_sent : Every page_cut (λ x e. cell_at e.buffers.images.eeprom 0x0040 ≡ doubtful_cell)
  -- one that leaves the table of times as it was lent, or tells the stamp of `des`, 20 (request 1/12): the entry of page 0, the table's first, is 1 and the stamp of `end`, 30
  pub tells_another_time : Every programmed (λ x e. take 5 e.buffers.times ≡ 1 ∷ 30 ∷ 0 ∷ 0 ∷ 0 ∷ [])
  -- one that tells no field, always the same one, or the last one there where one or the LF is missing (request 2/12): each of these lines, after the board's, is answered 3, line 2, no count, and its own number
  pub tells_another_field : All (λ (z : List ℕ × ℕ). EveryAfter z.0 (λ x e. e.buffers.result ≡ result_bytes 3 2 0 z.1)) typed_wrong
  -- and of the first line: each of these texts is answered 3, line 1, no count, and its own number
  pub tells_another_field_first : All (λ (z : List ℕ × ℕ). EveryText z.0 (λ x e. e.buffers.result ≡ result_bytes 3 1 0 z.1)) typed_wrong_first
  -- and there are such buffers, on which both places were sure
  pub some_fit : (x : Buffers) × (fit x ≡ true) × (cell_at x.images.flash 0x00000 ≡ erased_cell) × (cell_at x.images.eeprom 0x0040 ≡ erased_cell)
