-- Believed: Demand 9: a doubtful bit is 0 in the value, everywhere and always.
use Rattle.std.specs.Prelude.{◌≡◌, true, List, ℕ, ◌+◌, ◌*◌, get_or}
use Rattle.std.specs.Int.Bits.{bit_and}
use Rattle.record.specs.declared.Board.{Board}
use Rattle.record.specs.declared.Record.{Record}
use Rattle.image.specs.Images.{AllClean}
use Rattle.buffers.specs.Buffers.{Buffers, fit}
use Rattle.call.specs.Replay.{Ended}
use Rattle.demands.specs.Grounds.{Taken}

pub record Doubt (text : List ℕ) (x : Buffers) (e : Ended) : Type 0 where
  -- lent buffers that fit are given back with no bit set both in a value and in its mask, whatever the text and the answer
  pub images : fit x ≡ true → AllClean e.buffers.images
  -- and of a text that is taken each reply's value AND mask are 0: reply k has its value at 4 k + 1, its mask at 4 k + 2
  pub replies : (b : Board) (rs : List Record) → Taken text x b rs → (k : ℕ) → bit_and (get_or e.buffers.replies (4 * k + 1) 0) (get_or e.buffers.replies (4 * k + 2) 0) ≡ 0
