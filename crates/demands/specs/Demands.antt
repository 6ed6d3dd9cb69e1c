-- Believed: What the caller gets: the demands of document 01, by the numbers that docs/PROMISES.md has, as claims about any outcome that the promise of the exported
-- call admits. This is the list; the reasons stand in proofs/.
use Rattle.std.specs.Prelude.{◌≡◌, List, ℕ}
use Rattle.meaning.specs.Meaning.{Allowed}
use Rattle.record.specs.declared.Board.{Board}
use Rattle.record.specs.declared.Record.{Record}
use Rattle.image.specs.Images.{Images, Kept}
use Rattle.machine.specs.Machine.{on_machine}
use Rattle.text.specs.Texts.{spelled_trace, Readable}
use Rattle.buffers.specs.Buffers.{Buffers}
use Rattle.call.specs.Replay.{Ended, Replays}
use Rattle.demands.specs.Grounds.{Taken, Grounds, Refusals}
use Rattle.demands.specs.Stops.{Stops}
use Rattle.demands.specs.Replies.{Replies}
use Rattle.demands.specs.Doubt.{Doubt}
use Rattle.demands.specs.Lines.{Reordered}
use Rattle.demands.specs.Bench.{sheet, AllHold}

-- e is an outcome that the promise of the call admits for the text and the buffers x
pub record Demands (text : List ℕ) (x : Buffers) (e : Ended) : Type 0 where
  -- 1, 2
  pub grounds : Grounds text x e
  pub refusals : Refusals x e
  -- 3 to 6
  pub stops : (b : Board) (rs : List Record) → Taken text x b rs → Stops x e b rs
  -- 7, 8
  pub replies : (b : Board) (rs : List Record) → Taken text x b rs → Replies x e b rs
  -- 9
  pub doubt : Doubt text x e
  -- 10
  pub reordered : (b : Board) (rs ls : List Record) (e' : Ended) → Readable text b rs → Allowed (on_machine b) rs ls → Replays (spelled_trace b ls) x e' → Reordered text x b rs ls e e'
  -- 11. there is no other outcome
  pub determined : (e' : Ended) → Replays text x e' → e ≡ e'

abbrev pub AllDemands : Type 0
AllDemands = (text : List ℕ) (x : Buffers) (e : Ended) → Replays text x e → Demands text x e

-- 11. and for each text and each buffers there is one
abbrev pub SomeOutcome : Type 0
SomeOutcome = (text : List ℕ) (x : Buffers) → (e : Ended) × Replays text x e

-- 12. the twelve cases of the bench sheet, of all images of the chips' lengths
abbrev pub BenchSheet : Type 0
BenchSheet = (x : Images) → Kept x → AllHold sheet x

-- 13, the wrong programs of 'What the proofs must leave no room for', is `ShutOut`; 14, worked cases of rules that the sheet does not touch, `WorkedCases`; 20, what the verdict rests on, `VerdictByControls` and `WhateverWasHeld`; 21 and 22, what the table of times tells, `EntryTells` and `NeverAsLent`; 23, that the times add no difference of their own, `NoOwnDifference` (enough)
