-- Believed: What the verdict rests on, of a text that is taken: the controls alone. Where the replay stops and why, and whether it settles, no image and no page's time is asked, and no rule of what a cycle makes of them, whole or cut.
use Rattle.std.specs.Prelude.{◌≡◌, ◌↔◌, List, ℕ}
use Rattle.meaning.specs.Meaning.{Reason, Passes, Earliest}
use Rattle.record.specs.declared.Board.{Board}
use Rattle.record.specs.declared.Record.{Record}
use Rattle.controls.specs.Play.{start_of}
use Rattle.machine.specs.Machine.{on_controls}
use Rattle.buffers.specs.Buffers.{Buffers}
use Rattle.call.specs.Replay.{Ended, Replays}
use Rattle.demands.specs.Grounds.{Taken}
use Rattle.demands.specs.Stops.{StopsAt}

-- the call says of the records rs what demand 3 says of the controls by themselves, from their start
pub record ByControls (e : Ended) (b : Board) (rs : List Record) : Type 0 where
  pub stops : (n : Reason) (t : ℕ) → StopsAt e n t ↔ Earliest (on_controls b) rs (start_of b) n t
  pub settles : (e.answer ≡ 0) ↔ ((t : ℕ) → Passes (on_controls b) rs (start_of b) t)

-- 20. so it does of every text that is taken
abbrev pub VerdictByControls : Type 0
VerdictByControls = (text : List ℕ) (x : Buffers) (e : Ended) (b : Board) (rs : List Record) → Replays text x e → Taken text x b rs → ByControls e b rs

-- and a text has one verdict, whatever the images and the table held: it stops at the same stamp for the same reason, or settles
pub record SameVerdict (e e' : Ended) : Type 0 where
  pub stops : (n : Reason) (t : ℕ) → StopsAt e n t ↔ StopsAt e' n t
  pub settles : (e.answer ≡ 0) ↔ (e'.answer ≡ 0)

abbrev pub WhateverWasHeld : Type 0
WhateverWasHeld = (text : List ℕ) (x y : Buffers) (e e' : Ended) (b : Board) (rs : List Record) → Replays text x e → Replays text y e' → Taken text x b rs → Taken text y b rs → SameVerdict e e'
