-- Believed: Claims 34 to 38 (document 02, request 4/12): what the callers of the merge and of the second engine get, of any outcome that the promises of the exported calls admit. The reasons stand in proofs/.
use Rattle.std.specs.Prelude.{ℕ, ◌≤◌, ◌<◌, ◌≡◌, true, false, ◌⊎◌, ◌↔◌, List, ◌++◌, length, drop}
use Rattle.law.specs.Words.{All, Rising}
use Rattle.meaning.specs.Meaning.{after}
use Rattle.record.specs.declared.Board.{Board}
use Rattle.record.specs.declared.Record.{Record}
use Rattle.record.specs.declared.Answer.{Answer}
use Rattle.record.specs.declared.LevelsAnswer.{LevelsAnswer}
use Rattle.record.specs.declared.LevelsAnswer.TheVariants.{BadLevel, Together}
use Rattle.record.specs.Answers.{answer_number}
use Rattle.record.specs.Lengths.{result_length}
use Rattle.text.specs.Texts.{text_limit, spelled_trace, Readable, Refused}
use Rattle.level.specs.declared.Level.{Level}
use Rattle.decode.specs.Decoded.{flash_of, eeprom_of}
use Rattle.machine.specs.Machine.{machine_at_start, on_machine}
use Rattle.buffers.specs.Buffers.{Buffers, fit_images, result_bytes}
use Rattle.call.specs.Replay.{Ended, Replays}
use Rattle.demands.specs.Grounds.{OfLine}
use Rattle.capture.specs.declared.Part.{Part}
use Rattle.capture.specs.Taken.{part_of, taken_of, stamped, flash_movers, eeprom_movers}
use Rattle.capture.specs.Captures.{Captures, BadCapture}
use Rattle.capture.specs.Merge.{number_of, Merged}
use Rattle.engine.specs.Playing.{Lent, Played, played_as, Plays}
use Rattle.merged.specs.Merging.{longest_text, Outputs, Wrote, wrote_as, Merges}

-- ---- what both calls are told by
-- both texts are within their limits, and the logger's is the spelling of b and rs
pub record Read (levels trace : List ℕ) (b : Board) (rs : List Record) : Type 0 where
  pub trace_within : length trace ≤ text_limit
  pub readable : Readable trace b rs
  pub levels_within : length levels ≤ text_limit

-- an accepted pair: the level text is the spelling of the lines ls, none of them bad
pub record Accepted (levels trace : List ℕ) (b : Board) (rs : List Record) (ls : List Level) : Type 0 where
  pub read : Read levels trace b rs
  pub captures : Captures (taken_of rs) levels ls

-- an accepted pair and the records of its merged trace
pub record Pair (levels trace : List ℕ) (b : Board) (m : List Record) : Type 0 where
  pub rs : List Record
  pub ls : List Level
  pub accepted : Accepted levels trace b rs ls
  pub merged : Merged ls rs m

-- 2: the logger's trace is over 65,536 bytes, or it is readable and the level text is
pub data Long (levels trace : List ℕ) : Type 0 where
  trace_long : text_limit < length trace → Long levels trace
  levels_long : (b : Board) (rs : List Record) → length trace ≤ text_limit → Readable trace b rs → text_limit < length levels → Long levels trace

-- 12 and 13: the first bad line of the level text is line n, by that refusal
abbrev pub LevelsBad : List ℕ → List ℕ → LevelsAnswer → ℕ → Type 0
LevelsBad levels trace a n = (b : Board) × (rs : List Record) × Read levels trace b rs × BadCapture (taken_of rs) levels a n

-- Each refusal exactly on its ground, so in their order, and with its line and field in the result: of a call whose lent buffers fit where `Fits`, that answers `answer` and leaves `result`.
pub record Grounds (levels trace : List ℕ) (Fits : Type 0) (answer : ℕ) (result : List ℕ) : Type 0 where
  pub one : (answer ≡ 1) ↔ (Fits → ⊥)
  pub two : (answer ≡ 2) ↔ (Fits × Long levels trace)
  pub two_told : answer ≡ 2 → result ≡ result_bytes 2 0 0 0
  -- 3, 4, 5 by the logger's trace, its first bad line, and a 3's first bad field
  pub of_trace : (a : Answer) → OfLine a → (answer ≡ answer_number a) ↔ (Fits × (length trace ≤ text_limit) × (n : ℕ) × (f : ℕ) × Refused trace a n f)
  pub of_trace_told : (a : Answer) → OfLine a → answer ≡ answer_number a → (n f : ℕ) → Refused trace a n f → result ≡ result_bytes (answer_number a) n 0 f
  pub twelve : (answer ≡ 12) ↔ (Fits × (n : ℕ) × LevelsBad levels trace BadLevel n)
  pub twelve_told : answer ≡ 12 → (n : ℕ) → LevelsBad levels trace BadLevel n → result ≡ result_bytes 12 n 0 0
  pub thirteen : (answer ≡ 13) ↔ (Fits × (n : ℕ) × LevelsBad levels trace Together n)
  pub thirteen_told : answer ≡ 13 → (n : ℕ) → LevelsBad levels trace Together n → result ≡ result_bytes 13 n 0 0

-- ---- 34. the merge: grounds, what a refusal leaves, one outcome
-- its lent buffers fit where the result has 16 bytes
abbrev pub MergeFits : Outputs → Type 0
MergeFits x = length x.result ≡ result_length

pub record MergeGrounds (levels trace : List ℕ) (x : Outputs) (e : Wrote) : Type 0 where
  pub grounds : Grounds levels trace (MergeFits x) e.answer e.outputs.result
  -- 10 last: the pair is accepted, and the output is too short for the merged text
  pub ten : (e.answer ≡ 10) ↔ (MergeFits x × (b : Board) × (m : List Record) × Pair levels trace b m × (length x.output < length (spelled_trace b m)))
  pub ten_told : e.answer ≡ 10 → e.outputs.result ≡ result_bytes 10 0 0 0
  -- an output with room for every merged text is never too short
  pub room : longest_text ≤ length x.output → e.answer ≡ 10 → ⊥
  pub zero : (e.answer ≡ 0) ↔ (MergeFits x × (b : Board) × (m : List Record) × Pair levels trace b m × (length (spelled_trace b m) ≤ length x.output))
  pub no_other : (e.answer ≤ 5) ⊎ ((e.answer ≡ 10) ⊎ ((e.answer ≡ 12) ⊎ (e.answer ≡ 13)))
  -- 'all lent memory untouched': a refusal leaves the output as it was, and with a result of another length nothing is written
  pub untouched : (e.answer ≡ 0 → ⊥) → e.outputs.output ≡ x.output
  pub wrong_result_length : (MergeFits x → ⊥) → e ≡ wrote_as 1 x

abbrev pub MergeClaims : Type 0
MergeClaims = (levels trace : List ℕ) (x : Outputs) (e : Wrote) → Merges levels trace x e → MergeGrounds levels trace x e

abbrev pub MergeDetermined : Type 0
MergeDetermined = (levels trace : List ℕ) (x : Outputs) (e e' : Wrote) → Merges levels trace x e → Merges levels trace x e' → e ≡ e'

-- ---- 35. the merged trace
-- The records m of the merged trace: exactly the decoded ones and the taken ones, each channel's in its own order (those that move a bus as in the capture, those taken as the logger has them),
-- and all of them 'by stamp, and at one stamp F, E, L'. No decoded record has the stamp of a taken one, so that no channel's order is open.
pub record MergedOf (ls : List Level) (rs m : List Record) : Type 0 where
  pub flash : flash_movers m ≡ flash_of ls
  pub eeprom : eeprom_movers m ≡ eeprom_of ls
  pub taken : (p : Part) → part_of p m ≡ part_of p rs
  pub by_stamp : Rising number_of m
  pub flash_apart : All (λ (r : Record). stamped (taken_of rs) r.stamp ≡ false) (flash_of ls)
  pub eeprom_apart : All (λ (r : Record). stamped (taken_of rs) r.stamp ≡ false) (eeprom_of ls)

-- what the merge wrote where it answers 0: the text of the merged trace at the output's front, what is behind it as it was, its length in the result; and the replay never refuses it with 3, 4 or 5
pub record Written (levels trace : List ℕ) (x : Outputs) (e : Wrote) (b : Board) (m : List Record) : Type 0 where
  pub pair : Pair levels trace b m
  pub exactly : MergedOf pair.ls pair.rs m
  pub front : e.outputs.output ≡ spelled_trace b m ++ drop (length (spelled_trace b m)) x.output
  pub told : e.outputs.result ≡ result_bytes 0 0 (length (spelled_trace b m)) 0
  pub readable : Readable (spelled_trace b m) b m
  pub never_refused : (y : Buffers) (r : Ended) → Replays (spelled_trace b m) y r → (a : Answer) → OfLine a → r.answer ≡ answer_number a → ⊥

abbrev pub MergedReadable : Type 0
MergedReadable = (levels trace : List ℕ) (x : Outputs) (e : Wrote) → Merges levels trace x e → e.answer ≡ 0 → (b : Board) × (m : List Record) × Written levels trace x e b m

-- ---- 36. the second engine: grounds, what a refusal leaves, one outcome
pub record PlayGrounds (levels trace : List ℕ) (x : Lent) (e : Played) : Type 0 where
  pub grounds : Grounds levels trace (fit_images x.images x.result ≡ true) e.answer e.lent.result
  pub zero : (e.answer ≡ 0) ↔ ((fit_images x.images x.result ≡ true) × (b : Board) × (m : List Record) × Pair levels trace b m)
  pub zero_told : e.answer ≡ 0 → e.lent.result ≡ result_bytes 0 0 0 0
  pub one_told : e.answer ≡ 1 → length x.result ≡ result_length → e.lent.result ≡ result_bytes 1 0 0 0
  pub no_other : (e.answer ≤ 5) ⊎ ((e.answer ≡ 12) ⊎ (e.answer ≡ 13))
  pub untouched : (e.answer ≡ 0 → ⊥) → e.lent.images ≡ x.images
  pub wrong_result_length : (length x.result ≡ result_length → ⊥) → e ≡ played_as 1 x

abbrev pub PlayClaims : Type 0
PlayClaims = (levels trace : List ℕ) (x : Lent) (e : Played) → Plays levels trace x e → PlayGrounds levels trace x e

abbrev pub PlayDetermined : Type 0
PlayDetermined = (levels trace : List ℕ) (x : Lent) (e e' : Played) → Plays levels trace x e → Plays levels trace x e' → e ≡ e'

-- ---- 37. for every accepted pair the second engine's images are those of the merged records in the written order, also where the replay would stop
abbrev pub PlaysWritten : Type 0
PlaysWritten = (levels trace : List ℕ) (x : Lent) (e : Played) → Plays levels trace x e → fit_images x.images x.result ≡ true → (b : Board) (m : List Record) → Pair levels trace b m →
    e.lent.images ≡ (after (on_machine b) m (machine_at_start b x.images)).images

-- ---- 38. levels-agree: where the replay of an accepted pair's merged text, on the same images and masks, says 0, the second engine answers 0 and leaves the same images and masks
abbrev pub LevelsAgree : Type 0
LevelsAgree = (levels trace : List ℕ) (b : Board) (m : List Record) → Pair levels trace b m →
    (x : Lent) (e : Played) → Plays levels trace x e → length x.result ≡ result_length →
    (y : Buffers) (r : Ended) → Replays (spelled_trace b m) y r → y.images ≡ x.images → r.answer ≡ 0 →
    (e.answer ≡ 0) × (e.lent.images ≡ r.buffers.images)

-- ---- 34 and 36 once more: whatever the two texts and the lent buffers are, an outcome fits the promise, so neither promise is empty
abbrev pub SomeMerge : Type 0
SomeMerge = (levels trace : List ℕ) (x : Outputs) → (e : Wrote) × Merges levels trace x e

abbrev pub SomePlay : Type 0
SomePlay = (levels trace : List ℕ) (x : Lent) → (e : Played) × Plays levels trace x e
