-- What the loop over the stamps promises: for a readable text it ends as demand 3 says. And how a verdict on a stamp ends it.
use Rattle.std.specs.Prelude.{◌≡◌, Bool, true, false, List, ℕ, length, replicate, Option, MatchOption}
use Rattle.meaning.specs.Meaning.{Means}
use Rattle.meaning.specs.Meaning as meaning
use Rattle.record.specs.declared.Board.{Board}
use Rattle.record.specs.declared.Record.{Record}
use Rattle.record.specs.declared.Reply.{Reply}
use Rattle.record.specs.declared.Answer.{Answer}
use Rattle.record.specs.Answers.{answer_number}
use Rattle.image.specs.Images.{Images}
use Rattle.times.specs.Times.{times_length}
use Rattle.orders.specs.declared.Verdict.{Verdict}
use Rattle.orders.specs.declared.Verdict.TheVariants as verdict
use Rattle.orders.specs.Verdicts.{verdict_answer}
use Rattle.line.specs.Boards.{spelled_board}
use Rattle.machine.specs.Machine.{Machine, machine_at_start, on_machine}
use Rattle.text.specs.Texts.{Readable}
use Rattle.record.specs.Lengths.{replies_length}
use Rattle.buffers.specs.Buffers.{result_bytes}
use Rattle.call.specs.Replay.{Ended, ended_as, shown}

-- an answer with its stamp and count, and the buffers as they are left
abbrev pub ended_with : Answer → ℕ → ℕ → Images → List ℕ → List ℕ → Ended
ended_with a t count x times replies =
    ended_as (answer_number a) (record { images = x; times = times; replies = replies; result = result_bytes (answer_number a) t count 0 })

pub record Runs (text : List ℕ) (first : ℕ) (b : Board) (x : Images) (times replies : List ℕ) (e : Ended) : Type 0 where
  pub runs : (rs : List Record) → Readable text b rs → first ≡ length (spelled_board b) → times ≡ replicate times_length 0 → replies ≡ replicate replies_length 0 →
      (z : meaning.Answer Machine Reply) × Means (on_machine b) rs (machine_at_start b x) z × (e ≡ shown b rs z)

-- whether the replay goes on
abbrev pub goes_on : Verdict → Bool
goes_on verdict.Crowded = false
goes_on verdict.Differ = false
goes_on verdict.Lost = false
goes_on verdict.Passes = true

-- what a verdict ends the replay with, if it does
abbrev pub Stops : Verdict → Option Answer → Type 0
Stops v r = MatchOption r (goes_on v ≡ true) (λ a. (goes_on v ≡ false) × (a ≡ verdict_answer v))
