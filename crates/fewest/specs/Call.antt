-- Believed: What a call of the plan answers and leaves (document 02, request 6/12), for every input.
use Rattle.std.specs.Prelude.{ℕ, ◌≤◌, ◌<◌, ◌≡◌, List, ◌++◌, length, drop}
use Rattle.page.specs.Geometry.{flash_size}
use Rattle.record.specs.declared.PlanAnswer.{PlanAnswer}
use Rattle.record.specs.declared.PlanAnswer.TheVariants.{Planned, Unfit, Locked, NoRoom}
use Rattle.record.specs.Answers.{plan_answer_number}
use Rattle.record.specs.Lengths.{plan_result_length}
use Rattle.record.specs.Status.{StatusOk}
use Rattle.buffers.specs.Buffers.{plan_result_after}
use Rattle.fewest.specs.Entries.{Entry}
use Rattle.fewest.specs.Fewest.{IsPlan, DiffersLocked, spelled_list}

-- the answer, and what is in the two lent buffers
pub record Left : Type 0 where
  pub answer : ℕ
  pub list : List ℕ
  pub result : List ℕ

abbrev pub left_as : ℕ → List ℕ → List ℕ → Left
left_as answer list result = record { answer = answer; list = list; result = result }

-- the bytes stand at the list's start; 'the rest of the list stays'
unfoldable pub laid_over : List ℕ → List ℕ → List ℕ
laid_over bytes list = bytes ++ drop (length bytes) list

module _ (status : ℕ) (present wanted list result : List ℕ) where
  -- none of the grounds of the first refusal, 'a wrong length or a status with other bits than 7, 3 and 2'
  pub record Fits : Type 0 where
    pub present_whole : length present ≡ flash_size
    pub wanted_whole : length wanted ≡ flash_size
    pub result_whole : length result ≡ plan_result_length
    pub status_bits : StatusOk status

  -- 'with number 0 and the list untouched'; a result of another length is untouched too
  abbrev pub refused_with : PlanAnswer → Left
  refused_with answer = left_as (plan_answer_number answer) list (plan_result_after (plan_answer_number answer) 0 result)

  -- the outcomes of a call, the refusals 'in that order'; a plan has its own length as the number: 'The number given is the list's cycles'
  pub data Plans : Left → Type 0 where
    unfit : (Fits → ⊥) → Plans (refused_with Unfit)
    locked : Fits → DiffersLocked status present wanted → Plans (refused_with Locked)
    no_room : (os : List Entry) → Fits → (DiffersLocked status present wanted → ⊥) → IsPlan status present wanted os → length list < length (spelled_list os)
        → Plans (refused_with NoRoom)
    planned : (os : List Entry) → Fits → (DiffersLocked status present wanted → ⊥) → IsPlan status present wanted os → length (spelled_list os) ≤ length list
        → Plans (left_as (plan_answer_number Planned) (laid_over (spelled_list os) list) (plan_result_after (plan_answer_number Planned) (length os) result))
