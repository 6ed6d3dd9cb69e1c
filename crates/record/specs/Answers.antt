-- Believed: The answers of a replay, of a plan, and to levels, by number (document 01, 'Replies and stopping'; document 02, requests 6/12 and 4/12).
use Rattle.std.specs.Prelude.{ℕ}
use Rattle.record.specs.declared.Answer.{Answer}
use Rattle.record.specs.declared.Answer.TheVariants.{Settled, BadBuffers, TooLong, BadLine, BackInTime, Impossible, Crowded, OrdersDiffer, StatusLost}
use Rattle.record.specs.declared.PlanAnswer.{PlanAnswer}
use Rattle.record.specs.declared.PlanAnswer.TheVariants.{Planned, Unfit, Locked, NoRoom}
use Rattle.record.specs.declared.LevelsAnswer.{LevelsAnswer}
use Rattle.record.specs.declared.LevelsAnswer.TheVariants.{BadLevel, Together, TooShort}

abbrev pub answer_number : Answer → ℕ
answer_number Settled = 0
answer_number BadBuffers = 1
answer_number TooLong = 2
answer_number BadLine = 3
answer_number BackInTime = 4
answer_number Impossible = 5
answer_number Crowded = 6
answer_number OrdersDiffer = 7
answer_number StatusLost = 8

-- a plan; 'a wrong length or a status with other bits than 7, 3 and 2'; 'a byte that differs stands in a locked sector'; 'the lent list is too short for the plan'
abbrev pub plan_answer_number : PlanAnswer → ℕ
plan_answer_number Planned = 0
plan_answer_number Unfit = 14
plan_answer_number Locked = 15
plan_answer_number NoRoom = 16

-- beside 0 to 5: 'a level line of wrong form, a wrong first line, a stamp below the one before or equal to that of a record taken from the logger'; 'SCK changes together with CS, SI or HOLD, or SCL with SDA'; 'then 10'
abbrev pub levels_answer_number : LevelsAnswer → ℕ
levels_answer_number BadLevel = 12
levels_answer_number Together = 13
levels_answer_number TooShort = 10
