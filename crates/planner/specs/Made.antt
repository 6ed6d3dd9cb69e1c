-- What becomes of a plan, by what the code answers of it: the number of its entries, or a refusal.
use Rattle.std.specs.Prelude.{ℕ, List, Result, Ok, Err}
use Rattle.record.specs.declared.PlanAnswer.{PlanAnswer}
use Rattle.record.specs.declared.PlanAnswer.TheVariants.{Planned}
use Rattle.fewest.specs.Plan.{Made, made_as}

abbrev pub made_of : Result ℕ PlanAnswer → List ℕ → Made
made_of (Ok number) list = made_as Planned number list
made_of (Err refusal) list = made_as refusal 0 list
