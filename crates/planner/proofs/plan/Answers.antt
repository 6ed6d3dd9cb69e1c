use Rattle.std.proofs.Common.{◌≡◌, ℕ, sym, ap, ◌∙◌, Result, arith}
use Rattle.record.specs.declared.PlanAnswer.{PlanAnswer}
use Rattle.fewest.specs.Plan.{made_as}
use Rattle.planner.specs.Made.{made_of}
use Rattle.planner.proofs.Ending.{plans_as}
use Rattle.planner.proofs.plan.Goals as goal
use Rattle.planner.proofs.plan.Goals.{in-Ok, in-Err}

pub returns : goal.returns
returns c =
    let a = c.args in
    let m = c.match-make in
    let e : made_as m.answer.0 m.answer.1 c.make.new.list ≡ made_of c.make.result c.make.new.list = elim m.branch [
      | in-Ok w ↦ ap (λ (p : PlanAnswer × ℕ). made_as p.0 p.1 c.make.new.list) w.answer-is ∙ sym (ap (λ (r : Result ℕ PlanAnswer). made_of r c.make.new.list) w.in-Ok.is)
      | in-Err w ↦ ap (λ (p : PlanAnswer × ℕ). made_as p.0 p.1 c.make.new.list) w.answer-is ∙ sym (ap (λ (r : Result ℕ PlanAnswer). made_of r c.make.new.list) w.in-Err.is)
    ] in
    plans_as a.present.now a.wanted.now a.status (omega arith) (λ k. omega (arith, c.type_inv.present k)) (λ k. omega (arith, c.type_inv.wanted k))
    a.list.now a.res.now c.make.new.list c.put_plan_result.new.res m.answer.0 c.from-said.result m.answer.1 c.from-said.ensures (e ∙ c.make.ensures) c.put_plan_result.ensures
