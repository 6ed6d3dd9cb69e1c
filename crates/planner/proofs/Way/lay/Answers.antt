use Rattle.std.proofs.Common.{◌+◌, arith}
use Rattle.fewest.proofs.Attains.{length_plan}
use Rattle.fewest.proofs.Sizes.{size_plan}
use Rattle.fewest.specs.Plan.{plan_by}
use Rattle.planner.proofs.Ending.{too_short, long_enough}
use Rattle.planner.proofs.Way.lay.Goals as goal

pub returns-then-list-erased : goal.returns-then-list-erased
returns-then-list-erased c =
    let a = c.args in
    let size = size_plan a.self.contents.present.now a.self.contents.wanted.now a.self.status a.self.chip a.self.contents.wanted_whole in
    too_short (plan_by a.self.contents.present.now a.self.contents.wanted.now a.self.status a.self.chip) a.list.now (omega (arith, size, c.count_erases-erased.ensures.value, c.count_programs-programmed.ensures.value, c.if-list-erased.true))

pub put-requires : goal.put-requires
put-requires c =
    let a = c.args in
    let size = size_plan a.self.contents.present.now a.self.contents.wanted.now a.self.status a.self.chip a.self.contents.wanted_whole in
    (omega (arith, size, c.count_erases-erased.ensures.value, c.count_programs-programmed.ensures.value, c.if-list-erased.false))

pub returns : goal.returns
returns c =
    let a = c.args in
    let size = size_plan a.self.contents.present.now a.self.contents.wanted.now a.self.status a.self.chip a.self.contents.wanted_whole in
    long_enough (plan_by a.self.contents.present.now a.self.contents.wanted.now a.self.status a.self.chip) a.list.now c.put.new.list (c.count_erases-erased.result + c.count_programs-programmed.result)
    (omega (arith, size, c.count_erases-erased.ensures.value, c.count_programs-programmed.ensures.value, c.if-list-erased.false))
    (omega (arith, length_plan a.self.status a.self.contents.present.now a.self.contents.wanted.now a.self.chip, c.count_erases-erased.ensures.value, c.count_programs-programmed.ensures.value))
    c.put.ensures
