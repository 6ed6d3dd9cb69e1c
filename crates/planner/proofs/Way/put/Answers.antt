use Rattle.std.proofs.Common.{length, arith}
use Rattle.planner.proofs.Laying.{erases_fit, programs_fit, plan_laid}
use Rattle.planner.proofs.Way.put.Goals as goal

pub put_erases-at-requires : goal.put_erases-at-requires
put_erases-at-requires c =
    let a = c.args in
    let p = c.requires in
    erases_fit a.self.contents.present.now a.self.contents.wanted.now a.self.status a.self.chip (length a.list.now) p

pub put_programs-requires : goal.put_programs-requires
put_programs-requires c =
    let a = c.args in
    let p = c.requires in
    let e = c.put_erases-at.ensures in
    programs_fit a.self.contents.present.now a.self.contents.wanted.now a.self.status a.self.chip c.put_erases-at.result (length c.put_erases-at.new.list) e.next (omega (arith, c.put_erases-at.auto.list, p))

pub returns : goal.returns
returns c =
    let a = c.args in
    let e = c.put_erases-at.ensures in
    plan_laid a.self.contents.present.now a.self.contents.wanted.now a.self.status a.self.chip a.list.now c.put_erases-at.new.list c.put_programs.new.list c.put_erases-at.result
    e.list_after e.next c.put_programs.ensures c.requires
