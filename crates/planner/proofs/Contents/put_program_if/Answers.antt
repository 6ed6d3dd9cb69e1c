use Rattle.std.proofs.Common.{length}
use Rattle.law.specs.Choice.{via}
use Rattle.fewest.proofs.Sizes.{length_program}
use Rattle.fewest.specs.Entries.{program}
use Rattle.fewest.specs.Fewest.{page_of}
use Rattle.fewest.specs.Plan.{in_page}
use Rattle.planner.proofs.Laying.{put_yes, put_no, next_yes, next_no, fits_yes}
use Rattle.planner.proofs.Contents.put_program_if.Goals as goal

pub returns-then-not-in_page-clause-list_after : goal.returns-then-not-in_page-clause-list_after
returns-then-not-in_page-clause-list_after c =
    let a = c.args in
    put_no (program a.n (page_of a.self.wanted.now a.n)) (in_page a.self.present.now a.self.wanted.now a.test a.n) a.at a.list.now (via c.in_page.ensures c.if-not-in_page.true)

pub returns-then-not-in_page-clause-next : goal.returns-then-not-in_page-clause-next
returns-then-not-in_page-clause-next c =
    let a = c.args in
    next_no (program a.n (page_of a.self.wanted.now a.n)) (in_page a.self.present.now a.self.wanted.now a.test a.n) a.at (via c.in_page.ensures c.if-not-in_page.true)

pub put_program-requires : goal.put_program-requires
put_program-requires c =
    let a = c.args in
    let p = c.requires in (
      fits_yes (program a.n (page_of a.self.wanted.now a.n)) (in_page a.self.present.now a.self.wanted.now a.test a.n) a.at 260 (length a.list.now)
          (via c.in_page.ensures c.if-not-in_page.false) (length_program a.self.wanted.now a.n a.self.wanted_whole p.0) p.1,
      p.0,
    )

pub returns-clause-list_after : goal.returns-clause-list_after
returns-clause-list_after c =
    let a = c.args in
    put_yes (program a.n (page_of a.self.wanted.now a.n)) (in_page a.self.present.now a.self.wanted.now a.test a.n) a.at a.list.now c.put_program.new.list
    (via c.in_page.ensures c.if-not-in_page.false) c.put_program.ensures

pub returns-clause-next : goal.returns-clause-next
returns-clause-next c =
    let a = c.args in
    next_yes (program a.n (page_of a.self.wanted.now a.n)) (in_page a.self.present.now a.self.wanted.now a.test a.n) a.at 260
    (via c.in_page.ensures c.if-not-in_page.false) (length_program a.self.wanted.now a.n a.self.wanted_whole c.requires.0)
