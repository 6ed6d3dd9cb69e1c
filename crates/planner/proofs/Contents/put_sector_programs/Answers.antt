use Rattle.std.proofs.Common.{◌≡◌, ℕ, ◌+◌, ◌*◌, List, refl, arith}
use Rattle.page.specs.Geometry.{sector_pages}
use Rattle.fewest.specs.Entries.{Entry}
use Rattle.fewest.specs.Plan.{program_if, sector_programs}
use Rattle.planner.proofs.Laying.{lay_start, lay_none, lay_room, lay_at, lay_so}
use Rattle.planner.proofs.Contents.put_sector_programs.Goals as goal

pub loop-j-init : goal.loop-j-init
loop-j-init c =
    let a = c.args in
    let f : ℕ → List Entry = λ i. program_if a.self.present.now a.self.wanted.now a.test (sector_pages * a.s + i) in
    (lay_start f a.first a.list.now, lay_none f a.first a.list.now)

pub put_program_if-at-requires : goal.put_program_if-at-requires
unfolding sector_programs
put_program_if-at-requires c =
    let a = c.args in
    let l = c.loop-j in
    let f : ℕ → List Entry = λ i. program_if a.self.present.now a.self.wanted.now a.test (sector_pages * a.s + i) in
    (omega arith, lay_room f a.first a.list.now sector_pages l.j l.at l.list (f l.j) (omega arith) refl l.invariant.0 c.requires.1 l.auto.list)

pub loop-j-preserved : goal.loop-j-preserved
loop-j-preserved c =
    let a = c.args in
    let l = c.loop-j in
    let e = c.put_program_if-at.ensures in
    let f : ℕ → List Entry = λ i. program_if a.self.present.now a.self.wanted.now a.test (sector_pages * a.s + i) in (
      lay_at f a.first a.list.now l.j l.at c.put_program_if-at.result (f l.j) refl l.invariant.0 e.next,
      lay_so f a.first a.list.now l.j l.at l.list c.put_program_if-at.new.list (f l.j) refl l.invariant.0 l.invariant.1 e.list_after,
    )

pub returns-clause-list_after : goal.returns-clause-list_after
unfolding sector_programs
returns-clause-list_after c =
    let l = c.loop-j in
    let e : l.j ≡ sector_pages = omega arith in
    rw e at l.invariant.1

pub returns-clause-next : goal.returns-clause-next
unfolding sector_programs
returns-clause-next c =
    let l = c.loop-j in
    let e : l.j ≡ sector_pages = omega arith in
    rw e at l.invariant.0
