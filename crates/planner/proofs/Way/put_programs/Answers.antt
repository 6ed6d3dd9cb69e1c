use Rattle.std.proofs.Common.{◌≡◌, ℕ, List, length, ap, ◌∙◌, arith}
use lib.Seq.{sets}
use Rattle.page.specs.Geometry.{flash_sectors}
use Rattle.fewest.specs.declared.Test.{Test}
use Rattle.fewest.specs.Entries.{Entry}
use Rattle.fewest.specs.Fewest.{spelled_list}
use Rattle.fewest.specs.Plan.{test_in, sector_programs}
use Rattle.planner.proofs.Laying.{lay_start, lay_none, lay_room, lay_at, lay_so, by_sectors}
use Rattle.planner.proofs.Way.put_programs.Goals as goal

pub loop-s-init : goal.loop-s-init
loop-s-init c =
    let a = c.args in
    let f : ℕ → List Entry = λ i. sector_programs a.self.contents.present.now a.self.contents.wanted.now (test_in a.self.contents.present.now a.self.contents.wanted.now a.self.status a.self.chip i) i in
    (lay_start f a.first a.list.now, lay_none f a.first a.list.now)

pub put_sector_programs-at-requires : goal.put_sector_programs-at-requires
put_sector_programs-at-requires c =
    let a = c.args in
    let l = c.loop-s in
    let p = c.requires in
    let all = ap (λ (y : List Entry). length (spelled_list y)) (by_sectors a.self.contents.present.now a.self.contents.wanted.now a.self.status a.self.chip) in (
      omega arith,
      lay_room (λ i. sector_programs a.self.contents.present.now a.self.contents.wanted.now (test_in a.self.contents.present.now a.self.contents.wanted.now a.self.status a.self.chip i) i) a.first a.list.now flash_sectors l.s l.at l.list
          (sector_programs a.self.contents.present.now a.self.contents.wanted.now c.test_in-test.result l.s)
          (omega arith) (ap (λ (t : Test). sector_programs a.self.contents.present.now a.self.contents.wanted.now t l.s) c.test_in-test.ensures) l.invariant.0 (omega (arith, all, p)) l.auto.list,
    )

pub loop-s-preserved : goal.loop-s-preserved
loop-s-preserved c =
    let a = c.args in
    let l = c.loop-s in
    let e = c.put_sector_programs-at.ensures in
    let f : ℕ → List Entry = λ i. sector_programs a.self.contents.present.now a.self.contents.wanted.now (test_in a.self.contents.present.now a.self.contents.wanted.now a.self.status a.self.chip i) i in
    let some : List Entry = sector_programs a.self.contents.present.now a.self.contents.wanted.now c.test_in-test.result l.s in
    let x = ap (λ (t : Test). sector_programs a.self.contents.present.now a.self.contents.wanted.now t l.s) c.test_in-test.ensures in (
      lay_at f a.first a.list.now l.s l.at c.put_sector_programs-at.result some x l.invariant.0 e.next,
      lay_so f a.first a.list.now l.s l.at l.list c.put_sector_programs-at.new.list some x l.invariant.0 l.invariant.1 e.list_after,
    )

pub returns : goal.returns
returns c =
    let a = c.args in
    let l = c.loop-s in
    let e : l.s ≡ flash_sectors = omega arith in
    let laid = rw e at l.invariant.1 in
    laid ∙ ap (λ (y : List Entry). sets a.list.now a.first (spelled_list y)) (by_sectors a.self.contents.present.now a.self.contents.wanted.now a.self.status a.self.chip)
