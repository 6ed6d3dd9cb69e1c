use Rattle.std.proofs.Common.{◌≡◌, refl, arith}
use Rattle.fewest.specs.Plan.{erase_of, erases}
use Rattle.planner.proofs.Laying.{lay_start, lay_none, lay_room, lay_at, lay_so}
use Rattle.planner.proofs.Contents.put_sector_erases.Goals as goal

pub loop-s-init : goal.loop-s-init
loop-s-init c =
    let a = c.args in
    let f = erase_of a.self.present.now a.self.wanted.now in
    (lay_start f 0 a.list.now, lay_none f 0 a.list.now)

pub put_erase_if-at-requires : goal.put_erase_if-at-requires
unfolding erases
put_erase_if-at-requires c =
    let a = c.args in
    let l = c.loop-s in
    let f = erase_of a.self.present.now a.self.wanted.now in
    (omega arith, lay_room f 0 a.list.now 4 l.s l.at l.list (f l.s) (omega arith) refl l.invariant.0 (omega (arith, c.requires)) l.auto.list)

pub loop-s-preserved : goal.loop-s-preserved
loop-s-preserved c =
    let a = c.args in
    let l = c.loop-s in
    let f = erase_of a.self.present.now a.self.wanted.now in
    let e = c.put_erase_if-at.ensures in (
      lay_at f 0 a.list.now l.s l.at c.put_erase_if-at.result (f l.s) refl l.invariant.0 e.next,
      lay_so f 0 a.list.now l.s l.at l.list c.put_erase_if-at.new.list (f l.s) refl l.invariant.0 l.invariant.1 e.list_after,
    )

pub returns-clause-list_after : goal.returns-clause-list_after
unfolding erases
returns-clause-list_after c =
    let l = c.loop-s in
    let e : l.s ≡ 4 = omega arith in
    rw e at l.invariant.1

pub returns-clause-next : goal.returns-clause-next
unfolding erases
returns-clause-next c =
    let l = c.loop-s in
    let e : l.s ≡ 4 = omega arith in
    omega (arith, rw e at l.invariant.0)
