use Rattle.std.proofs.Common.{◌≡◌, ◌+◌, ◌-◌, ap, ◌∙◌, length, get_or, arith}
use Rattle.entries.specs.Lines.{entry_size}
use Rattle.entries.proofs.Walk.{still_turn, still_inside, still_known, still_room, still_more, still_ended, inside_head, told, told_kind}
use Rattle.entries.proofs.list.print_entries.Goals as goal

pub bounds-list-from : goal.bounds-list-from
bounds-list-from c =
    let l = c.loop-passed in
    let a = c.args in
    let s = still_turn a.list.now a.out.now a.number l._passed l.from l.at l.out (omega arith) l.invariant in
    let h = inside_head (get_or a.list.now l.from 0) l.from (length a.list.now) (still_inside a.list.now a.out.now a.number (a.number - (l._passed + 1)) l.from l.at l.out s) in
    omega arith

pub unwrap-kind-requires : goal.unwrap-kind-requires
unwrap-kind-requires c =
    let l = c.loop-passed in
    let a = c.args in
    let s = still_turn a.list.now a.out.now a.number l._passed l.from l.at l.out (omega arith) l.invariant in
    told _ _ (still_known a.list.now a.out.now a.number (a.number - (l._passed + 1)) l.from l.at l.out s) c.try_from.ensures

pub print_entry-at-requires : goal.print_entry-at-requires
print_entry-at-requires c =
    let l = c.loop-passed in
    let a = c.args in
    let s = still_turn a.list.now a.out.now a.number l._passed l.from l.at l.out (omega arith) l.invariant in (
      told_kind _ _ _ c.unwrap-kind.ensures c.try_from.ensures,
      still_inside a.list.now a.out.now a.number (a.number - (l._passed + 1)) l.from l.at l.out s,
      still_room a.list.now a.out.now a.number (a.number - (l._passed + 1)) l.from l.at l.out s c.requires.2,
    )

pub loop-passed-preserved : goal.loop-passed-preserved
loop-passed-preserved c =
    let l = c.loop-passed in
    let a = c.args in
    let s = still_turn a.list.now a.out.now a.number l._passed l.from l.at l.out (omega arith) l.invariant in
    let z = c.entry_size-from.ensures ∙ ap entry_size (told_kind _ _ _ c.unwrap-kind.ensures c.try_from.ensures) in
    still_more a.list.now a.out.now a.number (a.number - (l._passed + 1)) l.from l.at l.out s _ _ _ z c.print_entry-at.ensures.0 c.print_entry-at.ensures.1

pub returns : goal.returns
returns c =
    let l = c.loop-passed in
    let z : c.args.number - l._passed ≡ 0 = omega arith in
    still_ended _ _ _ _ _ _ _ z l.invariant
