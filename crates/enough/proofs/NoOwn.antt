-- The times make no difference of their own at one stamp: a chip's replies give its skeletons, these and its last control say which cycles ended and which was cut, and all that they touched bears the one stamp.
use mathlib.Core.Path.{ap, subst₂}
use Rattle.meaning.specs.Meaning.{Outcome}
use Rattle.record.specs.declared.Board.{Board}
use Rattle.record.specs.declared.Reply.{Reply}
use Rattle.machine.specs.Machine.{Machine, machine_at_start}
use Rattle.enough.specs.Enough.{Good}
use Rattle.enough.specs.NoOwn.{AllElse, TimesFollow, NoOwnDifference}
use Rattle.enough.proofs.AtStamp.{order_at}
use Rattle.enough.proofs.Enough.{good_start, good_after}
use Rattle.enough.proofs.Pairs.{by_replies, two_orders}

pub times_follow : (b : Board) (m : Machine) → Good m.controls → TimesFollow b m
times_follow b m good t p o q hp x y h =
    let k = subst₂ AllElse (order_at b t p hp m o x) (order_at b t p hp m q y) h in
    ap (λ (v : Outcome Machine Reply). v.state.times) ((two_orders b m good t p hp o q x y).1 (by_replies b m good t p hp o q x y k.controls k.replies))

pub no_own_difference : NoOwnDifference
no_own_difference b l x rs = times_follow b _ (good_after b rs (machine_at_start b x) (good_start b l))
