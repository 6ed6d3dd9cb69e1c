use Rattle.std.proofs.Common.{ℕ, ◌+◌, ◌*◌, ◌%◌, ◌≤◌, ◌<◌, ap, ◌∙◌, ⊎_elim, List, length, get_or, arith}
use Rattle.law.specs.Choice.{lt_or_le}
use Rattle.times.proofs.Writing.{begun, turned, ended, short}
use Rattle.times.proofs.write_entries.Goals as goal

pub loop-k-init : goal.loop-k-init
loop-k-init c = let a = c.args in begun a.first a.many a.stamp a.table.now

pub loop-k-preserved : goal.loop-k-preserved
loop-k-preserved c =
    let a = c.args in
    let l = c.loop-k in
    turned a.first a.many a.stamp a.table.now l.table l.k _ (omega arith) (omega arith) (omega arith) l.invariant (ap (λ (e : List ℕ). get_or e (l.k % 5) 0) c.entry_at-entry.ensures)

pub returns : goal.returns
returns c =
    let a = c.args in
    let l = c.loop-k in
    l.invariant
    ∙ ⊎_elim
    (λ (h : length a.table.now < 5 * (a.first + a.many)). short a.first a.many a.stamp a.table.now l.k (omega arith))
    (λ (h : 5 * (a.first + a.many) ≤ length a.table.now). ended a.first a.many a.stamp a.table.now l.k (omega arith))
    (lt_or_le (length a.table.now) (5 * (a.first + a.many)))
