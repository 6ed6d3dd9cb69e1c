use Rattle.std.proofs.Common.{ℕ, ◌+◌, sym, ap, ap₂, ◌∙◌, arith}
use Rattle.times.specs.declared.Pages.{Pages}
use Rattle.times.specs.Put.{entries_with, pages_with}
use Rattle.times.proofs.Noting.{notes_one, notes_all, notes_none, notes_past}
use Rattle.times.proofs.put_pages.Goals as goal

pub returns-in-None : goal.returns-in-None
returns-in-None c =
    let a = c.args in
    notes_none a.chip a.stamp a.table.now ∙ ap (λ (p : Pages). pages_with a.chip a.stamp p a.table.now) (sym c.in-None.is)

pub returns-then-n-pages_of : goal.returns-then-n-pages_of
returns-then-n-pages_of c =
    let a = c.args in
    let n = c.in-One.n in
    c.write_entries.ensures
    ∙ ap (λ (f : ℕ). entries_with (f + n) 1 a.stamp a.table.now) c.first_entry.ensures
    ∙ notes_one a.chip a.stamp a.table.now n (omega (arith, c.pages_of.ensures, c.if-n-pages_of.true))
    ∙ ap (λ (p : Pages). pages_with a.chip a.stamp p a.table.now) (sym c.in-One.is)

pub returns-else-n-pages_of : goal.returns-else-n-pages_of
returns-else-n-pages_of c =
    let a = c.args in
    notes_past a.chip a.stamp a.table.now c.in-One.n (omega (arith, c.pages_of.ensures, c.if-n-pages_of.false))
    ∙ ap (λ (p : Pages). pages_with a.chip a.stamp p a.table.now) (sym c.in-One.is)

pub returns-in-All : goal.returns-in-All
returns-in-All c =
    let a = c.args in
    c.write_entries-in-All.ensures
    ∙ ap₂ (λ (f m : ℕ). entries_with f m a.stamp a.table.now) c.first_entry-in-All.ensures c.pages_of-in-All.ensures
    ∙ notes_all a.chip a.stamp a.table.now
    ∙ ap (λ (p : Pages). pages_with a.chip a.stamp p a.table.now) (sym c.in-All.is)
