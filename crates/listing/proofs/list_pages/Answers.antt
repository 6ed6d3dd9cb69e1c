use native.Mathlib.Omega.{arith}
use mathlib.Core.Path.{sym, ◌∙◌}
use borrow.Author.Rules.{rules}
use Rattle.law.specs.Choice.{via}
use Rattle.listing.proofs.Lengths.{refused_length, last_length}
use Rattle.listing.proofs.Whole.{untold, other_result, line_written, refused, ended}
use Rattle.listing.proofs.list_pages.Goals as goal

pub returns-in_default : goal.returns-in_default
returns-in_default c = other_result _ _ _ _ _ (untold _ (sym c.of.ensures ∙ c.in_default.is))

pub returns-then-refuses : goal.returns-then-refuses
returns-then-refuses c =
    let l = line_written _ _ _ _ _ c.refused_line.ensures (refused_length _ _ _ (via c.refuses.ensures c.if-refuses.true) (search rules) (search rules)) c.copy_line.ensures.0 c.copy_line.ensures.1 in
    refused _ _ _ _ c.if-table-ne-TIMES.false (omega arith) (sym c.of.ensures ∙ c.in-Some.is) _ _ (via c.refuses.ensures c.if-refuses.true) l

pub returns : goal.returns
returns c =
    let l = line_written _ _ _ _ _ c.last_line.ensures (last_length _ _ _ (search rules) (search rules) (search rules)) c.copy_line-2.ensures.0 c.copy_line-2.ensures.1 in
    ended _ _ _ _ c.if-table-ne-TIMES.false (omega arith) (sym c.of.ensures ∙ c.in-Some.is) _ _ (via c.refuses.ensures c.if-refuses.false) (omega arith) c.list_written-at.ensures l
