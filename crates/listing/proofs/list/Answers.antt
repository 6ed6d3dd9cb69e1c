use native.Mathlib.Omega.{arith}
use mathlib.Core.Path.{sym, ap, ◌∙◌}
use lib.ListN.{length}
use Rattle.field.proofs.SpellingLaws.{holds}
use mathlib.Core.Logic.{⊎_elim}
use borrow.Author.Rules.{rules}
use Rattle.law.specs.Choice.{via}
use Rattle.listing.proofs.Lengths.{refused_length, last_length}
use Rattle.listing.proofs.Whole.{other_listed, no_room, lists, lists_played, played_lines, untold, other_result, line_written, refused, ended}
use Rattle.listing.proofs.list.Goals as goal

pub returns-in_default : goal.returns-in_default
returns-in_default c = lists (λ lines. other_result _ _ _ _ _ (untold _ (sym c.of.ensures ∙ c.in_default.is)))

pub returns-then-refuses : goal.returns-then-refuses
returns-then-refuses c =
    let l = line_written _ _ _ _ _ c.refused_line.ensures (refused_length _ _ _ (via c.refuses.ensures c.if-refuses.true) (search rules) (search rules)) c.copy_line.ensures.0 c.copy_line.ensures.1 in
    lists (λ lines. refused _ _ _ _ c.if-replies-ne-REPLIES.false (omega arith) (sym c.of.ensures ∙ c.in-Some.is) _ _ (via c.refuses.ensures c.if-refuses.true) l)

pub copy_line-requires-2 : goal.copy_line-requires-2
copy_line-requires-2 c =
    let short = last_length _ _ _ (search rules) (search rules) (search rules) in
    omega (arith, (played_lines c.if-replies-ne-REPLIES.false c.list_played-at.ensures).space, c.list_played-at.auto.out, ap length (holds _ c.last_line.ensures short), short)

pub returns : goal.returns
returns c =
    let p = c.list_played-at.ensures in
    let l = line_written _ _ _ _ _ c.last_line.ensures (last_length _ _ _ (search rules) (search rules) (search rules)) c.copy_line-2.ensures.0 c.copy_line-2.ensures.1 in
    lists_played p (ended _ _ _ _ c.if-replies-ne-REPLIES.false (omega arith) (sym c.of.ensures ∙ c.in-Some.is) _ _ (via c.refuses.ensures c.if-refuses.false) (omega arith) (played_lines c.if-replies-ne-REPLIES.false p) l)

pub returns-then-replies-ne-REPLIES : goal.returns-then-replies-ne-REPLIES
returns-then-replies-ne-REPLIES c = lists (λ lines. ⊎_elim (other_listed _ _ _ _ _) (λ w. no_room _ _ _ _ _ w.1) c.then-replies-ne-REPLIES.either)
