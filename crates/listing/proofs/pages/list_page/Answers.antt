use borrow.Author.Rules.{rules}
use Rattle.listing.proofs.Lengths.{page_length}
use Rattle.listing.proofs.PagesWalk.{no_line, one_line}
use Rattle.listing.proofs.pages.list_page.Goals as goal

pub returns-then-table-mark-eq0 : goal.returns-then-table-mark-eq0
returns-then-table-mark-eq0 c = no_line _ _ _ _ _ c.first_entry.ensures c.if-table-mark-eq0.true

pub returns : goal.returns
returns c = one_line _ _ _ _ _ c.first_entry.ensures c.if-table-mark-eq0.false c.number_at.ensures c.page_line-line.ensures (page_length _ _ _ (search rules) (search rules)) c.copy_line.ensures.0 c.copy_line.ensures.1
