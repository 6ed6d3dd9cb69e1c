use native.Mathlib.Omega.{arith}
use borrow.Author.Rules.{rules}
use mathlib.Core.Path.{ap}
use lib.ListN.{length}
use Rattle.field.proofs.SpellingLaws.{holds}
use Rattle.listing.proofs.Lengths.{pages_heading_length}
use Rattle.listing.proofs.Whole.{line_written}
use Rattle.listing.proofs.PagesWalk.{all_written}
use Rattle.listing.proofs.pages.list_written.Goals as goal

pub list_chip-at-requires : goal.list_chip-at-requires
list_chip-at-requires c = let h = ap length (holds _ c.pages_heading_line.ensures (omega (arith, pages_heading_length))) in (search rules, omega (arith, pages_heading_length, c.copy_line-from.ensures.0), omega (arith, c.copy_line-from.auto.out))

pub list_chip-requires : goal.list_chip-requires
list_chip-requires c = let h = ap length (holds _ c.pages_heading_line.ensures (omega (arith, pages_heading_length))) in (search rules, omega (arith, pages_heading_length, c.copy_line-from.ensures.0, c.list_chip-at.ensures.space), omega (arith, c.copy_line-from.auto.out, c.list_chip-at.auto.out))

pub returns : goal.returns
returns c = all_written _ (line_written _ _ _ _ _ c.pages_heading_line.ensures (omega (arith, pages_heading_length)) c.copy_line-from.ensures.0 c.copy_line-from.ensures.1) c.list_chip-at.ensures c.list_chip.ensures
