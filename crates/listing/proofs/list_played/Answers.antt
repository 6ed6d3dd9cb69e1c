use native.Mathlib.Omega.{arith}
use borrow.Author.Rules.{rules}
use Rattle.listing.proofs.Walk.{headed}
use mathlib.Core.Path.{ap}
use lib.ListN.{length}
use Rattle.field.proofs.SpellingLaws.{holds}
use Rattle.listing.proofs.Lengths.{heading_length}
use Rattle.listing.proofs.list_played.Goals as goal

pub list_records-requires : goal.list_records-requires
list_records-requires c = let h = ap length (holds _ c.heading_line.ensures (omega (arith, heading_length))) in (search rules, omega (arith, heading_length, c.copy_line-from.ensures.0), omega (arith, c.copy_line-from.auto.out))

pub returns : goal.returns
returns c = headed c.heading_line.ensures c.copy_line-from.ensures.0 c.copy_line-from.ensures.1 c.list_records.ensures
