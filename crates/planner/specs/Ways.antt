-- The words of the plan, said of the two contents and of a way as the code holds them.
use Rattle.std.specs.Prelude.{ℕ, Bool, false, List}
use Rattle.fewest.specs.declared.Test.{Test}
use Rattle.fewest.specs.Entries.{Entry}
use Rattle.fewest.specs.Plan as words
use Rattle.planner.specs.declared.Contents.{Contents}
use Rattle.planner.specs.declared.Way.{Way}

-- ---- of the contents
abbrev pub any_in : Contents → Test → ℕ → ℕ → Bool
any_in c = words.any_in c.present.now c.wanted.now

abbrev pub in_page : Contents → Test → ℕ → Bool
in_page c = words.in_page c.present.now c.wanted.now

abbrev pub in_sector : Contents → Test → ℕ → Bool
in_sector c = words.in_sector c.present.now c.wanted.now

abbrev pub pages_of : Contents → Test → ℕ → ℕ
pages_of c = words.pages_of c.present.now c.wanted.now

abbrev pub erase_of : Contents → ℕ → List Entry
erase_of c = words.erase_of c.present.now c.wanted.now

-- without the chip's erase
abbrev pub sector_erases : Contents → List Entry
sector_erases c = words.erases c.present.now c.wanted.now false

abbrev pub program_if : Contents → Test → ℕ → List Entry
program_if c = words.program_if c.present.now c.wanted.now

abbrev pub sector_programs : Contents → Test → ℕ → List Entry
sector_programs c = words.sector_programs c.present.now c.wanted.now

abbrev pub by_chip : Contents → ℕ → Bool
by_chip c = words.by_chip c.present.now c.wanted.now

abbrev pub differs_locked : Contents → ℕ → Bool
differs_locked c = words.differs_locked c.present.now c.wanted.now

-- ---- of a way
abbrev pub erased : Way → ℕ → Bool
erased w = words.erased w.contents.present.now w.contents.wanted.now w.status w.chip

abbrev pub test_in : Way → ℕ → Test
test_in w = words.test_in w.contents.present.now w.contents.wanted.now w.status w.chip

abbrev pub erases : Way → List Entry
erases w = words.erases w.contents.present.now w.contents.wanted.now w.chip

abbrev pub erases_in : Way → ℕ
erases_in w = words.erases_in w.contents.present.now w.contents.wanted.now w.chip

abbrev pub programs : Way → List Entry
programs w = words.programs w.contents.present.now w.contents.wanted.now w.status w.chip

abbrev pub programs_in : Way → ℕ
programs_in w = words.programs_in w.contents.present.now w.contents.wanted.now w.status w.chip

abbrev pub plan : Way → List Entry
plan w = words.plan_by w.contents.present.now w.contents.wanted.now w.status w.chip
