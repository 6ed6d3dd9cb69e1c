use Rattle.cell.specs.Rules.{cut_cell}
use Rattle.image.proofs.cut_program_page.Given as goal

abbrev pub ghost-change_page : goal.ghost-change_page
ghost-change_page a = λ q c d. cut_cell c d
