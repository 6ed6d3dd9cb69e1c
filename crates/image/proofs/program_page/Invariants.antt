use Rattle.cell.specs.Rules.{programmed_cell}
use Rattle.image.proofs.program_page.Given as goal

abbrev pub ghost-change_page : goal.ghost-change_page
ghost-change_page a = λ q c d. programmed_cell c d
