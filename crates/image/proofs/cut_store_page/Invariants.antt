use Rattle.cell.specs.Rules.{doubtful_cell}
use Rattle.image.proofs.cut_store_page.Given as goal

abbrev pub ghost-change_page : goal.ghost-change_page
ghost-change_page a = λ q c d. doubtful_cell
