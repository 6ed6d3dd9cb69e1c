use Rattle.law.specs.Words.{pick}
use Rattle.cell.specs.Rules.{stored_cell}
use Rattle.page.specs.Geometry.{eeprom_page}
use Rattle.page.specs.Rolling.{sent_place}
use Rattle.image.specs.contracts.fn.store_page.change_page as closure
use Rattle.image.proofs.store_page.Given as goal

abbrev pub ghost-change_page : goal.ghost-change_page
ghost-change_page a = λ q c d. pick (sent_place eeprom_page (closure.captures a.step).first (closure.captures a.step).count q) (stored_cell d) c
