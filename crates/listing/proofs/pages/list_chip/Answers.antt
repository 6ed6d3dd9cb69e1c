use Rattle.listing.proofs.PagesWalk.{begun, one_more}
use Rattle.listing.proofs.pages.list_chip.Goals as goal

pub loop-n-init : goal.loop-n-init
loop-n-init c = begun _ _ _ _

pub loop-n-preserved : goal.loop-n-preserved
loop-n-preserved c = one_more _ _ c.loop-n.invariant c.list_page-at.ensures
