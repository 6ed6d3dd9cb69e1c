use Rattle.listing.proofs.Whole.{untold}
use Rattle.listing.proofs.Tells.{refusal_untold}
use mathlib.Core.Path.{sym, ◌∙◌}
use Rattle.listing.proofs.told.refusal_of.Goals as goal

pub returns-in-None : goal.returns-in-None
returns-in-None c = refusal_untold _ (untold _ (sym c.of.ensures ∙ c.in-None.is)) c.new.ensures
