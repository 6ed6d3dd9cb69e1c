-- What the code asks for the pages that a stroke touches: none without a stroke, else pages of which P holds.
use Rattle.std.specs.Prelude.{◌≡◌}
use Rattle.times.specs.declared.Pages.{Pages}
use Rattle.times.specs.declared.Pages.TheVariants.{None}
use Rattle.machine.specs.declared.effects.Stroke.{Stroke}
use Rattle.machine.specs.declared.effects.Stroke.TheVariants.{Nothing, Whole, Cut}

abbrev pub Touches : Stroke → (Pages → Type 0) → Pages → Type 0
Touches Nothing P p = p ≡ None
Touches Whole P p = P p
Touches Cut P p = P p
