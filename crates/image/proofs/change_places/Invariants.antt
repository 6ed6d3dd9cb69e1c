-- `image::change_places`: all places before q of the page are done.
use Rattle.std.proofs.Common.{◌≡◌, ◌+◌, length}
use Rattle.law.specs.Places.{done}
use Rattle.image.specs.Image.{value_by, mask_by, in_page}
use Rattle.image.specs.Changing.{changed_place}
use Rattle.image.proofs.change_places.Given as goal

abbrev pub invariant-loop-q : goal.invariant-loop-q
invariant-loop-q g l =
    (l.values ≡ done (value_by (in_page (length l.bytes) l.number (changed_place g.rule l.bytes)) l.fn.masks) (l.base + l.q) l.fn.values)
    × (l.masks ≡ done (mask_by (in_page (length l.bytes) l.number (changed_place g.rule l.bytes)) l.fn.values) (l.base + l.q) l.fn.masks)
