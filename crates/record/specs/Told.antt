-- What a skeleton reply says of the cycle and of the image, and when what was told before it tells it.
use Rattle.std.specs.Prelude.{◌≡◌}
use Rattle.tied.specs.Control.{Kind, starts, ends, fetches, plain}
use Rattle.record.specs.declared.Skeleton.{Skeleton}
use Rattle.record.specs.declared.Skeleton.TheVariants.{Silent, Given, Fetch, Ack, NoAck, Starts, Ends, NoCycle}

abbrev pub skeleton_kind : Skeleton → Kind
skeleton_kind Silent = plain
skeleton_kind (Given b) = plain
skeleton_kind (Fetch p) = fetches
skeleton_kind Ack = plain
skeleton_kind NoAck = plain
skeleton_kind Starts = starts
skeleton_kind Ends = ends
skeleton_kind NoCycle = plain

-- both a given and a fetched byte are delivered as a byte: what was told before says which, and from which place
unfoldable pub Telling : Skeleton → Skeleton → Type 0
Telling Silent h = Unit {0}
Telling (Given b) h = h ≡ Silent
Telling (Fetch p) h = h ≡ Fetch p
Telling Ack h = Unit {0}
Telling NoAck h = Unit {0}
Telling Starts h = Unit {0}
Telling Ends h = Unit {0}
Telling NoCycle h = Unit {0}
