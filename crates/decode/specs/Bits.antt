-- Believed: Bits of a byte, most significant first, and what a line of the capture gives (document 02, request 4/12).
use Rattle.std.specs.Prelude.{Bool, true, false, List, [], ◌∷◌, ℕ, ◌+◌, ◌*◌, ◌%◌}
use Rattle.record.specs.declared.Event.{Event}
use Rattle.decode.specs.declared.Out.{Out}
use Rattle.decode.specs.declared.Out.TheVariants.{Nothing, One, Two}

-- the byte with the bit behind it: after eight bits it is those eight
abbrev pub pushed : ℕ → Bool → ℕ
pushed byte true = byte % 128 * 2 + 1
pushed byte false = byte % 128 * 2

unfoldable pub events_of : Out → List Event
events_of Nothing = []
events_of (One e) = e ∷ []
events_of (Two d e) = d ∷ e ∷ []
