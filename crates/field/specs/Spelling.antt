-- Bytes that are put one after another into a spelling, which is seen as the bytes that it holds.
use Rattle.std.specs.Prelude.{ℕ, List, [], ◌∷◌, ◌++◌, leb, length}
use Rattle.law.specs.Words.{pick}
use Rattle.field.specs.Room.{room}

abbrev pub no_bytes : List ℕ
no_bytes = []

-- one byte more, if there is room
abbrev pub put_byte : List ℕ → ℕ → List ℕ
put_byte s b = pick (leb room (length s)) s (s ++ (b ∷ []))

unfoldable pub put_all : List ℕ → List ℕ → List ℕ
put_all s [] = s
put_all s (b ∷ w) = put_all (put_byte s b) w
