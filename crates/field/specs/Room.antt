-- Believed: The room of a line that is put together.
use Rattle.std.specs.Prelude.{ℕ}

abbrev pub room : ℕ
room = 32
