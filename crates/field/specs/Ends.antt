-- Believed: The bytes that end fields (document 01, 'The trace': 'Each line ends with LF; fields are parted by one tab').
use Rattle.std.specs.Prelude.{ℕ, List, [], ◌∷◌}

abbrev pub tab_byte : ℕ
tab_byte = 9

abbrev pub lf_byte : ℕ
lf_byte = 10

abbrev pub tab : List ℕ
tab = tab_byte ∷ []

abbrev pub lf : List ℕ
lf = lf_byte ∷ []
