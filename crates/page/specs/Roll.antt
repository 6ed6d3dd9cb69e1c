-- Where the bytes of a page write go, once for every page size: the words in which the laws of rolling are said.
use Rattle.std.specs.Prelude.{◌%◌, ◌*◌, ◌+◌, ◌/◌, ℕ, List, [], ◌∷◌, set}

-- where the k-th data byte goes, counted from 0, in a page of `size` places
abbrev pub place : ℕ → ℕ → ℕ → ℕ
place size first k = (first + k) % size

-- the page after the data bytes ds, the first of them for place p: a later byte for a place replaces the earlier
abbrev pub roll : ℕ → ℕ → List ℕ → List ℕ → List ℕ
roll size p [] page = page
roll size p (d ∷ ds) page = roll size ((p + 1) % size) ds (set page p d)

-- ---- the place in the whole chip after n bytes from place p on, in the own rolling of its page
abbrev pub place_after : ℕ → ℕ → ℕ → ℕ
place_after size p n = p / size * size + place size (p % size) n
