-- Believed: The rolling of a page write, once for every page size (document 01, 'Flash rules', 'EEPROM rules').
use Rattle.std.specs.Prelude.{ℕ, ◌+◌, ◌-◌, ◌*◌, ◌/◌, ◌%◌, Bool, ltb}
use Rattle.law.specs.Words.{pick}

-- the place after one in a page or a chip, by its last place
abbrev pub rolled_in : ℕ → ℕ → ℕ
rolled_in last at = pick (ltb at last) (at + 1) 0

-- the place after one, in the own rolling of its page
abbrev pub next_in : ℕ → ℕ → ℕ
next_in size p = p / size * size + rolled_in (size - 1) (p % size)

-- was place q sent, by count bytes from place first on?
abbrev pub sent_place : ℕ → ℕ → ℕ → ℕ → Bool
sent_place size first count q = ltb ((q + (size - first)) % size) count
