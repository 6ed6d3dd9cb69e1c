-- Believed: The flash's status as a board gives it and as WRSR sets it (document 01, 'The trace', 'Flash rules').
use Rattle.std.specs.Prelude.{◌≡◌, ℕ, ◌/◌, ◌%◌, ◌<◌}

-- 'only bits 7, 3, 2 may be set'
abbrev pub StatusOk : ℕ → Type 0
StatusOk s = (s < 256) × (s % 4 ≡ 0) × (s / 16 % 8 ≡ 0)
