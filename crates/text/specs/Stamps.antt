-- Believed: The stamp that the next record is held against (document 01, refusal 4).
use Rattle.std.specs.Prelude.{ℕ, List, [], ◌∷◌}
use Rattle.record.specs.declared.Record.{Record}

-- the stamp of the last record, or t where there is none
unfoldable pub last_stamp : ℕ → List Record → ℕ
last_stamp t [] = t
last_stamp t (r ∷ rs) = last_stamp r.stamp rs
