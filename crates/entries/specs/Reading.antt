-- The status that is read of its text.
use Rattle.std.specs.Prelude.{ℕ, ◌<◌, ◌≡◌, List, ◌++◌, Option, Some, IfSome}
use Rattle.field.specs.Hex.{hex_field}
use Rattle.field.specs.Ends.{lf}

-- the status that the text spells, or none where it spells none
pub record ReadsStatus (text : List ℕ) (r : Option ℕ) : Type 0 where
  pub found : (status : ℕ) → status < 256 → text ≡ hex_field status ++ lf → r ≡ Some status
  pub only : IfSome r (λ status. (status < 256) × (text ≡ hex_field status ++ lf))
