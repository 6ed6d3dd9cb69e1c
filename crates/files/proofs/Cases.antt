-- What a promise says of a reading that failed.
use Rattle.std.proofs.Common.{rules}
use Rattle.std.specs.Prelude.{ℕ, ◌≤◌, ◌≡◌, List, length, Result, Ok, Err, IfOk}
use Rattle.std.specs.declared.io.Error.{Error}

not_bytes : {n : ℕ} {e : Error} → ◌≡◌ {A = Result ℕ Error} (Err e) (Ok n) → ⊥
not_bytes e = search rules

-- read_all's clause asks nothing of it
pub without : (new : List ℕ) (e : Error) → IfOk {T = ℕ} {E = Error} (Err e) (λ (n : ℕ). n ≤ length new)
without new e = search rules
