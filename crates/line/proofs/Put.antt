-- Bytes that are put one after another.
use Prim.Native.Nat.{ℕ}
use mathlib.Core.Path.{◌≡◌, ap, ◌∙◌}
use mathlib.Core.List.{List, ◌++◌}
use Rattle.field.specs.Spelling.{put_all}
use Rattle.field.proofs.SpellingLaws.{put_then}

-- bytes are put, and then more
pub put_on : (s : List ℕ) (u v : List ℕ) {r q : List ℕ} → r ≡ put_all s u → q ≡ put_all r v → q ≡ put_all s (u ++ v)
put_on s u v e f = f ∙ ap (λ (k : List ℕ). put_all k v) e ∙ put_then s u v
