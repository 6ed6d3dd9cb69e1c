-- Pieces put one after another into a spelling.
use Prim.Native.Nat.{ℕ}
use mathlib.Core.Path.{◌≡◌, ap, ◌∙◌}
use mathlib.Core.List.{List, ◌++◌}
use Rattle.field.specs.Spelling.{no_bytes, put_all}
use Rattle.line.proofs.Put.{put_on}

-- three pieces
pub put_three : (s a b c : List ℕ) {s1 s2 r : List ℕ} → s1 ≡ put_all s a → s2 ≡ put_all s1 b → r ≡ put_all s2 c → r ≡ put_all s (a ++ (b ++ c))
put_three s a b c {s1} e f g = put_on s a (b ++ c) e (put_on s1 b c f g)

-- what was put to an empty spelling
pub put_from : (w : List ℕ) {s r : List ℕ} → s ≡ no_bytes → r ≡ put_all s w → r ≡ put_all no_bytes w
put_from w e f = f ∙ ap (λ (k : List ℕ). put_all k w) e
