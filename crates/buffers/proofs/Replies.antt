-- How the replies stand: one after the other, with zeros behind the last. Assumes nothing.
use mathlib.Core.Path.{◌≡◌, ap, ap₂, ◌∙◌}
use mathlib.Core.List.{List, ◌++◌}
use Prim.Native.Nat.{ℕ, suc, ◌+◌, ◌*◌, ◌<◌}
use native.Mathlib.Omega.{arith}
use borrow.Author.Tests.{eq-eqb, lt-ltb}
use lib.ListN.{length, take, drop, replicate}
use lib.Seq.{sets, sets-eq, take_at, drop-append-add}
use Rattle.record.specs.Lengths.{replies_length, reply_places}
use Rattle.buffers.specs.Put.{replies_with}

pub reply_put : (number : ℕ) (four old : List ℕ) → number < reply_places → length old ≡ replies_length → replies_with number four old ≡ sets old (4 * number) four
unfolding replies_with
reply_put number four old h e = simp (lt-ltb _ _ h, eq-eqb _ _ e)

-- zeros behind four places
drop_four : (w : List ℕ) (k : ℕ) → drop (length w + 4) (w ++ replicate (4 + k) 0) ≡ replicate k 0
drop_four w k =
    let e : 4 + k ≡ suc (suc (suc (suc k))) = omega arith in
    drop-append-add w (replicate (4 + k) 0) 4 ∙ ap (λ (n : ℕ). drop 4 (replicate n 0)) e

-- the next reply goes behind those before it; zeros stay behind it
pub reply_next : (number k : ℕ) (w vs old : List ℕ) → old ≡ w ++ replicate (4 + k) 0 → length w ≡ 4 * number → number < reply_places
    → length old ≡ replies_length → length vs ≡ 4 → replies_with number vs old ≡ (w ++ vs) ++ replicate k 0
reply_next number k w vs old is l h e four =
    let seam : 4 * number + length vs ≡ length w + 4 = omega arith in
    let front : take (4 * number) old ≡ w = ap (λ (s : List ℕ). take (4 * number) s) is ∙ take_at w (replicate (4 + k) 0) (4 * number) l in
    let back : drop (4 * number + length vs) old ≡ replicate k 0 =
    ap₂ (λ (n : ℕ) (s : List ℕ). drop n s) seam is ∙ drop_four w k in
    reply_put number vs old h e
    ∙ sets-eq vs old (4 * number) (omega arith) ∙ ap₂ (λ (x y : List ℕ). x ++ vs ++ y) front back
