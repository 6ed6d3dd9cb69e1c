-- Bytes that are stored one after the other. Assumes nothing.
use mathlib.Core.Path.{◌≡◌, sym, ◌∙◌}
use mathlib.Core.List.{List, ◌++◌}
use Prim.Native.Nat.{ℕ, ◌+◌, ◌≤◌}
use native.Mathlib.Omega.{arith}
use borrow.Rule.Slice.PartMut.{put_mid}
use lib.ListN.{length, take, drop}
use lib.Seq.{sets, sets-eq}
use Rattle.std.proofs.lemmas.Slice.{put_mid-paste}
use Rattle.std.proofs.lemmas.List.{take_all}

-- what a write to a part of a slice leaves, as stores one after the other
pub part_set : (l now vs : List ℕ) (at k n : ℕ) → now ≡ vs → length vs ≡ n → k ≡ n → at + n ≤ length l → put_mid at k l now ≡ sets l at vs
part_set l now vs at k n e long same room =
    let whole : take n vs ≡ vs = take_all n vs (omega arith) in
    let behind : at + n ≡ at + length vs = omega arith in
    put_mid-paste at k l now vs n e (omega arith) (omega arith)
    ∙ (λ i. take at l ++ whole i ++ drop (behind i) l)
    ∙ sym (sets-eq vs l at (omega arith))
