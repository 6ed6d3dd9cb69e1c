-- Runs of stores, one after the other.
use mathlib.Core.Path.{◌≡◌, sym, ap, ap₂, ◌∙◌}
use mathlib.Core.List.{List, [], ◌∷◌, ◌++◌, append_assoc}
use Prim.Native.Nat.{ℕ, suc, ◌+◌, ◌≤◌}
use native.Mathlib.Nat.{add-zero, add-suc, suc-add, zero-add}
use native.Mathlib.Omega.{arith}
use lib.ListN.{length, set, take, drop}
use lib.Seq.{sets, sets-eq, drop-drop}
use borrow.Rule.Slice.PartMut.{put_mid}

-- two runs, the second where the first ends, are one
pub joined : (vs ws l : List ℕ) (i : ℕ) → sets (sets l i vs) (i + length vs) ws ≡ sets l i (vs ++ ws)
joined [] ws l i = ap (λ (k : ℕ). sets l k ws) (add-zero i)
joined (a ∷ vs) ws l i =
    ap (λ (k : ℕ). sets (sets (set l i a) (suc i) vs) k ws) (add-suc i (length vs) ∙ sym (suc-add i (length vs)))
    ∙ joined vs ws (set l i a) (suc i)

-- from the front on: ws after vs
pub then : (vs ws old new : List ℕ) {m : List ℕ} {at : ℕ} → m ≡ sets old 0 vs → at ≡ length vs → new ≡ sets m at ws → new ≡ sets old 0 (vs ++ ws)
then vs ws old new e p f = f ∙ ap₂ (λ (x : List ℕ) (j : ℕ). sets x j ws) e (p ∙ sym (zero-add (length vs))) ∙ joined vs ws old 0

-- a run that fits stands at the front, and the rest stays
pub front : (w old : List ℕ) → length w ≤ length old → sets old 0 w ≡ w ++ drop (length w) old
front w old h = sets-eq w old 0 (omega arith) ∙ ap (λ (k : ℕ). w ++ drop k old) (zero-add (length w))

-- a copy over a part
pub copied : (l s w : List ℕ) (at k : ℕ) → at + length w ≤ length l → k ≡ length w → s ≡ w → put_mid at k l s ≡ sets l at w
copied l s w at k h n e =
    (λ i. take at l ++ (e i ++ drop (n i) (drop at l)))
    ∙ ap (λ (r : List ℕ). take at l ++ (w ++ r)) (drop-drop (length w) at l)
    ∙ sym (append_assoc (take at l) w (drop (at + length w) l))
    ∙ sym (sets-eq w l at h)
