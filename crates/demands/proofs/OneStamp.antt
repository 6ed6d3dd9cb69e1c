-- A stamp whose records are all of one channel settles: they have one order only. And a stamp is not crowded where its records are few.
use mathlib.Core.Path.{◌≡◌, sym, ap, subst, ◌∙◌}
use mathlib.Core.Bool.{Bool, true, false}
use mathlib.Core.List.{List, [], ◌∷◌, ◌++◌}
use Prim.Native.Nat.{ℕ, ◌≤◌, ◌<◌}
use native.Mathlib.Omega.{arith}
use lib.Dec.{leb}
use lib.ListN.{length}
use borrow.Author.Tests.{leb-true}
use Rattle.law.specs.Choice.{both}
use Rattle.law.specs.Words.{pick, All}
use Rattle.law.specs.Lists.{all_map, filter_all}
use Rattle.meaning.specs.Meaning.{Channel, most, same, Rules, of, Allowed, after, outcome, Alike, Crowded, Answer, Means}
use Rattle.meaning.specs.Channels.{channels}
use Rattle.meaning.proofs.Channels.{every_channel, same_self}
use Rattle.meaning.proofs.Onward.{goes_on}
use Rattle.meaning.proofs.Allowing.{In, level, itself, allowed_all}
use Rattle.meaning.proofs.Steps.{at_here, means_on}

module _ {A S R : Type 0} (m : Rules A S R) where
  own : (c : Channel) (l : List A) → All (In m c) l → of m c l ≡ l
  own c l h = filter_all _ l (all_map _ _ (λ a i. ap (same c) i ∙ same_self c) l h)

  one_order : (c : Channel) (p o : List A) → All (In m c) p → Allowed m p o → o ≡ p
  one_order c p o h a = sym (own c o (allowed_all m (In m c) p o a h)) ∙ a.keeps c ∙ own c p h

  pub one_channel : (c : Channel) (p : List A) → All (In m c) p → (s : S) → Alike m p s
  unfolding Alike
  one_channel c p h s o q a b = ap (λ (l : List A). outcome m l s) (one_order c p o h a ∙ sym (one_order c p q h b))

  -- no channel is above its most
  abbrev pub within : List Channel → List A → Bool
  within [] p = true
  within (c ∷ cs) p = pick (leb (length (of m c p)) (most c)) (within cs p) false

  within_all : (cs : List Channel) (p : List A) → within cs p ≡ true → All (λ c. length (of m c p) ≤ most c) cs
  unfolding All
  within_all [] p h = tt
  within_all (c ∷ cs) p h = let k = both _ _ h in (leb-true _ _ k.0, within_all cs p k.1)

  -- p the records of the stamp t, rest those above
  module _ (p rest : List A) (t : ℕ) (hp : All (λ (a : A). m.stamp a ≡ t) p) (hr : All (λ (a : A). t < m.stamp a) rest) (f : within channels p ≡ true) where
    pub few : Crowded m (p ++ rest) t → ⊥
    unfolding Crowded
    few h =
        let k : most h.0 < length (of m h.0 p) = subst (λ (l : List A). most h.0 < length (of m h.0 l)) (at_here m p rest t hp hr) h.1 in
        let l = every_channel (λ c. length (of m c p) ≤ most c) (within_all channels p f) h.0 in
        omega arith

    -- where its orders end alike and keep the status, the answer is that of the rest from there on
    pub stamp_passes : (s : S) → m.lost s ≡ false → Alike m p s → m.lost (after m p s) ≡ false →
        (y : Answer S R) → Means m rest (after m p s) y → Means m (p ++ rest) s (goes_on (outcome m p s) y)
    stamp_passes s sure a k y h = means_on m p rest t hp hr s sure few a p (itself m p (level m t p hp)) k y h
