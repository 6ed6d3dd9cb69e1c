-- A sum over a list is the sum over its channels: so two lists with the same channels have the same sum, in whatever order the channels are mixed.
use mathlib.Core.Path.{◌≡◌, refl, sym, ap, ◌∙◌}
use mathlib.Core.Bool.{Bool, true, false}
use mathlib.Core.List.{List, [], ◌∷◌}
use Prim.Native.Nat.{ℕ, ◌+◌, ◌≤◌}
use native.Mathlib.Omega.{arith}
use lib.ListN.{length}
use Rattle.law.specs.Words.{pick, filter, keep}
use Rattle.meaning.specs.Meaning.{Channel, F, E, L, same}
use Rattle.meaning.specs.Channels.{channels, sum_over, sum, of_channel}

-- each channel is in it once
sum_one : (d : Channel) (n : ℕ) (f : Channel → ℕ) → sum (λ c. pick (same c d) n 0 + f c) ≡ n + sum f
sum_one F n f = omega arith
sum_one E n f = omega arith
sum_one L n f = omega arith

sum_over_lem : (cs : List Channel) (f g : Channel → ℕ) → ((c : Channel) → f c ≤ g c) → sum_over cs f ≤ sum_over cs g
sum_over_lem [] f g h = omega arith
sum_over_lem (c ∷ cs) f g h =
    let k = h c in
    let l = sum_over_lem cs f g h in
    omega arith

pub sum_most : (f g : Channel → ℕ) → ((c : Channel) → f c ≤ g c) → sum f ≤ sum g
sum_most f g h = sum_over_lem channels f g h

module _ {A : Type 0} (channel : A → Channel) where
  module _ (weight : A → ℕ) where
    unfoldable pub total : List A → ℕ
    total [] = 0
    total (a ∷ l) = weight a + total l

    total_keep : (t : Bool) (a : A) (l : List A) → total (keep t a l) ≡ pick t (weight a) 0 + total l
    unfolding keep total
    total_keep true a l = refl
    total_keep false a l = omega arith

    pub total_apart : (l : List A) → total l ≡ sum (λ c. total (of_channel channel c l))
    unfolding total filter
    total_apart [] = refl
    total_apart (a ∷ l) =
        ap (λ (n : ℕ). weight a + n) (total_apart l) ∙ sym (sum_one (channel a) (weight a) (λ c. total (of_channel channel c l)))
        ∙ (λ i. sum (λ c. sym (total_keep (same c (channel a)) a (of_channel channel c l)) i))

    pub total_same : (l k : List A) → ((c : Channel) → of_channel channel c l ≡ of_channel channel c k) → total l ≡ total k
    total_same l k h = total_apart l ∙ (λ i. sum (λ c. total (h c i))) ∙ sym (total_apart k)

  -- so the records are as many as those of the channels together
  total_length : (l : List A) → total (λ a. 1) l ≡ length l
  unfolding total
  total_length [] = refl
  total_length (a ∷ l) = let k = total_length l in omega arith

  pub length_apart : (l : List A) → length l ≡ sum (λ c. length (of_channel channel c l))
  length_apart l = sym (total_length l) ∙ total_apart (λ a. 1) l ∙ (λ i. sum (λ c. total_length (of_channel channel c l) i))
