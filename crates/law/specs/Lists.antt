-- Parts of a list by a test, and what holds of all its elements: the lemmas go by the list, and by the test's value at its head.
use Rattle.std.specs.Prelude.{◌≡◌, Bool, get_or}
use Rattle.std.proofs.Math.Path.{refl, ap}
use Rattle.std.proofs.Common.{◌∙◌, arith}
use Rattle.std.proofs.Math.Bool.{true, false}
use mathlib.Core.List.{List, [], ◌∷◌, ◌++◌}
use Prim.Native.Nat.{ℕ, zero, suc, ◌≤◌}
use Rattle.law.specs.Words.{All, Rising, filter, keep}

-- the lists that f gives, one after the other
unfoldable pub gather : {A B : Type 0} → (A → List B) → List A → List B
gather f [] = []
gather f (a ∷ l) = f a ++ gather f l

-- the same by neighbours: none is below the one before; n stands before the list
unfoldable pub RisingFrom : {A : Type 0} → (A → ℕ) → ℕ → List A → Type 0
RisingFrom f n [] = Unit {0}
RisingFrom f n (a ∷ l) = (n ≤ f a) × RisingFrom f (f a) l

module _ {A : Type 0} where
  pub all_map : (P Q : A → Type 0) → ((a : A) → P a → Q a) → (l : List A) → All P l → All Q l
  unfolding All
  all_map P Q f [] h = tt
  all_map P Q f (a ∷ l) h = (f a h.0, all_map P Q f l h.1)

  pub all_append : (P : A → Type 0) (l k : List A) → All P l → All P k → All P (l ++ k)
  unfolding All
  all_append P [] k h j = j
  all_append P (a ∷ l) k h j = (h.0, all_append P l k h.1 j)

  pub all_front : (P : A → Type 0) (l k : List A) → All P (l ++ k) → All P l
  unfolding All
  all_front P [] k h = tt
  all_front P (a ∷ l) k h = (h.0, all_front P l k h.1)

  pub all_behind : (P : A → Type 0) (l k : List A) → All P (l ++ k) → All P k
  unfolding All
  all_behind P [] k h = h
  all_behind P (a ∷ l) k h = all_behind P l k h.1

  -- of the element at a place, and of what stands for none
  pub all_at : (P : A → Type 0) (l : List A) (n : ℕ) (d : A) → P d → All P l → P (get_or l n d)
  unfolding All
  all_at P [] n d p h = p
  all_at P (a ∷ l) zero d p h = h.0
  all_at P (a ∷ l) (suc n) d p h = all_at P l n d p h.1

  pub keep_append : (b : Bool) (a : A) (l k : List A) → keep b a (l ++ k) ≡ keep b a l ++ k
  unfolding keep
  keep_append true a l k = refl
  keep_append false a l k = refl

  pub filter_append : (q : A → Bool) (l k : List A) → filter q (l ++ k) ≡ filter q l ++ filter q k
  unfolding filter
  filter_append q [] k = refl
  filter_append q (a ∷ l) k = ap (keep (q a) a) (filter_append q l k) ∙ keep_append (q a) a (filter q l) (filter q k)

  -- two tests, in either order
  keep_both : (q r : A → Bool) (x y : Bool) (a : A) (l : List A) → q a ≡ x → r a ≡ y → filter q (filter r l) ≡ filter r (filter q l) →
      filter q (keep y a (filter r l)) ≡ filter r (keep x a (filter q l))
  unfolding keep filter
  keep_both q r true true a l e f h = rw (e, f) (ap (λ (k : List A). a ∷ k) h)
  keep_both q r true false a l e f h = rw f h
  keep_both q r false true a l e f h = rw e h
  keep_both q r false false a l e f h = h

  pub filter_both : (q r : A → Bool) (l : List A) → filter q (filter r l) ≡ filter r (filter q l)
  unfolding filter
  filter_both q r [] = refl
  filter_both q r (a ∷ l) = keep_both q r (q a) (r a) a l refl refl (filter_both q r l)

  pub filter_all : (q : A → Bool) (l : List A) → All (λ a. q a ≡ true) l → filter q l ≡ l
  unfolding filter All keep
  filter_all q [] h = refl
  filter_all q (a ∷ l) h = rw h.0 (ap (λ (k : List A). a ∷ k) (filter_all q l h.1))

  pub filter_none : (q : A → Bool) (l : List A) → All (λ a. q a ≡ false) l → filter q l ≡ []
  unfolding filter All keep
  filter_none q [] h = refl
  filter_none q (a ∷ l) h = rw h.0 (filter_none q l h.1)

  all_keep : (P : A → Type 0) (b : Bool) (a : A) (l : List A) → P a → All P l → All P (keep b a l)
  unfolding keep All
  all_keep P true a l p h = (p, h)
  all_keep P false a l p h = h

  pub all_filter : (P : A → Type 0) (q : A → Bool) (l : List A) → All P l → All P (filter q l)
  unfolding filter All
  all_filter P q [] h = tt
  all_filter P q (a ∷ l) h = all_keep P (q a) a (filter q l) h.0 (all_filter P q l h.1)

  all_passed : (P : A → Type 0) (q : A → Bool) (b : Bool) (a : A) (l : List A) → (q a ≡ true → P a) → q a ≡ b → All P l → All P (keep b a l)
  unfolding keep All
  all_passed P q true a l p e h = (p e, h)
  all_passed P q false a l p e h = h

  -- what is left passed the test
  pub all_pass : (P : A → Type 0) (q : A → Bool) → ((a : A) → q a ≡ true → P a) → (l : List A) → All P (filter q l)
  unfolding filter All
  all_pass P q f [] = tt
  all_pass P q f (a ∷ l) = all_passed P q (q a) a (filter q l) (f a) refl (all_pass P q f l)

  -- the test of a list's front
  pub front_out : (q : A → Bool) (p l : List A) → All (λ a. q a ≡ false) p → filter q (p ++ l) ≡ filter q l
  front_out q p l h = filter_append q p l ∙ ap (λ (k : List A). k ++ filter q l) (filter_none q p h)

  pub front_in : (q : A → Bool) (p l : List A) → All (λ a. q a ≡ true) p → filter q (p ++ l) ≡ p ++ filter q l
  front_in q p l h = filter_append q p l ∙ ap (λ (k : List A). k ++ filter q l) (filter_all q p h)

-- by neighbours or of all later ones: it is the same
module _ {A : Type 0} (f : A → ℕ) where
  from_above : (n : ℕ) (l : List A) → RisingFrom f n l → All (λ (a : A). n ≤ f a) l
  unfolding RisingFrom All
  from_above n [] h = tt
  from_above n (a ∷ l) h =
      let le : n ≤ f a = h.0 in
      (le, all_map _ _ (λ b k. omega arith) l (from_above (f a) l h.1))

  pub from_rising : (n : ℕ) (l : List A) → RisingFrom f n l → Rising f l
  unfolding RisingFrom Rising
  from_rising n [] h = tt
  from_rising n (a ∷ l) h = (from_above (f a) l h.1, from_rising (f a) l h.1)

  pub rising_from : (n : ℕ) (l : List A) → All (λ (a : A). n ≤ f a) l → Rising f l → RisingFrom f n l
  unfolding All RisingFrom Rising
  rising_from n [] h k = tt
  rising_from n (a ∷ l) h k = (h.0, rising_from (f a) l k.0 k.1)
