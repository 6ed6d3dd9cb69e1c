-- All orders of a list of records that keep each channel's own order, in a list: the first record is put into an order of the others, never behind one of its own channel.
use mathlib.Core.Path.{◌≡◌, refl, sym, ap, subst, ◌∙◌}
use mathlib.Core.Bool.{Bool, true, false}
use mathlib.Core.List.{List, [], ◌∷◌, map, head-eq_of_cons-eq, tail-eq_of_cons-eq}
use Prim.Native.Nat.{ℕ}
use native.Mathlib.Omega.{arith}
use Rattle.law.specs.Choice.{true_not_false}
use Rattle.law.specs.Lists.{gather, all_map, all_append, all_front, all_behind, all_filter}
use Rattle.law.specs.Words.{filter, keep, All}
use Rattle.meaning.specs.Meaning.{Channel, same, Rules, of, outcome, Alike}
use Rattle.meaning.proofs.Channels.{same_self, same_is}
use Rattle.meaning.proofs.Allowing.{level, all_channels}

unfoldable pub behind : {A : Type 0} → Bool → A → List (List A) → List (List A)
behind true x l = []
behind false x l = map (λ o. x ∷ o) l

module _ {A B : Type 0} where
  all_mapped : (P : B → Type 0) (f : A → B) (l : List A) → All P (map f l) → All (λ a. P (f a)) l
  unfolding All
  all_mapped P f [] h = tt
  all_mapped P f (a ∷ l) h = (h.0, all_mapped P f l h.1)

  mapped_all : (P : B → Type 0) (f : A → B) (l : List A) → All (λ a. P (f a)) l → All P (map f l)
  unfolding All
  mapped_all P f [] h = tt
  mapped_all P f (a ∷ l) h = (h.0, mapped_all P f l h.1)

  all_gathered : (P : B → Type 0) (f : A → List B) (l : List A) → All P (gather f l) → All (λ a. All P (f a)) l
  unfolding All gather
  all_gathered P f [] h = tt
  all_gathered P f (a ∷ l) h = (all_front P (f a) _ h, all_gathered P f l (all_behind P (f a) _ h))

  gathered_all_lem : (P : B → Type 0) (f : A → List B) (l : List A) → All (λ a. All P (f a)) l → All P (gather f l)
  unfolding All gather
  gathered_all_lem P f [] h = tt
  gathered_all_lem P f (a ∷ l) h = all_append P (f a) _ h.0 (gathered_all_lem P f l h.1)

module _ {A : Type 0} where
  -- two in front, in either order
  keep_swap : (t u : Bool) (x a : A) (l : List A) → (t ≡ true → u ≡ true → ⊥) → keep t x (keep u a l) ≡ keep u a (keep t x l)
  unfolding keep
  keep_swap true true x a l n = absurd (n refl refl)
  keep_swap true false x a l n = refl
  keep_swap false u x a l n = refl

  keep_cancel : (t : Bool) (a : A) (l k : List A) → keep t a l ≡ keep t a k → l ≡ k
  unfolding keep
  keep_cancel true a l k e = tail-eq_of_cons-eq e
  keep_cancel false a l k e = e

module _ {A S R : Type 0} (m : Rules A S R) where
  abbrev pub Keeps : List A → List A → Type 0
  Keeps rs o = (c : Channel) → of m c o ≡ of m c rs

  -- a record at each place that it may have in an order of later ones
  unfoldable pub places : A → List A → List (List A)
  places a [] = (a ∷ []) ∷ []
  places a (x ∷ o) = (a ∷ (x ∷ o)) ∷ behind (same (m.channel a) (m.channel x)) x (places a o)

  unfoldable pub orders : List A → List (List A)
  orders [] = [] ∷ []
  orders (a ∷ rs) = gather (places a) (orders rs)

  -- q is o with a in it, behind no record of its channel
  data Put (a : A) : List A → List A → Type 0 where
    first : {o : List A} → Put a o (a ∷ o)
    later : {x : A} {o q : List A} → same (m.channel a) (m.channel x) ≡ false → Put a o q → Put a (x ∷ o) (x ∷ q)

  at_first : (P : List A → Type 0) (a : A) (o : List A) → All P (places a o) → P (a ∷ o)
  unfolding places All
  at_first P a [] h = h.0
  at_first P a (x ∷ o) h = h.0

  at_place : (a : A) (P : List A → Type 0) {o q : List A} → All P (places a o) → Put a o q → P q
  unfolding places All behind
  at_place a P {o} h first = at_first P a o h
  at_place a P h (later {x = x} {o = o} e k) =
      at_place a (λ q. P (x ∷ q)) (all_mapped P (λ q. x ∷ q) (places a o) (subst (λ (t : Bool). All P (behind t x (places a o))) e h.1)) k

  put_behind : (t : Bool) (a x : A) (o : List A) → same (m.channel a) (m.channel x) ≡ t → (l : List (List A)) → All (Put a o) l → All (Put a (x ∷ o)) (behind t x l)
  unfolding behind All
  put_behind true a x o e l h = tt
  put_behind false a x o e l h = mapped_all _ _ l (all_map _ _ (λ q k. later e k) l h)

  put_places : (a : A) (o : List A) → All (Put a o) (places a o)
  unfolding places All
  put_places a [] = (first, tt)
  put_places a (x ∷ o) = (first, put_behind _ a x o refl (places a o) (put_places a o))

  put_keeps : {a : A} {o q : List A} → Put a o q → (d : Channel) → of m d q ≡ of m d (a ∷ o)
  unfolding filter
  put_keeps first d = refl
  put_keeps {a} (later {x = x} {o = o} e k) d =
      ap (keep (same d (m.channel x)) x) (put_keeps k d)
      ∙ keep_swap _ _ x a (of m d o) (λ t u. true_not_false (sym (same_self (m.channel a)) ∙ ap (same (m.channel a)) (same_is d (m.channel a) u ∙ sym (same_is d (m.channel x) t)) ∙ e))

  taken_by : (t : Bool) (a x : A) (o l : List A) → same (m.channel a) (m.channel x) ≡ t → keep t x (of m (m.channel a) o) ≡ a ∷ l →
      (of m (m.channel a) o ≡ a ∷ l → (q : List A) × Put a q o) → (q : List A) × Put a q (x ∷ o)
  unfolding keep
  taken_by true a x o l e h k = (o, subst (λ (y : A). Put a o (y ∷ o)) (sym (head-eq_of_cons-eq h)) first)
  taken_by false a x o l e h k = let r = k h in (x ∷ r.0, later e r.1)

  -- the first record of its channel in an order can be taken out
  taken : (a : A) (o l : List A) → of m (m.channel a) o ≡ a ∷ l → (q : List A) × Put a q o
  unfolding filter
  taken a [] l h = let z : ◌≡◌ {A = ℕ} 0 1 = cc in absurd (omega arith)
  taken a (x ∷ o) l h = taken_by _ a x o l refl h (taken a o l)

  keeps_nothing : (o : List A) → Keeps [] o → o ≡ []
  unfolding All filter
  keeps_nothing [] k = refl
  keeps_nothing (x ∷ o) k = absurd (all_channels m (λ (b : A). ⊥) (x ∷ o) (λ c. subst (All (λ (b : A). ⊥)) (sym (k c)) tt)).0

  -- what holds of all in the list holds of every order that keeps the channels; and each in the list does keep them
  pub all_orders : (rs : List A) (P : List A → Type 0) → All P (orders rs) → (o : List A) → Keeps rs o → P o
  unfolding orders All filter keep
  all_orders [] P h o k = subst P (sym (keeps_nothing o k)) h.0
  all_orders (a ∷ rs) P h o k =
      let r = taken a o (of m (m.channel a) rs) (k (m.channel a) ∙ ap (λ (t : Bool). keep t a (of m (m.channel a) rs)) (same_self (m.channel a))) in
      at_place a P (all_orders rs (λ q. All P (places a q)) (all_gathered P (places a) (orders rs) h) r.0 (λ d. keep_cancel (same d (m.channel a)) a _ _ (sym (put_keeps r.1 d) ∙ k d))) r.1

  pub orders_keep : (rs : List A) → All (Keeps rs) (orders rs)
  unfolding orders All filter
  orders_keep [] = ((λ c. refl), tt)
  orders_keep (a ∷ rs) =
      gathered_all_lem _ (places a) (orders rs)
      (all_map _ _ (λ q k. all_map _ _ (λ o p d. put_keeps p d ∙ ap (keep (same d (m.channel a)) a) (k d)) (places a q) (put_places a q)) (orders rs) (orders_keep rs))

  -- the orders of one stamp end alike exactly when those in the list do
  pub listed_alike : (p : List A) (s : S) → All (λ o. outcome m o s ≡ outcome m p s) (orders p) → Alike m p s
  unfolding Alike
  listed_alike p s h o q a b = all_orders p _ h o a.keeps ∙ sym (all_orders p _ h q b.keeps)

  pub alike_listed : (p : List A) (t : ℕ) → All (λ (a : A). m.stamp a ≡ t) p → (s : S) → Alike m p s → All (λ o. outcome m o s ≡ outcome m p s) (orders p)
  unfolding Alike
  alike_listed p t hp s h =
      all_map _ _
      (λ o k.
      h o p
      (record { keeps = k; onward = level m t o (all_channels m _ o (λ c. subst (All (λ (a : A). m.stamp a ≡ t)) (sym (k c)) (all_filter _ _ p hp))) })
      (record { keeps = λ c. refl; onward = level m t p hp }))
      (orders p) (orders_keep p)
