-- Lists in order (`InOrder`): there is one such list and no other, a part of it is the part in order, every sum over it stays, and which element is its first.
use Rattle.std.specs.Prelude.{◌≡◌, Bool, ℕ, ◌+◌, ◌≤◌, ◌<◌, eqb, leb, length}
use Rattle.std.proofs.Math.Path.{refl, sym, ap, ap₂}
use Rattle.std.proofs.Common.{subst, ◌∙◌}
use Rattle.std.proofs.Math.Bool.{true, false}
use mathlib.Core.List.{List, [], ◌∷◌, ◌++◌}
use Rattle.std.proofs.Math.Logic.{⊎_elim}
use native.Mathlib.Omega.{arith}
use borrow.Author.Tests.{eq-eqb, ne_eqb, eqb-true, eqb-false, leb-true, leb-false}
use Rattle.law.specs.Choice.{split, lt_or_le}
use Rattle.law.specs.Words.{pick, filter, keep, All, Rising}
use Rattle.law.specs.Lists.{all_map, all_append, all_filter, filter_append, filter_both, filter_none}
use Rattle.law.specs.Order.{numbered, InOrder}

module _ {A : Type 0} where
  tail_of : List A → List A
  tail_of [] = []
  tail_of (a ∷ l) = l

  head_or : A → List A → A
  head_or d [] = d
  head_or d (a ∷ l) = a

  cons_not_nil : (a : A) (l : List A) → a ∷ l ≡ [] → ⊥
  cons_not_nil a l e = let z = ap length e in omega arith

  cons_head : (a b : A) (l k : List A) → a ∷ l ≡ b ∷ k → a ≡ b
  unfolding head_or
  cons_head a b l k e = ap (head_or a) e

  cons_tail : (a b : A) (l k : List A) → a ∷ l ≡ b ∷ k → l ≡ k
  unfolding tail_of
  cons_tail a b l k e = ap tail_of e

  all_from : (P : A → Type 0) (b : Bool) (a : A) (l : List A) → All P (keep b a l) → All P l
  unfolding keep All
  all_from P true a l h = h.1
  all_from P false a l h = h

  -- the sum of a number of each element
  unfoldable pub total : (A → ℕ) → List A → ℕ
  total f [] = 0
  total f (a ∷ l) = f a + total f l

  pub total_one : (l : List A) → total (λ (a : A). 1) l ≡ length l
  unfolding total
  total_one [] = refl
  total_one (a ∷ l) = omega (arith, total_one l)

  pub total_append : (f : A → ℕ) (l k : List A) → total f (l ++ k) ≡ total f l + total f k
  unfolding total
  total_append f [] k = omega arith
  total_append f (a ∷ l) k = omega (arith, total_append f l k)

module _ {A : Type 0} (number : A → ℕ) where
  -- ---- the elements of one number
  numbered_in : (n : ℕ) (a : A) (l : List A) → number a ≡ n → numbered number n (a ∷ l) ≡ a ∷ numbered number n l
  unfolding filter keep
  numbered_in n a l e = rw (eq-eqb (number a) n e)

  numbered_out : (n : ℕ) (a : A) (l : List A) → (number a ≡ n → ⊥) → numbered number n (a ∷ l) ≡ numbered number n l
  unfolding filter keep
  numbered_out n a l e = rw (ne_eqb (number a) n e)

  -- none has a number below all
  none_below : (n k : ℕ) (l : List A) → n < k → All (λ (b : A). k ≤ number b) l → numbered number n l ≡ []
  none_below n k l h p = filter_none _ l (all_map _ _ (λ b q. ne_eqb (number b) n (λ e. omega arith)) l p)

  from_first : (a : A) (l : List A) → Rising number (a ∷ l) → All (λ (b : A). number a ≤ number b) (a ∷ l)
  unfolding Rising All
  from_first a l r = (omega arith, r.0)

  tail_rising : (a : A) (l : List A) → Rising number (a ∷ l) → Rising number l
  unfolding Rising
  tail_rising a l r = r.1

  -- ---- one list
  not_below : (a b : A) (l k : List A) → Rising number (b ∷ k) → ((n : ℕ) → numbered number n (a ∷ l) ≡ numbered number n (b ∷ k)) → number a < number b → ⊥
  not_below a b l k r h lt =
      cons_not_nil a (numbered number (number a) l)
      (sym (numbered_in (number a) a l refl) ∙ h (number a) ∙ none_below (number a) (number b) (b ∷ k) lt (from_first b k r))

  tails : (a b : A) (l k : List A) → number a ≡ number b → ((n : ℕ) → numbered number n (a ∷ l) ≡ numbered number n (b ∷ k)) → (n : ℕ) → numbered number n l ≡ numbered number n k
  tails a b l k e h n =
      split (eqb (number a) n)
      (λ t. let q = eqb-true (number a) n t in
      cons_tail a b _ _ (sym (numbered_in n a l q) ∙ h n ∙ numbered_in n b k (sym e ∙ q)))
      (λ t. let q = eqb-false (number a) n t in
      sym (numbered_out n a l q) ∙ h n ∙ numbered_out n b k (λ z. q (e ∙ z)))

  heads : (a b : A) (l k : List A) → number a ≡ number b → ((n : ℕ) → numbered number n (a ∷ l) ≡ numbered number n (b ∷ k)) → a ≡ b
  heads a b l k e h = cons_head a b _ _ (sym (numbered_in (number a) a l refl) ∙ h (number a) ∙ numbered_in (number a) b k (sym e))

  pub rising_one : (l k : List A) → Rising number l → Rising number k → ((n : ℕ) → numbered number n l ≡ numbered number n k) → l ≡ k
  unfolding filter
  rising_one [] [] r s h = refl
  rising_one [] (b ∷ k) r s h = absurd (cons_not_nil b (numbered number (number b) k) (sym (numbered_in (number b) b k refl) ∙ sym (h (number b))))
  rising_one (a ∷ l) [] r s h = absurd (cons_not_nil a (numbered number (number a) l) (sym (numbered_in (number a) a l refl) ∙ h (number a)))
  rising_one (a ∷ l) (b ∷ k) r s h =
      let le : number b ≤ number a = ⊎_elim (λ lt. absurd (not_below a b l k s h lt)) (λ q. q) (lt_or_le (number a) (number b)) in
      let ge : number a ≤ number b = ⊎_elim (λ lt. absurd (not_below b a k l r (λ n. sym (h n)) lt)) (λ q. q) (lt_or_le (number b) (number a)) in
      let e : number a ≡ number b = omega arith in
      ap₂ (λ (x : A) (xs : List A). x ∷ xs) (heads a b l k e h) (rising_one l k (tail_rising a l r) (tail_rising b k s) (tails a b l k e h))

  -- a list has one list in order
  pub order_one : {xs m m' : List A} → InOrder number xs m → InOrder number xs m' → m ≡ m'
  order_one {xs} {m} {m'} p q = rising_one m m' p.rising q.rising (λ n. p.keeps n ∙ sym (q.keeps n))

  -- a list that rises is its own
  pub order_itself : {xs : List A} → Rising number xs → InOrder number xs xs
  order_itself r = record { rising = r; keeps = λ n. refl }

  -- ---- a part of it
  rising_keep : (t : Bool) (a : A) (l : List A) → All (λ (b : A). number a ≤ number b) l → Rising number l → Rising number (keep t a l)
  unfolding keep Rising
  rising_keep true a l h r = (h, r)
  rising_keep false a l h r = r

  pub rising_filter : (q : A → Bool) (l : List A) → Rising number l → Rising number (filter q l)
  unfolding filter Rising
  rising_filter q [] r = tt
  rising_filter q (a ∷ l) r = rising_keep (q a) a (filter q l) (all_filter _ q l r.0) (rising_filter q l r.1)

  pub order_filter : (q : A → Bool) {xs m : List A} → InOrder number xs m → InOrder number (filter q xs) (filter q m)
  order_filter q {xs} {m} p = record {
    rising = rising_filter q m p.rising;
    keeps = λ n. filter_both (λ (a : A). eqb (number a) n) q m ∙ ap (filter q) (p.keeps n) ∙ filter_both q (λ (a : A). eqb (number a) n) xs;
  }

  -- a part that rises already stands in the order as it is
  pub part_as_it_is : (q : A → Bool) {xs m : List A} → InOrder number xs m → Rising number (filter q xs) → filter q m ≡ filter q xs
  part_as_it_is q p r = order_one (order_filter q p) (order_itself r)

  -- ---- what holds of all holds of all in order
  all_numbered : (P : A → Type 0) (l : List A) → ((n : ℕ) → All P (numbered number n l)) → All P l
  unfolding All filter
  all_numbered P [] h = tt
  all_numbered P (a ∷ l) h =
      ((subst (All P) (numbered_in (number a) a l refl) (h (number a))).0, all_numbered P l (λ n. all_from P (eqb (number a) n) a (numbered number n l) (h n)))

  pub order_all : (P : A → Type 0) {xs m : List A} → InOrder number xs m → All P xs → All P m
  order_all P {xs} {m} p h = all_numbered P m (λ n. subst (All P) (sym (p.keeps n)) (all_filter P _ xs h))

  -- ---- there is one: each element is put in front of the first that is not below it
  insert : A → List A → List A
  insert a [] = a ∷ []
  insert a (b ∷ l) = pick (leb (number a) (number b)) (a ∷ (b ∷ l)) (b ∷ insert a l)

  sort : List A → List A
  sort [] = []
  sort (a ∷ l) = insert a (sort l)

  insert_all : (P : A → Type 0) (a : A) (l : List A) → P a → All P l → All P (insert a l)
  unfolding insert All
  insert_all P a [] p h = (p, tt)
  insert_all P a (b ∷ l) p h =
      split (leb (number a) (number b)) (λ t. rw t (p, h)) (λ t. rw t (h.0, insert_all P a l p h.1))

  insert_rising : (a : A) (l : List A) → Rising number l → Rising number (insert a l)
  unfolding insert Rising All
  insert_rising a [] r = (tt, tt)
  insert_rising a (b ∷ l) r =
      split (leb (number a) (number b))
      (λ t. let q = leb-true (number a) (number b) t in rw t ((q, all_map _ _ (λ x h. omega arith) l r.0), r))
      (λ t. let q = leb-false (number a) (number b) t in rw t (insert_all _ a l (omega arith) r.0, insert_rising a l r.1))

  keep_swap : (n : ℕ) (a b : A) (l : List A) → (number a ≡ number b → ⊥) →
      keep (eqb (number b) n) b (keep (eqb (number a) n) a l) ≡ keep (eqb (number a) n) a (keep (eqb (number b) n) b l)
  unfolding keep
  keep_swap n a b l ne =
      split (eqb (number a) n)
      (λ t. let q = eqb-true (number a) n t in rw (ne_eqb (number b) n (λ z. ne (q ∙ sym z))))
      (λ t. rw t)

  insert_keeps : (n : ℕ) (a : A) (l : List A) → numbered number n (insert a l) ≡ numbered number n (a ∷ l)
  unfolding insert filter
  insert_keeps n a [] = refl
  insert_keeps n a (b ∷ l) =
      split (leb (number a) (number b))
      (λ t. rw t)
      (λ t. let q = leb-false (number a) (number b) t in
      rw t (ap (keep (eqb (number b) n) b) (insert_keeps n a l) ∙ keep_swap n a b (numbered number n l) (λ z. omega arith)))

  sort_rising : (l : List A) → Rising number (sort l)
  unfolding sort Rising
  sort_rising [] = tt
  sort_rising (a ∷ l) = insert_rising a (sort l) (sort_rising l)

  sort_keeps : (n : ℕ) (l : List A) → numbered number n (sort l) ≡ numbered number n l
  unfolding sort filter
  sort_keeps n [] = refl
  sort_keeps n (a ∷ l) = insert_keeps n a (sort l) ∙ ap (keep (eqb (number a) n) a) (sort_keeps n l)

  -- every list has a list in order
  pub order_some : (xs : List A) → (m : List A) × InOrder number xs m
  order_some xs = (sort xs, record { rising = sort_rising xs; keeps = λ n. sort_keeps n xs })

  -- ---- nothing is lost and nothing added: every sum over the elements stays
  insert_total : (f : A → ℕ) (a : A) (l : List A) → total f (insert a l) ≡ f a + total f l
  unfolding insert total
  insert_total f a [] = refl
  insert_total f a (b ∷ l) = split (leb (number a) (number b)) (λ t. rw t) (λ t. rw t (omega (arith, insert_total f a l)))

  sort_total : (f : A → ℕ) (l : List A) → total f (sort l) ≡ total f l
  unfolding sort total
  sort_total f [] = refl
  sort_total f (a ∷ l) = insert_total f a (sort l) ∙ ap (λ (n : ℕ). f a + n) (sort_total f l)

  pub order_total : (f : A → ℕ) {xs m : List A} → InOrder number xs m → total f m ≡ total f xs
  order_total f {xs} {m} p = ap (total f) (order_one p (record { rising = sort_rising xs; keeps = λ n. sort_keeps n xs })) ∙ sort_total f xs

  -- ---- which is the first: one that is below all before it and not above any behind it
  next_keeps : (n : ℕ) (x : A) (front behind : List A) → All (λ (a : A). number x < number a) front →
      keep (eqb (number x) n) x (numbered number n (front ++ behind)) ≡ numbered number n (front ++ (x ∷ behind))
  unfolding filter keep
  next_keeps n x front behind h =
      ap (keep (eqb (number x) n) x) (filter_append _ front behind)
      ∙ split (eqb (number x) n)
      (λ t.
      let q = eqb-true (number x) n t in
      let none : numbered number n front ≡ [] = filter_none _ front (all_map _ _ (λ a k. ne_eqb (number a) n (λ e. omega arith)) front h) in
      rw (t, none))
      (λ t. rw t)
      ∙ sym (filter_append _ front (x ∷ behind))

  pub order_next : (x : A) (front behind : List A) {m : List A} → All (λ (a : A). number x < number a) front → All (λ (a : A). number x ≤ number a) behind →
      InOrder number (front ++ (x ∷ behind)) m → (rest : List A) × (m ≡ x ∷ rest) × InOrder number (front ++ behind) rest
  unfolding Rising filter
  order_next x front behind {m} h k p =
      let z = order_some (front ++ behind) in
      let le = all_append _ front behind (all_map (λ (a : A). number x < number a) (λ (a : A). number x ≤ number a) (λ a q. omega arith) front h) k in
      let made : InOrder number (front ++ (x ∷ behind)) (x ∷ z.0) = record {
        rising = (order_all _ z.1 le, z.1.rising);
        keeps = λ n. ap (keep (eqb (number x) n) x) (z.1.keeps n) ∙ next_keeps n x front behind h;
      } in
      (z.0, order_one p made, z.1)

  -- ---- rising lists one after the other
  pub rising_append : (l k : List A) (t : ℕ) → All (λ (a : A). number a ≤ t) l → All (λ (a : A). t ≤ number a) k → Rising number l → Rising number k → Rising number (l ++ k)
  unfolding Rising All
  rising_append [] k t h j r s = s
  rising_append (a ∷ l) k t h j r s =
      let le : number a ≤ t = h.0 in
      (all_append _ l k r.0 (all_map _ _ (λ x q. omega arith) k j), rising_append l k t h.1 j r.1 s)

  -- ---- elements of one number rise
  pub rising_level : (t : ℕ) (l : List A) → All (λ (a : A). number a ≡ t) l → Rising number l
  unfolding Rising All
  rising_level t [] h = tt
  rising_level t (a ∷ l) h = let e : number a ≡ t = h.0 in (all_map _ _ (λ x q. omega arith) l h.1, rising_level t l h.1)
