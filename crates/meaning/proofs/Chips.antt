-- One chip of a machine with any number of them: it hears the records of its own channel and the lines', and goes by its own part of the state.
-- What it sees and says in an allowed order is what its own rules give for these two channels' order in it; and each order of the two is met in an allowed one, with all other records in front.
use mathlib.Core.Path.{◌≡◌, refl, sym, ap, ap₂, subst, subst₂, ◌∙◌}
use mathlib.Core.Bool.{Bool, true, false, not}
use mathlib.Core.List.{List, [], ◌∷◌, map, append_cancel_left}
use Prim.Native.Nat.{ℕ}
use Rattle.law.specs.Choice.{true_not_false}
use Rattle.law.specs.Words.{pick, filter, keep, All}
use Rattle.tied.specs.Orders.{Order, done, bus_first, line_first, buses_first, AnyTwo}
use Rattle.tied.specs.Orders
use Rattle.meaning.specs.Meaning.{Channel, L, same, Rules, Outcome, of, Allowed, after, replies, Alike}
use Rattle.meaning.proofs.Channels.{same_self, same_is}
use Rattle.meaning.proofs.Allowing.{In, in_channel}
use Rattle.meaning.proofs.InFront.{listed, others, in_front, listed_after, listed_says}
use Rattle.meaning.proofs.Steps.{after_append, replies_append}

-- a record that is a bus's, a line's, or neither
put : {A : Type 0} (x y : Bool) (a : A) {bs ls : List A} → Order A A bs ls → Order A A (keep x a bs) (keep y a ls)
unfolding keep
put true true a o = bus_first (line_first o)
put true false a o = bus_first o
put false true a o = line_first o
put false false a o = o

-- the order of a channel's records and the lines' in a list
pub order_in : {A : Type 0} (channel : A → Channel) (c : Channel) (o : List A) →
    Order A A (filter (λ (a : A). same c (channel a)) o) (filter (λ (a : A). same L (channel a)) o)
unfolding filter
order_in channel c [] = done
order_in channel c (a ∷ o) = put (same c (channel a)) (same L (channel a)) a (order_in channel c o)

-- what a chip makes of a record: of its own channel, of the lines, and any other
unfoldable pub heard : {W A : Type 0} (bus line : W → A → W) → Bool → Bool → W → A → W
heard bus line true y w a = bus w a
heard bus line false true w a = line w a
heard bus line false false w a = w

module _ {A S R : Type 0} (m : Rules A S R) (c : Channel) where
  abbrev pub ordered : (o : List A) → Order A A (of m c o) (of m L o)
  ordered o = order_in m.channel c o

  -- rest is the state without what the chip alone sees: the chip's own records leave it, and all others go by it
  pub record Beside {W : Type 0} (see : S → W) (rest : S → S) : Type 0 where
    pub plays : (s : S) (a : A) → rest (m.play s a) ≡ pick (same c (m.channel a)) (rest s) (rest (m.play (rest s) a))
    pub all : (j k : S) → see j ≡ see k → rest j ≡ rest k → j ≡ k

  -- W the chip's part of the state, and its rules
  module _ {W : Type 0} (see : S → W) (bus : W → A → W) (reply : W → A → R) (line : W → A → W) where
    pub record Sees : Type 0 where
      pub apart : same c L ≡ false
      pub plays : (s : S) (a : A) → see (m.play s a) ≡ heard bus line (same c (m.channel a)) (same L (m.channel a)) (see s) a
      pub says : (s : S) (a : A) → same c (m.channel a) ≡ true → m.says s a ≡ reply (see s) a

    module _ (X : Sees) where
      abbrev pub run : {bs ls : List A} → Order A A bs ls → W → W
      run x w = Orders.after bus reply line x w

      abbrev pub tell : {bs ls : List A} → Order A A bs ls → W → List R
      tell x w = Orders.replies bus reply line x w

      -- ---- from a list to the order in it
      one_of_lem : (d : Channel) → same c d ≡ true → same L d ≡ true → ⊥
      one_of_lem d e f = true_not_false (sym (same_self c) ∙ ap (same c) (sym (same_is c d e) ∙ same_is L d f) ∙ X.apart)

      sees_one : (x y : Bool) (a : A) (o : List A) (s : S) → (x ≡ true → y ≡ true → ⊥) → see (m.play s a) ≡ heard bus line x y (see s) a →
          ((s : S) → see (after m o s) ≡ run (ordered o) (see s)) → see (after m o (m.play s a)) ≡ run (put x y a (ordered o)) (see s)
      unfolding Orders.after put heard
      sees_one true true a o s n p k = absurd (n refl refl)
      sees_one true false a o s n p k = k (m.play s a) ∙ ap (run (ordered o)) p
      sees_one false true a o s n p k = k (m.play s a) ∙ ap (run (ordered o)) p
      sees_one false false a o s n p k = k (m.play s a) ∙ ap (run (ordered o)) p

      pub sees : (o : List A) (s : S) → see (after m o s) ≡ run (ordered o) (see s)
      unfolding after order_in Orders.after filter
      sees [] s = refl
      sees (a ∷ o) s = sees_one _ _ a o s (one_of_lem (m.channel a)) (X.plays s a) (sees o)

      hears_one : (x y : Bool) (a : A) (o : List A) (s : S) → (x ≡ true → y ≡ true → ⊥) → see (m.play s a) ≡ heard bus line x y (see s) a → (x ≡ true → m.says s a ≡ reply (see s) a) →
          ((s : S) → replies m c o s ≡ tell (ordered o) (see s)) → keep x (m.says s a) (replies m c o (m.play s a)) ≡ tell (put x y a (ordered o)) (see s)
      unfolding Orders.replies put heard keep
      hears_one true true a o s n p r k = absurd (n refl refl)
      hears_one true false a o s n p r k = ap₂ ◌∷◌ (r refl) (k (m.play s a) ∙ ap (tell (ordered o)) p)
      hears_one false true a o s n p r k = k (m.play s a) ∙ ap (tell (ordered o)) p
      hears_one false false a o s n p r k = k (m.play s a) ∙ ap (tell (ordered o)) p

      pub hears : (o : List A) (s : S) → replies m c o s ≡ tell (ordered o) (see s)
      unfolding replies order_in Orders.replies filter
      hears [] s = refl
      hears (a ∷ o) s = hears_one _ _ a o s (one_of_lem (m.channel a)) (X.plays s a) (X.says s a) (hears o)

      -- each list with these two channels agrees with the reference order
      with_reference : {bs ls : List A} (w : W) → AnyTwo bus reply line bs ls w → (o : List A) → of m c o ≡ bs → of m L o ≡ ls →
          (run (ordered o) w ≡ run (buses_first bs ls) w) × (tell (ordered o) w ≡ tell (buses_first bs ls) w)
      with_reference {bs} {ls} w h o e f =
          subst₂ (λ (bs ls : List A). AnyTwo bus reply line bs ls w → (run (ordered o) w ≡ run (buses_first bs ls) w) × (tell (ordered o) w ≡ tell (buses_first bs ls) w))
          e f (λ k. k (ordered o) (buses_first _ _)) h

      -- so where the chip's own orders agree, it sees and says the same in any two allowed orders of all records
      pub chip_agrees : (p : List A) (s : S) → AnyTwo bus reply line (of m c p) (of m L p) (see s) → (o q : List A) → Allowed m p o → Allowed m p q →
          (see (after m o s) ≡ see (after m q s)) × (replies m c o s ≡ replies m c q s)
      chip_agrees p s h o q a b =
          let x = with_reference (see s) h o (a.keeps c) (a.keeps L) in
          let y = with_reference (see s) h q (b.keeps c) (b.keeps L) in
          (sees o s ∙ x.0 ∙ sym y.0 ∙ sym (sees q s), hears o s ∙ x.1 ∙ sym y.1 ∙ sym (hears q s))

      -- ---- from an order to the list of it
      own : (s : S) (a : A) → In m c a → see (m.play s a) ≡ bus (see s) a
      unfolding heard
      own s a i = X.plays s a ∙ ap (λ (t : Bool). heard bus line t (same L (m.channel a)) (see s) a) (ap (same c) i ∙ same_self c)

      on_line : (s : S) (a : A) → In m L a → see (m.play s a) ≡ line (see s) a
      unfolding heard
      on_line s a i = X.plays s a ∙ ap₂ (λ (t u : Bool). heard bus line t u (see s) a) (ap (same c) i ∙ X.apart) (ap (same L) i)

      seen_after : {bs ls : List A} (x : Order A A bs ls) → All (In m c) bs → All (In m L) ls → (s : S) → see (Orders.after m.play m.says m.play x s) ≡ run x (see s)
      unfolding Orders.after All
      seen_after done h k s = refl
      seen_after (bus_first {b = b} x) h k s = seen_after x h.1 k (m.play s b) ∙ ap (run x) (own s b h.0)
      seen_after (line_first {l = l} x) h k s = seen_after x h k.1 (m.play s l) ∙ ap (run x) (on_line s l k.0)

      seen_says : {bs ls : List A} (x : Order A A bs ls) → All (In m c) bs → All (In m L) ls → (s : S) → Orders.replies m.play m.says m.play x s ≡ tell x (see s)
      unfolding Orders.replies All
      seen_says done h k s = refl
      seen_says (bus_first {b = b} x) h k s =
          ap₂ ◌∷◌ (X.says s b (ap (same c) h.0 ∙ same_self c)) (seen_says x h.1 k (m.play s b) ∙ ap (tell x) (own s b h.0))
      seen_says (line_first {l = l} x) h k s = seen_says x h k.1 (m.play s l) ∙ ap (tell x) (on_line s l k.0)

      module _ (bs ls : List A) (h : All (In m c) bs) (k : All (In m L) ls) (s : S) where
        -- what the orders of the chip's records with the lines' give on the whole state, they give on its part
        pub whole_part : AnyTwo m.play m.says m.play bs ls s → AnyTwo bus reply line bs ls (see s)
        whole_part z x y = (sym (seen_after x h k s) ∙ ap see (z x y).0 ∙ seen_after y h k s, sym (seen_says x h k s) ∙ (z x y).1 ∙ seen_says y h k s)

      -- it sees nothing of the others
      unseen_one : (x y : Bool) (a : A) (o : List A) (s : S) → see (m.play s a) ≡ heard bus line x y (see s) a → ((s : S) → see (after m o s) ≡ see s) →
          see (after m (keep (pick x false (not y)) a o) s) ≡ see s
      unfolding after keep heard
      unseen_one true y a o s p k = k s
      unseen_one false true a o s p k = k s
      unseen_one false false a o s p k = k (m.play s a) ∙ p

      unseen : (p : List A) (s : S) → see (after m (others m c p) s) ≡ see s
      unfolding after filter
      unseen [] s = refl
      unseen (a ∷ p) s = unseen_one (same c (m.channel a)) (same L (m.channel a)) a (others m c p) s (X.plays s a) (unseen p)

      module _ (p : List A) (t : ℕ) (hp : All (λ (a : A). m.stamp a ≡ t) p) (s : S) (alike : Alike m p s) where
        abbrev front : List A
        front = others m c p

        fronted : AnyTwo m.play m.says m.play (of m c p) (of m L p) (after m front s)
        unfolding Alike
        fronted x y =
            let e = alike _ _ (in_front m c X.apart p x t hp) (in_front m c X.apart p y t hp) in (
              sym (listed_after m x _) ∙ sym (after_append m front (listed x) s) ∙ ap (λ (v : Outcome S R). v.state) e ∙ after_append m front (listed y) s ∙ listed_after m y _,
              sym (listed_says m c X.apart x (in_channel m c p) (in_channel m L p) _)
                  ∙ append_cancel_left (replies m c front s) _ _ (sym (replies_append m c front (listed x) s) ∙ ap (λ (v : Outcome S R). v.replies c) e ∙ replies_append m c front (listed y) s)
                  ∙ listed_says m c X.apart y (in_channel m c p) (in_channel m L p) _,
            )

        -- where the allowed orders of one stamp end alike, the chip's own orders agree
        pub chip_decided : AnyTwo bus reply line (of m c p) (of m L p) (see s)
        chip_decided = subst (AnyTwo bus reply line (of m c p) (of m L p)) (unseen p s) (whole_part _ _ (in_channel m c p) (in_channel m L p) (after m front s) fronted)

      -- on its own records and the lines' the rest of the state goes by the lines alone: so what the chip's own orders give on its part, they give on the whole state
      module _ (rest : S → S) (Y : Beside see rest) where
        rest_own : (s : S) (a : A) → In m c a → rest (m.play s a) ≡ rest s
        rest_own s a i = Y.plays s a ∙ ap (λ (t : Bool). pick t (rest s) (rest (m.play (rest s) a))) (ap (same c) i ∙ same_self c)

        rest_line : (s : S) (a : A) → In m L a → rest (m.play s a) ≡ rest (m.play (rest s) a)
        rest_line s a i = Y.plays s a ∙ ap (λ (t : Bool). pick t (rest s) (rest (m.play (rest s) a))) (ap (same c) i ∙ X.apart)

        rest_lines : {bs ls : List A} (x : Order A A bs ls) → All (In m c) bs → All (In m L) ls → (j k : S) → rest j ≡ rest k →
            rest (Orders.after m.play m.says m.play x j) ≡ rest (Orders.after_lines m.play ls k)
        unfolding Orders.after Orders.after_lines All
        rest_lines done h i j k e = e
        rest_lines (bus_first {b = b} x) h i j k e = rest_lines x h.1 i _ _ (rest_own j b h.0 ∙ e)
        rest_lines (line_first {l = l} x) h i j k e = rest_lines x h i.1 _ _ (rest_line j l i.0 ∙ ap (λ (s : S). rest (m.play s l)) e ∙ sym (rest_line k l i.0))

        pub part_whole : (bs ls : List A) → All (In m c) bs → All (In m L) ls → (s : S) → AnyTwo bus reply line bs ls (see s) → AnyTwo m.play m.says m.play bs ls s
        part_whole bs ls h k s z x y = (
          Y.all _ _ (seen_after x h k s ∙ (z x y).0 ∙ sym (seen_after y h k s)) (rest_lines x h k s s refl ∙ sym (rest_lines y h k s s refl)),
          seen_says x h k s ∙ (z x y).1 ∙ sym (seen_says y h k s),
        )

-- the lines' replies, where they go by no state
module _ {A S R : Type 0} (m : Rules A S R) (quiet : (j k : S) (a : A) → same L (m.channel a) ≡ true → m.says j a ≡ m.says k a) where
  quiet_one : (t : Bool) (r : R) (a : A) (s : S) (x : List R) (l : List A) → (t ≡ true → r ≡ m.says s a) → x ≡ map (m.says s) l → keep t r x ≡ map (m.says s) (keep t a l)
  unfolding keep
  quiet_one true r a s x l e k = ap₂ ◌∷◌ (e refl) k
  quiet_one false r a s x l e k = k

  quiet_all : (o : List A) (j s : S) → replies m L o j ≡ map (m.says s) (of m L o)
  unfolding replies filter
  quiet_all [] j s = refl
  quiet_all (a ∷ o) j s = quiet_one (same L (m.channel a)) (m.says j a) a s _ _ (quiet j s a) (quiet_all o (m.play j a) s)

  pub lines_agree : (p : List A) (s : S) (o q : List A) → Allowed m p o → Allowed m p q → replies m L o s ≡ replies m L q s
  lines_agree p s o q a b = quiet_all o s s ∙ ap (map (m.says s)) (a.keeps L ∙ sym (b.keeps L)) ∙ sym (quiet_all q s s)
