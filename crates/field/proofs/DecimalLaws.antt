-- The decimal: what the reader's loop does with what is left of the text, and that it finds just the spelled numbers.
use Prim.Native.Nat.{ℕ, suc, zero, ◌+◌, ◌-◌, ◌*◌, ◌/◌, ◌%◌, ◌≤◌, ◌<◌}
use native.Mathlib.Omega.{arith}
use native.Mathlib.Numerals.{add-one}
use native.Mathlib.Nat.{div-add-mod', add_assoc, add-sub_cancel_left, zero-add, add-zero, add-sub_of_le, pos_of_ne-zero}
use mathlib.Core.Path.{◌≡◌, refl, sym, ap, subst, ◌∙◌}
use mathlib.Core.Logic.{◌⊎◌, inl, inr, ⊎_elim}
use mathlib.Core.Bool.{Bool, true}
use mathlib.Core.List.{List, [], ◌∷◌, ◌++◌, append_assoc, append-nil}
use lib.Dec.{eqb, leb}
use lib.Arith.{digits_div, digits_mod}
use lib.ListN.{length, drop, get_or, length-append, drop_of_length-le}
use lib.Seq.{drop-cons}
use borrow.Author.Tests.{lt-ltb, le-ltb, le-leb, leb-true, eq-eqb, ne_eqb, eqb-true, eqb-false}
use Rattle.std.proofs.lemmas.Grind.{get_or_default_zero}
use Rattle.law.specs.Choice.{split, lt_or_le}
use Rattle.law.specs.Words.{pick}
use Rattle.std.specs.Prelude.{Option, None, Some}
use Rattle.field.specs.Ends.{tab_byte, lf_byte}
use Rattle.field.specs.Decimal.{largest, digits_in, decimal, digits_value, is_decimal}
use Rattle.field.specs.Read.{Read, got, bad_field}
use Rattle.field.specs.Readers.{digit_on, push_of, content_at, ends_here, stopped_at, ReadsDecimal}
use Rattle.field.specs.Reads.{Stands}
use Rattle.field.proofs.FieldLaws.{Plain, plain_append, rest_at, content_ends, content_is, Tests, spells_tests}

eq_or_ne : (a b : ℕ) → (a ≡ b) ⊎ (a ≡ b → ⊥)
eq_or_ne a b = split (eqb a b) (λ e. inl (eqb-true a b e)) (λ e. inr (eqb-false a b e))

-- ---- the digits of a number
digits_small : (k n : ℕ) → n < 10 → digits_in (suc k) n ≡ (48 + n) ∷ []
unfolding digits_in
digits_small k n h = rw (lt-ltb n 10 h, digits_in)

digits_more : (k n : ℕ) → 10 ≤ n → digits_in (suc k) n ≡ digits_in k (n / 10) ++ ((48 + n % 10) ∷ [])
unfolding digits_in
digits_more k n h = rw (le-ltb n 10 h, digits_in)

fuel : (j k n : ℕ) → n < j → n < k → digits_in j n ≡ digits_in k n
fuel zero k n p q = absurd (omega arith)
fuel (suc j) zero n p q = absurd (omega arith)
fuel (suc j) (suc k) n p q =
    ⊎_elim (λ (h : n < 10). digits_small j n h ∙ sym (digits_small k n h))
    (λ (h : 10 ≤ n). rw (digits_more j n h, digits_more k n h, fuel j k (n / 10) (omega arith) (omega arith)))
    (lt_or_le n 10)

pub decimal_digit : (d : ℕ) → d < 10 → decimal d ≡ (48 + d) ∷ []
unfolding decimal
decimal_digit d h = digits_small d d h

pub decimal_more : (v d : ℕ) → 0 < v → d < 10 → decimal (v * 10 + d) ≡ decimal v ++ ((48 + d) ∷ [])
unfolding decimal
decimal_more v d p h = rw (digits_more (v * 10 + d) (v * 10 + d) (omega arith), digits_div v h, digits_mod v h, fuel (v * 10 + d) (suc v) v (omega arith) (omega arith))

-- ---- one step
digit_on_lem : (v d : ℕ) → d < 10 → v * 10 + d ≤ largest → digit_on v (48 + d) ≡ Some (v * 10 + d)
digit_on_lem v d h p = simp (le-ltb (48 + d) 48 (omega arith), le-ltb 57 (48 + d) (omega arith), add-sub_cancel_left 48 d, le-ltb largest (v * 10 + d) p)

never : {w : ℕ} → ◌≡◌ {A = Option ℕ} None (Some w) → ⊥
never q = let z : ◌≡◌ {A = ℕ} 0 1 = cc in omega arith

digit_says : (v b u : ℕ) → digit_on v b ≡ Some u → (48 ≤ b) × (b ≤ 57) × (u ≡ v * 10 + (b - 48)) × (u ≤ largest)
digit_says v b u e =
    ⊎_elim (λ (h : b < 48). absurd (never (simp (lt-ltb b 48 h) at e)))
    (λ (h : 48 ≤ b). ⊎_elim (λ (h2 : 57 < b). absurd (never (simp (le-ltb b 48 h, lt-ltb 57 b h2) at e)))
    (λ (h2 : b ≤ 57). ⊎_elim (λ (h3 : largest < v * 10 + (b - 48)). absurd (never (simp (le-ltb b 48 h, le-ltb 57 b h2, lt-ltb largest (v * 10 + (b - 48)) h3) at e)))
    (λ (h3 : v * 10 + (b - 48) ≤ largest).
    let z : Some (v * 10 + (b - 48)) ≡ Some u = simp (le-ltb b 48 h, le-ltb 57 b h2, le-ltb largest (v * 10 + (b - 48)) h3) at e in
    let y : u ≡ v * 10 + (b - 48) = cc in
    (h, h2, y, omega arith))
    (lt_or_le largest (v * 10 + (b - 48))))
    (lt_or_le 57 b))
    (lt_or_le b 48)

-- what the loop has read: nothing yet, or the digits of v
so_far : Option ℕ → List ℕ
so_far None = []
so_far (Some v) = decimal v

Fits : Option ℕ → Type 0
Fits None = Unit {0}
Fits (Some v) = v ≤ largest

push_says : (o : Option ℕ) (b u : ℕ) → push_of o b ≡ Some u → (u ≤ largest) × (so_far o ++ (b ∷ []) ≡ decimal u)
unfolding so_far
push_says None b u e =
    let s = digit_says 0 b u e in
    let d : u ≡ b - 48 = omega arith in
    (s.3, sym (rw (d, decimal_digit (b - 48) (omega arith), add-sub_of_le s.0)))
push_says (Some v) b u e =
    ⊎_elim (λ (z : v ≡ 0). absurd (never (simp (eq-eqb v 0 z) at e)))
    (λ (z : v ≡ 0 → ⊥).
    let s = digit_says v b u (simp (ne_eqb v 0 z) at e) in
    (s.3, sym (rw (s.2, decimal_more v (b - 48) (pos_of_ne-zero z) (omega arith), add-sub_of_le s.0))))
    (eq_or_ne v 0)

push_on : (v d : ℕ) → 0 < v → d < 10 → v * 10 + d ≤ largest → push_of (Some v) (48 + d) ≡ Some (v * 10 + d)
push_on v d z h p = simp (ne_eqb v 0 (λ (e : v ≡ 0). omega arith)) (digit_on_lem v d h p)

-- ---- the content
value_append : (v b : ℕ) (w : List ℕ) → digits_value v (w ++ (b ∷ [])) ≡ digits_value v w * 10 + (b - 48)
unfolding digits_value
value_append v b [] = refl
value_append v b (a ∷ w) = value_append (v * 10 + (a - 48)) b w

value_digits : (k n : ℕ) → n < k → digits_value 0 (digits_in k n) ≡ n
unfolding digits_value
value_digits zero n p = absurd (omega arith)
value_digits (suc k) n p =
    ⊎_elim (λ (h : n < 10). rw (digits_small k n h) (omega arith))
    (λ (h : 10 ≤ n). rw (digits_more k n h, value_append 0 (48 + n % 10) (digits_in k (n / 10)), value_digits k (n / 10) (omega arith)) (omega (arith, div-add-mod' n 10)))
    (lt_or_le n 10)

digits_zero : (m : ℕ) → digits_in zero m ≡ []
unfolding digits_in
digits_zero m = refl

plain_digits : (k n : ℕ) → Plain (digits_in k n)
unfolding Plain
plain_digits zero n = subst Plain (sym (digits_zero n)) tt
plain_digits (suc k) n =
    ⊎_elim (λ (h : n < 10). subst Plain (sym (digits_small k n h)) (one n))
    (λ (h : 10 ≤ n). subst Plain (sym (digits_more k n h)) (plain_append (digits_in k (n / 10)) ((48 + n % 10) ∷ []) (plain_digits k (n / 10)) (one (n % 10))))
    (lt_or_le n 10)
  where
    one : (d : ℕ) → Plain ((48 + d) ∷ [])
    one d = (λ e. omega arith, λ e. omega arith, tt)

pub plain_decimal : (n : ℕ) → Plain (decimal n)
unfolding decimal
plain_decimal n = plain_digits (suc n) n

pub value_decimal : (x : ℕ) → digits_value 0 (decimal x) ≡ x
unfolding decimal
value_decimal x = value_digits (suc x) x (omega arith)

pub tests_decimal : Tests is_decimal decimal (λ n. n ≤ largest)
unfolding is_decimal
tests_decimal = spells_tests (λ n. leb n largest) (digits_value 0) decimal (λ n. n ≤ largest) (λ x o. le-leb x largest o) (λ x e. leb-true x largest e) (λ x o. value_decimal x) (λ x o. plain_decimal x)

-- ---- the loop
-- a byte below the digits is never pushed
push_low : (v b : ℕ) → b < 48 → push_of (Some v) b ≡ None
push_low v b h = ⊎_elim (λ (z : v ≡ 0). simp (eq-eqb v 0 z)) (λ (z : v ≡ 0 → ⊥). simp (ne_eqb v 0 z, lt-ltb b 48 h)) (eq_or_ne v 0)

low_end : (b : ℕ) (l : List ℕ) → ends_here (b ∷ l) ≡ true → b < 48
low_end b l e = split (eqb b tab_byte) (λ g. omega (arith, eqb-true b tab_byte g)) (λ g. let h : eqb b lf_byte ≡ true = simp g at e in omega (arith, eqb-true b lf_byte h))

module _ (number : ℕ) where
  unfoldable pub decimal_from : Option ℕ → ℕ → List ℕ → Read ℕ
  decimal_from o at [] = stopped_at number o at []
  decimal_from o at (b ∷ l) = elim (push_of o b) [ Some w ↦ decimal_from (Some w) (at + 1) l | None ↦ stopped_at number o at (b ∷ l) ]

  from_nil : (o : Option ℕ) (at : ℕ) → decimal_from o at [] ≡ stopped_at number o at []
  unfolding decimal_from
  from_nil o at = refl

  from_push : (o : Option ℕ) (at b w : ℕ) (l : List ℕ) → push_of o b ≡ Some w → decimal_from o at (b ∷ l) ≡ decimal_from (Some w) (at + 1) l
  unfolding decimal_from
  from_push o at b w l e = rw (e, decimal_from)

  from_bad : (o : Option ℕ) (at b : ℕ) (l : List ℕ) → push_of o b ≡ None → decimal_from o at (b ∷ l) ≡ stopped_at number o at (b ∷ l)
  unfolding decimal_from
  from_bad o at b l e = rw (e, decimal_from)

  -- a spelled number is read on, digit by digit
  run : (k n : ℕ) → n < k → n ≤ largest → (at : ℕ) (l : List ℕ) → decimal_from None at (digits_in k n ++ l) ≡ decimal_from (Some n) (at + length (digits_in k n)) l
  run zero n p q at l = absurd (omega arith)
  run (suc k) n p q at l =
      ⊎_elim (λ (h : n < 10). rw (digits_small k n h) (from_push None at (48 + n) n l (digit_on_lem 0 n h (omega arith) ∙ ap Some (zero-add n))))
      (λ (h : 10 ≤ n).
      let d : n / 10 * 10 + n % 10 ≡ n = div-add-mod' n 10 in
      rw (digits_more k n h, append_assoc, run k (n / 10) (omega arith) (omega arith) at ((48 + n % 10) ∷ l), length-append)
      (from_push (Some (n / 10)) (at + length (digits_in k (n / 10))) (48 + n % 10) (n / 10 * 10 + n % 10) l (push_on (n / 10) (n % 10) (omega arith) (omega arith) (omega arith))
      ∙ rw (d, add_assoc)))
      (lt_or_le n 10)

  -- and where it ends, it is found
  at_its_end : (n at : ℕ) (l : List ℕ) → ends_here l ≡ true → decimal_from (Some n) at l ≡ got n at
  at_its_end n at [] e = from_nil (Some n) at
  at_its_end n at (b ∷ l) e = from_bad (Some n) at b l (push_low n b (low_end b l e)) ∙ ap (λ (y : Bool). pick y (got n at) (bad_field number)) e

  -- what is found is spelled there, and ends
  Found : Option ℕ → ℕ → List ℕ → Type 0
  Found o at l = (n : ℕ) × (n ≤ largest) × (w : List ℕ) × (rest : List ℕ) × (l ≡ w ++ rest) × (so_far o ++ w ≡ decimal n) × (ends_here rest ≡ true) × (decimal_from o at l ≡ got n (at + length w))

  Sound : Option ℕ → ℕ → List ℕ → Type 0
  Sound o at l = (decimal_from o at l ≡ bad_field number) ⊎ Found o at l

  stops : (o : Option ℕ) (at : ℕ) (l : List ℕ) → Fits o → decimal_from o at l ≡ stopped_at number o at l → Sound o at l
  unfolding Found Sound so_far Fits
  stops None at l h e = inl e
  stops (Some v) at l h e = split (ends_here l)
      (λ y. inr (v, h, [], l, refl, append-nil (decimal v), y, e ∙ ap (λ (b : Bool). pick b (got v at) (bad_field number)) y ∙ rw add-zero))
      (λ y. inl (e ∙ ap (λ (b : Bool). pick b (got v at) (bad_field number)) y))

  sound : (l : List ℕ) (o : Option ℕ) (at : ℕ) → Fits o → Sound o at l
  unfolding Found Sound so_far Fits
  sound [] o at h = stops o at [] h (from_nil o at)
  sound (b ∷ l) o at h = go (push_of o b) refl (λ (u : ℕ). sound l (Some u) (at + 1))
    where
      go : (p : Option ℕ) → push_of o b ≡ p → ((u : ℕ) → u ≤ largest → Sound (Some u) (at + 1) l) → Sound o at (b ∷ l)
      go None e ih = stops o at (b ∷ l) h (from_bad o at b l e)
      go (Some u) e ih =
          let s = push_says o b u e in
          let f = from_push o at b u l e in
          ⊎_elim (λ (z : decimal_from (Some u) (at + 1) l ≡ bad_field number). inl (f ∙ z))
          (λ (z : Found (Some u) (at + 1) l).
          inr (z.0, z.1, b ∷ z.2, z.3, ap (λ (k : List ℕ). b ∷ k) z.4, sym (append_assoc (so_far o) (b ∷ []) z.2) ∙ ap (λ (k : List ℕ). k ++ z.2) s.1 ∙ z.5, z.6, f ∙ z.7 ∙ ap (λ (k : ℕ). got z.0 k) (omega arith)))
          (ih u s.0)

  -- the loop's answer is that of a reader of decimals
  pub reads_decimal : (text : List ℕ) (at : ℕ) → ReadsDecimal number text at (decimal_from None at (drop at text))
  unfolding decimal Found Sound so_far Fits
  reads_decimal text at = record { found = finds; only = ⊎_elim inl (λ z. inr (stands z)) (sound (drop at text) None at tt) }
    where
      finds : (x : ℕ) → (x ≤ largest) × (content_at text at ≡ decimal x) → Stands text at (decimal x) → decimal_from None at (drop at text) ≡ got x (at + length (decimal x))
      finds x o s =
          ap (λ (l : List ℕ). decimal_from None at l) s.is ∙ run (suc x) x (omega arith) o.0 at s.rest
          ∙ at_its_end x (at + length (decimal x)) s.rest (ap ends_here (sym (rest_at text (decimal x) s.rest at s.is)) ∙ content_ends text at (decimal x) o.1)

      stands : Found None at (drop at text) → (x : ℕ) × ((x ≤ largest) × (content_at text at ≡ decimal x)) × Stands text at (decimal x) × (decimal_from None at (drop at text) ≡ got x (at + length (decimal x)))
      stands z =
          let e : drop at text ≡ decimal z.0 ++ z.3 = z.4 ∙ ap (λ (k : List ℕ). k ++ z.3) z.5 in
          let s : Stands text at (decimal z.0) = record { rest = z.3; is = e } in
          (z.0, (z.1, content_is text at (decimal z.0) (plain_decimal z.0) s (ap ends_here (rest_at text (decimal z.0) z.3 at e) ∙ z.6)), s, z.7 ∙ ap (λ (k : List ℕ). got z.0 (at + length k)) z.5)

  pub answers : (text : List ℕ) (at : ℕ) (r : Read ℕ) → decimal_from None at (drop at text) ≡ r → ReadsDecimal number text at r
  answers text at r e = subst (λ (z : Read ℕ). ReadsDecimal number text at z) e (reads_decimal text at)

  -- ---- a turn of the loop, at a place within the text, where the byte b stands
  module _ (text : List ℕ) (o : Option ℕ) (at b : ℕ) (h : at < length text) (stands : b ≡ get_or text at b) where
    here : drop at text ≡ b ∷ drop (suc at) text
    here = drop-cons text at 0 h ∙ ap (λ (k : ℕ). k ∷ drop (suc at) text) (sym (stands ∙ get_or_default_zero text at b h))

    pub at_push : (w : ℕ) → push_of o b ≡ Some w → decimal_from o at (drop at text) ≡ decimal_from (Some w) (at + 1) (drop (at + 1) text)
    at_push w e = rw (here, from_push o at b w (drop (suc at) text) e, add-one)

    pub at_bad : push_of o b ≡ None → decimal_from o at (drop at text) ≡ stopped_at number o at (drop at text)
    at_bad e = ap (λ (l : List ℕ). decimal_from o at l) here ∙ from_bad o at b (drop (suc at) text) e ∙ ap (λ (l : List ℕ). stopped_at number o at l) (sym here)

  pub at_end : (text : List ℕ) (o : Option ℕ) (at : ℕ) → length text ≤ at → decimal_from o at (drop at text) ≡ stopped_at number o at (drop at text)
  at_end text o at h = ap (λ (l : List ℕ). decimal_from o at l) (drop_of_length-le text h) ∙ from_nil o at ∙ ap (λ (l : List ℕ). stopped_at number o at l) (sym (drop_of_length-le text h))
