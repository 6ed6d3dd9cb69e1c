-- One field of a line after another, and the number that is told where one is bad: stated once for every kind of field.
use Prim.Native.Nat.{ℕ, suc, ◌+◌}
use native.Mathlib.Omega.{arith}
use native.Mathlib.Nat.{add_assoc}
use mathlib.Core.Path.{◌≡◌, refl, sym, ap, subst, ◌∙◌}
use mathlib.Core.Logic.{inl, inr, ⊎_elim}
use mathlib.Core.Bool.{Bool, true, false}
use mathlib.Core.List.{List, [], ◌∷◌, ◌++◌}
use lib.ListN.{length, drop, length-append}
use Rattle.law.specs.Choice.{true_not_false}
use Rattle.law.specs.Words.{pick}
use Rattle.field.specs.Ends.{tab_byte, lf}
use Rattle.field.specs.Reads.{Stands, Reads}
use Rattle.field.specs.Fields.{fields_of, Places, first_bad, one_of, same}
use Rattle.field.specs.Readers.{content_at, ends_here}
use Rattle.field.proofs.Reading.{Got, none, as_bad, as_told, stands_left, stands_right, stands_join}
use Rattle.field.proofs.Answers.{No, GotField, GotWord, NoWord}
use Rattle.field.proofs.FieldLaws.{Plain, Tests, content_stands, content_ends, content_is, content_longer, number_at, number_here, number_last, number_missing, number_later, same_says}

-- ---- what is read through another type
-- the values of A that are in range are those of B, and are spelled alike
pub reads_as : {A B R : Type 0} {spell : A → List ℕ} {Ok : A → Type 0} {value : A → ℕ → R} {spell' : B → List ℕ} {Ok' : B → Type 0} {bad : R} {text : List ℕ} {at : ℕ} {r : R}
    (g : B → A) → ((y : A) → Ok y → (x : B) × Ok' x × (y ≡ g x)) → ((x : B) → Ok' x → Ok (g x)) → ((x : B) → spell (g x) ≡ spell' x)
    → Reads spell' Ok' (λ x p. value (g x) p) bad text at r → Reads spell Ok value bad text at r
reads_as {A} {B} {R} {spell} {Ok} {value} {spell'} {Ok'} {bad} {text} {at} {r} g onto ok alike d = record {
  found = finds;
  only = ⊎_elim inl (λ z. inr (g z.0, ok z.0 z.1, subst (λ (l : List ℕ). Stands text at l) (sym (alike z.0)) z.2, z.3 ∙ ap (λ (l : List ℕ). value (g z.0) (at + length l)) (sym (alike z.0)))) d.only;
}
  where
    finds : (y : A) → Ok y → Stands text at (spell y) → r ≡ value y (at + length (spell y))
    finds y o s =
        let x = onto y o in
        let e : spell y ≡ spell' x.0 = ap spell x.2 ∙ alike x.0 in
        d.found x.0 x.1 (subst (λ (l : List ℕ). Stands text at l) e s)
        ∙ (λ i. value (sym x.2 i) (at + length (sym e i)))

one_add : (k : ℕ) → 1 + k ≡ suc k
one_add k = omega arith

-- ---- the end of a field
module _ {A R : Type 0} {Ok : A → Type 0} {value : A → ℕ → R} {bad : R} {text : List ℕ} {p e : ℕ} (rest tail : A → List ℕ) (ended : (y : A) → Ok y → rest y ≡ e ∷ tail y) where
  pub end_none : NoWord (e ∷ []) text p → Reads rest Ok value bad text p bad
  end_none n = none (λ y o s. n tt tt (stands_left text (e ∷ []) (tail y) p (subst (λ (l : List ℕ). Stands text p l) (ended y o) s)))

  pub end_then : {q : ℕ} {r : R} → GotWord (e ∷ []) text p q → Reads tail Ok value bad text q r → Reads rest Ok value bad text p r
  end_then {q} {r} g d = record {
    found = λ y o s. d.found y o (subst (λ (k : ℕ). Stands text k (tail y)) (sym g.next) (stands_right text (e ∷ []) (tail y) p (subst (λ (l : List ℕ). Stands text p l) (ended y o) s))) ∙ ap (λ (k : ℕ). value y k) (place y o);
    only = ⊎_elim inl (λ z. inr (z.0, z.1, stands z.0 z.1 z.2, z.3 ∙ ap (λ (k : ℕ). value z.0 k) (place z.0 z.1))) d.only;
  }
    where
      place : (y : A) → Ok y → q + length (tail y) ≡ p + length (rest y)
      place y o = ap (λ (k : ℕ). k + length (tail y)) g.next ∙ add_assoc p 1 (length (tail y)) ∙ ap (λ (k : ℕ). p + k) (one_add (length (tail y))) ∙ ap (λ (l : List ℕ). p + length l) (sym (ended y o))

      stands : (y : A) → Ok y → Stands text q (tail y) → Stands text p (rest y)
      stands y o s = subst (λ (l : List ℕ). Stands text p l) (sym (ended y o)) (stands_join text (e ∷ []) (tail y) p g.stands (subst (λ (k : ℕ). Stands text k (tail y)) g.next s))

-- where y stands its first field's content stands
pub content_of : {A : Type 0} {spell : A → List ℕ} {text : List ℕ} {at : ℕ} (word rest : A → List ℕ) → ((y : A) → spell y ≡ word y ++ rest y) → ((y : A) (l : List ℕ) → ends_here (rest y ++ l) ≡ true)
    → (y : A) → Plain (word y) → Stands text at (spell y) → content_at text at ≡ word y
content_of {text} {at} word rest parts ends y p s =
    let z = subst (λ (l : List ℕ). Stands text at l) (parts y) s in
    let v = stands_right text (word y) (rest y) at z in
    content_is text at (word y) p (stands_left text (word y) (rest y) at z) (ap ends_here v.is ∙ ends y v.rest)

-- What is known of a field that begins with the bytes w, up to p: they are the content if it ends there, and allowed; if it goes on, the content is not allowed.
pub record Begins (t : List ℕ → Bool) (w text : List ℕ) (at p : ℕ) : Type 0 where
  pub next : p ≡ at + length w
  pub allowed : t w ≡ true
  pub closes : ends_here (drop p text) ≡ true → content_at text at ≡ w
  pub longer : ends_here (drop p text) ≡ false → t (content_at text at) ≡ false

by_end : {m n : ℕ} (P : ℕ → Type 0) (b : Bool) → (b ≡ true → P m) → (b ≡ false → P n) → P (pick b m n)
by_end P true f g = f refl
by_end P false f g = g refl

-- a tab that stands ends the content
tab_ends : {text : List ℕ} {p q : ℕ} → GotWord (tab_byte ∷ []) text p q → ends_here (drop p text) ≡ true
tab_ends g = ap ends_here g.stands.is

-- ---- the first of the fields that are left. Each y : A is spelled as that field's content, `word y`, and a rest that begins with its end; the content has the place
-- n, that allows what passes the test t; what is due after it is told by `due`.
module _ {A R : Type 0} {spell : A → List ℕ} {Ok : A → Type 0} {value : A → ℕ → R} (bad : ℕ → R) {text : List ℕ} {at : ℕ} (t : List ℕ → Bool) (due : List ℕ → List (List ℕ) → Places) (n : ℕ)
    (word rest : A → List ℕ) (parts : (y : A) → spell y ≡ word y ++ rest y) (plain : (y : A) → Ok y → Plain (word y)) (allows : (y : A) → Ok y → t (word y) ≡ true) (ends : (y : A) (l : List ℕ) → ends_here (rest y ++ l) ≡ true) where
  -- its place does not allow the content
  pub bad_content : t (content_at text at) ≡ false → Reads spell Ok value (bad (number_at t due n text at)) text at (bad n)
  bad_content e = as_bad (ap bad (sym (number_here t due n text at e))) (none (λ y o s. true_not_false (sym (allows y o) ∙ ap t (sym (content_of word rest parts ends y (plain y o) s)) ∙ e)))

  module _ {w : List ℕ} {p : ℕ} (g : Begins t w text at p) where
    -- the content is w, and the rest was read from p on
    rest_then : content_at text at ≡ w → {b r : R} → Reads rest (λ y. Ok y × (w ≡ word y)) value b text p r → Reads spell Ok value b text at r
    rest_then c {b} {r} d = record { found = finds; only = ⊎_elim inl (λ x. inr (x.0, x.1.0, stands x.0 x.1.1 x.2, x.3 ∙ ap (λ (k : ℕ). value x.0 k) (place x.0 x.1.1))) d.only }
      where
        start : (y : A) → w ≡ word y → p ≡ at + length (word y)
        start y e = g.next ∙ ap (λ (l : List ℕ). at + length l) e

        place : (y : A) → w ≡ word y → p + length (rest y) ≡ at + length (spell y)
        place y e = ap (λ (k : ℕ). k + length (rest y)) (start y e) ∙ add_assoc at (length (word y)) (length (rest y)) ∙ ap (λ (k : ℕ). at + k) (sym (length-append (word y) (rest y)) ∙ ap length (sym (parts y)))

        finds : (y : A) → Ok y → Stands text at (spell y) → r ≡ value y (at + length (spell y))
        finds y o s =
            let e = sym c ∙ content_of word rest parts ends y (plain y o) s in
            d.found y (o, e) (subst (λ (k : ℕ). Stands text k (rest y)) (sym (start y e)) (stands_right text (word y) (rest y) at (subst (λ (l : List ℕ). Stands text at l) (parts y) s))) ∙ ap (λ (k : ℕ). value y k) (place y e)

        stands : (y : A) → w ≡ word y → Stands text p (rest y) → Stands text at (spell y)
        stands y e s =
            subst (λ (l : List ℕ). Stands text at l) (sym (parts y))
            (stands_join text (word y) (rest y) at (content_stands text at (word y) (c ∙ e)) (subst (λ (k : ℕ). Stands text k (rest y)) (start y e) s))

    -- a tab is due and is not there
    pub tab_refused : (tail : A → List ℕ) → ((x : A) → Ok x × (w ≡ word x) → rest x ≡ tab_byte ∷ tail x) → NoWord (tab_byte ∷ []) text p
        → Reads spell Ok value (bad (number_at t due n text at)) text at (bad (pick (ends_here (drop p text)) (suc n) n))
    tab_refused tail f m = by_end (λ (k : ℕ). Reads spell Ok value (bad (number_at t due n text at)) text at (bad k)) (ends_here (drop p text))
        (λ e. let c = g.closes e in as_bad (ap bad (sym (number_missing t due n text at w c g.allowed g.next m))) (rest_then c (end_none rest tail f m)))
        (λ e. bad_content (g.longer e))

    -- it is there, and the rest was read from q on
    pub tab_then : {q : ℕ} {r : R} (tail : A → List ℕ) → ((x : A) → Ok x × (w ≡ word x) → rest x ≡ tab_byte ∷ tail x) → GotWord (tab_byte ∷ []) text p q
        → Reads tail (λ x. Ok x × (w ≡ word x)) value (bad (first_bad (due w (fields_of (drop q text))) (suc n) (fields_of (drop q text)))) text q r
        → Reads spell Ok value (bad (number_at t due n text at)) text at r
    tab_then tail f h d = let c = g.closes (tab_ends h) in as_bad (ap bad (sym (number_later t due n text at w c g.allowed g.next h))) (rest_then c (end_then rest tail f h d))

    -- no field is due any more, and what is left, which begins with the LF, was read
    pub last_read : ((fs : List (List ℕ)) → due w fs ≡ []) → {r : R} → Reads rest (λ x. Ok x × (w ≡ word x)) value (bad (pick (ends_here (drop p text)) (suc n) n)) text p r → Reads spell Ok value (bad (number_at t due n text at)) text at r
    last_read d {r} h = go (ends_here (drop p text)) refl
      where
        told : (b : Bool) → ends_here (drop p text) ≡ b → bad (pick (ends_here (drop p text)) (suc n) n) ≡ bad (pick b (suc n) n)
        told b e = ap (λ (y : Bool). bad (pick y (suc n) n)) e

        go : (b : Bool) → ends_here (drop p text) ≡ b → Reads spell Ok value (bad (number_at t due n text at)) text at r
        go true e = let c = g.closes e in as_bad (ap bad (sym (number_last t due n text at w c g.allowed d))) (rest_then c (as_bad (told true e) h))
        go false e =
            as_told (⊎_elim (λ z. z ∙ told false e) (λ z. absurd (true_not_false (sym (ap ends_here z.2.is ∙ ends z.0 z.2.rest) ∙ e))) h.only)
            (bad_content (g.longer e))

    -- the same after the word that only x has
    pub last_word : {r : R} (x : A) → Ok x → w ≡ word x → ((v : A) → Ok v × (w ≡ word v) → v ≡ x) → rest x ≡ lf → ((fs : List (List ℕ)) → due w fs ≡ [])
        → Reads {A = Unit {0}} (λ _. lf) (λ _. Unit {0}) (λ _ q. value x q) (bad (pick (ends_here (drop p text)) (suc n) n)) text p r → Reads spell Ok value (bad (number_at t due n text at)) text at r
    last_word x o e only l d h = last_read d (reads_as (λ _. x) (λ v z. (tt, tt, only v z)) (λ _ _. (o, e)) (λ _. l) h)

-- ---- a field of a kind
-- a content that spells nothing of the kind is not allowed
pub not_allowed : {B : Type 0} {t : List ℕ → Bool} {spell : B → List ℕ} {Ok : B → Type 0} → Tests t spell Ok → (w : List ℕ) → ((x : B) → Ok x → w ≡ spell x → ⊥) → t w ≡ false
not_allowed {t} k w m = go (t w) refl
  where
    go : (b : Bool) → t w ≡ b → b ≡ false
    go true e = let x = k.says w e in absurd (m x.0 x.1 x.2)
    go false e = refl

module _ {B : Type 0} {t : List ℕ → Bool} {spell : B → List ℕ} {Ok : B → Type 0} (k : Tests t spell Ok) {text : List ℕ} {at : ℕ} where
  -- nothing of the kind stands here
  pub none_allowed : No spell Ok text at → t (content_at text at) ≡ false
  none_allowed m = not_allowed k (content_at text at) (λ x o e. m x o (content_stands text at (spell x) e))

  module _ {x : B} {p : ℕ} (g : Got spell Ok text at x p) where
    ends_at : {b : Bool} → ends_here (drop p text) ≡ b → ends_here (drop (at + length (spell x)) text) ≡ b
    ends_at e = ap (λ (m : ℕ). ends_here (drop m text)) (sym g.next) ∙ e

    -- a content that the test allows and that begins with x's spelling is it
    pub kind_begins : Begins t (spell x) text at p
    kind_begins = record {
      next = g.next;
      allowed = k.yes x g.ok;
      closes = λ e. content_is text at (spell x) (k.plain x g.ok) g.stands (ends_at e);
      longer = λ e. not_allowed k (content_at text at) (λ y o c.
          let q : at + length (spell x) ≡ at + length (spell y) = ap (λ (z : B). at + length (spell z)) (g.only y o (content_stands text at (spell y) c)) in
          true_not_false (sym (content_ends text at (spell y) c) ∙ ap (λ (m : ℕ). ends_here (drop m text)) (sym q) ∙ ends_at e));
    }

    -- one value has that spelling
    pub one_value : content_at text at ≡ spell x → (y : B) → Ok y → spell x ≡ spell y → x ≡ y
    one_value c y o e = g.only y o (content_stands text at (spell y) (c ∙ e))

  -- a value that was read by its whole content
  pub field_begins : {x : B} {p : ℕ} → GotField spell Ok text at x p → Begins t (spell x) text at p
  field_begins {x} g = record {
    next = g.next;
    allowed = k.yes x g.ok.0;
    closes = λ e. g.ok.1;
    longer = λ e. absurd (true_not_false (sym (content_ends text at (spell x) g.ok.1) ∙ ap (λ (m : ℕ). ends_here (drop m text)) (sym g.next) ∙ e));
  }

-- ---- words
module _ {text : List ℕ} {at : ℕ} {w : List ℕ} where
  -- the word is not the content
  pub not_word : NoWord w text at → content_at text at ≡ w → ⊥
  not_word m e = m tt tt (content_stands text at w e)

  -- the field begins with it; no longer word that begins with it is allowed
  pub word_begins : {t : List ℕ → Bool} {p : ℕ} → Plain w → t w ≡ true → ((b : ℕ) (u : List ℕ) → t (w ++ (b ∷ u)) ≡ false) → GotWord w text at p → Begins t w text at p
  word_begins {t} {p} q a l g = record {
    next = g.next;
    allowed = a;
    closes = λ e. content_is text at w q g.stands (ap (λ (m : ℕ). ends_here (drop m text)) (sym g.next) ∙ e);
    longer = λ e. let z = content_longer text at w q g.stands (ap (λ (m : ℕ). ends_here (drop m text)) (sym g.next) ∙ e) in ap t z.2 ∙ l z.0 z.1;
  }

-- which of the words it is
pub one_of_lem : {P : Type 0} (v : List ℕ) (vs : List (List ℕ)) (w : List ℕ) → one_of (v ∷ vs) w ≡ true → (w ≡ v → P) → (one_of vs w ≡ true → P) → P
unfolding one_of
one_of_lem {P} v vs w e f g = go (same w v) refl
  where
    go : (b : Bool) → same w v ≡ b → P
    go true z = f (same_says w v z)
    go false z = g (simp z at e)

pub none_of : {P : Type 0} (w : List ℕ) → one_of [] w ≡ true → P
unfolding one_of
none_of w e = absurd (true_not_false (sym e))
