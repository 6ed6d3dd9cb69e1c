-- Laws of words that stand in a text, and of readers' answers.
use Prim.Native.Nat.{ℕ, ◌+◌, ◌-◌, ◌≤◌, ◌<◌}
use native.Mathlib.Omega.{arith}
use native.Mathlib.Nat.{add-zero}
use mathlib.Core.Path.{◌≡◌, refl, sym, ap, subst, ◌∙◌}
use mathlib.Core.Logic.{inl, inr, ⊎_elim}
use mathlib.Core.List.{List, [], ◌++◌, append_assoc}
use lib.ListN.{length, take, drop, get_or, length-append, length-drop, take-append-drop, get_or-append}
use lib.Seq.{get_or-drop, get_or-take, drop-drop, drop-append_seam, ext_get_or, take_all, length-take-le}
use denote.Ref.{Bor}
use Rattle.std.specs.Prelude.{Option, None, Some}
use Rattle.std.proofs.lemmas.Option.{MatchOption-at_some, MatchOption-at_none}
use Rattle.std.specs.List.{PartBy}
use Rattle.field.specs.Reads.{Stands, Reads}

-- ---- words
pub stands_get_d : (text w : List ℕ) (at : ℕ) → Stands text at w → (i : ℕ) → i < length w → get_or text (at + i) 0 ≡ get_or w i 0
stands_get_d text w at s i h = sym (get_or-drop at text i 0) ∙ ap (λ (l : List ℕ). get_or l i 0) s.is ∙ get_or-append w s.rest 0 i h

pub stands_length : (text w : List ℕ) (at : ℕ) → Stands text at w → 0 < length w → at + length w ≤ length text
stands_length text w at s h = omega (arith, length-drop at text, length-append w s.rest, ap length s.is)

pub stands_of : (text w : List ℕ) (at : ℕ) → at + length w ≤ length text → ((i : ℕ) → i < length w → get_or text (at + i) 0 ≡ get_or w i 0) → Stands text at w
stands_of text w at h e = record { rest = drop (length w) (drop at text); is = sym (take-append-drop (length w) (drop at text)) ∙ ap (λ (l : List ℕ). l ++ drop (length w) (drop at text)) same }
  where
    fits : length w ≤ length (drop at text)
    fits = omega (arith, length-drop at text)

    same : take (length w) (drop at text) ≡ w
    same = ext_get_or 0 (take (length w) (drop at text)) w (length-take-le (length w) (drop at text) fits)
        (λ (i : ℕ) (p : i < length (take (length w) (drop at text))).
        let q : i < length w = omega (arith, length-take-le (length w) (drop at text) fits) in
        get_or-take (length w) (drop at text) i 0 q ∙ get_or-drop at text i 0 ∙ e i q)

-- what is left of a text, as the library gives it
module _ (text : List ℕ) (at : ℕ) where
  pub rest_some : {r : Option (Bor (List ℕ))} (x : Bor (List ℕ)) → PartBy (λ (y : Bor (List ℕ)). y.now) text at (length text) r → r ≡ Some x → x.now ≡ drop at text
  rest_some x p e = (MatchOption-at_some _ _ x e p.0).2 ∙ take_all (length text - at) (drop at text) (omega (arith, length-drop at text))

  pub rest_none : {r : Option (Bor (List ℕ))} → PartBy (λ (y : Bor (List ℕ)). y.now) text at (length text) r → r ≡ None → length text < at
  rest_none p e = ⊎_elim (λ (h : length text < at). h) (λ (h : length text < length text). omega arith) (MatchOption-at_none _ _ e p.0)

pub rest_get : {rest : List ℕ} (text : List ℕ) (at i : ℕ) → rest ≡ drop at text → get_or rest i 0 ≡ get_or text (at + i) 0
rest_get text at i e = ap (λ (l : List ℕ). get_or l i 0) e ∙ get_or-drop at text i 0

pub stands_left : (text u v : List ℕ) (at : ℕ) → Stands text at (u ++ v) → Stands text at u
stands_left text u v at s = record { rest = v ++ s.rest; is = s.is ∙ append_assoc u v s.rest }

pub stands_right : (text u v : List ℕ) (at : ℕ) → Stands text at (u ++ v) → Stands text (at + length u) v
stands_right text u v at s = record { rest = s.rest; is = sym (drop-drop (length u) at text) ∙ ap (λ (l : List ℕ). drop (length u) l) (s.is ∙ append_assoc u v s.rest) ∙ drop-append_seam u (v ++ s.rest) }

pub stands_join : (text u v : List ℕ) (at : ℕ) → Stands text at u → Stands text (at + length u) v → Stands text at (u ++ v)
stands_join text u v at s t = record { rest = t.rest; is = s.is ∙ ap (λ (l : List ℕ). u ++ l) rest ∙ sym (append_assoc u v t.rest) }
  where
    rest : s.rest ≡ v ++ t.rest
    rest = sym (drop-append_seam u s.rest) ∙ ap (λ (l : List ℕ). drop (length u) l) (sym s.is) ∙ drop-drop (length u) at text ∙ t.is

-- ---- answers
module _ {A R : Type 0} {spell : A → List ℕ} {Ok : A → Type 0} {value : A → ℕ → R} {bad : R} {text : List ℕ} {at : ℕ} where
  pub none : ((x : A) → Ok x → Stands text at (spell x) → ⊥) → Reads spell Ok value bad text at bad
  none n = record { found = λ x o s. absurd (n x o s); only = inl refl }

  pub one : (x : A) (p : ℕ) → Ok x → Stands text at (spell x) → p ≡ at + length (spell x) → ((y : A) → Ok y → Stands text at (spell y) → x ≡ y) → Reads spell Ok value bad text at (value x p)
  one x p o s e u = record {
    found = λ y o' s'. ap (λ (k : ℕ). value x k) e ∙ ap (λ (z : A). value z (at + length (spell z))) (u y o' s');
    only = inr (x, o, s, ap (λ (k : ℕ). value x k) e);
  }

-- What tells an answer's two constructors apart, and a value's parts.
pub record Tells {A R : Type 0} (value : A → ℕ → R) (bad : R) : Type 0 where
  pub apart : (x : A) (p : ℕ) → bad ≡ value x p → ⊥
  pub same : (x y : A) (p q : ℕ) → value x p ≡ value y q → (x ≡ y) × (p ≡ q)

-- What is known where a reader gave the value x and the next place p.
pub record Got {A : Type 0} (spell : A → List ℕ) (Ok : A → Type 0) (text : List ℕ) (at : ℕ) (x : A) (p : ℕ) : Type 0 where
  pub ok : Ok x
  pub stands : Stands text at (spell x)
  pub next : p ≡ at + length (spell x)
  pub only : (y : A) → Ok y → Stands text at (spell y) → x ≡ y

-- what is known is the promise
pub got_is : {A R : Type 0} {spell : A → List ℕ} {Ok : A → Type 0} {value : A → ℕ → R} {bad : R} {text : List ℕ} {at : ℕ} {x : A} {p : ℕ} → Got spell Ok text at x p → Reads spell Ok value bad text at (value x p)
got_is {x} {p} g = one x p g.ok g.stands g.next g.only

-- an answer that is no value: nothing is spelled here, and the answer is the promised refusal
module _ {A R : Type 0} {spell : A → List ℕ} {Ok : A → Type 0} {value : A → ℕ → R} {bad other : R} {text : List ℕ} {at : ℕ} (t : Tells value other) {r : R} (d : Reads spell Ok value bad text at r) (e : r ≡ other) where
  pub got_none : (y : A) → Ok y → Stands text at (spell y) → ⊥
  got_none y o s = t.apart y _ (sym e ∙ d.found y o s)

  pub got_bad : r ≡ bad
  got_bad = ⊎_elim (λ z. z) (λ z. absurd (t.apart z.0 _ (sym e ∙ z.3))) d.only

-- the answer, and the promised refusal, in another form
pub as_told : {A R : Type 0} {spell : A → List ℕ} {Ok : A → Type 0} {value : A → ℕ → R} {bad : R} {text : List ℕ} {at : ℕ} {r s : R} → r ≡ s → Reads spell Ok value bad text at s → Reads spell Ok value bad text at r
as_told {spell} {Ok} {value} {bad} {text} {at} e d = subst (λ z. Reads spell Ok value bad text at z) (sym e) d

pub as_bad : {A R : Type 0} {spell : A → List ℕ} {Ok : A → Type 0} {value : A → ℕ → R} {bad other : R} {text : List ℕ} {at : ℕ} {r : R} → other ≡ bad → Reads spell Ok value other text at r → Reads spell Ok value bad text at r
as_bad {spell} {Ok} {value} {text} {at} {r} e d = subst (λ z. Reads spell Ok value z text at r) e d

module _ {A R : Type 0} {spell : A → List ℕ} {Ok : A → Type 0} {value : A → ℕ → R} {bad : R} {text : List ℕ} {at : ℕ} (t : Tells value bad) where
  pub got_one : {r : R} → Reads spell Ok value bad text at r → (x : A) (p : ℕ) → r ≡ value x p → Got spell Ok text at x p
  got_one {r} d x p e = ⊎_elim (λ (z : r ≡ bad). absurd (t.apart x p (sym z ∙ e)))
      (λ z. let q = t.same _ _ _ _ (sym e ∙ z.3) in
      record {
        ok = subst Ok (sym q.0) z.1;
        stands = subst (λ (k : A). Stands text at (spell k)) (sym q.0) z.2;
        next = q.1 ∙ ap (λ (k : A). at + length (spell k)) (sym q.0);
        only = λ y o s. (t.same _ _ _ _ (sym e ∙ d.found y o s)).0;
      })
      d.only

  -- the answer is determined
  pub determined : (r r' : R) → Reads spell Ok value bad text at r → Reads spell Ok value bad text at r' → r ≡ r'
  determined r r' d d' = ⊎_elim
      (λ (z : r ≡ bad). ⊎_elim (λ (z' : r' ≡ bad). z ∙ sym z') (λ z'. absurd (got_none t d z z'.0 z'.1 z'.2)) d'.only)
      (λ z. z.3 ∙ sym (d'.found z.0 z.1 z.2))
      d.only

-- nothing more to read
pub seq_end : {A R : Type 0} {Ok : A → Type 0} {value : A → ℕ → R} {bad : R} {text : List ℕ} {p : ℕ} (x : A) → Ok x → ((y : A) → Ok y → x ≡ y) → Reads (λ _. []) Ok value bad text p (value x p)
seq_end {text} {p} x o u = one x p o (record { rest = drop p text; is = refl }) (sym (add-zero p)) (λ y o' s. u y o')

-- two values that stand in one place are one, where a function finds the value from its spelling
pub by_inverse : {A : Type 0} (spell : A → List ℕ) (Ok : A → Type 0) (decode : List ℕ → A) → ((x : A) → Ok x → (rest : List ℕ) → decode (spell x ++ rest) ≡ x)
    → {text : List ℕ} {at : ℕ} (x : A) → Ok x → Stands text at (spell x) → (y : A) → Ok y → Stands text at (spell y) → x ≡ y
by_inverse spell Ok decode law x o s y o' s' = sym (law x o s.rest) ∙ ap decode (sym s.is ∙ s'.is) ∙ law y o' s'.rest
