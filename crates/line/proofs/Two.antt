-- A line's last two fields, of any two kinds: a content, a tab, a content, the LF.
use Prim.Native.Nat.{ℕ, suc}
use mathlib.Core.Path.{◌≡◌, refl, ap}
use mathlib.Core.Bool.{Bool}
use mathlib.Core.List.{List, [], ◌∷◌, ◌++◌}
use lib.ListN.{drop}
use Rattle.law.specs.Words.{pick}
use Rattle.field.specs.Ends.{tab, lf}
use Rattle.field.specs.Fields.{fields_of, first_bad}
use Rattle.field.specs.Reads.{Reads}
use Rattle.field.specs.Readers.{ends_here}
use Rattle.field.proofs.Reading.{Got, seq_end}
use Rattle.field.proofs.Answers.{No, GotWord, NoWord}
use Rattle.field.proofs.FieldLaws.{Tests}
use Rattle.field.proofs.Sequence.{end_none, end_then, bad_content, tab_refused, tab_then, last_read, none_allowed, kind_begins, one_value}

module _ {A B C R : Type 0} {spell : A → List ℕ} {Ok : A → Type 0} {value : A → ℕ → R} (bad : ℕ → R) {text : List ℕ} {at : ℕ} {t u : List ℕ → Bool} {spell₁ : B → List ℕ} {Ok₁ : B → Type 0} {spell₂ : C → List ℕ} {Ok₂ : C → Type 0}
    (j : Tests t spell₁ Ok₁) (k : Tests u spell₂ Ok₂) (n : ℕ) (f : A → B) (g : A → C) (parts : (y : A) → spell y ≡ spell₁ (f y) ++ (tab ++ (spell₂ (g y) ++ lf)))
    (ok₁ : (y : A) → Ok y → Ok₁ (f y)) (ok₂ : (y : A) → Ok y → Ok₂ (g y)) where
  pub two_1 : No spell₁ Ok₁ text at → Reads spell Ok value (bad (first_bad (t ∷ u ∷ []) n (fields_of (drop at text)))) text at (bad n)
  two_1 m = bad_content bad t (λ _ _. u ∷ []) n (λ y. spell₁ (f y)) (λ y. tab ++ (spell₂ (g y) ++ lf)) parts (λ y o. j.plain (f y) (ok₁ y o)) (λ y o. j.yes (f y) (ok₁ y o)) (λ y l. refl) (none_allowed j m)

  module _ {x : B} {p : ℕ} (a : Got spell₁ Ok₁ text at x p) where
    pub two_2 : NoWord tab text p → Reads spell Ok value (bad (first_bad (t ∷ u ∷ []) n (fields_of (drop at text)))) text at (bad (pick (ends_here (drop p text)) (suc n) n))
    two_2 m = tab_refused bad t (λ _ _. u ∷ []) n (λ y. spell₁ (f y)) (λ y. tab ++ (spell₂ (g y) ++ lf)) parts (λ y o. j.plain (f y) (ok₁ y o)) (λ y o. j.yes (f y) (ok₁ y o)) (λ y l. refl) (kind_begins j a) (λ y. spell₂ (g y) ++ lf) (λ y o. refl) m

    module _ {q : ℕ} (h : GotWord tab text p q) where
      on : {r : R} → Reads (λ y. spell₂ (g y) ++ lf) (λ y. Ok y × (spell₁ x ≡ spell₁ (f y))) value (bad (first_bad (u ∷ []) (suc n) (fields_of (drop q text)))) text q r → Reads spell Ok value (bad (first_bad (t ∷ u ∷ []) n (fields_of (drop at text)))) text at r
      on d = tab_then bad t (λ _ _. u ∷ []) n (λ y. spell₁ (f y)) (λ y. tab ++ (spell₂ (g y) ++ lf)) parts (λ y o. j.plain (f y) (ok₁ y o)) (λ y o. j.yes (f y) (ok₁ y o)) (λ y l. refl) (kind_begins j a) (λ y. spell₂ (g y) ++ lf) (λ y o. refl) h d

      pub two_3 : No spell₂ Ok₂ text q → Reads spell Ok value (bad (first_bad (t ∷ u ∷ []) n (fields_of (drop at text)))) text at (bad (suc n))
      two_3 m = on (bad_content bad u (λ _ _. []) (suc n) (λ y. spell₂ (g y)) (λ y. lf) (λ y. refl) (λ y o. k.plain (g y) (ok₂ y o.0)) (λ y o. k.yes (g y) (ok₂ y o.0)) (λ y l. refl) (none_allowed k m))

      module _ {z : C} {s : ℕ} (b : Got spell₂ Ok₂ text q z s) where
        last : {r : R} → Reads (λ _. lf) (λ y. (Ok y × (spell₁ x ≡ spell₁ (f y))) × (spell₂ z ≡ spell₂ (g y))) value (bad (pick (ends_here (drop s text)) (suc (suc n)) (suc n))) text s r
            → Reads spell Ok value (bad (first_bad (t ∷ u ∷ []) n (fields_of (drop at text)))) text at r
        last d = on (last_read bad u (λ _ _. []) (suc n) (λ y. spell₂ (g y)) (λ y. lf) (λ y. refl) (λ y o. k.plain (g y) (ok₂ y o.0)) (λ y o. k.yes (g y) (ok₂ y o.0)) (λ y l. refl) (kind_begins k b) (λ fs. refl) d)

        pub two_4 : NoWord lf text s → Reads spell Ok value (bad (first_bad (t ∷ u ∷ []) n (fields_of (drop at text)))) text at (bad (pick (ends_here (drop s text)) (suc (suc n)) (suc n)))
        two_4 m = last (end_none (λ _. lf) (λ _. []) (λ y o. refl) m)

        pub two_all : {v : ℕ} → GotWord lf text s v → (y : A) → Ok y → x ≡ f y → z ≡ g y → ((y' : A) → Ok y' → x ≡ f y' → z ≡ g y' → y ≡ y') → Reads spell Ok value (bad (first_bad (t ∷ u ∷ []) n (fields_of (drop at text)))) text at (value y v)
        two_all m y o e e' only = last (end_then (λ _. lf) (λ _. []) (λ y o. refl) m
            (seq_end y ((o, λ i. spell₁ (e i)), λ i. spell₂ (e' i)) (λ y' o'. only y' o'.0.0
            (one_value j a ((kind_begins j a).closes (ap ends_here h.stands.is)) (f y') (ok₁ y' o'.0.0) o'.0.1)
            (one_value k b ((kind_begins k b).closes (ap ends_here m.stands.is)) (g y') (ok₂ y' o'.0.0) o'.1))))
