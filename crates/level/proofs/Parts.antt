-- One part of a spelling after another, for parts that are read without regard to what follows them.
use Prim.Native.Nat.{ℕ, ◌+◌}
use native.Mathlib.Nat.{add_assoc}
use mathlib.Core.Path.{◌≡◌, sym, ap, subst, ◌∙◌}
use mathlib.Core.Logic.{inl, inr, ⊎_elim}
use mathlib.Core.List.{List, ◌++◌}
use lib.ListN.{length, length-append}
use Rattle.field.specs.Reads.{Stands, Reads}
use Rattle.field.proofs.Reading.{Got, none, stands_left, stands_right, stands_join}
use Rattle.field.proofs.Answers.{No}

-- each y : A is spelled as its first part, `f y`, and a tail
module _ {A B R : Type 0} {spell : A → List ℕ} {Ok : A → Type 0} {value : A → ℕ → R} {bad : R} {text : List ℕ} {at : ℕ} {spell₁ : B → List ℕ} {Ok₁ : B → Type 0}
    (f : A → B) (tail : A → List ℕ) (parts : (y : A) → spell y ≡ spell₁ (f y) ++ tail y) (ok₁ : (y : A) → Ok y → Ok₁ (f y)) where
  -- no first part stands here
  pub seq_none : No spell₁ Ok₁ text at → Reads spell Ok value bad text at bad
  seq_none n = none (λ y o s. n (f y) (ok₁ y o) (stands_left text (spell₁ (f y)) (tail y) at (subst (λ (l : List ℕ). Stands text at l) (parts y) s)))

  -- the first part is b, and the tail was read from p on
  pub seq_then : {b : B} {p : ℕ} {r : R} → Got spell₁ Ok₁ text at b p → Reads tail (λ y. Ok y × (b ≡ f y)) value bad text p r → Reads spell Ok value bad text at r
  seq_then {b} {p} {r} g d = record { found = finds; only = ⊎_elim inl (λ z. inr (z.0, z.1.0, stands z.0 z.1.1 z.2, z.3 ∙ ap (λ (k : ℕ). value z.0 k) (place z.0 z.1.1))) d.only }
    where
      start : (y : A) → b ≡ f y → p ≡ at + length (spell₁ (f y))
      start y e = g.next ∙ ap (λ (k : B). at + length (spell₁ k)) e

      place : (y : A) → b ≡ f y → p + length (tail y) ≡ at + length (spell y)
      place y e = ap (λ (k : ℕ). k + length (tail y)) (start y e) ∙ add_assoc at (length (spell₁ (f y))) (length (tail y)) ∙ ap (λ (k : ℕ). at + k) (sym (length-append (spell₁ (f y)) (tail y)) ∙ ap length (sym (parts y)))

      finds : (y : A) → Ok y → Stands text at (spell y) → r ≡ value y (at + length (spell y))
      finds y o s =
          let t = subst (λ (l : List ℕ). Stands text at l) (parts y) s in
          let e = g.only (f y) (ok₁ y o) (stands_left text (spell₁ (f y)) (tail y) at t) in
          d.found y (o, e) (subst (λ (k : ℕ). Stands text k (tail y)) (sym (start y e)) (stands_right text (spell₁ (f y)) (tail y) at t)) ∙ ap (λ (k : ℕ). value y k) (place y e)

      stands : (y : A) → b ≡ f y → Stands text p (tail y) → Stands text at (spell y)
      stands y e t =
          subst (λ (l : List ℕ). Stands text at l) (sym (parts y))
          (stands_join text (spell₁ (f y)) (tail y) at (subst (λ (k : B). Stands text at (spell₁ k)) e g.stands) (subst (λ (k : ℕ). Stands text k (tail y)) (start y e) t))
