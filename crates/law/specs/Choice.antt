-- A choice by a test, and what is known of it.
use Rattle.std.specs.Prelude.{◌≡◌, refl, Bool, true, false, ◌⊎◌, ℕ, ◌≤◌, ◌<◌, ltb}
use Rattle.std.proofs.Common.{sym, subst, ◌∙◌, inl, inr, ltb-true, ltb-false}
use Rattle.law.specs.Words.{pick}

-- what a callee ensures of its result, and what a test says of that result
pub via : {A : Type 0} {r s b : A} → r ≡ s → r ≡ b → s ≡ b
via e t = sym e ∙ t

is_true : Bool → Type 0
is_true true = Unit {0}
is_true false = ⊥

pub true_not_false : true ≡ false → ⊥
unfolding is_true
true_not_false e = subst is_true e tt

-- a proof by a test
pub split : {A : Type 0} (t : Bool) → (t ≡ true → A) → (t ≡ false → A) → A
split true f g = f refl
split false f g = g refl

-- what holds of both holds of the one that is picked
pub of_both : {A : Type 0} (P : A → Type 0) (t : Bool) (a b : A) → P a → P b → P (pick t a b)
of_both P true a b p q = p
of_both P false a b p q = q

-- which of the two was picked
pub pick_says : {A : Type 0} (t : Bool) (a b r : A) → pick t a b ≡ r → ((t ≡ true) × (a ≡ r)) ⊎ ((t ≡ false) × (b ≡ r))
pick_says true a b r e = inl (refl, e)
pick_says false a b r e = inr (refl, e)

-- a test that is the conjunction of two
pub both : (s t : Bool) → pick s t false ≡ true → (s ≡ true) × (t ≡ true)
both true t e = (refl, e)
both false t e = absurd (true_not_false (sym e))

pub lt_or_le : (a b : ℕ) → (a < b) ⊎ (b ≤ a)
lt_or_le a b = split (ltb a b) (λ e. inl (ltb-true a b e)) (λ e. inr (ltb-false a b e))
