-- What `all` says of a list, element by element.
use Rattle.std.specs.Prelude.{Bool, true, false, ◌≡◌, refl, List, [], ◌∷◌, not}
use Rattle.std.specs.List.{list_all}
use Rattle.std.proofs.Common.{sym}
use Rattle.law.specs.Choice.{true_not_false}
use Rattle.law.specs.Words.{All}

module _ {A : Type 0} (p : A → Bool) where
  one_more : (x : A) (xs : List A) (b : Bool) → p x ≡ b → (list_all (λ y. not (p y)) xs ≡ true → All (λ y. p y ≡ false) xs) → list_all (λ y. not (p y)) (x ∷ xs) ≡ true → All (λ y. p y ≡ false) (x ∷ xs)
  unfolding All
  one_more x xs true q f e = absurd (true_not_false (sym (rw q at e)))
  one_more x xs false q f e = (q, f (rw q at e))

  pub all_pass : (xs : List A) → list_all (λ y. not (p y)) xs ≡ true → All (λ y. p y ≡ false) xs
  unfolding All
  all_pass [] e = tt
  all_pass (x ∷ xs) e = one_more x xs (p x) refl (all_pass xs) e
