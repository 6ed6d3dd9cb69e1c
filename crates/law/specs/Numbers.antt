-- Values that can be got back from something are equal where that is equal; a flag as a number, and back.
use Rattle.std.specs.Prelude.{ℕ, Bool, true, false, ◌≡◌, refl, eqb}
use Rattle.std.proofs.Common.{sym, ap, ◌∙◌}
use Rattle.law.specs.Deciding.{Decides, decides_as}

-- f gives what stands for a value, g the value back
pub by_numbers : {X N : Type 0} (f : X → N) (g : N → X) → ((x : X) → g (f x) ≡ x) → {t : Bool} (a b : X) → Decides t (f a ≡ f b) → Decides t (a ≡ b)
by_numbers f g back a b d = decides_as d (λ e. sym (back a) ∙ ap g e ∙ back b) (λ e. ap f e)

abbrev pub flag_number : Bool → ℕ
flag_number true = 1
flag_number false = 0

abbrev pub flag_of : ℕ → Bool
flag_of n = eqb n 1

pub flag_back : (b : Bool) → flag_of (flag_number b) ≡ b
flag_back true = refl
flag_back false = refl
