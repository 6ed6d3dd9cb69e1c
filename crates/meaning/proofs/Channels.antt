-- The channels: each is in their list, at its number.
use mathlib.Core.Path.{◌≡◌, refl, sym, ap, subst, ◌∙◌}
use mathlib.Core.Bool.{true, false}
use Prim.Native.Nat.{ℕ}
use lib.ListN.{get_or}
use borrow.Author.Tests.{eqb-true, eq-eqb}
use Rattle.law.specs.Choice.{true_not_false, split}
use Rattle.law.specs.Lists.{all_at}
use Rattle.law.specs.Words.{All}
use Rattle.meaning.specs.Meaning.{Channel, F, E, L, number, same, Outcome}
use Rattle.meaning.specs.Channels.{channels}

at_number : (c : Channel) → get_or channels (number c) F ≡ c
at_number F = refl
at_number E = refl
at_number L = refl

pub same_self : (c : Channel) → same c c ≡ true
same_self c = eq-eqb (number c) (number c) refl

pub same_is : (c d : Channel) → same c d ≡ true → d ≡ c
same_is c d e = sym (at_number d) ∙ ap (λ (n : ℕ). get_or channels n F) (sym (eqb-true (number c) (number d) e)) ∙ at_number c

pub same_not : (c d : Channel) → same c d ≡ false → same d c ≡ false
same_not c d e = split (same d c) (λ f. absurd (true_not_false (sym (same_self c) ∙ ap (same c) (same_is d c f) ∙ e))) (λ f. f)

-- what holds of each in the list holds of every channel
pub every_channel : (P : Channel → Type 0) → All P channels → (c : Channel) → P c
unfolding All
every_channel P h c = subst P (at_number c) (all_at P channels (number c) F h.0 h)

-- so outcomes are equal that have the same state and, channel by channel, the same replies
pub same_outcome : {S R : Type 0} (v w : Outcome S R) → v.state ≡ w.state → All (λ c. v.replies c ≡ w.replies c) channels → v ≡ w
same_outcome v w e h =
    let f = every_channel (λ c. v.replies c ≡ w.replies c) h in
    λ i. record { state = e i; replies = λ c. f c i }
