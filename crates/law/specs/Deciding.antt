-- Flags that say whether something holds.
use Rattle.std.specs.Prelude.{◌≡◌, refl, Bool, true, false, not, ◌&&◌, ℕ, eqb}
use Rattle.std.proofs.Common.{sym, eqb-true}
use Rattle.std.specs.Bool.{beq}
use Rattle.std.proofs.lemmas.Bool.{eqb-false, not-true, not-false}
use Rattle.law.specs.Choice.{true_not_false}

-- the flag says whether P holds
pub record Decides (b : Bool) (P : Type 0) : Type 0 where
  pub holds : b ≡ true → P
  pub fails : b ≡ false → P → ⊥

pub decides_true : {P : Type 0} → P → Decides true P
decides_true p = record { holds = λ e. p; fails = λ e q. true_not_false e }

pub decides_false : {P : Type 0} → (P → ⊥) → Decides false P
decides_false n = record { holds = λ e. absurd (true_not_false (sym e)); fails = λ e p. n p }

-- a flag that decides P decides what is equivalent to P
pub decides_as : {b : Bool} {P Q : Type 0} → Decides b P → (P → Q) → (Q → P) → Decides b Q
decides_as d f g = record { holds = λ e. f (d.holds e); fails = λ e q. d.fails e (g q) }

-- two flags asked together
pub decides_both : {a b : Bool} {P Q : Type 0} → Decides a P → Decides b Q → Decides (a && b) (P × Q)
decides_both {a = true} d e = record { holds = λ t. (d.holds refl, e.holds t); fails = λ t p. e.fails t p.1 }
decides_both {a = false} d e = record { holds = λ t. absurd (true_not_false (sym t)); fails = λ t p. d.fails refl p.0 }

-- the flag is determined
pub decides_one : (a b : Bool) {P : Type 0} → Decides a P → Decides b P → a ≡ b
decides_one true true d e = refl
decides_one true false d e = absurd (e.fails refl (d.holds refl))
decides_one false true d e = absurd (d.fails refl (e.holds refl))
decides_one false false d e = refl

pub eqb_decides : (m n : ℕ) → Decides (eqb m n) (m ≡ n)
eqb_decides m n = record { holds = eqb-true m n; fails = eqb-false m n }

pub beq_decides : (a b : Bool) → Decides (beq a b) (a ≡ b)
beq_decides true true = decides_true refl
beq_decides true false = decides_false true_not_false
beq_decides false true = decides_false (λ e. true_not_false (sym e))
beq_decides false false = decides_true refl

-- what `if !flag { return false; }` shows, where the flag decides P: in the branch, and after it
pub refuses : {b : Bool} {P Q : Type 0} → Decides b P → not b ≡ true → (Q → P) → Decides false Q
refuses d e f = decides_false (λ q. d.fails (not-true _ e) (f q))

pub passed : {b : Bool} {P : Type 0} → Decides b P → not b ≡ false → P
passed d e = d.holds (not-false _ e)
