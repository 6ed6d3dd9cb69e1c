-- The status that a text spells, or that it spells none. Assumes nothing.
use Prim.Native.Nat.{ℕ, ◌<◌}
use native.Mathlib.Omega.{arith}
use mathlib.Core.Path.{◌≡◌, sym, ap, ◌∙◌}
use mathlib.Core.List.{List, [], ◌∷◌, ◌++◌}
use lib.ListN.{length, get_or}
use Rattle.field.specs.Hex.{hex_field}
use Rattle.field.specs.Ends.{lf}
use Rattle.field.specs.Reads.{Stands}
use Rattle.field.proofs.Reading.{Got}
use Rattle.std.specs.Prelude.{Some, None}
use Rattle.entries.specs.Reading.{ReadsStatus}

-- the digits of a text that spells a status
at_start : (text : List ℕ) (s : ℕ) → text ≡ hex_field s ++ lf → Stands text 0 (hex_field s)
at_start text s e = record { rest = lf; is = e }

unspelled : (text : List ℕ) → ((s : ℕ) → s < 256 → text ≡ hex_field s ++ lf → ⊥) → ReadsStatus text None
unspelled text none = record { found = λ s h e. absurd (none s h e); only = tt }

pub not_three : (text : List ℕ) → (length text ≡ 3 → ⊥) → ReadsStatus text None
unfolding hex_field
not_three text n = unspelled text (λ s h e. n (ap length e))

-- one byte, which is LF
one_byte : (rest : List ℕ) → length rest ≡ 1 → get_or rest 0 0 ≡ 10 → rest ≡ lf
one_byte [] l e = absurd (omega arith)
one_byte (b ∷ []) l e = ap (λ (k : ℕ). k ∷ []) e
one_byte (b ∷ (d ∷ rest)) l e = absurd (omega arith)

pub spelled : (text : List ℕ) (s p : ℕ) → length text ≡ 3 → get_or text 2 0 ≡ 10 → Got hex_field (λ n. n < 256) text 0 s p → ReadsStatus text (Some s)
unfolding hex_field
spelled text s p l e g =
    let is : text ≡ hex_field s ++ g.stands.rest = g.stands.is in
    let rest = one_byte g.stands.rest (omega (arith, ap length is)) (sym (ap (λ (k : List ℕ). get_or k 2 0) is) ∙ e) in
    record {
      found = λ x h f. ap Some (g.only x h (at_start text x f));
      only = (g.ok, is ∙ ap (λ (k : List ℕ). hex_field s ++ k) rest);
    }

-- the text spells this status, and no other
pub record Spells (text : List ℕ) (status : ℕ) : Type 0 where
  pub found : (s : ℕ) → s < 256 → text ≡ hex_field s ++ lf → status ≡ s
  pub byte : status < 256
  pub only : text ≡ hex_field status ++ lf

pub spells : (text : List ℕ) (status : ℕ) → ReadsStatus text (Some status) → Spells text status
spells text status r = record { found = λ s h e. (let z = r.found s h e in cc); byte = r.only.0; only = r.only.1 }

pub spells_none : (text : List ℕ) → ReadsStatus text None → (s : ℕ) → s < 256 → text ≡ hex_field s ++ lf → ⊥
spells_none text r s h e = let z = r.found s h e in cc
