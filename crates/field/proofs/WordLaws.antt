-- A word that is looked for at a place, and the end of a field.
use Prim.Native.Nat.{ℕ, zero, suc, ◌+◌, ◌≤◌, ◌<◌}
use native.Mathlib.Omega.{arith}
use native.Mathlib.Nat.{add-zero}
use mathlib.Core.Path.{◌≡◌, refl, sym, ap, ◌∙◌}
use mathlib.Core.Bool.{Bool, true, false}
use mathlib.Core.List.{List, [], ◌∷◌, ◌++◌}
use lib.ListN.{length, drop, get_or}
use Rattle.std.specs.Prelude.{nat_eq}
use Rattle.std.specs.List.{starts_with}
use Rattle.std.proofs.lemmas.Slice.Eq.{starts_is}
use Rattle.std.proofs.lemmas.Bool.Decides.{Decides-eqb}
use Rattle.law.specs.Choice.{true_not_false}
use Rattle.field.specs.declared.ending.FieldEnd.{FieldEnd}
use Rattle.field.specs.Read.{past, bad_field}
use Rattle.field.specs.Readers.{end_byte, end_number, ReadsWord, ReadsEnd}
use Rattle.field.proofs.Reading.{stands_get_d, stands_length, stands_of, none, one, as_told}

module _ (text w : List ℕ) (at n : ℕ) (h : length text < at) where
  pub word_past : 0 < length w → ReadsWord w n text at (bad_field n)
  word_past p = none (λ x o s. let l = stands_length text w at s p in omega arith)

  pub word_empty : length w ≡ 0 → ReadsWord w n text at (past at)
  word_empty e = one tt at tt (record { rest = drop at text; is = sym (ap (λ (l : List ℕ). l ++ drop at text) (length_nil w e)) }) (omega arith) (λ y o s. refl)
    where
      length_nil : (l : List ℕ) → length l ≡ 0 → l ≡ []
      length_nil [] e = refl
      length_nil (x ∷ l) e = absurd (omega arith)

-- what the library's test of a prefix says of what is left of the text
module _ (text w : List ℕ) (at n : ℕ) {rest : List ℕ} {r : Bool} (left : rest ≡ drop at text) (t : r ≡ starts_with nat_eq rest w) where
  says : (r ≡ true → drop at text ≡ w ++ drop (length w) (drop at text)) × ((more : List ℕ) → drop at text ≡ w ++ more → r ≡ true)
  says = starts_is Decides-eqb (drop at text) w r (t ∙ ap (λ (l : List ℕ). starts_with nat_eq l w) left)

  pub word_miss : r ≡ false → ReadsWord w n text at (bad_field n)
  word_miss e = none (λ x o s. true_not_false (sym (says.1 s.rest s.is) ∙ e))

  pub word_here : r ≡ true → ReadsWord w n text at (past (at + length w))
  word_here e = one tt (at + length w) tt (record { rest = drop (length w) (drop at text); is = says.0 e }) refl (λ y o s. refl)

module _ (text : List ℕ) (at : ℕ) (e : FieldEnd) (n : ℕ) where
  -- it is not there, and k is the number told
  pub end_out : {k : ℕ} → length text ≤ at → k ≡ end_number n text at → ReadsEnd e n text at (bad_field k)
  end_out h q = as_told (ap bad_field q) (none (λ x o s. let l = stands_length text (end_byte e ∷ []) at s (omega arith) in omega arith))

  pub end_other : {k : ℕ} → (get_or text at 0 ≡ end_byte e → ⊥) → k ≡ end_number n text at → ReadsEnd e n text at (bad_field k)
  end_other m q = as_told (ap bad_field q) (none (λ x o s. m (ap (λ (k : ℕ). get_or text k 0) (sym (add-zero at)) ∙ stands_get_d text (end_byte e ∷ []) at s 0 (omega arith))))

  pub end_is : at < length text → get_or text at 0 ≡ end_byte e → ReadsEnd e n text at (past (at + 1))
  end_is h z = one tt (at + 1) tt (stands_of text (end_byte e ∷ []) at (omega arith) bytes) refl (λ y o s. refl)
    where
      bytes : (i : ℕ) → i < 1 → get_or text (at + i) 0 ≡ get_or (end_byte e ∷ []) i 0
      bytes zero p = rw add-zero z
      bytes (suc i) p = absurd (omega arith)
