-- Pieces put one after another into a line, and that no line is longer than a spelling has room for. Assumes nothing.
use Prim.Native.Nat.{ℕ, ◌≤◌}
use native.Mathlib.Omega.{arith}
use mathlib.Core.Path.{◌≡◌, ap, ◌∙◌}
use mathlib.Core.List.{List, [], ◌∷◌, ◌++◌}
use lib.Dec.{eqb}
use lib.ListN.{length, length-append}
use Rattle.law.specs.Choice.{of_both}
use Rattle.field.specs.Decimal.{largest}
use Rattle.field.specs.Ends.{tab, lf}
use Rattle.field.specs.Hex.{hex_field}
use Rattle.field.specs.Spelling.{no_bytes, put_all}
use Rattle.field.proofs.SpellingLaws.{holds, put_then, digits_count}
use Rattle.listing.proofs.Putting.{put_three}
use Rattle.entries.proofs.Digits.{byte_length}
use Rattle.entries.specs.Printed.{word_program, word_chip_erase, word_sector_erase, hex_bytes, cycles_line, refusal_line}
use Rattle.entries.specs.Lines.{kind_word, address_end, head_line}

pub put_address : (s : List ℕ) (a b c : ℕ) {s1 s2 r : List ℕ} → s1 ≡ put_all s (hex_field a) → s2 ≡ put_all s1 (hex_field b) → r ≡ put_all s2 (hex_field c)
    → r ≡ put_all s (hex_bytes (a ∷ b ∷ c ∷ []))
unfolding hex_bytes hex_field
put_address s a b c e f g = put_three s (hex_field a) (hex_field b) (hex_field c) e f g

-- kind, tab, address and its end
pub put_head : (kind a b c : ℕ) {s s1 s2 s3 r : List ℕ} → s ≡ no_bytes → s1 ≡ put_all s (kind_word kind) → s2 ≡ put_all s1 (9 ∷ [])
    → s3 ≡ put_all s2 (hex_bytes (a ∷ b ∷ c ∷ [])) → r ≡ put_all s3 (address_end kind) → r ≡ put_all no_bytes (head_line kind a b c)
unfolding head_line
put_head kind a b c {s} {s1} n e f g h =
    put_three s1 (9 ∷ []) (hex_bytes (a ∷ b ∷ c ∷ [])) (address_end kind) f g h
    ∙ ap (λ (k : List ℕ). put_all k ((9 ∷ []) ++ (hex_bytes (a ∷ b ∷ c ∷ []) ++ address_end kind))) (e ∙ ap (λ (k : List ℕ). put_all k (kind_word kind)) n)
    ∙ put_then no_bytes (kind_word kind) ((9 ∷ []) ++ (hex_bytes (a ∷ b ∷ c ∷ []) ++ address_end kind))

-- ---- lengths
kind_length : (kind : ℕ) → length (kind_word kind) ≤ 12
kind_length kind =
    of_both (λ (w : List ℕ). length w ≤ 12) (eqb kind 3) word_program _ (omega arith)
    (of_both (λ (w : List ℕ). length w ≤ 12) (eqb kind 2) word_chip_erase word_sector_erase (omega arith) (omega arith))

pub head_length : (kind a b c : ℕ) → length (head_line kind a b c) ≤ 20
unfolding head_line hex_bytes hex_field
head_length kind a b c =
    simp length-append (omega (arith, kind_length kind, of_both (λ (w : List ℕ). length w ≤ 1) (eqb kind 3) tab lf (omega arith) (omega arith)))

pub cycles_length : (n : ℕ) → n ≤ largest → length (cycles_line n) ≤ 18
unfolding cycles_line
cycles_length n h = simp length-append (omega (arith, digits_count n h))

pub refusal_length : (n : ℕ) → n ≤ largest → length (refusal_line n) ≤ 19
unfolding refusal_line
refusal_length n h = simp length-append (omega (arith, digits_count n h))

-- ---- so each line holds just its bytes
pub head_held : (kind a b c : ℕ) {s : List ℕ} → s ≡ put_all no_bytes (head_line kind a b c) → s ≡ head_line kind a b c
head_held kind a b c e = holds (head_line kind a b c) e (omega (arith, head_length kind a b c))

pub byte_held : (b : ℕ) {s r : List ℕ} → s ≡ no_bytes → r ≡ put_all s (hex_field b) → r ≡ hex_field b
byte_held b z e = holds (hex_field b) (e ∙ ap (λ (s : List ℕ). put_all s (hex_field b)) z) (omega (arith, byte_length b))
