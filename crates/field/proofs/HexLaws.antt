-- The hex field.
use Prim.Native.Nat.{ℕ, zero, suc, ◌+◌, ◌-◌, ◌*◌, ◌/◌, ◌%◌, ◌≤◌, ◌<◌, min}
use native.Mathlib.Omega.{arith}
use native.Mathlib.Nat.{div-add-mod', add-sub_cancel_left}
use mathlib.Core.Path.{◌≡◌, refl, sym, ap, ◌∙◌}
use mathlib.Core.Logic.{⊎_elim}
use mathlib.Core.Bool.{Bool, true, false}
use mathlib.Core.List.{List}
use lib.Dec.{ltb, leb}
use lib.Arith.{digits_div, digits_mod}
use lib.ListN.{length, drop, get_or, length-drop}
use borrow.Author.Tests.{lt-ltb, le-ltb, le-leb, lt-leb, ltb-true, ltb-false, leb-true}
use Rattle.std.specs.Prelude.{Option, None, Some}
use Rattle.law.specs.Choice.{pick_says, lt_or_le, both}
use Rattle.law.specs.Words.{pick}
use Rattle.field.specs.Ends.{tab_byte, lf_byte}
use Rattle.field.specs.Hex.{hex_digit, hex_field, hex_value, byte_of, is_byte_in}
use Rattle.field.specs.Readers.{nibble_of, digit_value, letter_value}
use Rattle.field.specs.Reads.{Stands}
use Rattle.field.proofs.Reading.{Got, rest_get, stands_get_d, stands_length, stands_of}
use Rattle.field.proofs.Answers.{No}
use Rattle.field.proofs.FieldLaws.{Plain, Tests, spells_tests}

nibble_digit : (d : ℕ) → d < 16 → nibble_of (hex_digit d) ≡ Some d
unfolding hex_digit
nibble_digit d h =
    ⊎_elim (λ (p : d < 10). simp (lt-ltb d 10 p, le-ltb (48 + d) 48 (omega arith), le-leb (48 + d) 57 (omega arith), add-sub_cancel_left 48 d))
    (λ (p : 10 ≤ d). simp (le-ltb d 10 p, le-ltb (87 + d) 48 (omega arith), lt-leb (87 + d) 57 (omega arith), le-ltb (87 + d) 97 (omega arith), le-leb (87 + d) 102 (omega arith), add-sub_cancel_left 87 d))
    (lt_or_le d 10)

never : {w : ℕ} → None ≡ Some w → ⊥
never q = let z : ◌≡◌ {A = ℕ} 0 1 = cc in omega arith

value : {v w : ℕ} → Some v ≡ Some w → v ≡ w
value q = cc

nibble_says : (b d : ℕ) → nibble_of b ≡ Some d → (d < 16) × (b ≡ hex_digit d)
unfolding hex_digit
nibble_says b d e =
    ⊎_elim (λ z. absurd (never z.1))
    (λ z. ⊎_elim (λ y. let v = value y.1 in let l = ltb-false b 48 z.0 in let m = leb-true b 57 y.0 in (omega arith, rw (lt-ltb d 10 (omega arith)) (omega arith)))
    (λ y. ⊎_elim (λ x. absurd (never x.1))
    (λ x. ⊎_elim (λ w. let v = value w.1 in let l = ltb-false b 97 x.0 in let m = leb-true b 102 w.0 in (omega arith, rw (le-ltb d 10 (omega arith)) (omega arith)))
    (λ w. absurd (never w.1))
    (pick_says (leb b 102) _ _ _ x.1))
    (pick_says (ltb b 97) _ _ _ y.1))
    (pick_says (leb b 57) _ _ _ z.1))
    (pick_says (ltb b 48) _ _ _ e)

pub hex_past : (text : List ℕ) (at : ℕ) → length text < at → No hex_field (λ n. n < 256) text at
unfolding hex_field
hex_past text at h x o s = let l = stands_length text (hex_field x) at s (omega arith) in omega arith

-- the two digits of a spelled byte, as what is left of the text has them
module _ (text : List ℕ) (at : ℕ) {rest : List ℕ} (left : rest ≡ drop at text) where
  high : (x : ℕ) → x < 256 → Stands text at (hex_field x) → nibble_of (get_or rest 0 0) ≡ Some (x / 16)
  unfolding hex_field
  high x h s = ap nibble_of (rest_get text at 0 left ∙ stands_get_d text (hex_field x) at s 0 (omega arith)) ∙ nibble_digit (x / 16) (omega arith)

  low : (x : ℕ) → x < 256 → Stands text at (hex_field x) → nibble_of (get_or rest 1 0) ≡ Some (x % 16)
  unfolding hex_field
  low x h s = ap nibble_of (rest_get text at 1 left ∙ stands_get_d text (hex_field x) at s 1 (omega arith)) ∙ nibble_digit (x % 16) (omega arith)

  pub hex_short : length rest < 2 → No hex_field (λ n. n < 256) text at
  unfolding hex_field
  hex_short h x o s = let l = stands_length text (hex_field x) at s (omega arith) in omega (arith, ap length left, length-drop at text)

  pub hex_high : nibble_of (get_or rest 0 0) ≡ None → No hex_field (λ n. n < 256) text at
  hex_high e x o s = never (sym e ∙ high x o s)

  pub hex_low : nibble_of (get_or rest 1 0) ≡ None → No hex_field (λ n. n < 256) text at
  hex_low e x o s = never (sym e ∙ low x o s)

  pub hex_both : (a b : ℕ) → 2 ≤ length rest → nibble_of (get_or rest 0 0) ≡ Some a → nibble_of (get_or rest 1 0) ≡ Some b → Got hex_field (λ n. n < 256) text at (a * 16 + b) (at + 2)
  unfolding hex_field
  hex_both a b h p q =
      let m = nibble_says (get_or rest 0 0) a p in
      let n = nibble_says (get_or rest 1 0) b q in
      record {
        ok = omega arith;
        stands = stands_of text (hex_field (a * 16 + b)) at (omega (arith, ap length left, length-drop at text)) (λ i l. sym (rest_get text at i left) ∙ bytes m n i l);
        next = refl;
        only = λ y o s. let v = value (sym p ∙ high y o s) in let w = value (sym q ∙ low y o s) in let d = div-add-mod' y 16 in omega arith;
      }
    where
      bytes : ((a < 16) × (get_or rest 0 0 ≡ hex_digit a)) → ((b < 16) × (get_or rest 1 0 ≡ hex_digit b)) → (i : ℕ) → i < 2 → get_or rest i 0 ≡ get_or (hex_field (a * 16 + b)) i 0
      bytes m n zero l = rw (digits_div a n.0) m.1
      bytes m n (suc zero) l = rw (digits_mod a n.0) n.1
      bytes m n (suc (suc i)) l = absurd (omega arith)

pub nibble_small : (b d : ℕ) → nibble_of b ≡ Some d → d < 16
nibble_small b d e = (nibble_says b d e).0

-- the byte that two hex digits spell
unfoldable pub digit_of : Option ℕ → ℕ
digit_of (Some d) = d
digit_of None = 0

unfoldable pub unhex : ℕ → ℕ → ℕ
unhex a b = digit_of (nibble_of a) * 16 + digit_of (nibble_of b)

pub unhex_is : (x : ℕ) → x < 256 → unhex (hex_digit (x / 16)) (hex_digit (x % 16)) ≡ x
unfolding unhex digit_of
unhex_is x h = rw (nibble_digit (x / 16) (omega arith), nibble_digit (x % 16) (omega arith)) (div-add-mod' x 16)

-- ---- the content
value_digit : (d : ℕ) → d < 16 → hex_value (hex_digit d) ≡ d
unfolding hex_digit
value_digit d h =
    ⊎_elim (λ (p : d < 10). simp (lt-ltb d 10 p, lt-ltb (48 + d) 97 (omega arith), add-sub_cancel_left 48 d))
    (λ (p : 10 ≤ d). simp (le-ltb d 10 p, le-ltb (87 + d) 97 (omega arith), add-sub_cancel_left 87 d))
    (lt_or_le d 10)

byte_of_lem : (x : ℕ) → x < 256 → byte_of (hex_field x) ≡ x
unfolding byte_of hex_field
byte_of_lem x h = rw (value_digit (x / 16) (omega arith), value_digit (x % 16) (omega arith)) (div-add-mod' x 16)

digit_plain : (d : ℕ) → (hex_digit d ≡ tab_byte → ⊥) × (hex_digit d ≡ lf_byte → ⊥)
unfolding hex_digit
digit_plain d =
    ⊎_elim (λ (p : d < 10). let z : hex_digit d ≡ 48 + d = simp (lt-ltb d 10 p) in (λ e. omega arith, λ e. omega arith))
    (λ (p : 10 ≤ d). let z : hex_digit d ≡ 87 + d = simp (le-ltb d 10 p) in (λ e. omega arith, λ e. omega arith))
    (lt_or_le d 10)

pub plain_hex : (x : ℕ) → Plain (hex_field x)
unfolding hex_field Plain
plain_hex x = ((digit_plain (x / 16)).0, (digit_plain (x / 16)).1, ((digit_plain (x % 16)).0, (digit_plain (x % 16)).1, tt))

-- the bytes that a test allows
pub tests_byte : (t : ℕ → Bool) (Ok : ℕ → Type 0) → ((x : ℕ) → Ok x → (x < 256) × (t x ≡ true)) → ((x : ℕ) → x < 256 → t x ≡ true → Ok x) → Tests (is_byte_in t) hex_field Ok
unfolding is_byte_in
tests_byte t Ok a b = spells_tests (λ n. pick (ltb n 256) (t n) false) byte_of hex_field Ok
    (λ x o. let z = a x o in simp (lt-ltb x 256 z.0, z.1))
    (λ x e. let z = both (ltb x 256) (t x) e in b x (ltb-true x 256 z.0) z.1)
    (λ x o. byte_of_lem x (a x o).0)
    (λ x o. plain_hex x)

-- a hex digit is a digit or a letter: of its two values one is below 16, and of any other byte none
module _ (b d l v : ℕ) (digit : d ≡ digit_value b) (letter : l ≡ letter_value b) (less : v ≡ min d l) where
  value_low : b < 97 → l ≡ 16
  value_low p = letter ∙ simp (lt-ltb b 97 p)

  value_high : 57 < b → d ≡ 16
  value_high p = digit ∙ simp (le-ltb b 48 (omega arith), lt-leb b 57 p)

  pub nibble_lesser : nibble_of b ≡ pick (ltb v 16) (Some v) None
  nibble_lesser =
      ⊎_elim (λ (p : b < 48).
      let m : d ≡ 16 = digit ∙ simp (lt-ltb b 48 p) in
      let n = value_low (omega arith) in
      simp (lt-ltb b 48 p, le-ltb v 16 (omega arith)))
      (λ (p : 48 ≤ b). ⊎_elim (λ (q : 57 < b). ⊎_elim (λ (r : b < 97).
      let m = value_high q in
      let n = value_low r in
      simp (le-ltb b 48 p, lt-leb b 57 q, lt-ltb b 97 r, le-ltb v 16 (omega arith)))
      (λ (r : 97 ≤ b). ⊎_elim (λ (s : 102 < b).
      let m = value_high q in
      let n : l ≡ 16 = letter ∙ simp (le-ltb b 97 r, lt-leb b 102 s) in
      simp (le-ltb b 48 p, lt-leb b 57 q, le-ltb b 97 r, lt-leb b 102 s, le-ltb v 16 (omega arith)))
      (λ (s : b ≤ 102).
      let m = value_high q in
      let n : l ≡ b - 87 = letter ∙ simp (le-ltb b 97 r, le-leb b 102 s) in
      let o : v ≡ b - 87 = omega arith in
      simp (le-ltb b 48 p, lt-leb b 57 q, le-ltb b 97 r, le-leb b 102 s, o, lt-ltb (b - 87) 16 (omega arith)))
      (lt_or_le 102 b))
      (lt_or_le b 97))
      (λ (q : b ≤ 57).
      let m : d ≡ b - 48 = digit ∙ simp (le-ltb b 48 p, le-leb b 57 q) in
      let n = value_low (omega arith) in
      let o : v ≡ b - 48 = omega arith in
      simp (le-ltb b 48 p, le-leb b 57 q, o, lt-ltb (b - 48) 16 (omega arith)))
      (lt_or_le 57 b))
      (lt_or_le b 48)
