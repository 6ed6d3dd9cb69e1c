-- The events of channel E.
use Rattle.std.proofs.Common.{rules}
use Prim.Native.Nat.{ℕ, ◌<◌}
use native.Mathlib.Omega.{arith}
use mathlib.Core.Bool.{Bool, true, false}
use mathlib.Core.Path.{◌≡◌, refl, sym, ap, ◌∙◌}
use mathlib.Core.Logic.{◌⊎◌, ⊎_elim}
use mathlib.Core.List.{List, [], ◌∷◌, ◌++◌}
use lib.Dec.{eqb}
use lib.ListN.{get_or}
use borrow.Author.Tests.{eqb-true, eqb-false}
use Rattle.law.specs.Choice.{split}
use Rattle.law.specs.Numbers.{flag_number}
use Rattle.law.specs.Words.{pick}
use Rattle.record.specs.declared.Event.{Event}
use Rattle.record.specs.declared.EepromEvent.{EepromEvent}
use Rattle.record.specs.declared.EepromEvent.TheVariants.{Start, Byte, Cut, Stop, End}
use Rattle.field.specs.Ends.{tab_byte, tab, lf}
use Rattle.field.specs.Fields.{one_of, same}
use Rattle.field.specs.Hex.{hex_field}
use Rattle.field.specs.Digit.{digit_field, DigitOk}
use Rattle.field.specs.Read.{Read, got, bad_field}
use Rattle.field.specs.Readers.{content_at, ends_here, end_number}
use Rattle.field.specs.Spelling.{put_all}
use Rattle.field.proofs.Reading.{Got}
use Rattle.field.proofs.Answers.{both_same, No, GotWord, NoWord}
use Rattle.field.proofs.FieldLaws.{Plain, plain_of}
use Rattle.field.proofs.HexLaws.{unhex, unhex_is}
use Rattle.field.proofs.DigitLaws.{tests_digit}
use Rattle.field.proofs.Sequence.{Begins, reads_as, bad_content, tab_refused, tab_then, last_word, not_word, word_begins, one_of_lem, none_of}
use Rattle.line.specs.ChannelE.{spelled_eeprom, EepromOk}
use Rattle.line.specs.Places.{is_eeprom_event, after_eeprom}
use Rattle.line.specs.Readers.{spelled_bit, spelled_data, DataOk, ReadsData, ReadsEeprom, ReadsLast}
use Rattle.line.specs.Words.{word_sta, word_b, word_cut, word_sto, word_end}
use Rattle.line.proofs.Put.{put_on}
use Rattle.line.proofs.FlashLaws.{any_byte}
use Rattle.line.proofs.Two.{two_1, two_2, two_3, two_4, two_all}

-- ---- a byte and its acknowledge bit, which is a digit 0 or 1
data_bit : (b : ℕ) (a : Bool) → spelled_data (b, a) ≡ hex_field b ++ (tab ++ (digit_field (flag_number a) ++ lf))
unfolding spelled_data spelled_bit digit_field
data_bit b true = refl
data_bit b false = refl

data_parts : (y : ℕ × Bool) → spelled_data y ≡ hex_field y.0 ++ (tab ++ (digit_field (flag_number y.1) ++ lf))
data_parts y = data_bit y.0 y.1

bit_ok : (a : Bool) → DigitOk 0 1 (flag_number a)
bit_ok true = (omega arith, omega arith, omega arith)
bit_ok false = (omega arith, omega arith, omega arith)

-- the digit's test for 1 is the bit
bit_is : (d : ℕ) (a : Bool) → d ≡ flag_number a → eqb d 1 ≡ a
bit_is d true e = ap (λ (k : ℕ). eqb k 1) e
bit_is d false e = ap (λ (k : ℕ). eqb k 1) e

bit_back : (d : ℕ) → DigitOk 0 1 d → d ≡ flag_number (eqb d 1)
bit_back d o = split (eqb d 1) (λ e. eqb-true d 1 e ∙ ap flag_number (sym e)) (λ e. zero d o (eqb-false d 1 e) ∙ ap flag_number (sym e))
  where
    zero : (k : ℕ) → DigitOk 0 1 k → (k ≡ 1 → ⊥) → k ≡ 0
    zero k l n = omega arith

module _ {text : List ℕ} {at : ℕ} where
  pub data_1 : No hex_field (λ n. n < 256) text at → ReadsData text at (bad_field 4)
  data_1 = two_1 bad_field any_byte (tests_digit 0 1) 4 (λ y. y.0) (λ y. flag_number y.1) data_parts (λ y o. o) (λ y o. bit_ok y.1)

  module _ {x p : ℕ} (a : Got hex_field (λ n. n < 256) text at x p) where
    pub data_2 : NoWord tab text p → ReadsData text at (bad_field (end_number 4 text p))
    data_2 = two_2 bad_field any_byte (tests_digit 0 1) 4 (λ y. y.0) (λ y. flag_number y.1) data_parts (λ y o. o) (λ y o. bit_ok y.1) a

    module _ {q : ℕ} (h : GotWord tab text p q) where
      pub data_3 : No digit_field (DigitOk 0 1) text q → ReadsData text at (bad_field 5)
      data_3 = two_3 bad_field any_byte (tests_digit 0 1) 4 (λ y. y.0) (λ y. flag_number y.1) data_parts (λ y o. o) (λ y o. bit_ok y.1) a h

      module _ {z s : ℕ} (b : Got digit_field (DigitOk 0 1) text q z s) where
        pub data_4 : NoWord lf text s → ReadsData text at (bad_field (end_number 5 text s))
        data_4 = two_4 bad_field any_byte (tests_digit 0 1) 4 (λ y. y.0) (λ y. flag_number y.1) data_parts (λ y o. o) (λ y o. bit_ok y.1) a h b

        pub data_all : {v : ℕ} → GotWord lf text s v → ReadsData text at (got (Event.Eeprom (Byte x (eqb z 1))) v)
        data_all m =
            two_all bad_field any_byte (tests_digit 0 1) 4 (λ y. y.0) (λ y. flag_number y.1) data_parts (λ y o. o) (λ y o. bit_ok y.1) a h b m
            (x, eqb z 1) a.ok refl (bit_back z b.ok) (λ y o e f. both_same e (bit_is z y.1 f))

-- ---- the events
-- the event that a line spells, found from its bytes
unfoldable pub eeprom_at : List ℕ → EepromEvent
eeprom_at l =
    pick (eqb (get_or l 0 0) 115) (pick (eqb (get_or l 2 0) 97) Start Stop)
    (pick (eqb (get_or l 0 0) 98) (Byte (unhex (get_or l 2 0) (get_or l 3 0)) (eqb (get_or l 5 0) 49))
    (pick (eqb (get_or l 0 0) 99) Cut End))

pub eeprom_law : (x : EepromEvent) → EepromOk x → (rest : List ℕ) → eeprom_at (spelled_eeprom x ++ rest) ≡ x
unfolding eeprom_at spelled_eeprom hex_field
eeprom_law x o rest = search (unhex_is, rules)

-- an event's word, and what comes after it
abbrev eeprom_word : EepromEvent → List ℕ
eeprom_word Start = word_sta
eeprom_word (Byte b a) = word_b
eeprom_word Cut = word_cut
eeprom_word Stop = word_sto
eeprom_word End = word_end

abbrev eeprom_rest : EepromEvent → List ℕ
eeprom_rest Start = lf
eeprom_rest (Byte b a) = tab ++ spelled_data (b, a)
eeprom_rest Cut = lf
eeprom_rest Stop = lf
eeprom_rest End = lf

eeprom_parts : (y : EepromEvent) → spelled_eeprom y ≡ eeprom_word y ++ eeprom_rest y
unfolding spelled_eeprom spelled_data spelled_bit
eeprom_parts y = search rules

eeprom_plain : (y : EepromEvent) → Plain (eeprom_word y)
eeprom_plain y = search (rules, plain_of)

eeprom_ends : (y : EepromEvent) (l : List ℕ) → ends_here (eeprom_rest y ++ l) ≡ true
eeprom_ends y l = search rules

eeprom_allowed : (y : EepromEvent) → is_eeprom_event (eeprom_word y) ≡ true
unfolding is_eeprom_event one_of same
eeprom_allowed y = search rules

-- an event's word tells which it is, but for the byte and the bit of `b`
eeprom_by : (y : EepromEvent) → (y ≡ eeprom_at (eeprom_word y)) ⊎ (eeprom_word y ≡ word_b)
unfolding eeprom_at
eeprom_by y = search rules

eeprom_one : (w : List ℕ) → (w ≡ word_b → ⊥) → (y : EepromEvent) → EepromOk y × (w ≡ eeprom_word y) → y ≡ eeprom_at w
eeprom_one w n y o = ⊎_elim (λ e. e ∙ ap eeprom_at (sym o.1)) (λ e. absurd (n (o.1 ∙ e))) (eeprom_by y)

not_b : (b : ℕ) (v : List ℕ) → (b ≡ 98 → ⊥) → b ∷ v ≡ word_b → ⊥
not_b b v n e = n (ap (λ (l : List ℕ). get_or l 0 0) e)

-- the fields of `b`
abbrev eeprom_tail : EepromEvent → List ℕ
eeprom_tail Start = []
eeprom_tail (Byte b a) = spelled_data (b, a)
eeprom_tail Cut = []
eeprom_tail Stop = []
eeprom_tail End = []

b_rest : (y : EepromEvent) → EepromOk y × (word_b ≡ eeprom_word y) → eeprom_rest y ≡ tab_byte ∷ eeprom_tail y
b_rest y o = search rules

b_fields : (y : EepromEvent) → EepromOk y × (word_b ≡ eeprom_word y) → (x : ℕ × Bool) × DataOk x × (y ≡ Byte x.0 x.1)
b_fields Start o = absurd (not_b 115 (116 ∷ 97 ∷ []) (λ e. omega arith) (sym o.1))
b_fields (Byte b a) o = ((b, a), o.0, refl)
b_fields Cut o = absurd (not_b 99 (117 ∷ 116 ∷ []) (λ e. omega arith) (sym o.1))
b_fields Stop o = absurd (not_b 115 (116 ∷ 111 ∷ []) (λ e. omega arith) (sym o.1))
b_fields End o = absurd (not_b 101 (110 ∷ 100 ∷ []) (λ e. omega arith) (sym o.1))

-- no longer word is allowed
eeprom_longer : (y : EepromEvent) (b : ℕ) (u : List ℕ) → is_eeprom_event (eeprom_word y ++ (b ∷ u)) ≡ false
unfolding is_eeprom_event one_of same
eeprom_longer y b u = search rules

module _ {text : List ℕ} {at : ℕ} where
  pub eeprom_none : NoWord word_sta text at → NoWord word_cut text at → NoWord word_sto text at → NoWord word_end text at → NoWord word_b text at → ReadsEeprom text at (bad_field 3)
  unfolding is_eeprom_event
  eeprom_none sta cut sto end byte =
      bad_content bad_field is_eeprom_event (λ w _. after_eeprom w) 3 eeprom_word eeprom_rest eeprom_parts (λ y o. eeprom_plain y) (λ y o. eeprom_allowed y) eeprom_ends
      (split (is_eeprom_event (content_at text at))
      (λ e. absurd (one_of_lem word_sta _ _ e (not_word sta) (λ e1. one_of_lem word_b _ _ e1 (not_word byte) (λ e2. one_of_lem word_cut _ _ e2 (not_word cut) (λ e3. one_of_lem word_sto _ _ e3 (not_word sto) (λ e4. one_of_lem word_end _ _ e4 (not_word end) (none_of _)))))))
      (λ e. e))

  -- the field begins with the word of y
  begins : {p : ℕ} (y : EepromEvent) → GotWord (eeprom_word y) text at p → Begins is_eeprom_event (eeprom_word y) text at p
  begins y g = word_begins (eeprom_plain y) (eeprom_allowed y) (eeprom_longer y) g

  -- an event with no fields of its own
  module _ {p : ℕ} {r : Read Event} where
    last : (x : EepromEvent) → x ≡ eeprom_at (eeprom_word x) → (eeprom_word x ≡ word_b → ⊥) → EepromOk x → eeprom_rest x ≡ lf → after_eeprom (eeprom_word x) ≡ [] → GotWord (eeprom_word x) text at p → ReadsLast (Event.Eeprom x) text p r → ReadsEeprom text at r
    last x i n o l d g h =
        last_word bad_field is_eeprom_event (λ w _. after_eeprom w) 3 eeprom_word eeprom_rest eeprom_parts (λ y _. eeprom_plain y) (λ y _. eeprom_allowed y) eeprom_ends (begins x g) x o refl (λ y q. eeprom_one (eeprom_word x) n y q ∙ sym i) l (λ fs. d) h

    pub eeprom_sta : GotWord word_sta text at p → ReadsLast (Event.Eeprom Start) text p r → ReadsEeprom text at r
    unfolding eeprom_at same
    eeprom_sta = last Start refl (not_b 115 (116 ∷ 97 ∷ []) (λ e. omega arith)) tt refl refl

    pub eeprom_cut : GotWord word_cut text at p → ReadsLast (Event.Eeprom Cut) text p r → ReadsEeprom text at r
    unfolding eeprom_at same
    eeprom_cut = last Cut refl (not_b 99 (117 ∷ 116 ∷ []) (λ e. omega arith)) tt refl refl

    pub eeprom_sto : GotWord word_sto text at p → ReadsLast (Event.Eeprom Stop) text p r → ReadsEeprom text at r
    unfolding eeprom_at same
    eeprom_sto = last Stop refl (not_b 115 (116 ∷ 111 ∷ []) (λ e. omega arith)) tt refl refl

    pub eeprom_end_lem : GotWord word_end text at p → ReadsLast (Event.Eeprom End) text p r → ReadsEeprom text at r
    unfolding eeprom_at same
    eeprom_end_lem = last End refl (not_b 101 (110 ∷ 100 ∷ []) (λ e. omega arith)) tt refl refl

  -- `b`
  module _ {p : ℕ} (w : GotWord word_b text at p) where
    pub eeprom_tab : NoWord tab text p → ReadsEeprom text at (bad_field (end_number 3 text p))
    eeprom_tab m =
        tab_refused bad_field is_eeprom_event (λ w _. after_eeprom w) 3 eeprom_word eeprom_rest eeprom_parts (λ y o. eeprom_plain y) (λ y o. eeprom_allowed y) eeprom_ends (begins (Byte 0 false) w) eeprom_tail b_rest m

    pub eeprom_b : {q : ℕ} {r : Read Event} → GotWord tab text p q → ReadsData text q r → ReadsEeprom text at r
    unfolding same
    eeprom_b g d =
        tab_then bad_field is_eeprom_event (λ w _. after_eeprom w) 3 eeprom_word eeprom_rest eeprom_parts (λ y o. eeprom_plain y) (λ y o. eeprom_allowed y) eeprom_ends (begins (Byte 0 false) w) eeprom_tail b_rest g
        (reads_as (λ x. Byte x.0 x.1) b_fields (λ x o. (o, refl)) (λ x. refl) d)

-- ---- a byte and its acknowledge bit are put
pub put_data : (s : List ℕ) (b : ℕ) (a : Bool) {s1 s2 r : List ℕ} → s1 ≡ put_all s (98 ∷ 9 ∷ []) → s2 ≡ put_all s1 (hex_field b) → r ≡ put_all s2 (spelled_bit a) → r ≡ put_all s (spelled_eeprom (Byte b a))
unfolding spelled_eeprom spelled_bit
put_data s b a {s1} e f g = put_on s (98 ∷ 9 ∷ []) (hex_field b ++ spelled_bit a) e (put_on s1 (hex_field b) (spelled_bit a) f g)
