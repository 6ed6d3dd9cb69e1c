-- The events of channel F.
use Rattle.std.proofs.Common.{rules}
use Prim.Native.Nat.{ℕ, ◌<◌}
use native.Mathlib.Omega.{arith}
use mathlib.Core.Path.{◌≡◌, refl, sym, ap, ◌∙◌}
use mathlib.Core.Logic.{◌⊎◌, ⊎_elim}
use mathlib.Core.Bool.{true, false}
use mathlib.Core.List.{List, [], ◌∷◌, ◌++◌}
use lib.Dec.{eqb}
use lib.ListN.{get_or}
use Rattle.law.specs.Choice.{split}
use Rattle.law.specs.Words.{pick}
use Rattle.record.specs.declared.Event.{Event}
use Rattle.record.specs.declared.FlashEvent.{FlashEvent}
use Rattle.record.specs.declared.FlashEvent.TheVariants.{Select, Byte, Cut, Deselect, End}
use Rattle.field.specs.Ends.{tab_byte, tab, lf}
use Rattle.field.specs.Fields.{one_of, same}
use Rattle.field.specs.Hex.{hex_field}
use Rattle.field.specs.Read.{Read, got, bad_field}
use Rattle.field.specs.Readers.{content_at, ends_here, end_number}
use Rattle.field.specs.Spelling.{put_all}
use Rattle.field.proofs.Reading.{Got}
use Rattle.field.proofs.Answers.{both_same, No, GotWord, NoWord}
use Rattle.field.proofs.FieldLaws.{Plain, plain_of, Tests}
use Rattle.field.proofs.HexLaws.{unhex, unhex_is, tests_byte}
use Rattle.field.proofs.Sequence.{Begins, reads_as, bad_content, tab_refused, tab_then, last_word, not_word, word_begins, one_of_lem, none_of}
use Rattle.line.specs.ChannelF.{spelled_flash, FlashOk}
use Rattle.line.specs.Places.{is_byte, is_flash_event, after_flash}
use Rattle.line.specs.Readers.{spelled_pair, PairOk, ReadsPair, ReadsFlash, ReadsLast}
use Rattle.line.specs.Words.{word_sel, word_x, word_cut, word_des, word_end}
use Rattle.line.proofs.Put.{put_on}
use Rattle.line.proofs.Two.{two_1, two_2, two_3, two_4, two_all}

-- ---- two bytes in hex
pub any_byte : Tests is_byte hex_field (λ n. n < 256)
any_byte = tests_byte (λ n. true) (λ n. n < 256) (λ x o. (o, refl)) (λ x o e. o)

pair_parts : (y : ℕ × ℕ) → spelled_pair y ≡ hex_field y.0 ++ (tab ++ (hex_field y.1 ++ lf))
unfolding spelled_pair
pair_parts y = refl

module _ {text : List ℕ} {at : ℕ} where
  pub pair_1 : No hex_field (λ n. n < 256) text at → ReadsPair text at (bad_field 4)
  pair_1 = two_1 bad_field any_byte any_byte 4 (λ y. y.0) (λ y. y.1) pair_parts (λ y o. o.0) (λ y o. o.1)

  module _ {x p : ℕ} (a : Got hex_field (λ n. n < 256) text at x p) where
    pub pair_2 : NoWord tab text p → ReadsPair text at (bad_field (end_number 4 text p))
    pair_2 = two_2 bad_field any_byte any_byte 4 (λ y. y.0) (λ y. y.1) pair_parts (λ y o. o.0) (λ y o. o.1) a

    module _ {q : ℕ} (h : GotWord tab text p q) where
      pub pair_3 : No hex_field (λ n. n < 256) text q → ReadsPair text at (bad_field 5)
      pair_3 = two_3 bad_field any_byte any_byte 4 (λ y. y.0) (λ y. y.1) pair_parts (λ y o. o.0) (λ y o. o.1) a h

      module _ {z s : ℕ} (b : Got hex_field (λ n. n < 256) text q z s) where
        pub pair_4 : NoWord lf text s → ReadsPair text at (bad_field (end_number 5 text s))
        pair_4 = two_4 bad_field any_byte any_byte 4 (λ y. y.0) (λ y. y.1) pair_parts (λ y o. o.0) (λ y o. o.1) a h b

        pub pair_all : {v : ℕ} → GotWord lf text s v → ReadsPair text at (got (Event.Flash (Byte x z)) v)
        pair_all m = two_all bad_field any_byte any_byte 4 (λ y. y.0) (λ y. y.1) pair_parts (λ y o. o.0) (λ y o. o.1) a h b m (x, z) (a.ok, b.ok) refl refl (λ y o e f. both_same e f)

-- ---- the events
-- the event that a line spells, found from its bytes
unfoldable pub flash_at : List ℕ → FlashEvent
flash_at l =
    pick (eqb (get_or l 0 0) 115) Select
    (pick (eqb (get_or l 0 0) 120) (Byte (unhex (get_or l 2 0) (get_or l 3 0)) (unhex (get_or l 5 0) (get_or l 6 0)))
    (pick (eqb (get_or l 0 0) 99) Cut (pick (eqb (get_or l 0 0) 100) Deselect End)))

pub flash_law : (x : FlashEvent) → FlashOk x → (rest : List ℕ) → flash_at (spelled_flash x ++ rest) ≡ x
unfolding flash_at spelled_flash hex_field
flash_law x o rest = search (unhex_is, rules)

-- an event's word, and what comes after it
abbrev flash_word : FlashEvent → List ℕ
flash_word Select = word_sel
flash_word (Byte si so) = word_x
flash_word Cut = word_cut
flash_word Deselect = word_des
flash_word End = word_end

abbrev flash_rest : FlashEvent → List ℕ
flash_rest Select = lf
flash_rest (Byte si so) = tab ++ spelled_pair (si, so)
flash_rest Cut = lf
flash_rest Deselect = lf
flash_rest End = lf

flash_parts : (y : FlashEvent) → spelled_flash y ≡ flash_word y ++ flash_rest y
unfolding spelled_flash spelled_pair
flash_parts y = search rules

flash_plain : (y : FlashEvent) → Plain (flash_word y)
flash_plain y = search (rules, plain_of)

flash_ends_lem : (y : FlashEvent) (l : List ℕ) → ends_here (flash_rest y ++ l) ≡ true
flash_ends_lem y l = search rules

flash_allowed : (y : FlashEvent) → is_flash_event (flash_word y) ≡ true
unfolding is_flash_event one_of same
flash_allowed y = search rules

-- an event's word tells which it is, but for the bytes of `x`
flash_by : (y : FlashEvent) → (y ≡ flash_at (flash_word y)) ⊎ (flash_word y ≡ word_x)
unfolding flash_at
flash_by y = search rules

flash_one : (w : List ℕ) → (w ≡ word_x → ⊥) → (y : FlashEvent) → FlashOk y × (w ≡ flash_word y) → y ≡ flash_at w
flash_one w n y o = ⊎_elim (λ e. e ∙ ap flash_at (sym o.1)) (λ e. absurd (n (o.1 ∙ e))) (flash_by y)

not_x : (b : ℕ) (v : List ℕ) → (b ≡ 120 → ⊥) → b ∷ v ≡ word_x → ⊥
not_x b v n e = n (ap (λ (l : List ℕ). get_or l 0 0) e)

-- the fields of `x`
abbrev flash_tail : FlashEvent → List ℕ
flash_tail Select = []
flash_tail (Byte si so) = spelled_pair (si, so)
flash_tail Cut = []
flash_tail Deselect = []
flash_tail End = []

x_rest : (y : FlashEvent) → FlashOk y × (word_x ≡ flash_word y) → flash_rest y ≡ tab_byte ∷ flash_tail y
x_rest y o = search rules

x_bytes : (y : FlashEvent) → FlashOk y × (word_x ≡ flash_word y) → (x : ℕ × ℕ) × PairOk x × (y ≡ Byte x.0 x.1)
x_bytes Select o = absurd (not_x 115 (101 ∷ 108 ∷ []) (λ e. omega arith) (sym o.1))
x_bytes (Byte si so) o = ((si, so), o.0, refl)
x_bytes Cut o = absurd (not_x 99 (117 ∷ 116 ∷ []) (λ e. omega arith) (sym o.1))
x_bytes Deselect o = absurd (not_x 100 (101 ∷ 115 ∷ []) (λ e. omega arith) (sym o.1))
x_bytes End o = absurd (not_x 101 (110 ∷ 100 ∷ []) (λ e. omega arith) (sym o.1))

-- no longer word is allowed
flash_longer : (y : FlashEvent) (b : ℕ) (u : List ℕ) → is_flash_event (flash_word y ++ (b ∷ u)) ≡ false
unfolding is_flash_event one_of same
flash_longer y b u = search rules

module _ {text : List ℕ} {at : ℕ} where
  pub flash_none : NoWord word_sel text at → NoWord word_cut text at → NoWord word_des text at → NoWord word_end text at → NoWord word_x text at → ReadsFlash text at (bad_field 3)
  unfolding is_flash_event
  flash_none sel cut des end byte =
      bad_content bad_field is_flash_event (λ w _. after_flash w) 3 flash_word flash_rest flash_parts (λ y o. flash_plain y) (λ y o. flash_allowed y) flash_ends_lem
      (split (is_flash_event (content_at text at))
      (λ e. absurd (one_of_lem word_sel _ _ e (not_word sel) (λ e1. one_of_lem word_x _ _ e1 (not_word byte) (λ e2. one_of_lem word_cut _ _ e2 (not_word cut) (λ e3. one_of_lem word_des _ _ e3 (not_word des) (λ e4. one_of_lem word_end _ _ e4 (not_word end) (none_of _)))))))
      (λ e. e))

  -- the field begins with the word of y
  begins : {p : ℕ} (y : FlashEvent) → GotWord (flash_word y) text at p → Begins is_flash_event (flash_word y) text at p
  begins y g = word_begins (flash_plain y) (flash_allowed y) (flash_longer y) g

  -- an event with no fields of its own
  module _ {p : ℕ} {r : Read Event} where
    last : (x : FlashEvent) → x ≡ flash_at (flash_word x) → (flash_word x ≡ word_x → ⊥) → FlashOk x → flash_rest x ≡ lf → after_flash (flash_word x) ≡ [] → GotWord (flash_word x) text at p → ReadsLast (Event.Flash x) text p r → ReadsFlash text at r
    last x i n o l d g h =
        last_word bad_field is_flash_event (λ w _. after_flash w) 3 flash_word flash_rest flash_parts (λ y _. flash_plain y) (λ y _. flash_allowed y) flash_ends_lem (begins x g) x o refl (λ y q. flash_one (flash_word x) n y q ∙ sym i) l (λ fs. d) h

    pub flash_sel : GotWord word_sel text at p → ReadsLast (Event.Flash Select) text p r → ReadsFlash text at r
    unfolding flash_at same
    flash_sel = last Select refl (not_x 115 (101 ∷ 108 ∷ []) (λ e. omega arith)) tt refl refl

    pub flash_cut : GotWord word_cut text at p → ReadsLast (Event.Flash Cut) text p r → ReadsFlash text at r
    unfolding flash_at same
    flash_cut = last Cut refl (not_x 99 (117 ∷ 116 ∷ []) (λ e. omega arith)) tt refl refl

    pub flash_des : GotWord word_des text at p → ReadsLast (Event.Flash Deselect) text p r → ReadsFlash text at r
    unfolding flash_at same
    flash_des = last Deselect refl (not_x 100 (101 ∷ 115 ∷ []) (λ e. omega arith)) tt refl refl

    pub flash_end_lem : GotWord word_end text at p → ReadsLast (Event.Flash End) text p r → ReadsFlash text at r
    unfolding flash_at same
    flash_end_lem = last End refl (not_x 101 (110 ∷ 100 ∷ []) (λ e. omega arith)) tt refl refl

  -- `x`
  module _ {p : ℕ} (w : GotWord word_x text at p) where
    pub flash_tab : NoWord tab text p → ReadsFlash text at (bad_field (end_number 3 text p))
    flash_tab m =
        tab_refused bad_field is_flash_event (λ w _. after_flash w) 3 flash_word flash_rest flash_parts (λ y o. flash_plain y) (λ y o. flash_allowed y) flash_ends_lem (begins (Byte 0 0) w) flash_tail x_rest m

    pub flash_x : {q : ℕ} {r : Read Event} → GotWord tab text p q → ReadsPair text q r → ReadsFlash text at r
    unfolding same
    flash_x g d =
        tab_then bad_field is_flash_event (λ w _. after_flash w) 3 flash_word flash_rest flash_parts (λ y o. flash_plain y) (λ y o. flash_allowed y) flash_ends_lem (begins (Byte 0 0) w) flash_tail x_rest g
        (reads_as (λ x. Byte x.0 x.1) x_bytes (λ x o. (o, refl)) (λ x. refl) d)

-- ---- a byte each way is put
pub put_pair : (s : List ℕ) (si so : ℕ) {s1 s2 s3 s4 r : List ℕ} → s1 ≡ put_all s (120 ∷ 9 ∷ []) → s2 ≡ put_all s1 (hex_field si) → s3 ≡ put_all s2 (9 ∷ []) → s4 ≡ put_all s3 (hex_field so) → r ≡ put_all s4 (10 ∷ [])
    → r ≡ put_all s (spelled_flash (Byte si so))
unfolding spelled_flash
put_pair s si so {s1} {s2} {s3} a b c d e =
    put_on s (120 ∷ 9 ∷ []) (hex_field si ++ (9 ∷ (hex_field so ++ (10 ∷ [])))) a
    (put_on s1 (hex_field si) (9 ∷ (hex_field so ++ (10 ∷ []))) b (put_on s2 (9 ∷ []) (hex_field so ++ (10 ∷ [])) c (put_on s3 (hex_field so) (10 ∷ []) d e)))
