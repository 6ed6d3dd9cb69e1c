-- The two descriptions of a line's form agree: its spelling stands at the front exactly when each field is allowed at its place, none is missing or one too many, and an LF ends the line.
use Prim.Native.Nat.{ℕ}
use native.Mathlib.Omega.{arith}
use mathlib.Core.Path.{◌≡◌, refl, sym, ap, subst, ◌∙◌}
use mathlib.Core.Logic.{◌↔◌}
use mathlib.Core.Bool.{Bool, true, false}
use mathlib.Core.List.{List, [], ◌∷◌, ◌++◌, append_assoc}
use lib.Dec.{eqb}
use lib.ListN.{drop}
use borrow.Author.Tests.{eqb-true, eqb-false, ne_eqb}
use Rattle.law.specs.Choice.{split, true_not_false}
use Rattle.law.specs.Words.{pick}
use Rattle.record.specs.declared.FlashEvent.{FlashEvent}
use Rattle.record.specs.declared.FlashEvent.TheVariants.{Select, Byte, Cut, Deselect, End}
use Rattle.record.specs.declared.EepromEvent.{EepromEvent}
use Rattle.record.specs.declared.EepromEvent.TheVariants as eeprom
use Rattle.record.specs.declared.EepromEvent.TheVariants.{Start, Stop}
use Rattle.record.specs.declared.LineEvent.{LineEvent}
use Rattle.record.specs.declared.LineEvent.TheVariants.{SupplyOn, SupplyOff, LockOn, LockOff}
use Rattle.record.specs.declared.Event.{Event}
use Rattle.record.specs.declared.Event.TheVariants.{Flash, Eeprom, Line}
use Rattle.record.specs.declared.Record.{Record}
use Rattle.record.specs.declared.Board.{Board}
use Rattle.field.specs.Decimal.{decimal, is_decimal}
use Rattle.field.specs.Digit.{digit_field, DigitOk, is_digit}
use Rattle.field.specs.Hex.{hex_field}
use Rattle.field.specs.Ends.{tab_byte, lf_byte, tab, lf}
use Rattle.field.specs.Fields.{fields_of, first_of, Places, same, one_of}
use Rattle.field.specs.Readers.{ends_here}
use Rattle.field.proofs.FieldLaws.{Plain, plain_of, more_after, fields_first, fields_plain, Tests}
use Rattle.field.proofs.DecimalLaws.{tests_decimal}
use Rattle.field.proofs.DigitLaws.{tests_digit}
use Rattle.field.proofs.Sequence.{one_of_lem, none_of}
use Rattle.line.specs.Boards.{spelled_places, spelled_board, BoardOk}
use Rattle.line.specs.ChannelF.{spelled_flash, FlashOk}
use Rattle.line.specs.ChannelE.{bit_digit, spelled_eeprom, EepromOk}
use Rattle.line.specs.ChannelL.{spelled_line}
use Rattle.line.specs.Places.{is_bit, is_flash_event, is_eeprom_event, is_line_event, after_flash, after_eeprom, flash_places, eeprom_places, line_places, is_channel, after_channel, event_places, record_places, is_board, is_status, after_status, board_places}
use Rattle.line.specs.Records.{spelled_event, spelled, EventOk, RecordOk}
use Rattle.line.specs.Words.{word_board, channel_f, channel_e, channel_l, word_sel, word_x, word_cut, word_des, word_end, word_sta, word_b, word_sto, word_on, word_off, word_lock, word_free}
use Rattle.line.proofs.BoardLaws.{tests_status}
use Rattle.line.proofs.FlashLaws.{any_byte}

-- ---- the form
-- each field is allowed at its place, and none is missing or one too many
unfoldable pub AllAllowed : Places → List (List ℕ) → Type 0
AllAllowed [] [] = Unit {0}
AllAllowed [] (w ∷ ws) = ⊥
AllAllowed (allowed ∷ places) [] = ⊥
AllAllowed (allowed ∷ places) (w ∷ ws) = (allowed w ≡ true) × AllAllowed places ws

-- whether an LF ends the line: there is one before the text's end
unfoldable pub ends_with_lf : List ℕ → Bool
ends_with_lf [] = false
ends_with_lf (b ∷ l) = pick (eqb b lf_byte) true (ends_with_lf l)

-- bytes of the form that places give, which may depend on the fields
abbrev pub Form : (List (List ℕ) → Places) → List ℕ → Type 0
Form places l = AllAllowed (places (fields_of l)) (fields_of l) × (ends_with_lf l ≡ true)

-- bytes that begin with the spelling of a value in range
abbrev pub AtFront : {A : Type 0} → (A → List ℕ) → (A → Type 0) → List ℕ → Type 0
AtFront {A} spell Ok l = (x : A) × Ok x × (rest : List ℕ) × (l ≡ spell x ++ rest)

-- ---- contents
lf_after : (w l : List ℕ) → Plain w → ends_with_lf (w ++ l) ≡ ends_with_lf l
unfolding Plain ends_with_lf
lf_after [] l p = refl
lf_after (b ∷ w) l p = simp (ne_eqb b lf_byte p.1, lf_after w l p.2)

-- the first field is a content
first_plain : (l : List ℕ) → Plain (first_of (fields_of l))
unfolding fields_of Plain
first_plain [] = tt
first_plain (b ∷ l) =
    split (eqb b lf_byte) (λ e. simp e tt)
    (λ e. split (eqb b tab_byte) (λ g. simp (e, g) tt) (λ g. let f = fields_first l in simp (e, g, f.are) (eqb-false b tab_byte g, eqb-false b lf_byte e, subst Plain (ap first_of f.are) (first_plain l))))

-- ---- the first field of bytes, allowed by t; what is due after it may depend on it and on the fields after it
module _ (t : List ℕ → Bool) (due : List ℕ → List (List ℕ) → Places) where
  abbrev From : List (List ℕ) → Places
  From fs = t ∷ due (first_of fs) (drop 1 fs)

  -- bytes of the form are such a content and what ends it
  record FirstAllowed (l : List ℕ) : Type 0 where
    word : List ℕ
    rest : List ℕ
    is : l ≡ word ++ rest
    passes : t word ≡ true
    ends : ends_here rest ≡ true
    more : AllAllowed (due word (more_after rest)) (more_after rest)
    lf_comes : ends_with_lf rest ≡ true

  first_allowed : (l : List ℕ) → Form From l → FirstAllowed l
  unfolding AllAllowed
  first_allowed l f =
      let z = fields_first l in
      let a = subst (λ (fs : List (List ℕ)). AllAllowed (From fs) fs) z.are f.0 in
      record {
        word = z.word;
        rest = z.rest;
        is = z.is;
        passes = a.0;
        ends = z.ends;
        more = a.1;
        lf_comes = sym (lf_after z.word z.rest (subst Plain (ap first_of z.are) (first_plain l))) ∙ ap ends_with_lf (sym z.is) ∙ f.1;
      }

  module _ {l : List ℕ} (f : FirstAllowed l) where
    -- something is due after it: a tab ends it, and what comes then has its form
    record Tabbed : Type 0 where
      rest : List ℕ
      is : l ≡ f.word ++ (tab ++ rest)
      form : Form (due f.word) rest

    tabbed : (AllAllowed (due f.word []) [] → ⊥) → Tabbed
    unfolding ends_with_lf
    tabbed n = go f.rest f.is f.more f.lf_comes
      where
        go : (r : List ℕ) → l ≡ f.word ++ r → AllAllowed (due f.word (more_after r)) (more_after r) → ends_with_lf r ≡ true → Tabbed
        go [] i m h = absurd (n m)
        go (b ∷ r) i m h = split (eqb b tab_byte) (λ g. at (eqb-true b tab_byte g)) (λ g. absurd (n (simp g at m)))
          where
            at : b ≡ tab_byte → Tabbed
            at g = record {
              rest = r;
              is = i ∙ ap (λ (k : ℕ). f.word ++ (k ∷ r)) g;
              form = (subst (λ (k : ℕ). AllAllowed (due f.word (more_after (k ∷ r))) (more_after (k ∷ r))) g m, subst (λ (k : ℕ). ends_with_lf (k ∷ r) ≡ true) g h);
            }

    -- nothing is: the LF ends it
    ended : ((fs : List (List ℕ)) → due f.word fs ≡ []) → (rest : List ℕ) × (l ≡ f.word ++ (lf ++ rest))
    unfolding AllAllowed ends_with_lf fields_of
    ended n = go f.rest f.is f.ends (subst (λ (ps : Places). AllAllowed ps (more_after f.rest)) (n (more_after f.rest)) f.more) f.lf_comes
      where
        go : (r : List ℕ) → l ≡ f.word ++ r → ends_here r ≡ true → AllAllowed [] (more_after r) → ends_with_lf r ≡ true → (rest : List ℕ) × (l ≡ f.word ++ (lf ++ rest))
        go [] i e m h = absurd (true_not_false (sym h))
        go (b ∷ r) i e m h = split (eqb b tab_byte) (λ g. absurd (subst (λ (fs : List (List ℕ)). AllAllowed [] fs) (fields_first r).are (simp g at m))) (λ g. (r, i ∙ ap (λ (k : ℕ). f.word ++ (k ∷ r)) (eqb-true b lf_byte (simp g at e))))

  -- and such bytes have the form
  form_tab : (w l : List ℕ) → Plain w → t w ≡ true → Form (due w) l → Form From (w ++ (tab ++ l))
  unfolding AllAllowed ends_with_lf
  form_tab w l p e f = (subst (λ (fs : List (List ℕ)). AllAllowed (From fs) fs) (sym (fields_plain w (tab ++ l) p refl)) (e, f.0), lf_after w (tab ++ l) p ∙ f.1)

  form_lf : (w l : List ℕ) → Plain w → t w ≡ true → due w [] ≡ [] → Form From (w ++ (lf ++ l))
  unfolding AllAllowed ends_with_lf
  form_lf w l p e d = (subst (λ (fs : List (List ℕ)). AllAllowed (From fs) fs) (sym (fields_plain w (lf ++ l) p refl)) (e, subst (λ (ps : Places). AllAllowed ps []) (sym d) tt), lf_after w (lf ++ l) p)

  -- a word after which nothing is due, and the value that has no field but this
  ended_as_lem : {A : Type 0} (spell : A → List ℕ) (Ok : A → Type 0) {l : List ℕ} (f : FirstAllowed l) (x : A) (w : List ℕ) → Ok x → ((fs : List (List ℕ)) → due w fs ≡ []) → ((r : List ℕ) → spell x ++ r ≡ w ++ (lf ++ r)) → f.word ≡ w → AtFront spell Ok l
  ended_as_lem spell Ok f x w o d s c = let e = ended f (λ fs. ap (λ (v : List ℕ). due v fs) c ∙ d fs) in (x, o, e.0, e.1 ∙ ap (λ (v : List ℕ). v ++ (lf ++ e.0)) c ∙ sym (s e.0))

-- ---- two last fields of any kinds
module _ {A B : Type 0} {t u : List ℕ → Bool} {spell₁ : A → List ℕ} {spell₂ : B → List ℕ} {Ok₁ : A → Type 0} {Ok₂ : B → Type 0} (j : Tests t spell₁ Ok₁) (k : Tests u spell₂ Ok₂) where
  two_form : (x : A) (y : B) → Ok₁ x → Ok₂ y → (rest : List ℕ) → Form (λ _. t ∷ u ∷ []) (spell₁ x ++ (tab ++ (spell₂ y ++ (lf ++ rest))))
  two_form x y o q rest = form_tab t (λ _ _. u ∷ []) (spell₁ x) (spell₂ y ++ (lf ++ rest)) (j.plain x o) (j.yes x o) (form_lf u (λ _ _. []) (spell₂ y) rest (k.plain y q) (k.yes y q) refl)

  two_found : (l : List ℕ) → Form (λ _. t ∷ u ∷ []) l → (x : A) × (y : B) × Ok₁ x × Ok₂ y × (rest : List ℕ) × (l ≡ spell₁ x ++ (tab ++ (spell₂ y ++ (lf ++ rest))))
  unfolding AllAllowed
  two_found l f =
      let a = first_allowed t (λ _ _. u ∷ []) l f in
      let b = tabbed t (λ _ _. u ∷ []) a (λ m. m) in
      let c = first_allowed u (λ _ _. []) b.rest b.form in
      let d = ended u (λ _ _. []) c (λ fs. refl) in
      let x = j.says a.word a.passes in
      let y = k.says c.word c.passes in
      (x.0, y.0, x.1, y.1, d.0, b.is ∙ (λ i. x.2 i ++ (tab ++ (d.1 ∙ ap (λ (w : List ℕ). w ++ (lf ++ d.0)) y.2) i)))

-- ---- channel F
flash_form : (x : FlashEvent) → FlashOk x → (rest : List ℕ) → Form flash_places (spelled_flash x ++ rest)
unfolding spelled_flash hex_field is_flash_event one_of same
flash_form Select o rest = form_lf is_flash_event (λ w _. after_flash w) word_sel rest (plain_of word_sel refl) refl refl
flash_form (Byte si so) o rest = form_tab is_flash_event (λ w _. after_flash w) word_x _ (plain_of word_x refl) refl (two_form any_byte any_byte si so o.0 o.1 rest)
flash_form Cut o rest = form_lf is_flash_event (λ w _. after_flash w) word_cut rest (plain_of word_cut refl) refl refl
flash_form Deselect o rest = form_lf is_flash_event (λ w _. after_flash w) word_des rest (plain_of word_des refl) refl refl
flash_form End o rest = form_lf is_flash_event (λ w _. after_flash w) word_end rest (plain_of word_end refl) refl refl

flash_found : (l : List ℕ) → Form flash_places l → AtFront spelled_flash FlashOk l
unfolding AllAllowed spelled_flash hex_field is_flash_event same
flash_found l z =
    one_of_lem word_sel _ _ f.passes (last Select word_sel tt (λ _. refl) (λ r. refl)) (λ e1.
    one_of_lem word_x _ _ e1 bytes (λ e2.
    one_of_lem word_cut _ _ e2 (last Cut word_cut tt (λ _. refl) (λ r. refl)) (λ e3.
    one_of_lem word_des _ _ e3 (last Deselect word_des tt (λ _. refl) (λ r. refl)) (λ e4.
    one_of_lem word_end _ _ e4 (last End word_end tt (λ _. refl) (λ r. refl)) (none_of _)))))
  where
    f : FirstAllowed is_flash_event (λ w _. after_flash w) l
    f = first_allowed is_flash_event (λ w _. after_flash w) l z

    last : (x : FlashEvent) (w : List ℕ) → FlashOk x → ((fs : List (List ℕ)) → after_flash w ≡ []) → ((r : List ℕ) → spelled_flash x ++ r ≡ w ++ (lf ++ r)) → f.word ≡ w → AtFront spelled_flash FlashOk l
    last = ended_as_lem is_flash_event (λ w _. after_flash w) spelled_flash FlashOk f

    bytes : f.word ≡ word_x → AtFront spelled_flash FlashOk l
    bytes c =
        let b = tabbed is_flash_event (λ w _. after_flash w) f (λ m. subst (λ (w : List ℕ). AllAllowed (after_flash w) []) c m) in
        let y = two_found any_byte any_byte b.rest (subst (λ (w : List ℕ). Form (λ _. after_flash w) b.rest) c b.form) in
        (Byte y.0 y.1, (y.2, y.3), y.4, b.is ∙ (λ i. c i ++ (tab ++ y.5 i)))

-- ---- channel E
-- the acknowledge bit's test allows its two digits
tests_bit : Tests is_bit bit_digit (λ _. Unit {0})
unfolding is_digit digit_field same
tests_bit = record {
  yes = λ a o. allowed a;
  says = λ w e.
      let z = (tests_digit 0 1).says w e in
      split (eqb z.0 1) (λ g. (true, tt, z.2 ∙ ap digit_field (eqb-true z.0 1 g))) (λ g. (false, tt, z.2 ∙ ap digit_field (nought z.0 z.1 (eqb-false z.0 1 g))));
  plain = λ a o. content a;
}
  where
    allowed : (a : Bool) → is_bit (bit_digit a) ≡ true
    allowed true = refl
    allowed false = refl

    nought : (d : ℕ) → DigitOk 0 1 d → (d ≡ 1 → ⊥) → d ≡ 0
    nought d o n = omega arith

    content : (a : Bool) → Plain (bit_digit a)
    content true = plain_of (49 ∷ []) refl
    content false = plain_of (48 ∷ []) refl

b_bytes : (b : ℕ) (a : Bool) (rest : List ℕ) → spelled_eeprom (eeprom.Byte b a) ++ rest ≡ word_b ++ (tab ++ (hex_field b ++ (tab ++ (bit_digit a ++ (lf ++ rest)))))
unfolding spelled_eeprom hex_field
b_bytes b true rest = refl
b_bytes b false rest = refl

eeprom_form : (x : EepromEvent) → EepromOk x → (rest : List ℕ) → Form eeprom_places (spelled_eeprom x ++ rest)
unfolding spelled_eeprom hex_field is_eeprom_event one_of same
eeprom_form Start o rest = form_lf is_eeprom_event (λ w _. after_eeprom w) word_sta rest (plain_of word_sta refl) refl refl
eeprom_form (eeprom.Byte b a) o rest =
    subst (Form eeprom_places) (sym (b_bytes b a rest))
    (form_tab is_eeprom_event (λ w _. after_eeprom w) word_b _ (plain_of word_b refl) refl (two_form any_byte tests_bit b a o tt rest))
eeprom_form eeprom.Cut o rest = form_lf is_eeprom_event (λ w _. after_eeprom w) word_cut rest (plain_of word_cut refl) refl refl
eeprom_form Stop o rest = form_lf is_eeprom_event (λ w _. after_eeprom w) word_sto rest (plain_of word_sto refl) refl refl
eeprom_form eeprom.End o rest = form_lf is_eeprom_event (λ w _. after_eeprom w) word_end rest (plain_of word_end refl) refl refl

eeprom_found : (l : List ℕ) → Form eeprom_places l → AtFront spelled_eeprom EepromOk l
unfolding AllAllowed spelled_eeprom hex_field is_eeprom_event same
eeprom_found l z =
    one_of_lem word_sta _ _ f.passes (last Start word_sta tt (λ _. refl) (λ r. refl)) (λ e1.
    one_of_lem word_b _ _ e1 bytes (λ e2.
    one_of_lem word_cut _ _ e2 (last eeprom.Cut word_cut tt (λ _. refl) (λ r. refl)) (λ e3.
    one_of_lem word_sto _ _ e3 (last Stop word_sto tt (λ _. refl) (λ r. refl)) (λ e4.
    one_of_lem word_end _ _ e4 (last eeprom.End word_end tt (λ _. refl) (λ r. refl)) (none_of _)))))
  where
    f : FirstAllowed is_eeprom_event (λ w _. after_eeprom w) l
    f = first_allowed is_eeprom_event (λ w _. after_eeprom w) l z

    last : (x : EepromEvent) (w : List ℕ) → EepromOk x → ((fs : List (List ℕ)) → after_eeprom w ≡ []) → ((r : List ℕ) → spelled_eeprom x ++ r ≡ w ++ (lf ++ r)) → f.word ≡ w → AtFront spelled_eeprom EepromOk l
    last = ended_as_lem is_eeprom_event (λ w _. after_eeprom w) spelled_eeprom EepromOk f

    bytes : f.word ≡ word_b → AtFront spelled_eeprom EepromOk l
    bytes c =
        let b = tabbed is_eeprom_event (λ w _. after_eeprom w) f (λ m. subst (λ (w : List ℕ). AllAllowed (after_eeprom w) []) c m) in
        let y = two_found any_byte tests_bit b.rest (subst (λ (w : List ℕ). Form (λ _. after_eeprom w) b.rest) c b.form) in
        (eeprom.Byte y.0 y.1, y.2, y.4, b.is ∙ (λ i. c i ++ (tab ++ y.5 i)) ∙ sym (b_bytes y.0 y.1 y.4))

-- ---- channel L
line_form : (x : LineEvent) (rest : List ℕ) → Form (λ _. line_places) (spelled_line x ++ rest)
unfolding spelled_line is_line_event one_of same
line_form SupplyOn rest = form_lf is_line_event (λ _ _. []) word_on rest (plain_of word_on refl) refl refl
line_form SupplyOff rest = form_lf is_line_event (λ _ _. []) word_off rest (plain_of word_off refl) refl refl
line_form LockOn rest = form_lf is_line_event (λ _ _. []) word_lock rest (plain_of word_lock refl) refl refl
line_form LockOff rest = form_lf is_line_event (λ _ _. []) word_free rest (plain_of word_free refl) refl refl

line_found : (l : List ℕ) → Form (λ _. line_places) l → AtFront spelled_line (λ _. Unit {0}) l
unfolding spelled_line is_line_event
line_found l z =
    one_of_lem word_on _ _ f.passes (last SupplyOn word_on (λ r. refl)) (λ e1.
    one_of_lem word_off _ _ e1 (last SupplyOff word_off (λ r. refl)) (λ e2.
    one_of_lem word_lock _ _ e2 (last LockOn word_lock (λ r. refl)) (λ e3.
    one_of_lem word_free _ _ e3 (last LockOff word_free (λ r. refl)) (none_of _))))
  where
    f : FirstAllowed is_line_event (λ _ _. []) l
    f = first_allowed is_line_event (λ _ _. []) l z

    last : (x : LineEvent) (w : List ℕ) → ((r : List ℕ) → spelled_line x ++ r ≡ w ++ (lf ++ r)) → f.word ≡ w → AtFront spelled_line (λ _. Unit {0}) l
    last x w = ended_as_lem is_line_event (λ _ _. []) spelled_line (λ _. Unit {0}) f x w tt (λ fs. refl)

-- ---- a record's line
event_form : (x : Event) → EventOk x → (rest : List ℕ) → Form event_places (spelled_event x ++ rest)
unfolding spelled_event is_channel one_of same
event_form (Flash e) o rest = form_tab is_channel after_channel channel_f (spelled_flash e ++ rest) (plain_of channel_f refl) refl (flash_form e o rest)
event_form (Eeprom e) o rest = form_tab is_channel after_channel channel_e (spelled_eeprom e ++ rest) (plain_of channel_e refl) refl (eeprom_form e o rest)
event_form (Line e) o rest = form_tab is_channel after_channel channel_l (spelled_line e ++ rest) (plain_of channel_l refl) refl (line_form e rest)

event_found : (l : List ℕ) → Form event_places l → AtFront spelled_event EventOk l
unfolding AllAllowed spelled_event is_channel same
event_found l z = one_of_lem channel_f _ _ f.passes of_flash_lem (λ e1. one_of_lem channel_e _ _ e1 of_eeprom (λ e2. one_of_lem channel_l _ _ e2 of_line_lem (none_of _)))
  where
    f : FirstAllowed is_channel after_channel l
    f = first_allowed is_channel after_channel l z

    -- the channel's tab, and what comes after it
    after : (w : List ℕ) → f.word ≡ w → (AllAllowed (after_channel w []) [] → ⊥) → (r : List ℕ) × (l ≡ w ++ (tab ++ r)) × Form (after_channel w) r
    after w c n =
        let b = tabbed is_channel after_channel f (λ m. n (subst (λ (v : List ℕ). AllAllowed (after_channel v []) []) c m)) in
        (b.rest, b.is ∙ ap (λ (v : List ℕ). v ++ (tab ++ b.rest)) c, subst (λ (v : List ℕ). Form (after_channel v) b.rest) c b.form)

    of_flash_lem : f.word ≡ channel_f → AtFront spelled_event EventOk l
    of_flash_lem c = let a = after channel_f c (λ m. m) in let y = flash_found a.0 a.2 in (Flash y.0, y.1, y.2, a.1 ∙ ap (λ (v : List ℕ). channel_f ++ (tab ++ v)) y.3)

    of_eeprom : f.word ≡ channel_e → AtFront spelled_event EventOk l
    of_eeprom c = let a = after channel_e c (λ m. m) in let y = eeprom_found a.0 a.2 in (Eeprom y.0, y.1, y.2, a.1 ∙ ap (λ (v : List ℕ). channel_e ++ (tab ++ v)) y.3)

    of_line_lem : f.word ≡ channel_l → AtFront spelled_event EventOk l
    of_line_lem c = let a = after channel_l c (λ m. m) in let y = line_found a.0 a.2 in (Line y.0, tt, y.2, a.1 ∙ ap (λ (v : List ℕ). channel_l ++ (tab ++ v)) y.3)

record_bytes : (r : Record) (rest : List ℕ) → spelled r ++ rest ≡ decimal r.stamp ++ (tab ++ (spelled_event r.event ++ rest))
unfolding spelled
record_bytes r rest = append_assoc (decimal r.stamp) (tab ++ spelled_event r.event) rest

-- a record's line stands at the front exactly when the bytes have a record's form
pub record_form : (l : List ℕ) → AtFront spelled RecordOk l ↔ Form record_places l
unfolding AllAllowed
record_form l = (
  (λ z. let r = z.0 in
      subst (Form record_places) (sym (z.3 ∙ record_bytes r z.2))
      (form_tab is_decimal (λ _ fs. event_places fs) (decimal r.stamp) (spelled_event r.event ++ z.2) (tests_decimal.plain r.stamp z.1.0) (tests_decimal.yes r.stamp z.1.0) (event_form r.event z.1.1 z.2))),
  λ z.
      let f = first_allowed is_decimal (λ _ fs. event_places fs) l z in
      let t = tabbed is_decimal (λ _ fs. event_places fs) f (λ m. m) in
      let x = tests_decimal.says f.word f.passes in
      let y = event_found t.rest t.form in
      (record { stamp = x.0; event = y.0 }, (x.1, y.1), y.2, t.is ∙ (λ i. x.2 i ++ (tab ++ y.3 i)) ∙ sym (record_bytes (record { stamp = x.0; event = y.0 }) y.2)),
)

-- ---- the board's line
-- its numbers: status, sector, address
abbrev number_places : Places
number_places = is_status ∷ after_status

abbrev spelled_numbers : Board → List ℕ → List ℕ
spelled_numbers b rest = hex_field b.status ++ (tab ++ (digit_field b.sector ++ (tab ++ (digit_field b.address ++ (lf ++ rest)))))

numbers_form : (b : Board) → BoardOk b → (rest : List ℕ) → Form (λ _. number_places) (spelled_numbers b rest)
numbers_form b o rest =
    form_tab is_status (λ _ _. after_status) (hex_field b.status) (digit_field b.sector ++ (tab ++ (digit_field b.address ++ (lf ++ rest)))) (tests_status.plain b.status o.0) (tests_status.yes b.status o.0)
    (two_form (tests_digit 1 4) (tests_digit 0 7) b.sector b.address o.1.0 o.1.1 rest)

numbers_found : (l : List ℕ) → Form (λ _. number_places) l → (b : Board) × BoardOk b × (rest : List ℕ) × (l ≡ spelled_numbers b rest)
unfolding AllAllowed
numbers_found l z =
    let f = first_allowed is_status (λ _ _. after_status) l z in
    let t = tabbed is_status (λ _ _. after_status) f (λ m. m) in
    let x = tests_status.says f.word f.passes in
    let y = two_found (tests_digit 1 4) (tests_digit 0 7) t.rest t.form in
    (record { status = x.0; sector = y.0; address = y.1 }, (x.1, (y.2, y.3)), y.4, t.is ∙ (λ i. x.2 i ++ (tab ++ y.5 i)))

-- the board's line stands at the front exactly when the bytes have the board's form
pub board_form : (l : List ℕ) → AtFront spelled_board BoardOk l ↔ Form (λ _. board_places) l
unfolding AllAllowed spelled_board spelled_places hex_field digit_field is_board one_of same
board_form l = (
  (λ z. subst (Form (λ _. board_places)) (sym z.3) (form_tab is_board (λ _ _. number_places) word_board (spelled_numbers z.0 z.2) (plain_of word_board refl) refl (numbers_form z.0 z.1 z.2))),
  λ z.
      let f = first_allowed is_board (λ _ _. number_places) l z in
      let t = tabbed is_board (λ _ _. number_places) f (λ m. m) in
      let word : f.word ≡ word_board = one_of_lem word_board [] f.word f.passes (λ e. e) (none_of f.word) in
      let y = numbers_found t.rest t.form in
      (y.0, y.1, y.2, t.is ∙ (λ i. word i ++ (tab ++ y.3 i))),
)
