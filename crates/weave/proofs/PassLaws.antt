-- Why a line that has not a channel's letter may be passed over unread: its record is of no such part, and it ends at its first LF.
use Prim.Native.Nat.{ℕ, suc, ◌+◌, ◌<◌}
use native.Mathlib.Omega.{arith}
use mathlib.Core.Path.{◌≡◌, refl, sym, ap, subst, ◌∙◌}
use mathlib.Core.Bool.{true, false}
use mathlib.Core.List.{List, [], ◌∷◌, ◌++◌, append_assoc}
use lib.ListN.{length, get_or, drop, length-append}
use lib.Seq.{drop-cons}
use Rattle.law.specs.Words.{All}
use Rattle.law.specs.Choice.{true_not_false, split}
use Rattle.law.specs.Lists.{all_map, all_append}
use Rattle.record.specs.declared.Event.{Event}
use Rattle.record.specs.declared.Event.TheVariants.{Flash, Eeprom, Line}
use Rattle.record.specs.declared.FlashEvent.{FlashEvent}
use Rattle.record.specs.declared.FlashEvent.TheVariants as flash
use Rattle.record.specs.declared.EepromEvent.{EepromEvent}
use Rattle.record.specs.declared.EepromEvent.TheVariants as eeprom
use Rattle.record.specs.declared.LineEvent.{LineEvent}
use Rattle.record.specs.declared.LineEvent.TheVariants as line
use Rattle.record.specs.declared.Record.{Record}
use Rattle.field.specs.Ends.{lf_byte, tab, lf}
use Rattle.field.specs.Decimal.{decimal}
use Rattle.field.specs.Hex.{hex_field}
use Rattle.field.proofs.FieldLaws.{Plain, plain_of}
use Rattle.field.proofs.DecimalLaws.{plain_decimal}
use Rattle.field.proofs.HexLaws.{plain_hex}
use Rattle.line.specs.Records.{spelled, spelled_event}
use Rattle.line.specs.ChannelF.{spelled_flash}
use Rattle.line.specs.ChannelE.{spelled_eeprom, bit_digit}
use Rattle.line.specs.ChannelL.{spelled_line}
use Rattle.line.specs.Words.{channel_f, channel_e, channel_l, word_sel, word_x, word_cut, word_des, word_end, word_sta, word_b, word_sto, word_on, word_off, word_lock, word_free}
use Rattle.text.specs.Texts.{spelled_all}
use Rattle.capture.specs.declared.Part.{Part}
use Rattle.capture.specs.declared.Part.TheVariants.{FlashEnds, EepromEnds, Lines}
use Rattle.capture.specs.Taken.{is_of, part_of}
use Rattle.capture.specs.OneByOne.{From, records}
use Rattle.weave.specs.Feeding.{TraceLeft, letter_of, Passes}
use Rattle.weave.proofs.FeedLaws.{part_out}

-- ---- a line has one LF, its last byte
abbrev NoLf : ℕ → Type 0
NoLf b = b ≡ lf_byte → ⊥

record Ends (l : List ℕ) : Type 0 where
  body : List ℕ
  clean : All NoLf body
  is : l ≡ body ++ lf

plain_clean : (w : List ℕ) → Plain w → All NoLf w
unfolding All Plain
plain_clean [] p = tt
plain_clean (b ∷ w) p = (p.1, plain_clean w p.2)

ends_lf : Ends lf
unfolding All
ends_lf = record { body = []; clean = tt; is = refl }

ends_plain : (w : List ℕ) {l : List ℕ} → Plain w → Ends l → Ends (w ++ l)
ends_plain w p e = record {
  body = w ++ e.body;
  clean = all_append NoLf w e.body (plain_clean w p) e.clean;
  is = ap (λ (l : List ℕ). w ++ l) e.is ∙ sym (append_assoc w e.body lf);
}

ends_tab : {l : List ℕ} → Ends l → Ends (tab ++ l)
unfolding All
ends_tab e = record { body = tab ++ e.body; clean = ((λ z. absurd (omega (arith, z))), e.clean); is = ap (λ (l : List ℕ). tab ++ l) e.is }

word_ends_lem : (w : List ℕ) → Plain w → Ends (w ++ lf)
word_ends_lem w p = ends_plain w p ends_lf

flash_ends_lem : (e : FlashEvent) → Ends (spelled_flash e)
unfolding spelled_flash
flash_ends_lem flash.Select = word_ends_lem word_sel (plain_of word_sel refl)
flash_ends_lem (flash.Byte si so) =
    ends_plain word_x (plain_of word_x refl) (ends_tab (ends_plain (hex_field si) (plain_hex si) (ends_tab (word_ends_lem (hex_field so) (plain_hex so)))))
flash_ends_lem flash.Cut = word_ends_lem word_cut (plain_of word_cut refl)
flash_ends_lem flash.Deselect = word_ends_lem word_des (plain_of word_des refl)
flash_ends_lem flash.End = word_ends_lem word_end (plain_of word_end refl)

eeprom_ends : (e : EepromEvent) → Ends (spelled_eeprom e)
unfolding spelled_eeprom
eeprom_ends eeprom.Start = word_ends_lem word_sta (plain_of word_sta refl)
eeprom_ends (eeprom.Byte b false) =
    ends_plain word_b (plain_of word_b refl) (ends_tab (ends_plain (hex_field b) (plain_hex b) (ends_tab (word_ends_lem (bit_digit false) (plain_of (bit_digit false) refl)))))
eeprom_ends (eeprom.Byte b true) =
    ends_plain word_b (plain_of word_b refl) (ends_tab (ends_plain (hex_field b) (plain_hex b) (ends_tab (word_ends_lem (bit_digit true) (plain_of (bit_digit true) refl)))))
eeprom_ends eeprom.Cut = word_ends_lem word_cut (plain_of word_cut refl)
eeprom_ends eeprom.Stop = word_ends_lem word_sto (plain_of word_sto refl)
eeprom_ends eeprom.End = word_ends_lem word_end (plain_of word_end refl)

line_ends : (e : LineEvent) → Ends (spelled_line e)
unfolding spelled_line
line_ends line.SupplyOn = word_ends_lem word_on (plain_of word_on refl)
line_ends line.SupplyOff = word_ends_lem word_off (plain_of word_off refl)
line_ends line.LockOn = word_ends_lem word_lock (plain_of word_lock refl)
line_ends line.LockOff = word_ends_lem word_free (plain_of word_free refl)

-- ---- and the letter of its channel
abbrev Clean : ℕ → ℕ → Type 0
Clean letter b = (b ≡ letter → ⊥) × NoLf b

all_right : (P : ℕ → Type 0) (u v : List ℕ) → All P (u ++ v) → All P v
unfolding All
all_right P [] v h = h
all_right P (b ∷ u) v h = all_right P u v h.1

-- a line of a channel
record Lettered (c : ℕ) (l : List ℕ) : Type 0 where
  body : List ℕ
  clean : All NoLf body
  is : l ≡ body ++ lf
  has : All (Clean c) body → ⊥

lettered : (s c : ℕ) {l : List ℕ} → Plain (c ∷ []) → Ends l → Lettered c (decimal s ++ (tab ++ ((c ∷ []) ++ (tab ++ l))))
unfolding All
lettered s c p e =
    let y = tab ++ ((c ∷ []) ++ (tab ++ e.body)) in
    record {
      body = decimal s ++ y;
      clean = all_append NoLf (decimal s) y (plain_clean (decimal s) (plain_decimal s)) ((λ q. absurd (omega (arith, q))), ((plain_clean (c ∷ []) p).0, ((λ q. absurd (omega (arith, q))), e.clean)));
      is = ap (λ (l : List ℕ). decimal s ++ (tab ++ ((c ∷ []) ++ (tab ++ l)))) e.is ∙ sym (append_assoc (decimal s) y lf);
      has = λ h. (all_right (Clean c) (decimal s) y h).1.0.0 refl;
    }

-- a record's line: one LF, and the letter of each part that the record is of
record Line' (r : Record) : Type 0 where
  body : List ℕ
  clean : All NoLf body
  is : spelled r ≡ body ++ lf
  own : (w : Part) → is_of w r.event ≡ true → All (Clean (letter_of w)) body → ⊥

never : {A : Type 0} → false ≡ true → A
never e = absurd (true_not_false (sym e))

line_of : (s : ℕ) (e : Event) → Line' (record { stamp = s; event = e })
unfolding spelled spelled_event
line_of s (Flash e) = let z = lettered s 70 (plain_of channel_f refl) (flash_ends_lem e) in record { body = z.body; clean = z.clean; is = z.is; own = own z }
  where
    own : (z : Lettered 70 (decimal s ++ (tab ++ (channel_f ++ (tab ++ spelled_flash e))))) (w : Part) → is_of w (Flash e) ≡ true → All (Clean (letter_of w)) z.body → ⊥
    own z FlashEnds h c = z.has c
    own z EepromEnds h c = never h
    own z Lines h c = never h
line_of s (Eeprom e) = let z = lettered s 69 (plain_of channel_e refl) (eeprom_ends e) in record { body = z.body; clean = z.clean; is = z.is; own = own z }
  where
    own : (z : Lettered 69 (decimal s ++ (tab ++ (channel_e ++ (tab ++ spelled_eeprom e))))) (w : Part) → is_of w (Eeprom e) ≡ true → All (Clean (letter_of w)) z.body → ⊥
    own z FlashEnds h c = never h
    own z EepromEnds h c = z.has c
    own z Lines h c = never h
line_of s (Line e) = let z = lettered s 76 (plain_of channel_l refl) (line_ends e) in record { body = z.body; clean = z.clean; is = z.is; own = own z }
  where
    own : (z : Lettered 76 (decimal s ++ (tab ++ (channel_l ++ (tab ++ spelled_line e))))) (w : Part) → is_of w (Line e) ≡ true → All (Clean (letter_of w)) z.body → ⊥
    own z FlashEnds h c = never h
    own z EepromEnds h c = never h
    own z Lines h c = z.has c

-- ---- the first LF is in one place
first_lf : (u w v x : List ℕ) → All NoLf u → All NoLf w → u ++ (lf_byte ∷ v) ≡ w ++ (lf_byte ∷ x) → (u ≡ w) × (v ≡ x)
unfolding All
first_lf [] [] v x p q e = (refl, ap (λ (l : List ℕ). drop 1 l) e)
first_lf [] (b ∷ w) v x p q e = absurd (q.0 (sym (ap (λ (l : List ℕ). get_or l 0 0) e)))
first_lf (a ∷ u) [] v x p q e = absurd (p.0 (ap (λ (l : List ℕ). get_or l 0 0) e))
first_lf (a ∷ u) (b ∷ w) v x p q e =
    let z = first_lf u w v x p.1 q.1 (ap (λ (l : List ℕ). drop 1 l) e) in
    let h : a ≡ b = ap (λ (l : List ℕ). get_or l 0 0) e in
    ((λ i. h i ∷ z.0 i), z.1)

next_byte : (text : List ℕ) (k : ℕ) → k < length text → drop k text ≡ get_or text k 0 ∷ drop (k + 1) text
next_byte text k h = let one : suc k ≡ k + 1 = omega arith in drop-cons text k 0 h ∙ ap (λ (n : ℕ). get_or text k 0 ∷ drop n text) one

-- ---- the search: up to `start` no record of the part, and from there to k neither its letter nor an LF
pub record Passing (text : List ℕ) (letter from start k : ℕ) : Type 0 where
  pub passes : Passes text letter from start
  pub front : List ℕ
  pub clean : All (Clean letter) front
  pub is : drop start text ≡ front ++ drop k text

pub pass_begin : (text : List ℕ) (letter from : ℕ) → Passing text letter from from from
unfolding All
pass_begin text letter from = record { passes = record { passes = λ w e xs k. k }; front = []; clean = tt; is = refl }

module _ {text : List ℕ} {letter from start k : ℕ} (p : Passing text letter from start k) (h : k < length text) (n : get_or text k 0 ≡ letter → ⊥) where
  pub pass_byte : (get_or text k 0 ≡ lf_byte → ⊥) → Passing text letter from start (k + 1)
  unfolding All
  pass_byte m = record {
    passes = p.passes;
    front = p.front ++ (get_or text k 0 ∷ []);
    clean = all_append (Clean letter) p.front (get_or text k 0 ∷ []) p.clean ((n, m), tt);
    is = p.is ∙ ap (λ (l : List ℕ). p.front ++ l) (next_byte text k h) ∙ sym (append_assoc p.front (get_or text k 0 ∷ []) (drop (k + 1) text));
  }

  -- the line that ends at k is passed over
  over : get_or text k 0 ≡ lf_byte → (w : Part) → letter_of w ≡ letter → (xs rs : List Record) → From records text start rs → xs ≡ part_of w rs → TraceLeft text w (k + 1) xs
  unfolding All records spelled_all
  over e w c xs [] f is = absurd (omega (arith, ap length (sym f.is ∙ p.is ∙ ap (λ (l : List ℕ). p.front ++ l) (next_byte text k h)), length-append p.front (get_or text k 0 ∷ drop (k + 1) text)))
  over e w c xs (r ∷ rs) f is =
      let y = line_of r.stamp r.event in
      let whole : p.front ++ (lf_byte ∷ drop (k + 1) text) ≡ y.body ++ (lf_byte ∷ spelled_all rs) =
      ap (λ (b : ℕ). p.front ++ (b ∷ drop (k + 1) text)) (sym e) ∙ ap (λ (l : List ℕ). p.front ++ l) (sym (next_byte text k h)) ∙ sym p.is ∙ f.is ∙ ap (λ (l : List ℕ). l ++ spelled_all rs) y.is
      ∙ append_assoc y.body lf (spelled_all rs) in
      let z = first_lf p.front y.body (drop (k + 1) text) (spelled_all rs) (all_map (Clean letter) NoLf (λ b q. q.1) p.front p.clean) y.clean whole in
      let none : is_of w r.event ≡ false =
      split (is_of w r.event) (λ t. absurd (y.own w t (subst (λ (a : ℕ). All (Clean a) y.body) (sym c) (subst (All (Clean letter)) z.0 p.clean)))) (λ t. t) in
      record { rs = rs; from = record { fits = f.fits.1; is = z.1 }; is = is ∙ part_out w r rs none }

  pub pass_line : get_or text k 0 ≡ lf_byte → Passing text letter from (k + 1) (k + 1)
  unfolding All
  pass_line e = record {
    passes = record { passes = λ w c xs t. let z = p.passes.passes w c xs t in over e w c xs z.rs z.from z.is };
    front = [];
    clean = tt;
    is = refl;
  }
