-- The channels, and the record.
use Rattle.std.proofs.Common.{rules}
use Prim.Native.Nat.{ℕ, ◌≤◌}
use mathlib.Core.Path.{◌≡◌, refl, ap, ◌∙◌}
use mathlib.Core.Bool.{true, false}
use mathlib.Core.List.{List, [], ◌∷◌, ◌++◌}
use lib.Dec.{eqb}
use lib.ListN.{get_or, drop}
use Rattle.law.specs.Choice.{split}
use Rattle.law.specs.Words.{pick}
use Rattle.record.specs.declared.FlashEvent.{FlashEvent}
use Rattle.record.specs.declared.EepromEvent.{EepromEvent}
use Rattle.record.specs.declared.LineEvent.{LineEvent}
use Rattle.record.specs.declared.Event.{Event}
use Rattle.record.specs.declared.Event.TheVariants.{Flash, Eeprom, Line}
use Rattle.record.specs.declared.Record.{Record}
use Rattle.field.specs.Decimal.{largest, decimal, is_decimal}
use Rattle.field.specs.Ends.{tab}
use Rattle.field.specs.Fields.{fields_of, first_bad, one_of, same}
use Rattle.field.specs.Read.{Read, got, bad_field}
use Rattle.field.specs.Readers.{content_at, end_number}
use Rattle.field.specs.Reads.{Stands, Reads}
use Rattle.field.specs.Spelling.{no_bytes, put_all}
use Rattle.field.proofs.Reading.{Got, none, one}
use Rattle.field.proofs.Answers.{No, GotField, GotWord, NoWord}
use Rattle.field.proofs.FieldLaws.{Plain, plain_of, content_stands}
use Rattle.field.proofs.DecimalLaws.{plain_decimal, tests_decimal}
use Rattle.field.proofs.Sequence.{Begins, reads_as, content_of, bad_content, tab_refused, tab_then, not_allowed, field_begins, not_word, word_begins, one_of_lem, none_of}
use Rattle.line.specs.ChannelF.{spelled_flash, FlashOk}
use Rattle.line.specs.ChannelE.{spelled_eeprom, EepromOk}
use Rattle.line.specs.ChannelL.{spelled_line}
use Rattle.line.specs.Places.{is_channel, after_channel, event_places, bad_from, first_bad_field}
use Rattle.line.specs.Records.{spelled_event, spelled, EventOk, ReadsRecord}
use Rattle.line.specs.Readers.{ReadsFlash, ReadsEeprom, ReadsLine, ReadsEvent}
use Rattle.line.specs.Words.{channel_f, channel_e, channel_l}
use Rattle.line.proofs.Put.{put_on}
use Rattle.line.proofs.FlashLaws.{flash_at, flash_law}
use Rattle.line.proofs.EepromLaws.{eeprom_at, eeprom_law}
use Rattle.line.proofs.LineLaws.{line_at, line_law}

-- ---- the channels
-- the event that a line spells from its channel on, found from its bytes
unfoldable pub event_at : List ℕ → Event
event_at l = pick (eqb (get_or l 0 0) 70) (Flash (flash_at (drop 2 l))) (pick (eqb (get_or l 0 0) 69) (Eeprom (eeprom_at (drop 2 l))) (Line (line_at (drop 2 l))))

pub event_law : (x : Event) → EventOk x → (rest : List ℕ) → event_at (spelled_event x ++ rest) ≡ x
unfolding event_at spelled_event
event_law (Flash e) o rest = ap Flash (flash_law e o rest)
event_law (Eeprom e) o rest = ap Eeprom (eeprom_law e o rest)
event_law (Line e) o rest = ap Line (line_law e tt rest)

abbrev channel_word : Event → List ℕ
channel_word (Flash e) = channel_f
channel_word (Eeprom e) = channel_e
channel_word (Line e) = channel_l

abbrev event_tail : Event → List ℕ
event_tail (Flash e) = spelled_flash e
event_tail (Eeprom e) = spelled_eeprom e
event_tail (Line e) = spelled_line e

event_parts : (y : Event) → spelled_event y ≡ channel_word y ++ (tab ++ event_tail y)
unfolding spelled_event
event_parts y = search rules

channel_plain : (y : Event) → Plain (channel_word y)
channel_plain y = search (rules, plain_of)

channel_allowed : (y : Event) → is_channel (channel_word y) ≡ true
unfolding is_channel one_of same
channel_allowed y = search rules

heads : (a b : ℕ) → (a ≡ b → ⊥) → a ∷ [] ≡ b ∷ [] → ⊥
heads a b n e = n (ap (λ (l : List ℕ). get_or l 0 0) e)

of_flash_lem : (y : Event) → EventOk y × (channel_f ≡ channel_word y) → (x : FlashEvent) × FlashOk x × (y ≡ Flash x)
of_flash_lem y o = search rules

of_eeprom : (y : Event) → EventOk y × (channel_e ≡ channel_word y) → (x : EepromEvent) × EepromOk x × (y ≡ Eeprom x)
of_eeprom y o = search rules

of_line_lem : (y : Event) → EventOk y × (channel_l ≡ channel_word y) → (x : LineEvent) × Unit {0} × (y ≡ Line x)
of_line_lem y o = search rules

-- no longer word is allowed
channel_longer : (y : Event) (b : ℕ) (u : List ℕ) → is_channel (channel_word y ++ (b ∷ u)) ≡ false
unfolding is_channel one_of same
channel_longer y b u = search rules

module _ {text : List ℕ} {at : ℕ} where
  pub event_none : NoWord channel_f text at → NoWord channel_e text at → NoWord channel_l text at → ReadsEvent text at (bad_field 2)
  unfolding is_channel
  event_none f e l =
      bad_content bad_field is_channel after_channel 2 channel_word (λ y. tab ++ event_tail y) event_parts (λ y o. channel_plain y) (λ y o. channel_allowed y) (λ y l. refl)
      (split (is_channel (content_at text at)) (λ z. absurd (one_of_lem channel_f _ _ z (not_word f) (λ z1. one_of_lem channel_e _ _ z1 (not_word e) (λ z2. one_of_lem channel_l _ _ z2 (not_word l) (none_of _))))) (λ z. z))

  -- the field begins with the channel of y, of any event
  begins : {p : ℕ} (y : Event) → GotWord (channel_word y) text at p → Begins is_channel (channel_word y) text at p
  begins y g = word_begins (channel_plain y) (channel_allowed y) (channel_longer y) g

  -- the channel's tab is missing
  pub event_tab : {p : ℕ} (y : Event) → GotWord (channel_word y) text at p → NoWord tab text p → ReadsEvent text at (bad_field (end_number 2 text p))
  event_tab y g m = tab_refused bad_field is_channel after_channel 2 channel_word (λ y. tab ++ event_tail y) event_parts (λ y o. channel_plain y) (λ y o. channel_allowed y) (λ y l. refl) (begins y g) event_tail (λ y o. refl) m

  -- it is there
  on_event : {p q : ℕ} {r : Read Event} (y : Event) → GotWord (channel_word y) text at p → GotWord tab text p q
      → Reads event_tail (λ x. EventOk x × (channel_word y ≡ channel_word x)) got (bad_field (first_bad (after_channel (channel_word y) (fields_of (drop q text))) 3 (fields_of (drop q text)))) text q r
      → ReadsEvent text at r
  on_event y g h d = tab_then bad_field is_channel after_channel 2 channel_word (λ y. tab ++ event_tail y) event_parts (λ y o. channel_plain y) (λ y o. channel_allowed y) (λ y l. refl) (begins y g) event_tail (λ y o. refl) h d

  module _ {p q : ℕ} {r : Read Event} where
    pub event_flash : GotWord channel_f text at p → GotWord tab text p q → ReadsFlash text q r → ReadsEvent text at r
    unfolding same
    event_flash g h d = on_event (Flash FlashEvent.End) g h (reads_as Flash of_flash_lem (λ x o. (o, refl)) (λ x. refl) d)

    pub event_eeprom : GotWord channel_e text at p → GotWord tab text p q → ReadsEeprom text q r → ReadsEvent text at r
    unfolding same
    event_eeprom g h d = on_event (Eeprom EepromEvent.End) g h (reads_as Eeprom of_eeprom (λ x o. (o, refl)) (λ x. refl) d)

    pub event_line : GotWord channel_l text at p → GotWord tab text p q → ReadsLine text q r → ReadsEvent text at r
    unfolding same
    event_line g h d = on_event (Line LineEvent.SupplyOn) g h (reads_as Line of_line_lem (λ x o. (tt, refl)) (λ x. refl) d)

-- ---- the record
record_parts : (y : Record) → spelled y ≡ decimal y.stamp ++ (tab ++ spelled_event y.event)
unfolding spelled
record_parts y = refl

-- where a record stands, its stamp is the first field's content
pub stamp_content : {text : List ℕ} {at : ℕ} (r : Record) → Stands text at (spelled r) → content_at text at ≡ decimal r.stamp
stamp_content r s = content_of (λ y. decimal y.stamp) (λ y. tab ++ spelled_event y.event) record_parts (λ y l. refl) r (plain_decimal r.stamp) s

module _ {text : List ℕ} {at : ℕ} where
  pub record_1 : ((n : ℕ) → (n ≤ largest) × (content_at text at ≡ decimal n) → Stands text at (decimal n) → ⊥) → ReadsRecord text at (bad_field 1)
  unfolding first_bad_field
  record_1 m =
      bad_content bad_field is_decimal (λ _ fs. event_places fs) 1 (λ y. decimal y.stamp) (λ y. tab ++ spelled_event y.event) record_parts
      (λ y o. tests_decimal.plain y.stamp o.0) (λ y o. tests_decimal.yes y.stamp o.0) (λ y l. refl) (not_allowed tests_decimal (content_at text at) (λ n o e. m n (o, e) (content_stands text at (decimal n) e)))

  module _ {n p : ℕ} (a : GotField decimal (λ k. k ≤ largest) text at n p) where
    pub record_2 : NoWord tab text p → ReadsRecord text at (bad_field (end_number 1 text p))
    unfolding first_bad_field
    record_2 m =
        tab_refused bad_field is_decimal (λ _ fs. event_places fs) 1 (λ y. decimal y.stamp) (λ y. tab ++ spelled_event y.event) record_parts
        (λ y o. tests_decimal.plain y.stamp o.0) (λ y o. tests_decimal.yes y.stamp o.0) (λ y l. refl) (field_begins tests_decimal a) (λ y. spelled_event y.event) (λ y o. refl) m

    module _ {q : ℕ} (h : GotWord tab text p q) where
      on : {r : Read Record} → Reads (λ (y : Record). spelled_event y.event) (λ y. ((y.stamp ≤ largest) × EventOk y.event) × (decimal n ≡ decimal y.stamp)) got (bad_field (bad_from event_places 2 (drop q text))) text q r
          → ReadsRecord text at r
      unfolding first_bad_field
      on d =
          tab_then bad_field is_decimal (λ _ fs. event_places fs) 1 (λ y. decimal y.stamp) (λ y. tab ++ spelled_event y.event) record_parts
          (λ y o. tests_decimal.plain y.stamp o.0) (λ y o. tests_decimal.yes y.stamp o.0) (λ y l. refl) (field_begins tests_decimal a) (λ y. spelled_event y.event) (λ y o. refl) h d

      pub record_3 : No spelled_event EventOk text q → ReadsRecord text at (bad_field (bad_from event_places 2 (drop q text)))
      record_3 m = on (none (λ y o s. m y.event o.0.1 s))

      pub record_all : {e : Event} {v : ℕ} → Got spelled_event EventOk text q e v → ReadsRecord text at (got (record { stamp = n; event = e }) v)
      record_all {e} {v} g =
          on (one (record { stamp = n; event = e }) v ((a.ok.0, g.ok), refl) g.stands g.next
          (λ y o s. λ i. record { stamp = stamps y.stamp o.0.0 o.1 i; event = g.only y.event o.0.1 s i }))
        where
          stamps : (m : ℕ) → m ≤ largest → decimal n ≡ decimal m → n ≡ m
          stamps m o e = a.only m (o, a.ok.1 ∙ e) (content_stands text at (decimal m) (a.ok.1 ∙ e))

-- ---- an event is put
module _ (s : List ℕ) {s1 r : List ℕ} where
  pub put_event_flash : (e : FlashEvent) → s1 ≡ put_all s (70 ∷ 9 ∷ []) → r ≡ put_all s1 (spelled_flash e) → r ≡ put_all s (spelled_event (Flash e))
  unfolding spelled_event
  put_event_flash e a b = put_on s (70 ∷ 9 ∷ []) (spelled_flash e) a b

  pub put_event_eeprom : (e : EepromEvent) → s1 ≡ put_all s (69 ∷ 9 ∷ []) → r ≡ put_all s1 (spelled_eeprom e) → r ≡ put_all s (spelled_event (Eeprom e))
  unfolding spelled_event
  put_event_eeprom e a b = put_on s (69 ∷ 9 ∷ []) (spelled_eeprom e) a b

  pub put_event_line : (e : LineEvent) → s1 ≡ put_all s (76 ∷ 9 ∷ []) → r ≡ put_all s1 (spelled_line e) → r ≡ put_all s (spelled_event (Line e))
  unfolding spelled_event
  put_event_line e a b = put_on s (76 ∷ 9 ∷ []) (spelled_line e) a b

-- a record's line is put
pub put_record : (x : Record) {s s1 s2 r : List ℕ} → s ≡ no_bytes → s1 ≡ put_all s (decimal x.stamp) → s2 ≡ put_all s1 tab → r ≡ put_all s2 (spelled_event x.event) → r ≡ put_all no_bytes (spelled x)
unfolding spelled
put_record x {s} {s1} {s2} n e f g =
    put_on s (decimal x.stamp) (tab ++ spelled_event x.event) e (put_on s1 tab (spelled_event x.event) f g)
    ∙ ap (λ (k : List ℕ). put_all k (spelled x)) n
