-- In the merged trace each part stands as it was: what moves a bus as in the capture, what is taken as the logger has it.
use Prim.Native.Nat.{ℕ}
use native.Mathlib.Omega.{arith}
use mathlib.Core.Path.{◌≡◌, sym, ap₂, subst, ◌∙◌}
use mathlib.Core.Bool.{Bool, true, false}
use mathlib.Core.Logic.{⊎_elim}
use mathlib.Core.List.{List, [], ◌∷◌, ◌++◌, append-nil}
use lib.Dec.{ltb}
use Rattle.law.specs.Choice.{pick_says}
use Rattle.law.specs.Words.{All, Rising}
use Rattle.law.specs.Lists.{all_append, all_map, all_pass, filter_append, filter_all, filter_none}
use Rattle.law.specs.Ordering.{part_as_it_is}
use Rattle.record.specs.declared.Board.{Board}
use Rattle.record.specs.declared.Event.{Event}
use Rattle.record.specs.declared.Record.{Record}
use Rattle.text.specs.Texts.{Readable}
use Rattle.level.specs.declared.Level.{Level}
use Rattle.decode.specs.declared.bits.Bits.{Bits}
use Rattle.decode.specs.Bits.{events_of}
use Rattle.decode.specs.Decoded.{turn_of, records_at, decoded_from, decoded_by, flash_start, wires_start, flash_of, eeprom_of}
use Rattle.capture.specs.declared.Part.{Part}
use Rattle.capture.specs.declared.Part.TheVariants.{FlashEnds, EepromEnds, Lines}
use Rattle.std.specs.Prelude.{Ok}
use Rattle.capture.specs.Taken.{is_of, part_of, taken_of, stamped}
use Rattle.capture.specs.Captures.{none, line, fault_of, Faultless, Captures}
use Rattle.capture.specs.Merge.{number_of, gathered, Merged}
use Rattle.capture.proofs.OneCapture.{bad_not_nothing}
use Rattle.capture.proofs.Parts.{flash_not_taken, eeprom_not_taken, same, of_one, part_rising}
use Rattle.capture.proofs.Reading.{flash_moves, eeprom_moves, flash_kept, eeprom_kept}
use Rattle.raw.specs.Raw.{MergedOf}

-- a part of a part: itself, or nothing
abbrev if_same : Bool → List Record → List Record
if_same true l = l
if_same false l = []

part_of_part : (p q : Part) (rs : List Record) → part_of p (part_of q rs) ≡ if_same (same p q) (part_of q rs)
part_of_part p q rs = by (same p q) (all_pass _ _ (λ r h. of_one p q r.event h) rs)
  where
    by : (t : Bool) → All (λ (r : Record). is_of p r.event ≡ t) (part_of q rs) → part_of p (part_of q rs) ≡ if_same t (part_of q rs)
    by true h = filter_all _ (part_of q rs) h
    by false h = filter_none _ (part_of q rs) h

module _ (ts : List Record) (a : Level) (ls : List Level) (f : Faultless ts none (a ∷ ls)) (rs : List Record) where
  -- of all that is gathered, one part
  parted : (p : Part) → part_of p (gathered (a ∷ ls) rs)
      ≡ if_same (same p FlashEnds) (part_of FlashEnds rs) ++ (if_same (same p EepromEnds) (part_of EepromEnds rs) ++ if_same (same p Lines) (part_of Lines rs))
  parted p =
      filter_append _ (flash_of (a ∷ ls)) _
      ∙ ap₂ (λ (x y : List Record). x ++ y) (filter_none _ (flash_of (a ∷ ls)) (all_map _ _ (λ r h. flash_not_taken p r.event h) (flash_of (a ∷ ls)) (flash_moves ts a ls f)))
      (filter_append _ (eeprom_of (a ∷ ls)) _
      ∙ ap₂ (λ (x y : List Record). x ++ y) (filter_none _ (eeprom_of (a ∷ ls)) (all_map _ _ (λ r h. eeprom_not_taken p r.event h) (eeprom_of (a ∷ ls)) (eeprom_moves ts a ls f)))
      (filter_append _ (part_of FlashEnds rs) _
      ∙ ap₂ (λ (x y : List Record). x ++ y) (part_of_part p FlashEnds rs)
      (filter_append _ (part_of EepromEnds rs) _ ∙ ap₂ (λ (x y : List Record). x ++ y) (part_of_part p EepromEnds rs) (part_of_part p Lines rs))))

  own : (p : Part) → part_of p (gathered (a ∷ ls) rs) ≡ part_of p rs
  own FlashEnds = parted FlashEnds ∙ append-nil (part_of FlashEnds rs)
  own EepromEnds = parted EepromEnds ∙ append-nil (part_of EepromEnds rs)
  own Lines = parted Lines

  taken_kept : (m : List Record) → Rising (λ (r : Record). r.stamp) rs → Merged (a ∷ ls) rs m → (p : Part) → part_of p m ≡ part_of p rs
  taken_kept m back o p = part_as_it_is number_of _ o (subst (Rising number_of) (sym (own p)) (part_rising p rs back)) ∙ own p

-- ---- no decoded record has the stamp of a taken one
not_tied : (ts : List Record) (a b : Level) → fault_of ts (line a) b ≡ Ok tt → stamped ts b.stamp ≡ false
unfolding fault_of
not_tied ts a b h =
    ⊎_elim (λ z. bad_not_nothing z.1) (λ z. ⊎_elim (λ y. bad_not_nothing y.1) (λ y. y.0) (pick_says (stamped ts b.stamp) _ _ _ z.1))
    (pick_says (ltb b.stamp a.stamp) _ _ _ h)

all_given : (P : ℕ → Type 0) (t : ℕ) → P t → (es : List Event) → All (λ (r : Record). P r.stamp) (records_at t es)
unfolding All
all_given P t p [] = tt
all_given P t p (e ∷ es) = (p, all_given P t p es)

apart : (ts : List Record) (s : Bits) (a : Level) (ls : List Level) → Faultless ts (line a) ls → All (λ (r : Record). stamped ts r.stamp ≡ false) (decoded_from s a ls)
unfolding decoded_from Faultless All
apart ts s a [] f = tt
apart ts s a (b ∷ ls) f =
    all_append _ (records_at b.stamp (events_of (turn_of s a b).out)) _ (all_given (λ (t : ℕ). stamped ts t ≡ false) b.stamp (not_tied ts a b f.1) (events_of (turn_of s a b).out))
    (apart ts (turn_of s a b).bits b ls f.2)

behind_first : (ts : List Record) (a : Level) (ls : List Level) → Faultless ts none (a ∷ ls) → Faultless ts (line a) ls
unfolding Faultless
behind_first ts a ls f = f.2

pub exactly : {trace levels : List ℕ} {b : Board} {rs : List Record} (ls : List Level) (m : List Record) → Readable trace b rs → Captures (taken_of rs) levels ls → Merged ls rs m → MergedOf ls rs m
unfolding decoded_by
exactly [] m q c o = absurd (omega (arith, c.some))
exactly {rs = rs} (a ∷ ls) m q c o = record {
  flash = flash_kept (taken_of rs) a ls c.faultless rs m o;
  eeprom = eeprom_kept (taken_of rs) a ls c.faultless rs m o;
  taken = taken_kept (taken_of rs) a ls c.faultless rs m q.acceptable.never_back o;
  by_stamp = o.rising;
  flash_apart = apart (taken_of rs) flash_start a ls (behind_first (taken_of rs) a ls c.faultless);
  eeprom_apart = apart (taken_of rs) wires_start a ls (behind_first (taken_of rs) a ls c.faultless);
}
