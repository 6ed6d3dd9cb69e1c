-- The merged trace is readable: no line of wrong form, no stamp that goes back, no impossible record; and its records are the merged ones, each channel's in its own order.
use mathlib.Core.Path.{◌≡◌, refl, sym, ap₂, subst, ◌∙◌}
use mathlib.Core.Bool.{Bool, true, false}
use mathlib.Core.Logic.{⊎_elim}
use mathlib.Core.List.{List, [], ◌∷◌, ◌++◌, append-nil}
use Prim.Native.Nat.{ℕ, ◌≤◌}
use native.Mathlib.Omega.{arith}
use Rattle.law.specs.Choice.{true_not_false, pick_says, both}
use Rattle.law.specs.Words.{All, Rising, filter}
use Rattle.law.specs.Lists.{all_append, all_map, all_pass, all_filter, filter_append, filter_all, filter_none}
use Rattle.law.specs.Ordering.{part_as_it_is, order_all}
use Rattle.record.specs.declared.Event.{Event}
use Rattle.record.specs.declared.Event.TheVariants.{Flash, Eeprom, Line}
use Rattle.record.specs.declared.Record.{Record}
use Rattle.record.specs.declared.Board.{Board}
use Rattle.line.specs.Records.{RecordOk}
use Rattle.text.specs.declared.buses.Bus.TheVariants.{Closed}
use Rattle.text.specs.Texts.{spelled_trace, Acceptable, Readable}
use Rattle.level.specs.declared.Level.{Level}
use Rattle.level.specs.Rest.{resting}
use Rattle.decode.specs.Decoded.{decoded_by, flash_start, wires_start, flash_of, eeprom_of}
use Rattle.capture.specs.declared.Part.{Part}
use Rattle.capture.specs.declared.Part.TheVariants.{FlashEnds, EepromEnds, Lines}
use Rattle.std.specs.Prelude.{Ok}
use Rattle.capture.specs.Taken.{part_of, taken_of, moves_flash, moves_eeprom, flash_movers, eeprom_movers}
use Rattle.capture.specs.Captures.{none, line, fault_of, Faultless, Captures}
use Rattle.capture.specs.Merge.{number_of, channel_place, gathered, Merged}
use Rattle.capture.proofs.OneCapture.{bad_not_nothing}
use Rattle.capture.proofs.Apart.{flash_to, eeprom_to, Runs, apart}
use Rattle.capture.proofs.Decoding.{by_level, decoded_runs, decoded_all, decoded_rising}
use Rattle.capture.proofs.Parts.{part_taken, flash_stays, eeprom_stays, rising_by}

pub place_small : (e : Event) → channel_place e ≤ 2
place_small (Flash e) = omega arith
place_small (Eeprom e) = omega arith
place_small (Line e) = omega arith

stamps_rise : (r q : Record) → Unit {0} → Unit {0} → number_of r ≤ number_of q → r.stamp ≤ q.stamp
stamps_rise r q x y h = omega (arith, place_small r.event, place_small q.event)

any : (m : List Record) → All (λ (r : Record). Unit {0}) m
unfolding All
any [] = tt
any (r ∷ m) = (tt, any m)

first_high : (ts : List Record) (a : Level) → fault_of ts none a ≡ Ok tt → a.spi.cs ≡ true
unfolding fault_of
first_high ts a h = ⊎_elim (λ z. (both a.spi.cs _ z.0).0) (λ z. bad_not_nothing z.1) (pick_says (resting a) _ _ _ h)

-- what is taken from the logger, part by part
abbrev parts : List Record → List Record
parts rs = part_of FlashEnds rs ++ (part_of EepromEnds rs ++ part_of Lines rs)

pub all_parts : (P : Record → Type 0) (rs : List Record) → ((p : Part) → All P (part_of p rs)) → All P (parts rs)
all_parts P rs h = all_append P (part_of FlashEnds rs) _ (h FlashEnds) (all_append P (part_of EepromEnds rs) _ (h EepromEnds) (h Lines))

-- what is of the test on the first list alone
only_first : (q : Record → Bool) (l k : List Record) → All (λ r. q r ≡ true) l → All (λ r. q r ≡ false) k → filter q (l ++ k) ≡ l
only_first q l k h j = filter_append q l k ∙ ap₂ (λ (x y : List Record). x ++ y) (filter_all q l h) (filter_none q k j) ∙ append-nil l

-- ---- the records of a capture without a fault, and those taken
module _ (ts : List Record) (a : Level) (ls : List Level) (f : Faultless ts none (a ∷ ls)) where
  tail : Faultless ts (line a) ls
  unfolding Faultless
  tail = f.2

  high : a.spi.cs ≡ true
  unfolding Faultless
  high = first_high ts a f.1

  pub flash_ok : All RecordOk (flash_of (a ∷ ls))
  unfolding decoded_by
  flash_ok = decoded_all ts RecordOk flash_start a ls tt tail (λ t e h k o. (k, o.1))

  pub eeprom_ok : All RecordOk (eeprom_of (a ∷ ls))
  unfolding decoded_by
  eeprom_ok = decoded_all ts RecordOk wires_start a ls tt tail (λ t e h k o. (k, o.1))

  pub flash_moves : All (λ (r : Record). moves_flash r.event ≡ true) (flash_of (a ∷ ls))
  unfolding decoded_by
  flash_moves = decoded_all ts _ flash_start a ls tt tail (λ t e h k o. o.0)

  pub eeprom_moves : All (λ (r : Record). moves_eeprom r.event ≡ true) (eeprom_of (a ∷ ls))
  unfolding decoded_by
  eeprom_moves = decoded_all ts _ wires_start a ls tt tail (λ t e h k o. o.0)

  pub flash_rises : Rising number_of (flash_of (a ∷ ls))
  unfolding decoded_by
  flash_rises = decoded_rising ts flash_start a ls tt tail

  pub eeprom_rises : Rising number_of (eeprom_of (a ∷ ls))
  unfolding decoded_by
  eeprom_rises = decoded_rising ts wires_start a ls tt tail

  flash_runs : Runs flash_to Closed (flash_of (a ∷ ls))
  unfolding decoded_by
  flash_runs = subst (λ (c : Bool). Runs flash_to (by_level c) (flash_of (a ∷ ls))) high (decoded_runs flash_start a ls)

  eeprom_runs : Runs eeprom_to Closed (eeprom_of (a ∷ ls))
  unfolding decoded_by
  eeprom_runs = decoded_runs wires_start a ls

  module _ (rs : List Record) where
    -- all that moves the flash's bus is the capture's own, and the same of the EEPROM's
    movers_flash : flash_movers (gathered (a ∷ ls) rs) ≡ flash_of (a ∷ ls)
    movers_flash =
        only_first _ (flash_of (a ∷ ls)) _ flash_moves
        (all_append _ (eeprom_of (a ∷ ls)) (parts rs) (all_map _ _ (λ r h. eeprom_no_flash r.event h) (eeprom_of (a ∷ ls)) eeprom_moves)
        (all_parts _ rs (λ p. all_pass _ _ (λ r h. flash_stays r.event (part_taken p r.event h)) rs)))
      where
        eeprom_no_flash : (e : Event) → moves_eeprom e ≡ true → moves_flash e ≡ false
        eeprom_no_flash (Flash e) h = absurd (true_not_false (sym h))
        eeprom_no_flash (Eeprom e) h = refl
        eeprom_no_flash (Line e) h = refl

    movers_eeprom : eeprom_movers (gathered (a ∷ ls) rs) ≡ eeprom_of (a ∷ ls)
    movers_eeprom =
        filter_append _ (flash_of (a ∷ ls)) (eeprom_of (a ∷ ls) ++ parts rs)
        ∙ ap₂ (λ (x y : List Record). x ++ y) (filter_none _ (flash_of (a ∷ ls)) (all_map _ _ (λ r h. flash_no_eeprom r.event h) (flash_of (a ∷ ls)) flash_moves))
        (only_first _ (eeprom_of (a ∷ ls)) (parts rs) eeprom_moves
        (all_parts _ rs (λ p. all_pass _ _ (λ r h. eeprom_stays r.event (part_taken p r.event h)) rs)))
      where
        flash_no_eeprom : (e : Event) → moves_flash e ≡ true → moves_eeprom e ≡ false
        flash_no_eeprom (Flash e) h = refl
        flash_no_eeprom (Eeprom e) h = absurd (true_not_false (sym h))
        flash_no_eeprom (Line e) h = refl

    module _ (m : List Record) (p : Merged (a ∷ ls) rs m) where
      -- in the merged trace the records that move a bus are the capture's, in its order
      pub flash_kept : flash_movers m ≡ flash_of (a ∷ ls)
      flash_kept = part_as_it_is number_of _ p (subst (Rising number_of) (sym movers_flash) flash_rises) ∙ movers_flash

      pub eeprom_kept : eeprom_movers m ≡ eeprom_of (a ∷ ls)
      eeprom_kept = part_as_it_is number_of _ p (subst (Rising number_of) (sym movers_eeprom) eeprom_rises) ∙ movers_eeprom

      pub acceptable : Acceptable m
      acceptable = record {
        never_back = rising_by number_of (λ (r : Record). r.stamp) (λ (r : Record). Unit {0}) stamps_rise m (any m) p.rising;
        possible = apart m Closed Closed (subst (Runs flash_to Closed) (sym flash_kept) flash_runs) (subst (Runs eeprom_to Closed) (sym eeprom_kept) eeprom_runs);
      }

      pub all_fit : All RecordOk rs → All RecordOk m
      all_fit o =
          order_all number_of RecordOk p
          (all_append _ (flash_of (a ∷ ls)) (eeprom_of (a ∷ ls) ++ parts rs) flash_ok
          (all_append _ (eeprom_of (a ∷ ls)) (parts rs) eeprom_ok (all_parts RecordOk rs (λ k. all_filter RecordOk _ rs o))))

-- the text under the logger's board is readable, and its records are the merged ones: never refusals 3, 4, 5
pub merged_readable : {trace levels : List ℕ} {b : Board} {rs : List Record} (ls : List Level) (m : List Record) →
    Readable trace b rs → Captures (taken_of rs) levels ls → Merged ls rs m → Readable (spelled_trace b m) b m
merged_readable [] m q c p = absurd (omega (arith, c.some))
merged_readable {rs = rs} (a ∷ ls) m q c p = record {
  board = q.board;
  fits = all_fit (taken_of rs) a ls c.faultless rs m p q.fits;
  acceptable = acceptable (taken_of rs) a ls c.faultless rs m p;
  is = refl;
}
