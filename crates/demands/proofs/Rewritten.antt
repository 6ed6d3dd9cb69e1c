-- The lines of a readable text in another allowed order are a readable text too, as long as the first: no line is of wrong form, no stamp goes back, and refusal 5 speaks of each channel by itself.
use mathlib.Core.Path.{◌≡◌, refl, sym, ap, ap₂, ◌∙◌}
use mathlib.Core.List.{List, [], ◌∷◌}
use Prim.Native.Nat.{ℕ, ◌+◌}
use lib.ListN.{length, length-append}
use Rattle.std.specs.Prelude.{Option, Some, None}
use Rattle.law.specs.Words.{keep, filter}
use Rattle.meaning.specs.Meaning.{F, E, same, Allowed}
use Rattle.meaning.proofs.Allowing.{allowed_all}
use Rattle.record.specs.declared.Board.{Board}
use Rattle.record.specs.declared.Record.{Record}
use Rattle.record.specs.declared.Event.{Event}
use Rattle.record.specs.declared.Event.TheVariants as event
use Rattle.line.specs.Records.{spelled, RecordOk}
use Rattle.line.specs.Boards.{spelled_board}
use Rattle.machine.specs.Machine.{on_machine, channel_of}
use Rattle.text.specs.declared.buses.Bus.{Bus}
use Rattle.text.specs.declared.buses.Buses.{Buses}
use Rattle.text.specs.Buses.{flash_bus, eeprom_bus, with_flash, with_eeprom, after, buses_after}
use Rattle.text.specs.Texts.{spelled_all, spelled_trace, Readable}
use Rattle.meaning.proofs.Sums.{total, total_same}

-- ---- the buses: how they stand after the records is told by the records of F and by those of E
abbrev buses : Bus → Bus → Option Buses
buses x y = Some (record { flash = x; eeprom = y })

-- the flash's bus by the first, the EEPROM's by the second
abbrev beside : Buses → Option Buses → Option Buses
beside a (Some c) = buses a.flash c.eeprom
beside a None = None

abbrev joined : Option Buses → Option Buses → Option Buses
joined (Some a) c = beside a c
joined None c = None

joined_none : (m : Option Buses) → joined m None ≡ None
joined_none (Some a) = refl
joined_none None = refl

stays : (rs : List Record) → after None rs ≡ None
unfolding after
stays [] = refl
stays (r ∷ rs) = stays rs

abbrev flash_part : List Record → List Record
flash_part rs = filter (λ (r : Record). same F (channel_of r.event)) rs

abbrev eeprom_part : List Record → List Record
eeprom_part rs = filter (λ (r : Record). same E (channel_of r.event)) rs

-- the flash's bus goes by the records of F, wherever the EEPROM's bus stands; and the other way round
abbrev Told : List Record → Type 0
Told rs = (x y x₁ y₁ : Bus) → after (buses x y) rs ≡ joined (after (buses x y₁) (flash_part rs)) (after (buses x₁ y) (eeprom_part rs))

flash_moves : (rs : List Record) → Told rs → (k : Option Bus) (x y x₁ y₁ : Bus) →
    after (with_flash (record { flash = x; eeprom = y }) k) rs ≡ joined (after (with_flash (record { flash = x; eeprom = y₁ }) k) (flash_part rs)) (after (buses x₁ y) (eeprom_part rs))
flash_moves rs h (Some k) x y x₁ y₁ = h k y x₁ y₁
flash_moves rs h None x y x₁ y₁ = stays rs ∙ sym (ap (λ (m : Option Buses). joined m (after (buses x₁ y) (eeprom_part rs))) (stays (flash_part rs)))

eeprom_moves : (rs : List Record) → Told rs → (k : Option Bus) (x y x₁ y₁ : Bus) →
    after (with_eeprom (record { flash = x; eeprom = y }) k) rs ≡ joined (after (buses x y₁) (flash_part rs)) (after (with_eeprom (record { flash = x₁; eeprom = y }) k) (eeprom_part rs))
eeprom_moves rs h (Some k) x y x₁ y₁ = h x k x₁ y₁
eeprom_moves rs h None x y x₁ y₁ =
    stays rs ∙ sym (ap (joined (after (buses x y₁) (flash_part rs))) (stays (eeprom_part rs)) ∙ joined_none (after (buses x y₁) (flash_part rs)))

told_event : (v : Event) (stamp : ℕ) (rs : List Record) → Told rs → Told (record { stamp = stamp; event = v } ∷ rs)
unfolding after filter keep
told_event (event.Flash e) stamp rs h x y x₁ y₁ = flash_moves rs h (flash_bus x e) x y x₁ y₁
told_event (event.Eeprom e) stamp rs h x y x₁ y₁ = eeprom_moves rs h (eeprom_bus y e) x y x₁ y₁
told_event (event.Line e) stamp rs h x y x₁ y₁ = h x y x₁ y₁

told : (rs : List Record) → Told rs
unfolding after filter
told [] x y x₁ y₁ = refl
told (r ∷ rs) x y x₁ y₁ = told_event r.event r.stamp rs (told rs) x y x₁ y₁

module _ (b : Board) (rs ls : List Record) (a : Allowed (on_machine b) rs ls) where
  pub buses_same : buses_after ls ≡ buses_after rs
  buses_same =
      told ls _ _ _ _ ∙ ap₂ (λ (f e : List Record). joined (buses_after f) (buses_after e)) (a.keeps F) (a.keeps E) ∙ sym (told rs _ _ _ _)

  -- ---- the text
  pub lines_readable : {text : List ℕ} → Readable text b rs → Readable (spelled_trace b ls) b ls
  lines_readable q = record {
    board = q.board;
    fits = allowed_all (on_machine b) RecordOk rs ls a q.fits;
    acceptable = record {
      never_back = a.onward;
      possible = (q.acceptable.possible.0, buses_same ∙ q.acceptable.possible.1);
    };
    is = refl;
  }

length_all : (rs : List Record) → length (spelled_all rs) ≡ total (λ (r : Record). channel_of r.event) (λ (r : Record). length (spelled r)) rs
unfolding spelled_all total
length_all [] = refl
length_all (r ∷ rs) = length-append (spelled r) (spelled_all rs) ∙ ap (λ (n : ℕ). length (spelled r) + n) (length_all rs)

-- the lines are as many bytes in either order
pub lines_length : (b : Board) (rs ls : List Record) → Allowed (on_machine b) rs ls → length (spelled_trace b ls) ≡ length (spelled_trace b rs)
unfolding spelled_trace
lines_length b rs ls a =
    length-append (spelled_board b) (spelled_all ls)
    ∙ ap (λ (n : ℕ). length (spelled_board b) + n)
    (length_all ls ∙ total_same (λ (r : Record). channel_of r.event) (λ (r : Record). length (spelled r)) ls rs a.keeps ∙ sym (length_all rs))
    ∙ sym (length-append (spelled_board b) (spelled_all rs))
