-- Whether a record stands at a place of a text is known, and whether a board stands at its front.
use Prim.Native.Nat.{ℕ, suc}
use native.Mathlib.Omega.{arith}
use mathlib.Core.Path.{◌≡◌, refl, sym, ap, subst, ◌∙◌}
use mathlib.Core.Logic.{inl, inr, ⊎_elim}
use mathlib.Core.List.{List, [], ◌∷◌, ◌++◌}
use lib.Dec.{eqb}
use lib.ListN.{length, drop}
use borrow.Author.Tests.{eqb-true, eqb-false}
use Rattle.law.specs.Choice.{split}
use Rattle.record.specs.declared.FlashEvent.{FlashEvent}
use Rattle.record.specs.declared.EepromEvent.{EepromEvent}
use Rattle.record.specs.declared.Event.{Event}
use Rattle.record.specs.declared.Board.{Board}
use Rattle.record.specs.declared.Record.{Record}
use Rattle.field.specs.Decimal.{largest}
use Rattle.field.specs.Reads.{Stands}
use Rattle.line.specs.ChannelF.{FlashOk}
use Rattle.line.specs.ChannelE.{EepromOk}
use Rattle.line.specs.Boards.{spelled_board, BoardOk}
use Rattle.line.specs.Records.{spelled, EventOk, RecordOk}
use Rattle.line.proofs.Theorems.{Known, and_known, lt_known, le_known, record_at, record_law, board_at, board_law, board_known}

-- ---- whether bytes stand at the front of a list
Front : List ℕ → List ℕ → Type 0
Front l w = (rest : List ℕ) × (l ≡ w ++ rest)

head : ℕ → List ℕ → ℕ
head d [] = d
head d (x ∷ l) = x

tail : List ℕ → List ℕ
tail [] = []
tail (x ∷ l) = l

front_known : (l w : List ℕ) → Known (Front l w)
unfolding Front head tail
front_known l [] = inl (l, refl)
front_known [] (b ∷ w) = inr (λ z. let e : ◌≡◌ {A = ℕ} 0 (suc (length (w ++ z.0))) = ap length z.1 in omega arith)
front_known (a ∷ l) (b ∷ w) = split (eqb a b) (λ e. same (eqb-true a b e) (front_known l w)) (λ e. inr (λ z. eqb-false a b e (ap (head a) z.1)))
  where
    same : a ≡ b → Known (Front l w) → Known (Front (a ∷ l) (b ∷ w))
    same e k = ⊎_elim (λ z. inl (z.0, λ i. e i ∷ z.1 i)) (λ n. inr (λ z. n (z.0, ap tail z.1))) k

stands_known : (text w : List ℕ) (at : ℕ) → Known (Stands text at w)
unfolding Front
stands_known text w at = ⊎_elim (λ z. inl (record { rest = z.0; is = z.1 })) (λ n. inr (λ s. n (s.rest, s.is))) (front_known (drop at text) w)

-- ---- events
flash_known : (e : FlashEvent) → Known (FlashOk e)
flash_known FlashEvent.Select = inl tt
flash_known (FlashEvent.Byte si so) = and_known (lt_known si 256) (lt_known so 256)
flash_known FlashEvent.Cut = inl tt
flash_known FlashEvent.Deselect = inl tt
flash_known FlashEvent.End = inl tt

eeprom_known : (e : EepromEvent) → Known (EepromOk e)
eeprom_known EepromEvent.Start = inl tt
eeprom_known (EepromEvent.Byte b a) = lt_known b 256
eeprom_known EepromEvent.Cut = inl tt
eeprom_known EepromEvent.Stop = inl tt
eeprom_known EepromEvent.End = inl tt

event_known : (e : Event) → Known (EventOk e)
event_known (Event.Flash e) = flash_known e
event_known (Event.Eeprom e) = eeprom_known e
event_known (Event.Line e) = inl tt

-- ---- what stands at a place, of a kind whose values are found from their bytes
module _ {A : Type 0} (spell : A → List ℕ) (Ok : A → Type 0) (decode : List ℕ → A) (law : (x : A) → Ok x → (rest : List ℕ) → decode (spell x ++ rest) ≡ x) (known : (x : A) → Known (Ok x)) (text : List ℕ) (at : ℕ) where
  here_known : Known ((x : A) × Ok x × Stands text at (spell x))
  here_known = ⊎_elim (λ z. inl (decode (drop at text), z.0, z.1)) (λ n. inr (λ z. n (found z))) (and_known (known (decode (drop at text))) (stands_known text (spell (decode (drop at text))) at))
    where
      found : (x : A) × Ok x × Stands text at (spell x) → Ok (decode (drop at text)) × Stands text at (spell (decode (drop at text)))
      found z = subst (λ (x : A). Ok x × Stands text at (spell x)) (sym (ap decode z.2.is ∙ law z.0 z.1 z.2.rest)) (z.1, z.2)

-- a record stands at the place, and is in range
unfoldable pub RecordHere : List ℕ → ℕ → Type 0
RecordHere text at = (r : Record) × RecordOk r × Stands text at (spelled r)

pub record_here : (text : List ℕ) (at : ℕ) → Known (RecordHere text at)
unfolding RecordHere
record_here = here_known spelled RecordOk record_at record_law (λ r. and_known (le_known r.stamp largest) (event_known r.event))

-- a board stands at the front, and is in range
abbrev pub BoardHere : List ℕ → Type 0
BoardHere text = (b : Board) × BoardOk b × Stands text 0 (spelled_board b)

pub board_here : (text : List ℕ) → Known (BoardHere text)
board_here text = here_known spelled_board BoardOk board_at board_law board_known text 0
