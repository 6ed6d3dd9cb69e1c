-- The events of channel L.
use Rattle.std.proofs.Common.{rules}
use Prim.Native.Nat.{ℕ}
use mathlib.Core.Path.{◌≡◌, refl, sym, ap, ◌∙◌}
use mathlib.Core.Bool.{true, false}
use mathlib.Core.List.{List, [], ◌∷◌, ◌++◌}
use lib.Dec.{eqb}
use lib.ListN.{get_or}
use Rattle.law.specs.Choice.{split}
use Rattle.law.specs.Words.{pick}
use Rattle.record.specs.declared.Event.{Event}
use Rattle.record.specs.declared.LineEvent.{LineEvent}
use Rattle.record.specs.declared.LineEvent.TheVariants.{SupplyOn, SupplyOff, LockOn, LockOff}
use Rattle.field.specs.Ends.{lf}
use Rattle.field.specs.Fields.{one_of, same}
use Rattle.field.specs.Read.{Read, bad_field}
use Rattle.field.specs.Readers.{content_at}
use Rattle.field.proofs.Answers.{GotWord, NoWord}
use Rattle.field.proofs.FieldLaws.{Plain, plain_of}
use Rattle.field.proofs.Sequence.{bad_content, last_word, not_word, word_begins, one_of_lem, none_of}
use Rattle.line.specs.ChannelL.{spelled_line}
use Rattle.line.specs.Places.{is_line_event}
use Rattle.line.specs.Readers.{ReadsLine, ReadsLast}
use Rattle.line.specs.Words.{word_on, word_off, word_lock, word_free}

-- the event that a line spells, found from its bytes
unfoldable pub line_at : List ℕ → LineEvent
line_at l = pick (eqb (get_or l 0 0) 111) (pick (eqb (get_or l 1 0) 110) SupplyOn SupplyOff) (pick (eqb (get_or l 0 0) 108) LockOn LockOff)

pub line_law : (x : LineEvent) → Unit {0} → (rest : List ℕ) → line_at (spelled_line x ++ rest) ≡ x
unfolding line_at spelled_line
line_law x o rest = search rules

-- an event's word; nothing but the LF comes after it
abbrev line_word : LineEvent → List ℕ
line_word SupplyOn = word_on
line_word SupplyOff = word_off
line_word LockOn = word_lock
line_word LockOff = word_free

line_parts : (y : LineEvent) → spelled_line y ≡ line_word y ++ lf
unfolding spelled_line
line_parts y = search rules

line_plain : (y : LineEvent) → Plain (line_word y)
line_plain y = search (rules, plain_of)

line_allowed : (y : LineEvent) → is_line_event (line_word y) ≡ true
unfolding is_line_event one_of same
line_allowed y = search rules

line_by_lem : (y : LineEvent) → y ≡ line_at (line_word y)
unfolding line_at
line_by_lem y = search rules

-- no longer word is allowed
line_longer : (y : LineEvent) (b : ℕ) (u : List ℕ) → is_line_event (line_word y ++ (b ∷ u)) ≡ false
unfolding is_line_event one_of same
line_longer y b u = search rules

module _ {text : List ℕ} {at : ℕ} where
  pub line_none : NoWord word_on text at → NoWord word_off text at → NoWord word_lock text at → NoWord word_free text at → ReadsLine text at (bad_field 3)
  unfolding is_line_event
  line_none on off lock free =
      bad_content bad_field is_line_event (λ _ _. []) 3 line_word (λ _. lf) line_parts (λ y o. line_plain y) (λ y o. line_allowed y) (λ y l. refl)
      (split (is_line_event (content_at text at))
      (λ e. absurd (one_of_lem word_on _ _ e (not_word on) (λ e1. one_of_lem word_off _ _ e1 (not_word off) (λ e2. one_of_lem word_lock _ _ e2 (not_word lock) (λ e3. one_of_lem word_free _ _ e3 (not_word free) (none_of _))))))
      (λ e. e))

  pub line_last : {p : ℕ} {r : Read Event} (x : LineEvent) → GotWord (line_word x) text at p → ReadsLast (Event.Line x) text p r → ReadsLine text at r
  line_last x g h =
      last_word bad_field is_line_event (λ _ _. []) 3 line_word (λ _. lf) line_parts (λ y _. line_plain y) (λ y _. line_allowed y) (λ y l. refl) (word_begins (line_plain x) (line_allowed x) (line_longer x) g) x tt refl
      (λ y o. line_by_lem y ∙ ap line_at (sym o.1) ∙ sym (line_by_lem x)) refl (λ fs. refl) h
