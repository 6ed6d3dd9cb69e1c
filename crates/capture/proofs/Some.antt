-- Any two texts have a judgement: every level text is usable or has a first bad line.
use Prim.Native.Nat.{ℕ, zero, suc, ◌+◌, ◌≤◌}
use native.Mathlib.Omega.{arith}
use mathlib.Core.Path.{◌≡◌, refl}
use mathlib.Core.Logic.{◌⊎◌, inl, inr, ⊎_elim}
use mathlib.Core.List.{List, [], ◌∷◌, ◌++◌}
use lib.Dec.{ltb}
use lib.ListN.{length}
use Rattle.law.specs.Choice.{split, lt_or_le}
use Rattle.record.specs.declared.Record.{Record}
use Rattle.record.specs.declared.Answer.TheVariants.{TooLong}
use Rattle.record.specs.declared.LevelsAnswer.{LevelsAnswer}
use Rattle.record.specs.declared.LevelsAnswer.TheVariants.{BadLevel}
use Rattle.record.specs.Answers.{answer_number, levels_answer_number}
use Rattle.field.specs.Reads.{Stands}
use Rattle.field.proofs.Reading.{stands_length}
use Rattle.text.specs.Texts.{text_limit}
use Rattle.text.proofs.SomeReading.{some_reading}
use Rattle.level.specs.declared.Level.{Level}
use Rattle.level.specs.Spelled.{spelled_level, LevelOk}
use Rattle.level.proofs.Theorems.{level_length}
use Rattle.level.proofs.Here.{LevelHere, level_here}
use Rattle.std.specs.Prelude.{Ok, Err}
use Rattle.capture.specs.Taken.{taken_of}
use Rattle.capture.specs.Captures.{spelled_levels, none, last_of, Fault, fault_of, Captures, Begins, BadCapture, no_level, faulty}
use Rattle.capture.specs.Merge.{Judgement, refused, merged, Judges, long_trace, bad_trace, long_levels, bad_levels, both}
use Rattle.capture.proofs.OneMore.{length_snoc, begins_none, begins_snoc, begins_whole}
use Rattle.capture.proofs.OneJudgement.{merged_some}

-- a line has no fault, or one
told_fault : (f : Fault) → (f ≡ Ok tt) ⊎ ((a : LevelsAnswer) × (f ≡ Err a))
told_fault (Ok tt) = inl refl
told_fault (Err a) = inr (a, refl)

module _ (ts : List Record) (text : List ℕ) where
  abbrev Known : Type 0
  Known = ((ls : List Level) × Captures ts text ls) ⊎ ((a : LevelsAnswer) × (n : ℕ) × BadCapture ts text a n)

  -- no level line stands behind the lines ls
  stopped : (ls : List Level) → Begins ts text ls → ((l : Level) → LevelOk l → Stands text (length (spelled_levels ls)) (spelled_level l) → ⊥) → Known
  stopped [] b n = inr (BadLevel, 1, no_level [] b (inl refl) n)
  stopped (x ∷ ls) b n =
      ⊎_elim (λ h. inr (BadLevel, length (x ∷ ls) + 1, no_level (x ∷ ls) b (inr h) n)) (λ h. inl (x ∷ ls, begins_whole (x ∷ ls) b (omega arith) h))
      (lt_or_le (length (spelled_levels (x ∷ ls))) (length text))

  -- as many steps as the text has bytes left are enough
  within : (k : ℕ) (ls : List Level) → Begins ts text ls → length text ≤ length (spelled_levels ls) + k → Known
  unfolding LevelHere
  within zero ls b h =
      ⊎_elim (λ z. absurd (let m = level_length z.0 in omega (arith, stands_length text (spelled_level z.0) (length (spelled_levels ls)) z.2 (omega arith))))
      (λ n. stopped ls b (λ l o s. n (l, o, s))) (level_here text (length (spelled_levels ls)))
  within (suc k) ls b h =
      ⊎_elim
      (λ z.
      ⊎_elim (λ e. within k (ls ++ (z.0 ∷ [])) (begins_snoc ls b z.0 z.1 z.2 e) (omega (arith, length_snoc ls z.0, level_length z.0)))
      (λ e. inr (e.0, length ls + 1, faulty ls z.0 e.0 b z.1 z.2 e.1)) (told_fault (fault_of ts (last_of none ls) z.0)))
      (λ n. stopped ls b (λ l o s. n (l, o, s))) (level_here text (length (spelled_levels ls)))

  pub some_capture : ((ls : List Level) × Captures ts text ls) ⊎ ((a : LevelsAnswer) × (n : ℕ) × BadCapture ts text a n)
  some_capture = within (length text) [] (begins_none ts text) (omega arith)

pub some_judgement : (levels trace : List ℕ) → (j : Judgement) × Judges levels trace j
some_judgement levels trace =
    split (ltb text_limit (length trace)) (λ t. (refused (answer_number TooLong) 0 0, long_trace t))
    (λ t.
    ⊎_elim
    (λ z.
    split (ltb text_limit (length levels)) (λ u. (refused (answer_number TooLong) 0 0, long_levels z.0 z.1 t z.2 u))
    (λ u.
    ⊎_elim (λ c. let m = merged_some c.0 z.1 in (merged z.0 m.0, both z.0 z.1 c.0 m.0 t z.2 u c.1 m.1))
    (λ c. (refused (levels_answer_number c.0) c.1 0, bad_levels z.0 z.1 c.0 c.1 t z.2 u c.2)) (some_capture (taken_of z.1) levels)))
    (λ z. (refused (answer_number z.0) z.1 z.2, bad_trace z.0 z.1 z.2 t z.3)) (some_reading trace))
