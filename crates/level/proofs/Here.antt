-- Whether a level line stands at a place of a text is known.
use Prim.Native.Nat.{ℕ, ◌+◌}
use mathlib.Core.Bool.{true, false}
use mathlib.Core.Logic.{◌⊎◌, inl, inr, ⊎_elim}
use mathlib.Core.Path.{refl}
use mathlib.Core.List.{List}
use lib.Dec.{eqb}
use lib.ListN.{length, get_or}
use borrow.Author.Tests.{eqb-true, eqb-false}
use Rattle.std.specs.Prelude.{Option}
use Rattle.law.specs.Choice.{split, lt_or_le}
use Rattle.field.specs.declared.Cursor.{Cursor}
use Rattle.field.specs.declared.ending.FieldEnd.{FieldEnd}
use Rattle.field.specs.Ends.{tab_byte, lf_byte, tab}
use Rattle.field.specs.Reads.{Stands, Reads}
use Rattle.field.proofs.Reading.{Tells, Got, got_none, got_one}
use Rattle.field.proofs.Answers.{No, GotWord, NoWord, tells_got, tells_past}
use Rattle.field.proofs.DecimalLaws.{reads_decimal}
use Rattle.field.proofs.WordLaws.{end_out, end_other, end_is}
use Rattle.level.specs.declared.Level.{Level}
use Rattle.level.specs.Spelled.{spelled_spi, spelled_wires, spelled_level, LevelOk, ReadsLevel}
use Rattle.level.specs.Readers.{spelled_flag}
use Rattle.level.proofs.FlagLaws.{flag_short, flag_end, flag_digit, flag_is}
use Rattle.level.proofs.StampLaws.{Small, spelled_stamp, stamp_none, stamp_no_tab, stamp_got}
use Rattle.level.proofs.LevelLaws.{Any, tells_some, tells_level, spi_1, spi_2, spi_3, spi_4, spi_5, spi_all, wires_1, wires_2, wires_all, level_1, level_2, level_3, level_all}

-- ---- a value stands here, or none
abbrev Told : {A : Type 0} → (A → List ℕ) → (A → Type 0) → List ℕ → ℕ → Type 0
Told {A} spell Ok text at = ((x : A) × (p : ℕ) × Got spell Ok text at x p) ⊎ No spell Ok text at

-- any answer that a reader's promise admits tells which
told : {A R : Type 0} {spell : A → List ℕ} {Ok : A → Type 0} {value : A → ℕ → R} {bad : R} {text : List ℕ} {at : ℕ} {r : R} → Tells value bad → Reads spell Ok value bad text at r → Told spell Ok text at
told {spell} {text} {at} t d = ⊎_elim (λ e. inr (got_none t d e)) (λ z. inl (z.0, at + length (spell z.0), got_one t d z.0 (at + length (spell z.0)) z.3)) d.only

module _ (text : List ℕ) where
  flag_here : (at end : ℕ) → Told (spelled_flag end) Any text at
  flag_here at end =
      ⊎_elim (λ h. told tells_some (flag_short text at end h))
      (λ h.
      split (eqb (get_or text (at + 1) 0) end)
      (λ e.
      let ends = eqb-true (get_or text (at + 1) 0) end e in
      split (eqb (get_or text at 0) 48) (λ d. told tells_some (flag_is text at end false h ends (eqb-true (get_or text at 0) 48 d)))
      (λ d.
      split (eqb (get_or text at 0) 49) (λ k. told tells_some (flag_is text at end true h ends (eqb-true (get_or text at 0) 49 k)))
      (λ k. told tells_some (flag_digit text at end (eqb-false (get_or text at 0) 48 d) (eqb-false (get_or text at 0) 49 k)))))
      (λ e. told tells_some (flag_end text at end (eqb-false (get_or text (at + 1) 0) end e))))
      (lt_or_le (length text) (at + 2))

  spi_here : (at : ℕ) → Told spelled_spi Any text at
  spi_here at =
      ⊎_elim
      (λ a.
      ⊎_elim
      (λ b.
      ⊎_elim
      (λ c.
      ⊎_elim
      (λ d. ⊎_elim (λ e. told tells_some (spi_all a.2 b.2 c.2 d.2 e.2)) (λ n. told tells_some (spi_5 a.2 b.2 c.2 d.2 n)) (flag_here d.1 tab_byte))
      (λ n. told tells_some (spi_4 a.2 b.2 c.2 n)) (flag_here c.1 tab_byte))
      (λ n. told tells_some (spi_3 a.2 b.2 n)) (flag_here b.1 tab_byte))
      (λ n. told tells_some (spi_2 a.2 n)) (flag_here a.1 tab_byte))
      (λ n. told tells_some (spi_1 n)) (flag_here at tab_byte)

  wires_here : (at : ℕ) → Told spelled_wires Any text at
  wires_here at =
      ⊎_elim (λ a. ⊎_elim (λ b. told tells_some (wires_all a.2 b.2)) (λ n. told tells_some (wires_2 a.2 n)) (flag_here a.1 lf_byte)) (λ n. told tells_some (wires_1 n)) (flag_here at tab_byte)

  tab_here : (at : ℕ) → ((p : ℕ) × GotWord tab text at p) ⊎ NoWord tab text at
  tab_here at =
      ⊎_elim
      (λ h.
      split (eqb (get_or text at 0) tab_byte) (λ e. inl (at + 1, got_one tells_past (end_is text at FieldEnd.Tab 1 h (eqb-true (get_or text at 0) tab_byte e)) tt (at + 1) refl))
      (λ e. inr (got_none tells_past (end_other text at FieldEnd.Tab 1 (eqb-false (get_or text at 0) tab_byte e) refl) refl)))
      (λ h. inr (got_none tells_past (end_out text at FieldEnd.Tab 1 h refl) refl)) (lt_or_le at (length text))

  stamp_here : (at : ℕ) → Told spelled_stamp Small text at
  stamp_here at =
      ⊎_elim (λ a. ⊎_elim (λ b. inl (a.0, b.0, stamp_got a.2 b.1)) (λ n. inr (stamp_no_tab a.2 n)) (tab_here a.1)) (λ n. inr (stamp_none n))
      (told tells_got (reads_decimal 1 text at))

  -- some answer fits the promise of `read_level`
  some_level : (at : ℕ) → (r : Option (Level × Cursor)) × ReadsLevel text at r
  some_level at =
      ⊎_elim
      (λ a.
      ⊎_elim (λ b. ⊎_elim (λ c. (_, level_all a.2 b.2 c.2)) (λ n. (_, level_3 a.2 b.2 n)) (wires_here b.1))
      (λ n. (_, level_2 a.2 n)) (spi_here a.1))
      (λ n. (_, level_1 n)) (stamp_here at)

-- a level line stands at the place, and is in range
unfoldable pub LevelHere : List ℕ → ℕ → Type 0
LevelHere text at = (l : Level) × LevelOk l × Stands text at (spelled_level l)

pub level_here : (text : List ℕ) (at : ℕ) → LevelHere text at ⊎ (LevelHere text at → ⊥)
unfolding LevelHere
level_here text at =
    let d = (some_level text at).1 in
    ⊎_elim (λ e. inr (λ z. got_none tells_level d e z.0 z.1 z.2)) (λ z. inl (z.0, z.1, z.2)) d.only
