-- Each way in which both texts are judged.
use Prim.Native.Nat.{ℕ}
use mathlib.Core.Path.{◌≡◌, sym, ap, subst, subst₂, ◌∙◌}
use mathlib.Core.Bool.{true, false}
use mathlib.Core.Logic.{⊎_elim}
use mathlib.Core.List.{List, ◌∷◌}
use lib.Dec.{ltb}
use lib.ListN.{length}
use Rattle.std.specs.Prelude.{Ok, Err, IsErrAnd}
use Rattle.record.specs.declared.Board.{Board}
use Rattle.record.specs.declared.Record.{Record}
use Rattle.record.specs.declared.Answer.{Answer}
use Rattle.record.specs.declared.Answer.TheVariants.{TooLong}
use Rattle.record.specs.declared.LevelsAnswer.{LevelsAnswer}
use Rattle.field.specs.declared.Cursor.{Cursor}
use Rattle.line.specs.Boards.{spelled_board}
use Rattle.text.specs.declared.checking.Refusal.{Refusal}
use Rattle.text.specs.Texts.{text_limit, Readable, Refused, Checked, accepted, refusal, Checks}
use Rattle.level.specs.declared.Level.{Level}
use Rattle.level.specs.Spelled.{spelled_level}
use Rattle.capture.specs.Captures.{Captures, BadCapture}
use Rattle.capture.specs.Merge.{long_trace, bad_trace, long_levels, bad_levels}
use Rattle.judge.specs.declared.JudgeAnswer.TheVariants.{Text, Levels}
use Rattle.judge.specs.declared.LevelsRefusal.{LevelsRefusal}
use Rattle.judge.specs.declared.Refused as judge
use Rattle.judge.specs.Checking.{CheckedLevels, levels_usable, levels_bad, LevelsChecked, usable, bad, ChecksLevels}
use Rattle.judge.specs.Judging.{Judged, judged_refused, judged_both, Judging, is_refused, is_both}

-- ---- what an answer of the check of the trace says
two_apart : {a : Answer} {n f : ℕ} {b : Board} {p : ℕ} → refusal a n f ≡ accepted b p → ⊥
two_apart e = cc

same_refused : {text : List ℕ} {a a' : Answer} {n n' f f' : ℕ} → refusal a n f ≡ refusal a' n' f' → Refused text a n f → Refused text a' n' f'
same_refused {text} {a} {a'} {n} {n'} {f} {f'} e w =
    let one : ◌≡◌ {A = Refusal} (record { answer = a; line = n; field = f }) (record { answer = a'; line = n'; field = f' }) = cc in
    subst (λ (x : Refusal). Refused text x.answer x.line x.field) one w

module _ {text : List ℕ} {r : Checked} (c : Checks text r) where
  refused_by : {a : Answer} {n f : ℕ} → r ≡ refusal a n f → Refused text a n f
  refused_by e =
      ⊎_elim (λ z. absurd (two_apart (sym e ∙ c.readable z.0 z.1 z.2)))
      (λ z. same_refused (sym (c.refused z.0 z.1 z.2 z.3) ∙ e) z.3)
      c.only

  readable_by : {b : Board} {p : ℕ} → r ≡ accepted b p → (rs : List Record) × Readable text b rs × (p ≡ length (spelled_board b))
  readable_by {b} {p} e =
      ⊎_elim
      (λ z.
      let q : accepted b p ≡ accepted z.0 (length (spelled_board z.0)) = sym e ∙ c.readable z.0 z.1 z.2 in
      let one : ◌≡◌ {A = Board × Cursor} (b, record { at = p }) (z.0, record { at = length (spelled_board z.0) }) = cc in
      let same : b ≡ z.0 = ap (λ (k : Board × Cursor). k.0) one in
      let place : p ≡ length (spelled_board z.0) = ap (λ (k : Board × Cursor). k.1.at) one in
      (z.1, subst (λ (x : Board). Readable text x z.1) (sym same) z.2, place ∙ ap (λ (x : Board). length (spelled_board x)) (sym same)))
      (λ z. absurd (two_apart (sym (c.refused z.0 z.1 z.2 z.3) ∙ e)))
      c.only

-- ---- and of the level text
bad_by : {ts : List Record} {text : List ℕ} {u : CheckedLevels} {a : LevelsAnswer} {n : ℕ} → LevelsChecked ts text u → u ≡ levels_bad a n → BadCapture ts text a n
bad_by (usable a ls c) e = cc
bad_by {ts} {text} {a = a'} {n = n'} (bad a n w) e =
    let one : ◌≡◌ {A = LevelsRefusal} (record { answer = a; line = n }) (record { answer = a'; line = n' }) = cc in
    subst (λ (x : LevelsRefusal). BadCapture ts text x.answer x.line) one w

usable_by : {ts : List Record} {text : List ℕ} {u : CheckedLevels} {l : Level} {at : ℕ} → LevelsChecked ts text u → u ≡ levels_usable l at →
    (ls : List Level) × Captures ts text (l ∷ ls) × (at ≡ length (spelled_level l))
usable_by {ts} {text} {l = l} {at = at} (usable a ls c) e =
    let one : ◌≡◌ {A = Level × Cursor} (a, record { at = length (spelled_level a) }) (l, record { at = at }) = cc in
    let same : a ≡ l = ap (λ (k : Level × Cursor). k.0) one in
    let place : length (spelled_level a) ≡ at = ap (λ (k : Level × Cursor). k.1.at) one in
    (ls, subst (λ (x : Level). Captures ts text (x ∷ ls)) same c, sym place ∙ ap (λ (x : Level). length (spelled_level x)) same)
usable_by (bad a n w) e = cc

-- ---- each way
module _ {levels trace : List ℕ} where
  -- a refusal that is handed on, as it is converted
  pub handed_on : {r : Judged} {e : judge.Refused} → IsErrAnd r (λ x. x ≡ e) → Judging levels trace (Err e) → Judging levels trace r
  handed_on {r = Ok x} h j = absurd h
  handed_on {r = Err x} h j = subst (λ (y : judge.Refused). Judging levels trace (Err y)) (sym h) j

  pub judge_long : ltb text_limit (length trace) ≡ true → Judging levels trace (judged_refused (Text TooLong) 0 0)
  judge_long h = is_refused (Text TooLong) 0 0 (long_trace h)

  module _ {r : Checked} (short : ltb text_limit (length trace) ≡ false) (c : Checks trace r) where
    pub judge_bad : {a : Answer} {n f : ℕ} → r ≡ refusal a n f → Judging levels trace (judged_refused (Text a) n f)
    judge_bad {a} {n} {f} e = is_refused (Text a) n f (bad_trace a n f short (refused_by c e))

    module _ {b : Board} {p : ℕ} (e : r ≡ accepted b p) where
      pub judge_long_levels : ltb text_limit (length levels) ≡ true → Judging levels trace (judged_refused (Text TooLong) 0 0)
      judge_long_levels h = let z = readable_by c e in is_refused (Text TooLong) 0 0 (long_levels b z.0 short z.1 h)

      module _ {u : CheckedLevels} (fits : ltb text_limit (length levels) ≡ false) (v : ChecksLevels levels trace p u) where
        pub judge_bad_levels : {a : LevelsAnswer} {n : ℕ} → u ≡ levels_bad a n → Judging levels trace (judged_refused (Levels a) n 0)
        judge_bad_levels {a} {n} w =
            let z = readable_by c e in
            is_refused (Levels a) n 0 (bad_levels b z.0 a n short z.1 fits (bad_by (v.checks b z.0 z.1 z.2) w))

        pub judge_both : {l : Level} {at : ℕ} → u ≡ levels_usable l at → Judging levels trace (judged_both b p l at)
        judge_both {l} {at} q =
            let z = readable_by c e in
            let w = usable_by (v.checks b z.0 z.1 z.2) q in
            subst₂ (λ (x y : ℕ). Judging levels trace (judged_both b x l y)) (sym z.2) (sym w.2) (is_both b z.0 l w.0 short z.1 fits w.1)
