-- How a call can end: one way for each of its checks, in their order. Each theorem on answers goes by these.
use mathlib.Core.Path.{◌≡◌, refl, ap}
use mathlib.Core.Bool.{true, false}
use mathlib.Core.Logic.{◌⊎◌, inl, inr, ⊎_elim}
use mathlib.Core.List.{List, ◌++◌}
use Prim.Native.Nat.{ℕ, ◌≤◌, ◌<◌}
use native.Mathlib.Omega.{arith}
use borrow.Author.Tests.{ltb-true, ltb-false}
use lib.Dec.{ltb}
use lib.ListN.{length, length-append}
use Rattle.law.specs.Choice.{split}
use Rattle.meaning.specs.Meaning as meaning
use Rattle.meaning.specs.Meaning.{Reason, Means, crowded, differ, lost}
use Rattle.record.specs.declared.Board.{Board}
use Rattle.record.specs.declared.Record.{Record}
use Rattle.record.specs.declared.Reply.{Reply}
use Rattle.record.specs.declared.Answer.{Answer}
use Rattle.record.specs.declared.Answer.TheVariants.{BadBuffers, TooLong}
use Rattle.record.specs.Answers.{answer_number}
use Rattle.field.specs.Decimal.{largest}
use Rattle.line.specs.Boards.{spelled_board}
use Rattle.machine.specs.Machine.{Machine, machine_at_start, on_machine}
use Rattle.text.specs.Texts.{text_limit, spelled_all, spelled_trace, Readable, Wrong, Refused}
use Rattle.text.specs.Texts.Wrong.{no_record, falls, cannot}
use Rattle.text.specs.Texts.Refused.{no_board, bad_line}
use Rattle.text.proofs.Theorems.{seven_each}
use Rattle.buffers.specs.Buffers.{Buffers, fit}
use Rattle.demands.specs.Grounds.{OfLine, three, four, five}
use Rattle.call.specs.Replay.{Ended, refused_as, reason_answer, shown_as, shown, Replays}

pub data Way (text : List ℕ) (x : Buffers) (e : Ended) : Type 0 where
  unfit : fit x ≡ false → e ≡ refused_as BadBuffers 0 0 x → Way text x e
  long : fit x ≡ true → text_limit < length text → e ≡ refused_as TooLong 0 0 x → Way text x e
  bad : fit x ≡ true → length text ≤ text_limit → (a : Answer) (n k : ℕ) → Refused text a n k → e ≡ refused_as a n k x → Way text x e
  played : fit x ≡ true → length text ≤ text_limit → (b : Board) (rs : List Record) → Readable text b rs →
      (z : meaning.Answer Machine Reply) → Means (on_machine b) rs (machine_at_start b x.images) z → e ≡ shown b rs z → Way text x e

within : (text : List ℕ) {x : Buffers} {e : Ended} → Replays text x e → fit x ≡ true → ltb text_limit (length text) ≡ false → Way text x e
within text p f l =
    let h : length text ≤ text_limit = ltb-false _ _ l in
    ⊎_elim (λ r. let z = p.played f l r.0 r.1 r.2 in played f h r.0 r.1 r.2 z.0 z.1 z.2)
    (λ r. bad f h r.0 r.1 r.2 r.3 (p.bad f l r.0 r.1 r.2 r.3)) (p.read f l)

pub way : {text : List ℕ} {x : Buffers} {e : Ended} → Replays text x e → Way text x e
way {text} {x} p =
    split (fit x)
    (λ f. split (ltb text_limit (length text)) (λ l. long f (ltb-true _ _ l) (p.long f l)) (λ l. within text p f l))
    (λ f. unfit f (p.unfit f))

wrong_line : {text : List ℕ} {at : ℕ} {rs : List Record} {a : Answer} {k : ℕ} → Wrong text at rs a k → OfLine a
wrong_line (no_record h n) = three
wrong_line (falls r o s h) = four
wrong_line (cannot r o s h i) = five

pub refused_line_lem : {text : List ℕ} {a : Answer} {n k : ℕ} → Refused text a n k → OfLine a
refused_line_lem (no_board none) = three
refused_line_lem (bad_line b rs f w) = wrong_line w

pub line_number : {a : Answer} → OfLine a → (3 ≤ answer_number a) × (answer_number a ≤ 5)
line_number three = (omega arith, omega arith)
line_number four = (omega arith, omega arith)
line_number five = (omega arith, omega arith)

-- two of them with one number are one
pub line_one : {a a' : Answer} → OfLine a → OfLine a' → answer_number a ≡ answer_number a' → a ≡ a'
line_one three three e = refl
line_one three four e = absurd (omega arith)
line_one three five e = absurd (omega arith)
line_one four three e = absurd (omega arith)
line_one four four e = refl
line_one four five e = absurd (omega arith)
line_one five three e = absurd (omega arith)
line_one five four e = absurd (omega arith)
line_one five five e = refl

-- a line's number is below 2^32, and more than 0
pub line_fits : {text : List ℕ} {a : Answer} {n k : ℕ} → length text ≤ text_limit → Refused text a n k → n ≤ largest
unfolding spelled_trace
line_fits h (no_board none) = omega arith
line_fits {text} h (bad_line b rs f w) =
    omega (arith, seven_each rs f.fits, ap length f.stands.is, length-append (spelled_board b ++ spelled_all rs) f.stands.rest, length-append (spelled_board b) (spelled_all rs))

-- a readable text is answered 0, 6, 7 or 8
pub reason_number : (n : Reason) → (6 ≤ answer_number (reason_answer n)) × (answer_number (reason_answer n) ≤ 8)
reason_number crowded = (omega arith, omega arith)
reason_number differ = (omega arith, omega arith)
reason_number lost = (omega arith, omega arith)

pub shown_answer : (b : Board) (rs : List Record) (z : meaning.Answer Machine Reply) → ((shown b rs z).answer ≡ 0) ⊎ ((6 ≤ (shown b rs z).answer) × ((shown b rs z).answer ≤ 8))
unfolding shown shown_as
shown_answer b rs (meaning.settled v) = inl refl
shown_answer b rs (meaning.stopped n t v) = inr (reason_number n)
