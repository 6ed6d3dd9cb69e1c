-- What `print_merge` leaves, by how both texts are judged: a merged text has room, and so has the line of a refusal, whose numbers are small.
use Prim.Native.Nat.{ℕ, ◌+◌, ◌≤◌, ◌<◌}
use native.Mathlib.Omega.{arith}
use borrow.Author.Rules.{rules}
use mathlib.Core.Path.{◌≡◌, refl, ap, ◌∙◌}
use mathlib.Core.Bool.{true}
use Rattle.std.specs.Prelude.{Ok, Err}
use mathlib.Core.List.{List, [], ◌∷◌, ◌++◌}
use lib.ListN.{length, drop, length-append}
use borrow.Author.Tests.{eq-eqb, le-ltb, ltb-false}
use Rattle.record.specs.declared.LevelsAnswer.{LevelsAnswer}
use Rattle.record.specs.declared.Record.{Record}
use Rattle.record.specs.Answers.{levels_answer_number}
use Rattle.record.specs.Lengths.{result_length}
use Rattle.field.specs.Decimal.{largest}
use Rattle.field.specs.Room.{room}
use Rattle.field.specs.Spelling.{no_bytes, put_all}
use Rattle.field.proofs.DecimalLaws.{decimal_digit}
use Rattle.field.proofs.SpellingLaws.{digits_count, holds}
use Rattle.text.specs.Texts.{text_limit, spelled_trace}
use Rattle.text.proofs.Fields.{field_small}
use Rattle.level.specs.declared.Level.{Level}
use Rattle.level.specs.Spelled.{spelled_level}
use Rattle.level.proofs.Theorems.{level_length}
use Rattle.buffers.specs.Buffers.{result_bytes, result_after}
use Rattle.capture.specs.Captures.{spelled_levels, Begins, BadCapture, no_level, faulty}
use Rattle.capture.specs.Merge.{Judgement, refused, merged, Judges, long_trace, bad_trace, long_levels, bad_levels, both}
use Rattle.merged.specs.Merging.{outputs_of, wrote_as, unwritten, written, merge_left, Merges}
use Rattle.merged.proofs.Room.{text_fits}
use Rattle.demands.proofs.Ways.{refused_line_lem, line_number, line_fits}
use Rattle.listing.specs.Bytes.{answer_in, place_in, count_in, field_in}
use Rattle.listing.specs.Lines.{refused_line}
use Rattle.listing.specs.Writing.{refusal_of, count_of}
use Rattle.listing.proofs.Tells.{refusal_told, count_told}
use Rattle.printing.specs.Printed.{Written}
use Rattle.printing.specs.MergePrinted.{printed_for, is_merged, merge_room, PrintsMerge}
use Rattle.printing.proofs.Numbers.{answer_back, place_back, count_back, field_back}

-- ---- the numbers of a refusal
pub record Small (n line field : ℕ) : Type 0 where
  pub some : 0 < n
  pub number : n ≤ largest
  pub place : line ≤ largest
  pub digit : field < 10

lines_many : (ls : List Level) → length ls ≤ length (spelled_levels ls)
unfolding spelled_levels
lines_many [] = omega arith
lines_many (l ∷ ls) = omega (arith, level_length l, lines_many ls, length-append (spelled_level l) (spelled_levels ls))

begun : {ts : List Record} {levels : List ℕ} (ls : List Level) → length levels ≤ text_limit → Begins ts levels ls → length ls + 1 ≤ largest
begun ls h b = omega (arith, lines_many ls, ap length b.stands.is, length-append (spelled_levels ls) b.stands.rest)

level_line : {ts : List Record} {levels : List ℕ} {a : LevelsAnswer} {n : ℕ} → length levels ≤ text_limit → BadCapture ts levels a n → n ≤ largest
level_line h (no_level ls b s g) = begun ls h b
level_line h (faulty ls l a b o s g) = begun ls h b

levels_number : (a : LevelsAnswer) → (0 < levels_answer_number a) × (levels_answer_number a ≤ largest)
levels_number a = search rules

-- what can be printed of a judgement
abbrev pub Fits : Judgement → Type 0
Fits (refused n line field) = Small n line field
Fits (merged b m) = length (spelled_trace b m) ≤ merge_room

too_long : Small 2 0 0
too_long = record { some = omega arith; number = omega arith; place = omega arith; digit = omega arith }

pub fits : {levels trace : List ℕ} (j : Judgement) → Judges levels trace j → Fits j
fits j (long_trace l) = too_long
fits j (bad_trace a n f t w) =
    let z = line_number (refused_line_lem w) in
    record { some = omega arith; number = omega arith; place = line_fits (ltb-false _ _ t) w; digit = omega (arith, field_small w) }
fits j (long_levels b rs t q l) = too_long
fits j (bad_levels b rs a n t q s w) =
    record { some = (levels_number a).0; number = (levels_number a).1; place = level_line (ltb-false _ _ s) w; digit = omega arith }
fits j (both b rs ls m t q s c p) = text_fits (both b rs ls m t q s c p)

-- ---- what is read of a result
pub refusal_numbers : {n line field : ℕ} {end : List ℕ} → Small n line field → end ≡ result_bytes n line 0 field → refused_line (answer_in end) (place_in end) (field_in end) ≡ refused_line n line field
refusal_numbers {n} {line} {field} s e =
    ap (λ (l : List ℕ). refused_line (answer_in l) (place_in l) (field_in l)) e
    ∙ (λ i. refused_line (answer_back n line 0 field s.number i) (place_back n line 0 field s.place i) (field_back n line 0 field (omega (arith, s.digit)) i))

pub count_number : {size : ℕ} {end : List ℕ} → size ≤ merge_room → end ≡ result_bytes 0 0 size 0 → count_in end ≡ size
count_number {size} h e = ap count_in e ∙ count_back 0 0 size 0 (omega arith)

result_whole : (a n c f : ℕ) {end : List ℕ} → end ≡ result_bytes a n c f → length end ≡ result_length
unfolding result_bytes
result_whole a n c f e = ap length e

line_length_lem : {n line field : ℕ} → Small n line field → length (refused_line n line field) ≤ room
unfolding refused_line
line_length_lem {n} {line} {field} s =
    simp length-append (omega (arith, digits_count n s.number, digits_count line s.place, ap length (decimal_digit field s.digit)))

-- ---- what the call leaves
abbrev pub Left : List ℕ → List ℕ → List ℕ → ℕ → Judgement → Type 0
Left old mid end answer (refused n line field) = (answer ≡ n) × (mid ≡ old) × (end ≡ result_bytes n line 0 field)
Left old mid end answer (merged b m) = (answer ≡ 0) × (mid ≡ spelled_trace b m ++ drop (length (spelled_trace b m)) old) × (end ≡ result_bytes 0 0 (length (spelled_trace b m)) 0)

module _ {levels trace old mid result end : List ℕ} {answer : ℕ} (enough : merge_room ≤ length old) (whole : length result ≡ result_length)
    (m : Merges levels trace (outputs_of old result) (wrote_as answer (outputs_of mid end))) where
  there : (a n c f : ℕ) → result_after a n c f result ≡ result_bytes a n c f
  unfolding result_after
  there a n c f = simp (eq-eqb _ _ whole)

  pub left : (j : Judgement) → Fits j → wrote_as answer (outputs_of mid end) ≡ merge_left j (outputs_of old result) → Left old mid end answer j
  unfolding merge_left unwritten written
  left (refused n line field) s e = (ap (λ z. z.answer) e, ap (λ z. z.outputs.output) e, ap (λ z. z.outputs.result) e ∙ there n line 0 field)
  left (merged b rs) s e =
      let k = simp (le-ltb (length old) (length (spelled_trace b rs)) (omega arith)) at e in
      (ap (λ z. z.answer) k, ap (λ z. z.outputs.output) k, ap (λ z. z.outputs.result) k ∙ there 0 0 (length (spelled_trace b rs)) 0)

  -- ---- of whatever judgement there is
  some : {A : Type 0} → ((j : Judgement) → Judges levels trace j → Fits j → Left old mid end answer j → A) → A
  some go =
      let t = eq-eqb (length result) result_length whole in
      let z = m.some t in
      go z.0 z.1 (fits z.0 z.1) (left z.0 (fits z.0 z.1) (m.judged t z.0 z.1))

  pub merge_accepted : {c : ℕ} → answer ≡ 0 → c ≡ count_of end → PrintsMerge levels trace old mid (Ok c)
  merge_accepted {c} z e = record { written = λ _. some by; short = λ l. absurd (omega arith) }
    where
      by : (j : Judgement) → Judges levels trace j → Fits j → Left old mid end answer j → (k : Judgement) × Judges levels trace k × (true ≡ is_merged k) × Written (printed_for k) old mid c
      by (refused n line field) q s l = absurd (omega (arith, s.some, l.0))
      by (merged b rs) q s l =
          (merged b rs, q, refl, record { number = e ∙ count_told end (result_whole 0 0 (length (spelled_trace b rs)) 0 l.2) ∙ count_number s l.2; content = l.1 })

  module _ (refuses : answer ≡ 0 → ⊥) {s : List ℕ} (put : s ≡ put_all no_bytes (refusal_of end)) where
    -- the line of the refusal was put together, and the output is as it was
    record Line : Type 0 where
      number : ℕ
      line : ℕ
      field : ℕ
      is : Judges levels trace (refused number line field)
      stays : mid ≡ old
      held : s ≡ refused_line number line field

    the_line : Line
    the_line = some by
      where
        by : (j : Judgement) → Judges levels trace j → Fits j → Left old mid end answer j → Line
        by (refused n line field) q f l =
            let told : refusal_of end ≡ refused_line n line field = refusal_told end (result_whole n line 0 field l.2) ∙ refusal_numbers f l.2 in
            record { number = n; line = line; field = field; is = q; stays = l.1; held = holds (refused_line n line field) (put ∙ ap (put_all no_bytes) told) (line_length_lem f) }
        by (merged b rs) q f l = absurd (refuses l.0)

    pub merge_refused : {part : List ℕ} {n : ℕ} → part ≡ s → n ≡ length s → PrintsMerge levels trace old (part ++ drop n mid) (Err (record { 0 = n }))
    merge_refused {part} {n} e m =
        let k = the_line in
        let w : part ≡ refused_line k.number k.line k.field = e ∙ k.held in
        let c : n ≡ length (refused_line k.number k.line k.field) = m ∙ ap length k.held in
        record {
          written = λ _. (refused k.number k.line k.field, k.is, refl, record { number = c; content = λ i. w i ++ drop (c i) (k.stays i) });
          short = λ l. absurd (omega arith);
        }

-- no room
pub merge_short : {levels trace old : List ℕ} → length old < merge_room → PrintsMerge levels trace old old (Err (record { 0 = 0 }))
merge_short h = record { written = λ l. absurd (omega arith); short = λ l. (refl, refl, refl) }
