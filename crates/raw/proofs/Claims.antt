-- Claims 34 and 35: the merge, of any outcome that its promise admits. Assumes nothing.
use Prim.Native.Nat.{ℕ, ◌≤◌, ◌<◌}
use native.Mathlib.Omega.{arith}
use mathlib.Core.Path.{◌≡◌, sym, ap, ◌∙◌}
use mathlib.Core.Bool.{Bool, true, false}
use mathlib.Core.Logic.{◌⊎◌, inl, inr, ⊎_elim}
use mathlib.Core.List.{List, [], ◌++◌}
use lib.Dec.{eqb, ltb}
use lib.ListN.{length, drop}
use borrow.Author.Tests.{eq-eqb, eqb-true, eqb-false, ltb-true, ltb-false}
use Rattle.law.specs.Choice.{split, true_not_false}
use Rattle.law.specs.Words.{pick}
use Rattle.record.specs.declared.Board.{Board}
use Rattle.record.specs.declared.Record.{Record}
use Rattle.record.specs.declared.Answer.{Answer}
use Rattle.record.specs.declared.Answer.TheVariants.{BadBuffers, TooLong}
use Rattle.record.specs.Answers.{answer_number}
use Rattle.record.specs.Lengths.{result_length}
use Rattle.field.proofs.Answers.{zero_one}
use Rattle.text.specs.Texts.{spelled_trace, Readable}
use Rattle.text.proofs.OneReading.{not_both}
use Rattle.buffers.specs.Buffers.{Buffers, result_bytes, result_after}
use Rattle.call.specs.Replay.{Ended}
use Rattle.demands.specs.Grounds.{OfLine}
use Rattle.demands.proofs.Ways.{way, line_number, shown_answer}
use Rattle.demands.proofs.Ways as replay
use Rattle.demands.proofs.FirstBadLine.{number_of_lem}
use Rattle.capture.specs.Merge.{Judgement, refused, merged, Judges}
use Rattle.capture.proofs.OneJudgement.{one_judgement}
use Rattle.capture.proofs.Reading.{merged_readable}
use Rattle.merged.proofs.Room.{text_fits}
use Rattle.merged.specs.Merging.{Outputs, Wrote, outputs_of, wrote_as, unwritten, written, merge_left, Merges}
use Rattle.raw.specs.Raw.{Pair, MergeFits, MergeClaims, MergeDetermined, Written, MergedReadable}
use Rattle.raw.proofs.Judged.{Way, unfit, refuses, accepts, kind, ground_low, number_apart, by_pair, answers, grounds}
use Rattle.raw.proofs.Exactly.{exactly}

pub clash : {A : Type 0} {t : Bool} → t ≡ true → t ≡ false → A
clash e f = absurd (true_not_false (sym e ∙ f))

pub result_fit : (n l k f : ℕ) (old : List ℕ) → length old ≡ result_length → result_after n l k f old ≡ result_bytes n l k f
unfolding result_after
result_fit n l k f old h = rw (eq-eqb (length old) result_length h)

pub result_unfit : (n l k f : ℕ) (old : List ℕ) → eqb (length old) result_length ≡ false → result_after n l k f old ≡ old
unfolding result_after
result_unfit n l k f old h = rw h

-- a pair's text is readable
pub pair_readable : {levels trace : List ℕ} {b : Board} {m : List Record} → Pair levels trace b m → Readable (spelled_trace b m) b m
pair_readable {m = m} z = merged_readable z.ls m z.accepted.read.readable z.accepted.captures z.merged

-- ---- judgements apart
abbrev text_of : Judgement → List ℕ
text_of (refused n l f) = []
text_of (merged b m) = spelled_trace b m

abbrev is_merged : Judgement → ℕ
is_merged (refused n l f) = 0
is_merged (merged b m) = 1

-- a readable text is never refused with 3, 4 or 5
no_line : {text : List ℕ} {y : Buffers} {r : Ended} {b : Board} {m : List Record} → replay.Way text y r → Readable text b m → (a : Answer) → OfLine a → r.answer ≡ answer_number a → ⊥
no_line {y = y} (replay.unfit f q) k a o h = omega (arith, number_of_lem y BadBuffers 0 0 q, line_number o)
no_line {y = y} (replay.long f l q) k a o h = omega (arith, number_of_lem y TooLong 0 0 q, line_number o)
no_line (replay.bad f l c n j w q) k a o h = not_both k w
no_line (replay.played f l b rs w z u q) k a o h =
    let s = ap (λ (t : Ended). t.answer) q in
    let n = line_number o in
    ⊎_elim (λ v. omega arith) (λ v. omega arith) (shown_answer b rs z)

-- ---- the merge: how it can end
data Merging (levels trace : List ℕ) (x : Outputs) (e : Wrote) : Type 0 where
  wrong : (MergeFits x → ⊥) → e ≡ wrote_as 1 x → Merging levels trace x e
  no : (n l f : ℕ) → MergeFits x → Judges levels trace (refused n l f) → e ≡ wrote_as n (outputs_of x.output (result_bytes n l 0 f)) → Merging levels trace x e
  short : (b : Board) (m : List Record) → MergeFits x → Judges levels trace (merged b m) → length x.output < length (spelled_trace b m) →
      e ≡ wrote_as 10 (outputs_of x.output (result_bytes 10 0 0 0)) → Merging levels trace x e
  yes : (b : Board) (m : List Record) → MergeFits x → Judges levels trace (merged b m) → length (spelled_trace b m) ≤ length x.output →
      e ≡ wrote_as 0 (outputs_of (spelled_trace b m ++ drop (length (spelled_trace b m)) x.output) (result_bytes 0 0 (length (spelled_trace b m)) 0)) → Merging levels trace x e

by_judgement : {levels trace : List ℕ} {x : Outputs} {e : Wrote} (j : Judgement) → MergeFits x → Judges levels trace j → e ≡ merge_left j x → Merging levels trace x e
unfolding merge_left unwritten written
by_judgement {x = x} (refused n l f) t h q = no n l f t h (q ∙ ap (λ (r : List ℕ). wrote_as n (outputs_of x.output r)) (result_fit n l 0 f x.result t))
by_judgement {x = x} (merged b m) t h q =
    let text = spelled_trace b m in
    let left : Bool → Wrote = λ (s : Bool). pick s (unwritten 10 0 0 x) (written text x) in
    split (ltb (length x.output) (length text))
    (λ s. short b m t h (ltb-true _ _ s) (q ∙ ap left s ∙ ap (λ (r : List ℕ). wrote_as 10 (outputs_of x.output r)) (result_fit 10 0 0 0 x.result t)))
    (λ s. yes b m t h (ltb-false _ _ s) (q ∙ ap left s ∙ ap (λ (r : List ℕ). wrote_as 0 (outputs_of (text ++ drop (length text) x.output) r)) (result_fit 0 0 (length text) 0 x.result t)))

merging : {levels trace : List ℕ} {x : Outputs} {e : Wrote} → Merges levels trace x e → Merging levels trace x e
unfolding unwritten
merging {x = x} p =
    split (eqb (length x.result) result_length)
    (λ t. let j = p.some t in by_judgement j.0 (eqb-true _ _ t) j.1 (p.judged t j.0 j.1))
    (λ t. wrong (eqb-false _ _ t) (p.unfit t ∙ ap (λ (r : List ℕ). wrote_as 1 (outputs_of x.output r)) (result_unfit 1 0 0 0 x.result t)))

abbrev answer_of : Wrote → ℕ
answer_of w = w.answer

abbrev result_of : Wrote → List ℕ
result_of w = w.outputs.result

abbrev output_of : Wrote → List ℕ
output_of w = w.outputs.output

merge_way : {levels trace : List ℕ} {x : Outputs} {e : Wrote} → Merging levels trace x e → Way levels trace (MergeFits x) e.answer e.outputs.result
merge_way (wrong t q) = unfit t (ap answer_of q)
merge_way (no n l f t h q) = refuses n l f t h (ap answer_of q) (ap result_of q)
merge_way (short b m t h s q) = accepts b m t h (inr (ap answer_of q))
merge_way (yes b m t h s q) = accepts b m t h (inl (ap answer_of q))

-- a refusal's number is neither 0 nor 10
pub refusal_number : {levels trace : List ℕ} {n l f : ℕ} → Judges levels trace (refused n l f) → (n ≡ 0) ⊎ (n ≡ 10) → ⊥
refusal_number {n = n} {l} {f} h e = number_apart (kind (refused n l f) h) e

pub refusal_low : {levels trace : List ℕ} {n l f : ℕ} → Judges levels trace (refused n l f) → 2 ≤ n
refusal_low {n = n} {l} {f} h = ground_low (kind (refused n l f) h)

same_pair : {levels trace : List ℕ} {b c : Board} {m k : List Record} → Judges levels trace (merged b m) → Judges levels trace (merged c k) → spelled_trace b m ≡ spelled_trace c k
same_pair h j = ap text_of (one_judgement h j)

pub refused_not_merged : {levels trace : List ℕ} {n l f : ℕ} {b : Board} {m : List Record} {A : Type 0} → Judges levels trace (refused n l f) → Judges levels trace (merged b m) → A
refused_not_merged h j = absurd (zero_one (ap is_merged (one_judgement h j)))

module _ {levels trace : List ℕ} {x : Outputs} {e : Wrote} where
  ten_ground : Merging levels trace x e → e.answer ≡ 10 → MergeFits x × (b : Board) × (m : List Record) × Pair levels trace b m × (length x.output < length (spelled_trace b m))
  ten_ground (wrong t q) h = absurd (let k = ap answer_of q in omega arith)
  ten_ground (no n l f t j q) h = absurd (refusal_number j (inr (sym (ap answer_of q) ∙ h)))
  ten_ground (short b m t j s q) h = (t, b, m, kind (merged b m) j, s)
  ten_ground (yes b m t j s q) h = absurd (let k = ap answer_of q in omega arith)

  ten_back : Merging levels trace x e → MergeFits x → (b : Board) (m : List Record) → Pair levels trace b m → length x.output < length (spelled_trace b m) → e.answer ≡ 10
  ten_back (wrong t q) u b m z h = absurd (t u)
  ten_back (no n l f t j q) u b m z h = refused_not_merged j (by_pair b m z)
  ten_back (short c k t j s q) u b m z h = ap answer_of q
  ten_back (yes c k t j s q) u b m z h = absurd (omega (arith, ap length (same_pair j (by_pair b m z))))

  ten_result : Merging levels trace x e → e.answer ≡ 10 → e.outputs.result ≡ result_bytes 10 0 0 0
  ten_result (wrong t q) h = absurd (let k = ap answer_of q in omega arith)
  ten_result (no n l f t j q) h = absurd (refusal_number j (inr (sym (ap answer_of q) ∙ h)))
  ten_result (short b m t j s q) h = ap result_of q
  ten_result (yes b m t j s q) h = absurd (let k = ap answer_of q in omega arith)

  zero_ground : Merging levels trace x e → e.answer ≡ 0 → MergeFits x × (b : Board) × (m : List Record) × Pair levels trace b m × (length (spelled_trace b m) ≤ length x.output)
  zero_ground (wrong t q) h = absurd (let k = ap answer_of q in omega arith)
  zero_ground (no n l f t j q) h = absurd (refusal_number j (inl (sym (ap answer_of q) ∙ h)))
  zero_ground (short b m t j s q) h = absurd (let k = ap answer_of q in omega arith)
  zero_ground (yes b m t j s q) h = (t, b, m, kind (merged b m) j, s)

  zero_back : Merging levels trace x e → MergeFits x → (b : Board) (m : List Record) → Pair levels trace b m → length (spelled_trace b m) ≤ length x.output → e.answer ≡ 0
  zero_back (wrong t q) u b m z h = absurd (t u)
  zero_back (no n l f t j q) u b m z h = refused_not_merged j (by_pair b m z)
  zero_back (short c k t j s q) u b m z h = absurd (omega (arith, ap length (same_pair j (by_pair b m z))))
  zero_back (yes c k t j s q) u b m z h = ap answer_of q

  output_stays : Merging levels trace x e → (e.answer ≡ 0 → ⊥) → e.outputs.output ≡ x.output
  output_stays (wrong t q) h = ap output_of q
  output_stays (no n l f t j q) h = ap output_of q
  output_stays (short b m t j s q) h = ap output_of q
  output_stays (yes b m t j s q) h = absurd (h (ap answer_of q))

  nothing_written : Merging levels trace x e → (MergeFits x → ⊥) → e ≡ wrote_as 1 x
  nothing_written (wrong t q) h = q
  nothing_written (no n l f t j q) h = absurd (h t)
  nothing_written (short b m t j s q) h = absurd (h t)
  nothing_written (yes b m t j s q) h = absurd (h t)

  what_is_written : Merging levels trace x e → e.answer ≡ 0 → (b : Board) × (m : List Record) × Written levels trace x e b m
  what_is_written (wrong t q) h = absurd (let k = ap answer_of q in omega arith)
  what_is_written (no n l f t j q) h = absurd (refusal_number j (inl (sym (ap answer_of q) ∙ h)))
  what_is_written (short b m t j s q) h = absurd (let k = ap answer_of q in omega arith)
  what_is_written (yes b m t j s q) h =
      let z = kind (merged b m) j in (
        b,
        m,
        record {
          pair = z;
          exactly = exactly z.ls m z.accepted.read.readable z.accepted.captures z.merged;
          front = ap output_of q;
          told = ap result_of q;
          readable = pair_readable z;
          never_refused = λ y r v a o n. no_line (way v) (pair_readable z) a o n;
        },
      )

-- ---- 34 and 35
pub merge_claims : MergeClaims
merge_claims levels trace x e p =
    let w = merging p in
    record {
      grounds = grounds (merge_way w);
      ten = (ten_ground w, λ z. ten_back w z.0 z.1 z.2 z.3 z.4);
      ten_told = ten_result w;
      room = λ l h. let z = ten_ground w h in omega (arith, text_fits (by_pair z.1 z.2 z.3), z.4);
      zero = (zero_ground w, λ z. zero_back w z.0 z.1 z.2 z.3 z.4);
      no_other = answers (merge_way w);
      untouched = output_stays w;
      wrong_result_length = nothing_written w;
    }

pub merge_determined : MergeDetermined
merge_determined levels trace x e e' p q =
    split (eqb (length x.result) result_length) (λ t. let j = p.some t in p.judged t j.0 j.1 ∙ sym (q.judged t j.0 j.1)) (λ t. p.unfit t ∙ sym (q.unfit t))

pub merged_readable_text : MergedReadable
merged_readable_text levels trace x e p h = what_is_written (merging p) h
