-- Refusals 1 to 5 have exact grounds (document 01, 'Replies and stopping', the table): each is given where its ground holds and nowhere else, refusals 3 to 5 name the first bad line and 3 its first bad field, and all leave the images, the masks, the table of times and the replies untouched.
use mathlib.Core.Path.{◌≡◌, refl, sym, ap, subst, ◌∙◌}
use mathlib.Core.Bool.{Bool, true, false}
use mathlib.Core.Logic.{◌↔◌, ⊎_elim}
use mathlib.Core.List.{List}
use Prim.Native.Nat.{ℕ, ◌≤◌, ◌<◌}
use native.Mathlib.Omega.{arith}
use borrow.Author.Tests.{ne_eqb, lt-ltb, le-ltb}
use lib.ListN.{length, drop}
use Rattle.law.specs.Choice.{split}
use Rattle.law.specs.Words.{pick}
use Rattle.meaning.specs.Meaning as meaning
use Rattle.record.specs.declared.Board.{Board}
use Rattle.record.specs.declared.Record.{Record}
use Rattle.record.specs.declared.Reply.{Reply}
use Rattle.record.specs.declared.Answer.{Answer}
use Rattle.record.specs.declared.Answer.TheVariants.{BadBuffers, TooLong, BadLine, BackInTime, Impossible}
use Rattle.record.specs.Answers.{answer_number}
use Rattle.field.specs.Decimal.{largest}
use Rattle.machine.specs.Machine.{Machine}
use Rattle.text.specs.Texts.{text_limit, Refused}
use Rattle.text.proofs.Fields.{field_small, field_of}
use Rattle.record.specs.Lengths.{result_length}
use Rattle.record.specs.Word.{word}
use Rattle.buffers.specs.Buffers.{Buffers, fit, result_bytes, result_after}
use Rattle.buffers.proofs.Fit.{fit_says}
use Rattle.buffers.proofs.Result.{result_written}
use Rattle.call.specs.Replay.{Ended, ended_as, refused_as, shown_as, shown, Replays}
use Rattle.demands.specs.Grounds.{OfLine, three, four, five, Untouched}
use Rattle.demands.proofs.Result.{number_one, field_one}
use Rattle.demands.proofs.Ways.{Way, unfit, long, bad, played, way, refused_line_lem, line_number, line_one, line_fits, shown_answer}

module _ (x : Buffers) {e : Ended} (a : Answer) (n k : ℕ) (q : e ≡ refused_as a n k x) where
  pub number_of_lem : e.answer ≡ answer_number a
  unfolding refused_as
  number_of_lem = ap (λ (y : Ended). y.answer) q

  pub result_of_lem : length x.result ≡ result_length → e.buffers.result ≡ result_bytes (answer_number a) n 0 k
  unfolding refused_as
  result_of_lem l = ap (λ (y : Ended). y.buffers.result) q ∙ result_written (answer_number a) n 0 k x.result l

  leaves : Untouched x e
  unfolding refused_as
  leaves = record {
    images = ap (λ (y : Ended). y.buffers.images) q;
    times = ap (λ (y : Ended). y.buffers.times) q;
    replies = ap (λ (y : Ended). y.buffers.replies) q;
  }

-- a readable text has no bad field
shown_no_field : (b : Board) (rs : List Record) (z : meaning.Answer Machine Reply) → drop 12 (shown b rs z).buffers.result ≡ word 0
unfolding shown shown_as result_bytes
shown_no_field b rs (meaning.settled v) = refl
shown_no_field b rs (meaning.stopped n t v) = refl

module _ {text : List ℕ} {x : Buffers} {e : Ended} where
  -- the number says the way
  says_unfit : Way text x e → e.answer ≡ 1 → fit x ≡ false
  says_unfit (unfit f q) h = f
  says_unfit (long f l q) h = absurd (omega (arith, number_of_lem x TooLong 0 0 q))
  says_unfit (bad f l a n k w q) h = absurd (omega (arith, number_of_lem x a n k q, line_number (refused_line_lem w)))
  says_unfit (played f l b rs w z m q) h =
      let k = ap (λ (y : Ended). y.answer) q in
      ⊎_elim (λ s. absurd (omega arith)) (λ s. absurd (omega arith)) (shown_answer b rs z)

  says_long : Way text x e → e.answer ≡ 2 → (fit x ≡ true) × (text_limit < length text)
  says_long (unfit f q) h = absurd (omega (arith, number_of_lem x BadBuffers 0 0 q))
  says_long (long f l q) h = (f, l)
  says_long (bad f l a n k w q) h = absurd (omega (arith, number_of_lem x a n k q, line_number (refused_line_lem w)))
  says_long (played f l b rs w z m q) h =
      let k = ap (λ (y : Ended). y.answer) q in
      ⊎_elim (λ s. absurd (omega arith)) (λ s. absurd (omega arith)) (shown_answer b rs z)

  says_line : Way text x e → (a : Answer) → OfLine a → e.answer ≡ answer_number a → (fit x ≡ true) × (length text ≤ text_limit) × (n : ℕ) × (k : ℕ) × Refused text a n k × (e ≡ refused_as a n k x)
  says_line (unfit f q) a o h = absurd (omega (arith, number_of_lem x BadBuffers 0 0 q, line_number o))
  says_line (long f l q) a o h = absurd (omega (arith, number_of_lem x TooLong 0 0 q, line_number o))
  says_line (bad f l a' n k w q) a o h =
      let same : a' ≡ a = line_one (refused_line_lem w) o (sym (number_of_lem x a' n k q) ∙ h) in
      (f, l, n, k, subst (λ (y : Answer). Refused text y n k) same w, q ∙ ap (λ (y : Answer). refused_as y n k x) same)
  says_line (played f l b rs w z m q) a o h =
      let k = ap (λ (y : Ended). y.answer) q in
      let r = line_number o in
      ⊎_elim (λ s. absurd (omega arith)) (λ s. absurd (omega arith)) (shown_answer b rs z)

  says_untouched : Way text x e → 1 ≤ e.answer → e.answer ≤ 5 → Untouched x e
  says_untouched (unfit f q) h i = leaves x BadBuffers 0 0 q
  says_untouched (long f l q) h i = leaves x TooLong 0 0 q
  says_untouched (bad f l a n k w q) h i = leaves x a n k q
  says_untouched (played f l b rs w z m q) h i =
      let r = ap (λ (y : Ended). y.answer) q in
      ⊎_elim (λ s. absurd (omega arith)) (λ s. absurd (omega arith)) (shown_answer b rs z)

  says_no_field : Way text x e → (e.answer ≡ 3 → ⊥) → length x.result ≡ result_length → drop 12 e.buffers.result ≡ word 0
  unfolding result_bytes
  says_no_field (unfit f q) h l = ap (drop 12) (result_of_lem x BadBuffers 0 0 q l)
  says_no_field (long f s q) h l = ap (drop 12) (result_of_lem x TooLong 0 0 q l)
  says_no_field (bad f s a n k w q) h l =
      ⊎_elim (λ t. absurd (h (number_of_lem x a n k q ∙ ap answer_number t.0))) (λ t. ap (drop 12) (result_of_lem x a n k q l) ∙ ap word t.1) (field_of w)
  says_no_field (played f s b rs w z m q) h l = ap (λ (y : Ended). drop 12 y.buffers.result) q ∙ shown_no_field b rs z

module _ {text : List ℕ} {x : Buffers} {e : Ended} (p : Replays text x e) where
  -- 1 exactly where the buffers do not fit
  pub bad_buffers : (e.answer ≡ 1) ↔ (fit x ≡ false)
  bad_buffers = (says_unfit (way p), λ f. number_of_lem x BadBuffers 0 0 (p.unfit f))

  -- 2 exactly where they fit and the text is over 65,536
  pub too_long : (e.answer ≡ 2) ↔ ((fit x ≡ true) × (text_limit < length text))
  too_long = (says_long (way p), λ h. number_of_lem x TooLong 0 0 (p.long h.0 (lt-ltb _ _ h.1)))

  -- 3, 4, 5 exactly where neither holds and the first bad line is one of that kind
  pub bad_line_answer : (a : Answer) → OfLine a → (e.answer ≡ answer_number a) ↔ ((fit x ≡ true) × (length text ≤ text_limit) × (n : ℕ) × (k : ℕ) × Refused text a n k)
  bad_line_answer a o = (
    (λ h. let s = says_line (way p) a o h in (s.0, s.1, s.2, s.3, s.4)),
    λ h. number_of_lem x a h.2 h.3 (p.bad h.0 (le-ltb _ _ h.1) a h.2 h.3 h.4),
  )

  pub wrong_form : (e.answer ≡ 3) ↔ ((fit x ≡ true) × (length text ≤ text_limit) × (n : ℕ) × (k : ℕ) × Refused text BadLine n k)
  wrong_form = bad_line_answer BadLine three

  -- 4 and 5 with no field
  without_field : (a : Answer) → OfLine a → (answer_number a ≡ 3 → ⊥) → (e.answer ≡ answer_number a) ↔ ((fit x ≡ true) × (length text ≤ text_limit) × (n : ℕ) × Refused text a n 0)
  without_field a o apart = (
    (λ h.
        let s = (bad_line_answer a o).0 h in
        (s.0, s.1, s.2, ⊎_elim (λ t. absurd (apart (ap answer_number t.0))) (λ t. subst (λ (k : ℕ). Refused text a s.2 k) t.1 s.4) (field_of s.4))),
    λ h. (bad_line_answer a o).1 (h.0, h.1, h.2, 0, h.3),
  )

  pub back_in_time : (e.answer ≡ 4) ↔ ((fit x ≡ true) × (length text ≤ text_limit) × (n : ℕ) × Refused text BackInTime n 0)
  back_in_time = without_field BackInTime four (λ t. omega arith)

  pub impossible : (e.answer ≡ 5) ↔ ((fit x ≡ true) × (length text ≤ text_limit) × (n : ℕ) × Refused text Impossible n 0)
  impossible = without_field Impossible five (λ t. omega arith)

  -- and the line that the result names is the first bad line, and the field that of its refusal, and no others: both numbers are below 2^32
  module _ (f : fit x ≡ true) (l : length text ≤ text_limit) where
    pub first_bad_line : (a : Answer) → OfLine a → (n k : ℕ) → ((n ≤ largest) × (k ≤ largest) × (e ≡ refused_as a n k x)) ↔ Refused text a n k
    first_bad_line a o n k = (
      (λ h.
          let s = says_line (way p) a o (number_of_lem x a n k h.2) in
          let long = (fit_says x f).result_long in
          let same = sym (result_of_lem x a s.2 s.3 s.5 long) ∙ result_of_lem x a n k h.2 long in
          let line : s.2 ≡ n = number_one _ s.2 _ _ _ n _ _ same (line_fits l s.4) h.0 in
          let place : s.3 ≡ k = field_one _ _ _ s.3 _ _ _ k same (omega (arith, field_small s.4)) h.1 in
          subst (λ (j : ℕ). Refused text a n j) place (subst (λ (j : ℕ). Refused text a j s.3) line s.4)),
      λ w. (line_fits l w, omega (arith, field_small w), p.bad f (le-ltb _ _ l) a n k w),
    )

  -- 3 comes with the first bad line and the number of its first bad field, counted from 1
  pub bad_field : e.answer ≡ 3 → (n : ℕ) × (k : ℕ) × Refused text BadLine n k × (1 ≤ k) × (e.buffers.result ≡ result_bytes 3 n 0 k)
  bad_field h =
      let s = says_line (way p) BadLine three h in
      (s.2, s.3, s.4, ⊎_elim (λ t. t.1) (λ t. absurd (t.0 refl)) (field_of s.4), result_of_lem x BadLine s.2 s.3 s.5 (fit_says x s.0).result_long)

  -- every other answer comes with field 0
  pub no_field : (e.answer ≡ 3 → ⊥) → length x.result ≡ result_length → drop 12 e.buffers.result ≡ word 0
  no_field = says_no_field (way p)

  -- refusals 1 to 5 leave all untouched but the result
  pub untouched : 1 ≤ e.answer → e.answer ≤ 5 → Untouched x e
  untouched = says_untouched (way p)

  -- 'with a wrong length nothing is written there': nothing is written anywhere
  pub wrong_result_length : (length x.result ≡ result_length → ⊥) → e ≡ ended_as 1 x
  unfolding refused_as result_after
  wrong_result_length h = p.unfit unfits ∙ ap (λ (t : Bool). ended_as 1 (record { images = x.images; times = x.times; replies = x.replies; result = pick t (result_bytes 1 0 0 0) x.result })) (ne_eqb _ _ h)
    where
      unfits : fit x ≡ false
      unfits = split (fit x) (λ t. absurd (h (fit_says x t).result_long)) (λ t. t)
