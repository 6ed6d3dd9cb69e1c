-- The listings of what the call leaves, of a readable text and of a refusal: the records that are listed are exactly those played, and the bytes are those printed.
use Prim.Native.Nat.{ℕ, ◌*◌, ◌-◌, ◌≤◌}
use native.Mathlib.Omega.{arith}
use borrow.Author.Rules.{rules}
use mathlib.Core.Path.{◌≡◌, refl, sym, ap, ap₂, ◌∙◌}
use mathlib.Core.Bool.{Bool, true}
use mathlib.Core.List.{List, [], ◌∷◌, ◌++◌, append-nil}
use lib.ListN.{length, length-append, length-replicate}
use Rattle.law.specs.Lists.{all_filter}
use Rattle.law.specs.Words.{pick, All}
use Rattle.meaning.specs.Meaning as meaning
use Rattle.meaning.specs.Meaning.{crowded, differ, lost, Means, after}
use Rattle.meaning.specs.Listing.{said, shown_at}
use Rattle.record.specs.declared.Board.{Board}
use Rattle.record.specs.declared.Record.{Record}
use Rattle.record.specs.declared.Reply.{Reply}
use Rattle.record.specs.declared.Answer.{Answer}
use Rattle.record.specs.declared.Answer.TheVariants.{Settled, BadBuffers, TooLong, BadLine, BackInTime, Impossible, Crowded, OrdersDiffer, StatusLost}
use Rattle.record.specs.Answers.{answer_number}
use Rattle.record.specs.Lengths.{replies_length, result_length}
use Rattle.field.specs.Decimal.{largest}
use Rattle.times.specs.Times.{times_length, time_bytes}
use Rattle.machine.specs.Machine.{Machine, machine_at_start, on_machine}
use Rattle.text.specs.Texts.{text_limit, Readable}
use Rattle.text.proofs.Theorems.{few_records}
use Rattle.buffers.specs.Buffers.{Buffers, fit, result_bytes}
use Rattle.buffers.proofs.Result.{result_written}
use Rattle.call.specs.Replay.{Ended, refused_as, count_twos, reply_lines, padded, Replays}
use Rattle.demands.proofs.Readable.{readable_back, stamps_fit}
use Rattle.demands.proofs.Stops.{means_shown, stops_earliest}
use Rattle.demands.specs.Grounds.{OfLine, three, four, five}
use Rattle.demands.specs.Lines.{number_of, stamp_of, records_of, left_by}
use Rattle.demands.proofs.Count.{count_most}
use Rattle.demands.proofs.Entries.{table_length}
use Rattle.demands.proofs.Shown.{outcome_of, means_lines, left_shown}
use Rattle.listing.specs.Bytes.{answer_in, place_in, count_in, field_in, is_refusal}
use Rattle.listing.specs.Lines.{heading, last_line, refused_line}
use Rattle.listing.specs.Writing.{played}
use Rattle.listing.specs.Listing.{Listed, record_lines, listing_with, listing_of}
use Rattle.listing.specs.Pages.{pages_heading, written_lines, times_in, pages_listing}
use Rattle.listing.proofs.Which.{one_listed}
use Rattle.listing.proofs.Theorems.{readable_listed}
use Rattle.printing.specs.Printed.{lines_from, verdict_line, printed_of, pages_printed_of}
use Rattle.printing.proofs.Front.{early_front}
use Rattle.printing.proofs.Replies.{played_left, lines_left}
use Rattle.printing.proofs.Pages.{lines_back}
use Rattle.printing.proofs.Numbers.{answer_back, place_back, count_back, field_back}

-- ---- a listing by its numbers
-- a refusal alone, or the heading, these lines and the last line
unfoldable told : List ℕ → ℕ → ℕ → ℕ → ℕ → List ℕ → List ℕ
told head n t c k lines = pick (is_refusal n) (refused_line n t k) (head ++ (lines ++ last_line n t c))

listing_told : (head lines result : List ℕ) → listing_with head lines result ≡ told head (answer_in result) (place_in result) (count_in result) (field_in result) lines
unfolding listing_with told
listing_told head lines result = refl

result_told : (n t c k : ℕ) (head lines result : List ℕ) → n ≤ largest → t ≤ largest → c ≤ largest → k ≤ largest → result ≡ result_bytes n t c k → listing_with head lines result ≡ told head n t c k lines
result_told n t c k head lines result hn ht hc hk e =
    listing_told head lines result
    ∙ ap (λ (r : List ℕ). told head (answer_in r) (place_in r) (count_in r) (field_in r) lines) e
    ∙ (λ i. told head (answer_back n t c k hn i) (place_back n t c k ht i) (count_back n t c k hc i) (field_back n t c k hk i) lines)

-- what is printed of an answer of demand 3, by its numbers
module _ (b : Board) (rs : List Record) where
  abbrev count_of : meaning.Answer Machine Reply → ℕ
  count_of z = count_twos (records_of b z rs) (shown_at (on_machine b) (records_of b z rs) (outcome_of z))

  printed_told : (z : meaning.Answer Machine Reply) → printed_of b rs z ≡ told heading (number_of z) (stamp_of z) (count_of z) 0 (lines_from 0 (records_of b z rs) (shown_at (on_machine b) (records_of b z rs) (outcome_of z)))
  unfolding printed_of verdict_line told is_refusal last_line
  printed_told z = search rules

  pages_told : (z : meaning.Answer Machine Reply) → pages_printed_of b rs z ≡ told pages_heading (number_of z) (stamp_of z) (count_of z) 0 (written_lines (outcome_of z).state.times)
  unfolding pages_printed_of verdict_line told is_refusal last_line
  pages_told z = search rules

  number_small : (z : meaning.Answer Machine Reply) → number_of z ≤ largest
  number_small z = search rules

lines_most : (ps : List Record) (ys : List Reply) → length (reply_lines ps ys) ≤ 4 * length ps
unfolding reply_lines
lines_most [] ys = omega arith
lines_most (r ∷ ps) [] = omega arith
lines_most (r ∷ ps) (y ∷ ys) = omega (arith, lines_most ps ys)

padded_length : (w : List ℕ) → length w ≤ replies_length → length (padded w) ≡ replies_length
unfolding padded
padded_length w h = length-append w _ ∙ omega (arith, length-replicate {A = ℕ} (replies_length - length w) 0)

-- ---- a readable text within the limit, on buffers that fit
module _ {text : List ℕ} {x : Buffers} {e : Ended} (p : Replays text x e) (f : fit x ≡ true) (l : length text ≤ text_limit) {b : Board} {rs : List Record} (q : Readable text b rs)
    (z : meaning.Answer Machine Reply) (means : Means (on_machine b) rs (machine_at_start b x.images) z) where
  abbrev start : Machine
  start = machine_at_start b x.images

  -- the records that are shown, and what is said to them
  abbrev ps : List Record
  ps = records_of b z rs

  abbrev ys : List Reply
  ys = said (on_machine b) ps start

  left : e ≡ left_by b (number_of z) (stamp_of z) ps start
  left = means_shown p f l q z means ∙ left_shown b rs (readable_back q) start z means

  replies_left : e.buffers.replies ≡ padded (reply_lines ps ys)
  unfolding left_by
  replies_left = ap (λ (w : Ended). w.buffers.replies) left

  result_left : e.buffers.result ≡ result_bytes (number_of z) (stamp_of z) (count_twos ps ys) 0
  unfolding left_by
  result_left = ap (λ (w : Ended). w.buffers.result) left

  -- they are the first of the text's records
  shown_front : (rest : List Record) × (rs ≡ ps ++ rest)
  shown_front = front z
    where
      front : (z : meaning.Answer Machine Reply) → (rest : List Record) × (rs ≡ records_of b z rs ++ rest)
      front (meaning.settled v) = ([], sym (append-nil rs))
      front (meaning.stopped n t v) = early_front (λ (r : Record). r.stamp) t rs q.acceptable.never_back

  shown_few : length ps ≤ 9360
  shown_few = omega (arith, few_records q l, ap length shown_front.1, length-append ps shown_front.0)

  stamp_small : stamp_of z ≤ largest
  unfolding Means
  stamp_small = small z means
    where
      small : (z : meaning.Answer Machine Reply) → Means (on_machine b) rs start z → stamp_of z ≤ largest
      small (meaning.settled v) m = omega arith
      small (meaning.stopped n t v) m = ((stops_earliest p f l q n t).1 m.0).stamp

  -- exactly the records that are shown were played, so exactly these are listed
  pub exactly_played : (records : List Record) → Listed text e.buffers.replies records → records ≡ records_of b z rs
  exactly_played records h =
      let w = e.buffers.replies in
      one_listed text w records (played w 0 rs) h (readable_listed text w b rs q)
      ∙ ap₂ (λ (k : List ℕ) (o : List Record). played k 0 o) replies_left shown_front.1
      ∙ played_left b ps start shown_front.0

  told_left : (head lines : List ℕ) → listing_with head lines e.buffers.result ≡ told head (number_of z) (stamp_of z) (count_twos ps ys) 0 lines
  told_left head lines = result_told (number_of z) (stamp_of z) (count_twos ps ys) 0 head lines e.buffers.result (number_small b rs z) stamp_small (omega (arith, count_most ps ys, shown_few)) (omega arith) result_left

  -- and the listing is what is printed of the answer
  pub listing_printed : (records : List Record) → Listed text e.buffers.replies records → listing_of records e.buffers.replies e.buffers.result ≡ printed_of b rs z
  listing_printed records h =
      let same : record_lines e.buffers.replies 0 records ≡ lines_from 0 ps ys = ap₂ (λ (k : List ℕ) (o : List Record). record_lines k 0 o) replies_left (exactly_played records h) ∙ lines_left b ps start in
      told_left heading (record_lines e.buffers.replies 0 records)
      ∙ ap (told heading _ _ _ _) same
      ∙ sym (printed_told b rs z ∙ ap (λ (k : List Reply). told heading (number_of z) (stamp_of z) (count_twos ps k) 0 (lines_from 0 ps k)) (means_lines b rs (readable_back q) start z means).1)

  -- ---- the pages
  times_left : e.buffers.times ≡ time_bytes (after (on_machine b) ps start).times
  unfolding left_by
  times_left = ap (λ (w : Ended). w.buffers.times) left

  stamps_small : All (λ (r : Record). r.stamp ≤ largest) ps
  stamps_small = small z
    where
      small : (z : meaning.Answer Machine Reply) → All (λ (r : Record). r.stamp ≤ largest) (records_of b z rs)
      small (meaning.settled v) = stamps_fit rs q.fits
      small (meaning.stopped n t v) = all_filter _ _ rs (stamps_fit rs q.fits)

  pub pages_printed : pages_listing e.buffers.times e.buffers.result ≡ pages_printed_of b rs z
  pages_printed =
      let k = means_lines b rs (readable_back q) start z means in
      told_left pages_heading (written_lines (times_in e.buffers.times))
      ∙ ap (told pages_heading _ _ _ _) (ap (λ (w : List ℕ). written_lines (times_in w)) times_left ∙ lines_back b ps x.images stamps_small)
      ∙ sym (pages_told b rs z ∙ ap₂ (λ (ys : List Reply) (m : Machine). told pages_heading (number_of z) (stamp_of z) (count_twos ps ys) 0 (written_lines m.times)) k.1 k.0)

  -- ---- the buffers that are listed have their lengths
  pub replies_length_lem : length e.buffers.replies ≡ replies_length
  replies_length_lem = ap length replies_left ∙ padded_length (reply_lines ps ys) (omega (arith, lines_most ps ys, shown_few))

  pub times_length_lem : length e.buffers.times ≡ times_length
  times_length_lem = ap length times_left ∙ table_length (after (on_machine b) ps start).times

  pub result_length_lem : length e.buffers.result ≡ result_length
  unfolding result_bytes
  result_length_lem = ap length result_left

-- ---- a refusal
answer_small : (a : Answer) → answer_number a ≤ largest
answer_small Settled = omega arith
answer_small BadBuffers = omega arith
answer_small TooLong = omega arith
answer_small BadLine = omega arith
answer_small BackInTime = omega arith
answer_small Impossible = omega arith
answer_small Crowded = omega arith
answer_small OrdersDiffer = omega arith
answer_small StatusLost = omega arith

module _ (x : Buffers) {e : Ended} (a : Answer) (line k : ℕ) (q : e ≡ refused_as a line k x) where
  -- all but the result is as it was lent
  pub replies_kept : e.buffers.replies ≡ x.replies
  unfolding refused_as
  replies_kept = ap (λ (w : Ended). w.buffers.replies) q

  pub times_kept : e.buffers.times ≡ x.times
  unfolding refused_as
  times_kept = ap (λ (w : Ended). w.buffers.times) q

  module _ (room : length x.result ≡ result_length) where
    result_refused : e.buffers.result ≡ result_bytes (answer_number a) line 0 k
    unfolding refused_as
    result_refused = ap (λ (w : Ended). w.buffers.result) q ∙ result_written (answer_number a) line 0 k x.result room

    pub listing_refused : is_refusal (answer_number a) ≡ true → line ≤ largest → k ≤ largest → (head lines : List ℕ) → listing_with head lines e.buffers.result ≡ refused_line (answer_number a) line k
    unfolding told
    listing_refused is h j head lines =
        result_told (answer_number a) line 0 k head lines e.buffers.result (answer_small a) h (omega arith) j result_refused
        ∙ ap (λ (t : Bool). pick t (refused_line (answer_number a) line k) (head ++ (lines ++ last_line (answer_number a) line 0))) is

    pub refused_length : length e.buffers.result ≡ result_length
    unfolding result_bytes
    refused_length = ap length result_refused

-- 3, 4 and 5 are refusals
pub line_refusal : {a : Answer} → OfLine a → is_refusal (answer_number a) ≡ true
unfolding is_refusal
line_refusal three = refl
line_refusal four = refl
line_refusal five = refl
