-- What a listing of the buffers that the call left says, for both kinds of listings.
use Prim.Native.Nat.{ℕ, ◌≤◌, ◌<◌}
use mathlib.Core.Path.{◌≡◌, ap, ◌∙◌}
use mathlib.Core.Bool.{true}
use mathlib.Core.List.{List, ◌++◌}
use borrow.Author.Tests.{eq-eqb, lt-ltb, le-ltb}
use lib.ListN.{length, drop}
use Rattle.meaning.specs.Meaning as meaning
use Rattle.meaning.specs.Meaning.{Means}
use Rattle.record.specs.declared.Board.{Board}
use Rattle.record.specs.declared.Record.{Record}
use Rattle.record.specs.declared.Reply.{Reply}
use Rattle.record.specs.declared.Answer.{Answer}
use Rattle.record.specs.Answers.{answer_number}
use Rattle.record.specs.Lengths.{replies_length, result_length}
use Rattle.field.specs.Decimal.{largest}
use Rattle.times.specs.Times.{times_length}
use Rattle.machine.specs.Machine.{Machine, machine_at_start, on_machine}
use Rattle.text.specs.Texts.{text_limit, Readable}
use Rattle.buffers.specs.Buffers.{Buffers, fit}
use Rattle.buffers.proofs.Fit.{fit_says}
use Rattle.call.specs.Replay.{Ended, refused_as, Replays}
use Rattle.listing.specs.Bytes.{is_refusal}
use Rattle.listing.specs.Lines.{refused_line}
use Rattle.listing.specs.Listing.{Listed, listing_of, listing_room, where_fit, Formats}
use Rattle.listing.specs.Pages.{pages_listing}
use Rattle.printing.specs.Printed.{Kind, printed_of, pages_printed_of, Written}
use Rattle.printing.proofs.Shown.{listing_printed, pages_printed, replies_length_lem, times_length_lem, result_length_lem, replies_kept, times_kept, listing_refused, refused_length}

-- the buffers that are read have their lengths
abbrev pub Sized : (Buffers → List ℕ) → ℕ → Buffers → Type 0
Sized listed size y = (length (listed y) ≡ size) × (length y.result ≡ result_length)

-- the listing w, made of the buffer `listed` and of the result: a refusal's line, or what is printed of the answer; and the lengths of what it is made of
pub record Says (of : Kind) (listed : Buffers → List ℕ) (size : ℕ) (text : List ℕ) (x : Buffers) (e : Ended) (w : List ℕ) : Type 0 where
  pub right : fit x ≡ true → Sized listed size x
  pub refused : (a : Answer) (line k : ℕ) → e ≡ refused_as a line k x → Sized listed size x → is_refusal (answer_number a) ≡ true → line ≤ largest → k ≤ largest →
      (w ≡ refused_line (answer_number a) line k) × Sized listed size e.buffers
  pub shown : fit x ≡ true → length text ≤ text_limit → (b : Board) (rs : List Record) → Readable text b rs → (z : meaning.Answer Machine Reply) → Means (on_machine b) rs (machine_at_start b x.images) z →
      (w ≡ of b rs z) × Sized listed size e.buffers

module _ {text : List ℕ} {x : Buffers} {e : Ended} (p : Replays text x e) where
  pub says_records : (records : List Record) → Listed text e.buffers.replies records → Says printed_of (λ (y : Buffers). y.replies) replies_length text x e (listing_of records e.buffers.replies e.buffers.result)
  says_records records h = record {
    right = λ f. ((fit_says x f).replies_long, (fit_says x f).result_long);
    refused = λ a line k q l is m j. (listing_refused x a line k q l.1 is m j _ _, (ap length (replies_kept x a line k q) ∙ l.0, refused_length x a line k q l.1));
    shown = λ f l b rs q z means. (listing_printed p f l q z means records h, (replies_length_lem p f l q z means, result_length_lem p f l q z means));
  }

  pub says_pages : Says pages_printed_of (λ (y : Buffers). y.times) times_length text x e (pages_listing e.buffers.times e.buffers.result)
  says_pages = record {
    right = λ f. ((fit_says x f).times_long, (fit_says x f).result_long);
    refused = λ a line k q l is m j. (listing_refused x a line k q l.1 is m j _ _, (ap length (times_kept x a line k q) ∙ l.0, refused_length x a line k q l.1));
    shown = λ f l b rs q z means. (pages_printed p f l q z means, (times_length_lem p f l q z means, result_length_lem p f l q z means));
  }

-- ---- what is formatted is written out where there is room
module _ {size : ℕ} {listed result w old new : List ℕ} {n : ℕ} (k : Formats size listed result w old new n) (l : (length listed ≡ size) × (length result ≡ result_length)) where
  pub written_out : (v : List ℕ) → w ≡ v → listing_room ≤ length old → Written v old new n
  written_out v e room = record { number = k.answer ∙ there _ _ ∙ ap length e; content = k.content ∙ there _ _ ∙ ap (λ (u : List ℕ). u ++ drop (length u) old) e }
    where
      there : {A : Type 0} (a b : A) → where_fit size listed result old a b ≡ a
      there a b = simp (eq-eqb _ _ l.0, eq-eqb _ _ l.1, le-ltb (length old) listing_room room)

  -- or the output stays as it was
  pub left_alone : length old < listing_room → (n ≡ 0) × (new ≡ old)
  left_alone short = (k.answer ∙ no_room _ _, k.content ∙ no_room _ _)
    where
      no_room : {A : Type 0} (a b : A) → where_fit size listed result old a b ≡ b
      no_room a b = simp (eq-eqb _ _ l.0, eq-eqb _ _ l.1, lt-ltb (length old) listing_room short)
