-- A whole listing: its parts are written one after another, and it has room.
use Prim.Native.Nat.{ℕ, ◌+◌, ◌≤◌, ◌<◌}
use native.Mathlib.Omega.{arith}
use native.Mathlib.Nat.{zero-add}
use mathlib.Core.Path.{◌≡◌, sym, ap, subst, ◌∙◌}
use mathlib.Core.Bool.{true, false}
use mathlib.Core.List.{List, ◌++◌, append_assoc}
use lib.Dec.{eqb}
use lib.ListN.{length, drop, length-append}
use lib.Seq.{sets, length-sets}
use borrow.Author.Tests.{eq-eqb, ne_eqb, lt-ltb, le-ltb, eqb-true}
use Rattle.std.specs.Prelude.{Some, None}
use Rattle.law.specs.Choice.{split}
use Rattle.field.specs.Spelling.{no_bytes, put_all}
use Rattle.field.specs.Room.{room}
use Rattle.field.proofs.SpellingLaws.{holds}
use Rattle.record.specs.Lengths.{replies_length, result_length, reply_places}
use Rattle.listing.specs.Bytes.{answer_in, place_in, count_in, field_in, is_refusal}
use Rattle.listing.specs.Lines.{heading, last_line, refused_line}
use Rattle.listing.specs.Listing.{record_lines, listing_with, listing_room, where_fit, Formats, Lists}
use Rattle.listing.specs.Writing.{ListsPlayed, ListsLines, told_of}
use Rattle.listing.specs.declared.told.Told.{Told}
use Rattle.listing.proofs.Lengths.{heading_length}
use Rattle.listing.proofs.Stores.{then, front}
use Rattle.listing.proofs.Which.{some_listed, from_somewhere, few, lines_length}

-- what is written, by its bytes
pub rewritten : {w v old new : List ℕ} {from most n : ℕ} → w ≡ v → ListsLines w old from most new n → ListsLines v old from most new n
rewritten {w} {v} {old} {new} {from} {most} {n} e l = subst (λ (u : List ℕ). ListsLines u old from most new n) e l

-- a line that was put together and copied out
pub line_written : (w old new : List ℕ) (from n : ℕ) {s : List ℕ} → s ≡ put_all no_bytes w → length w ≤ room → n ≡ from + length s → new ≡ sets old from s → ListsLines w old from 1 new n
line_written w old new from n e short p q = rewritten (holds w e short) (record { place = p; content = q; space = omega (arith, p, ap length (holds w e short)) })

-- ---- which listing it is
module _ (head lines result : List ℕ) where
  refused_is : is_refusal (answer_in result) ≡ true → listing_with head lines result ≡ refused_line (answer_in result) (place_in result) (field_in result)
  unfolding listing_with
  refused_is t = rw t

  played_is : is_refusal (answer_in result) ≡ false → listing_with head lines result ≡ head ++ (lines ++ last_line (answer_in result) (place_in result) (count_in result))
  unfolding listing_with
  played_is t = rw t

-- ---- what a result tells
abbrev pub told_by : List ℕ → Told
told_by result = record { answer = answer_in result; place = place_in result; count = count_in result; field = field_in result }

module _ (result : List ℕ) where
  pub told_says : {t : Told} → told_of result ≡ Some t → (length result ≡ result_length) × (t ≡ told_by result)
  unfolding told_of
  told_says {t} e =
      split (eqb (length result) result_length)
      (λ q. let z : Some (told_by result) ≡ Some t = simp q at e in (eqb-true _ _ q, cc))
      (λ q. let z : None ≡ Some t = simp q at e in absurd (cc))

  pub untold : told_of result ≡ None → length result ≡ result_length → ⊥
  unfolding told_of
  untold e l = let z : Some (told_by result) ≡ None = simp (eq-eqb _ _ l) at e in absurd (cc)

-- ---- buffers that do not fit
module _ (size : ℕ) (listed result w old : List ℕ) where
  nothing : ((A : Type 0) (a b : A) → where_fit size listed result old a b ≡ b) → Formats size listed result w old old 0
  nothing u = record { within = omega arith; answer = sym (u _ _ _); content = sym (u _ _ _) }

  pub other_listed : (length listed ≡ size → ⊥) → Formats size listed result w old old 0
  other_listed n = nothing (λ A a b. simp (ne_eqb (length listed) size n))

  pub no_room : length old < listing_room → Formats size listed result w old old 0
  no_room l =
      nothing (λ A a b.
      split (eqb (length listed) size) (λ t. split (eqb (length result) result_length) (λ u. simp (t, u, lt-ltb (length old) listing_room l)) (λ u. simp (t, u))) (λ t. simp t))

  pub other_result : (length result ≡ result_length → ⊥) → Formats size listed result w old old 0
  other_result n = nothing (λ A a b. split (eqb (length listed) size) (λ t. simp (t, ne_eqb (length result) result_length n)) (λ t. simp t))

-- ---- buffers that do
module _ (size : ℕ) (listed result old : List ℕ) (e : length listed ≡ size) (r : listing_room ≤ length old) {t : Told} (told : told_of result ≡ Some t) where
  fit : {A : Type 0} (a b : A) → where_fit size listed result old a b ≡ a
  fit a b = simp (eq-eqb (length listed) size e, eq-eqb (length result) result_length (told_says result told).0, le-ltb (length old) listing_room r)

  whole : {new w v : List ℕ} {n : ℕ} → w ≡ v → n ≡ length v → n ≤ listing_room → new ≡ sets old 0 v → Formats size listed result w old new n
  whole {new} {w} {v} {n} is p m q = record {
    within = omega (arith, ap length q, length-sets old 0 v);
    answer = p ∙ ap length (sym is) ∙ sym (fit _ _);
    content = q ∙ front v old (omega arith) ∙ ap (λ (u : List ℕ). u ++ drop (length u) old) (sym is) ∙ sym (fit _ _);
  }

  module _ (head lines : List ℕ) where
    is : t ≡ told_by result
    is = (told_says result told).1

    -- a refusal alone
    pub refused : {new : List ℕ} {n : ℕ} → is_refusal t.answer ≡ true → ListsLines (refused_line t.answer t.place t.field) old 0 1 new n → Formats size listed result (listing_with head lines result) old new n
    refused u l =
        whole (refused_is head lines result (ap (λ (k : Told). is_refusal k.answer) (sym is) ∙ u) ∙ ap (λ (k : Told). refused_line k.answer k.place k.field) (sym is))
        (l.place ∙ zero-add _) (omega (arith, l.space)) l.content

    -- or the heading, the lines, and the last line
    pub ended : {mid new : List ℕ} {at n most : ℕ} → is_refusal t.answer ≡ false → most ≤ reply_places + 1 → ListsLines (head ++ lines) old 0 most mid at → ListsLines (last_line t.answer t.place t.count) mid at 1 new n
        → Formats size listed result (listing_with head lines result) old new n
    ended {mid} {new} {at} {n} u few-lines b l =
        let last = last_line t.answer t.place t.count in
        whole (played_is head lines result (ap (λ (k : Told). is_refusal k.answer) (sym is) ∙ u) ∙ ap (λ (k : Told). head ++ (lines ++ last_line k.answer k.place k.count)) (sym is) ∙ sym (append_assoc head lines last))
        (omega (arith, b.place, l.place, length-append (head ++ lines) last))
        (omega (arith, b.space, l.space))
        (then (head ++ lines) last old new b.content (b.place ∙ zero-add _) l.content)

-- ---- the listing of the records
module _ {text replies old : List ℕ} where
  -- the heading and the records' lines leave room for a last line
  pub played_lines : {mid : List ℕ} {at : ℕ} → length replies ≡ replies_length → (p : ListsPlayed text replies old mid at) → ListsLines (heading ++ record_lines replies 0 p.records) old 0 (reply_places + 1) mid at
  played_lines e p =
      let s = from_somewhere text replies p.records p.listed in
      let t = few text replies reply_places (omega arith) s.0 0 p.records (omega arith) s.1 in
      let l = lines_length text replies s.0 0 p.records s.1 t in
      record {
        place = p.place ∙ sym (zero-add _);
        content = p.content;
        space = omega (arith, p.place, heading_length, length-append heading (record_lines replies 0 p.records));
      }

  -- where no record is looked at, some list of them is the one
  pub lists : {result new : List ℕ} {n : ℕ} → ((lines : List ℕ) → Formats replies_length replies result (listing_with heading lines result) old new n) → Lists text replies result old new n
  lists f = let t = some_listed text replies in record { records = t.0; listed = t.1; formats = f (record_lines replies 0 t.0) }

  pub lists_played : {result mid new : List ℕ} {at n : ℕ} (p : ListsPlayed text replies old mid at) → Formats replies_length replies result (listing_with heading (record_lines replies 0 p.records) result) old new n → Lists text replies result old new n
  lists_played p f = record { records = p.records; listed = p.listed; formats = f }
