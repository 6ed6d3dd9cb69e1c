-- The loop over the records of a text.
use Prim.Native.Nat.{ℕ, suc, ◌+◌, ◌*◌, ◌≤◌, ◌<◌}
use native.Mathlib.Omega.{arith}
use native.Mathlib.Numerals.{add-one}
use native.Mathlib.Nat.{add-zero, add-suc, suc-add, zero-add}
use mathlib.Core.Path.{◌≡◌, refl, sym, ap, ap₂, subst, ◌∙◌}
use mathlib.Core.Bool.{Bool, true, false}
use mathlib.Core.List.{List, [], ◌∷◌, ◌++◌, append_assoc, append-nil}
use lib.ListN.{length, length-append}
use lib.Seq.{sets, append_snoc}
use Rattle.record.specs.declared.Board.{Board}
use Rattle.record.specs.declared.Record.{Record}
use Rattle.record.specs.declared.Reply.{Reply}
use Rattle.record.specs.declared.Match.{Match}
use Rattle.record.specs.Lengths.{reply_places}
use Rattle.field.specs.Reads.{Stands}
use Rattle.field.specs.Spelling.{no_bytes, put_all}
use Rattle.field.specs.Room.{room}
use Rattle.field.proofs.Reading.{Got}
use Rattle.field.proofs.SpellingLaws.{holds}
use Rattle.line.specs.Boards.{spelled_board, BoardOk}
use Rattle.line.specs.Records.{spelled, RecordOk}
use Rattle.listing.specs.Bytes.{was_played, reply_at, match_at}
use Rattle.listing.specs.Lines.{heading, record_line}
use Rattle.listing.specs.Listing.{ListedFrom, Listed, record_lines}
use Rattle.listing.specs.Writing.{ListsRecords, ListsPlayed}
use Rattle.listing.proofs.Lengths.{heading_length, record_length}
use Rattle.listing.proofs.Stores.{joined, then}
use Rattle.listing.proofs.Which.{listed_behind}

-- one record's line more
lines_more : (replies : List ℕ) (rs : List Record) (k : ℕ) (r : Record)
    → record_lines replies k (rs ++ (r ∷ [])) ≡ record_lines replies k rs ++ record_line (k + length rs + 2) r.stamp (reply_at replies (k + length rs)) (match_at replies (k + length rs))
unfolding record_lines
lines_more replies [] k r =
    append-nil (record_line (k + 2) r.stamp (reply_at replies k) (match_at replies k))
    ∙ ap (λ (j : ℕ). record_line (j + 2) r.stamp (reply_at replies j) (match_at replies j)) (sym (add-zero k))
lines_more replies (x ∷ rs) k r =
    ap (λ (l : List ℕ). record_line (k + 2) x.stamp (reply_at replies k) (match_at replies k) ++ l)
    (lines_more replies rs (suc k) r
    ∙ ap (λ (j : ℕ). record_lines replies (suc k) rs ++ record_line (j + 2) r.stamp (reply_at replies j) (match_at replies j)) (suc-add k (length rs) ∙ sym (add-suc k (length rs))))
    ∙ sym (append_assoc (record_line (k + 2) x.stamp (reply_at replies k) (match_at replies k)) (record_lines replies (suc k) rs) _)

-- The lines of the k records from the place first of the text to the place c were written from `from` on. What is listed from c on is listed after them.
pub record So (text : List ℕ) (first : ℕ) (replies old : List ℕ) (from : ℕ) (new : List ℕ) (at c k : ℕ) : Type 0 where
  pub records : List Record
  pub many : length records ≡ k
  pub goes : (rs : List Record) → ListedFrom text replies c k rs → ListedFrom text replies first 0 (records ++ rs)
  pub place : at ≡ from + length (record_lines replies 0 records)
  pub content : new ≡ sets old from (record_lines replies 0 records)
  pub space : at ≤ from + room * k

-- none yet
pub begun : (text : List ℕ) (first : ℕ) (replies old : List ℕ) (from : ℕ) → So text first replies old from old from first 0
unfolding record_lines
begun text first replies old from = record { records = []; many = refl; goes = λ rs l. l; place = sym (add-zero from); content = refl; space = omega arith }

module _ {text : List ℕ} {first : ℕ} {replies old : List ℕ} {from : ℕ} {new : List ℕ} {at c k : ℕ} (so : So text first replies old from new at c k) where
  -- nothing more is listed
  pub over : ((r : Record) → RecordOk r → Stands text c (spelled r) → was_played (reply_at replies k) ≡ false) → ListsRecords (ListedFrom text replies first 0) replies old from new at
  unfolding ListedFrom
  over n = record {
    records = so.records;
    listed = subst (λ (rs : List Record). ListedFrom text replies first 0 rs) (append-nil so.records) (so.goes [] n);
    place = so.place;
    content = so.content;
  }

  -- one record more
  step : (r : Record) {s : List ℕ} {new' : List ℕ} {next at' : ℕ} → Got spelled RecordOk text c r next → was_played (reply_at replies k) ≡ true → k < reply_places
      → s ≡ put_all no_bytes (record_line (k + 2) r.stamp (reply_at replies k) (match_at replies k)) → at' ≡ at + length s → new' ≡ sets new at s
      → So text first replies old from new' at' next (k + 1)
  unfolding ListedFrom
  step r {s} {new'} {next} {at'} g played small e p f = record {
    records = so.records ++ (r ∷ []);
    many = length-append so.records (r ∷ []) ∙ ap (λ (n : ℕ). n + 1) so.many;
    goes = λ rs l. subst (λ (xs : List Record). ListedFrom text replies first 0 xs) (sym (append_snoc so.records r rs))
        (so.goes (r ∷ rs) (g.ok, g.stands, played, subst (λ (n : ℕ). ListedFrom text replies (c + length (spelled r)) n rs) (add-one k) (subst (λ (n : ℕ). ListedFrom text replies n (k + 1) rs) g.next l)));
    place = omega (arith, p, so.place, ap length h, length-append before line, ap length whole);
    content = f ∙ ap₂ (λ (l : List ℕ) (j : ℕ). sets l j s) so.content so.place ∙ joined before s old from ∙ ap (λ (w : List ℕ). sets old from w) (ap (λ (w : List ℕ). before ++ w) h ∙ whole);
    space = omega (arith, p, so.space, ap length h, short);
  }
    where
      before : List ℕ
      before = record_lines replies 0 so.records

      line : List ℕ
      line = record_line (k + 2) r.stamp (reply_at replies k) (match_at replies k)

      short : length line ≤ room
      short = record_length (k + 2) r.stamp (omega arith) g.ok.0 (reply_at replies k) (match_at replies k)

      h : s ≡ line
      h = holds line e short

      whole : before ++ line ≡ record_lines replies 0 (so.records ++ (r ∷ []))
      whole =
          sym (lines_more replies so.records 0 r
          ∙ ap (λ (j : ℕ). before ++ record_line (j + 2) r.stamp (reply_at replies j) (match_at replies j)) (zero-add (length so.records) ∙ so.many))

  -- as the code has it
  module _ {reply : Reply} {was : Bool} (is : reply ≡ reply_at replies k) (does : was ≡ was_played reply) where
    pub unplayed : was ≡ false → ListsRecords (ListedFrom text replies first 0) replies old from new at
    unplayed t = over (λ r o s. sym (ap was_played is) ∙ sym does ∙ t)

    pub onward : {r : Record} {found : Match} {s : List ℕ} {new' : List ℕ} {next at' : ℕ} → was ≡ true → Got spelled RecordOk text c r next → found ≡ match_at replies k → k < reply_places
        → s ≡ put_all no_bytes (record_line (k + 2) r.stamp reply found) → at' ≡ at + length s → new' ≡ sets new at s
        → So text first replies old from new' at' next (k + 1)
    onward {r} t g same small e p f =
        step r g (sym (ap was_played is) ∙ sym does ∙ t) small (e ∙ ap₂ (λ (x : Reply) (m : Match). put_all no_bytes (record_line (k + 2) r.stamp x m)) is same) p f

-- ---- behind the board's line
pub behind_board : {text replies old new : List ℕ} {from n p : ℕ} {b : Board} → Got spelled_board BoardOk text 0 b p → ListsRecords (ListedFrom text replies p 0) replies old from new n → ListsRecords (Listed text replies) replies old from new n
behind_board {text} {replies} {b = b} g l = record {
  records = l.records;
  listed = listed_behind text replies b l.records g.ok g.stands (subst (λ (m : ℕ). ListedFrom text replies m 0 l.records) (g.next ∙ zero-add (length (spelled_board b))) l.listed);
  place = l.place;
  content = l.content;
}

pub no_board_lem : {text replies old : List ℕ} {from : ℕ} → ((b : Board) → BoardOk b → Stands text 0 (spelled_board b) → ⊥) → ListsRecords (Listed text replies) replies old from old from
unfolding record_lines
no_board_lem {from = from} n = record { records = []; listed = record { behind = λ b o s. absurd (n b o s); none = λ m. refl }; place = sym (add-zero from); content = refl }

-- the heading first
pub headed : {text replies old mid new : List ℕ} {from n : ℕ} {s : List ℕ} → s ≡ put_all no_bytes heading → from ≡ 0 + length s → mid ≡ sets old 0 s → ListsRecords (Listed text replies) replies mid from new n → ListsPlayed text replies old new n
headed {text} {replies} {old} {mid} {new} {from} {n} {s} e p f l = record {
  records = l.records;
  listed = l.listed;
  place = omega (arith, p, ap length h, l.place, length-append heading (record_lines replies 0 l.records));
  content = then heading (record_lines replies 0 l.records) old new (f ∙ ap (λ (w : List ℕ). sets old 0 w) h) (p ∙ zero-add (length s) ∙ ap length h) l.content;
}
  where
    h : s ≡ heading
    h = holds heading e (omega (arith, heading_length))
