-- Which records are listed: there is exactly one list of them, it has no more records than there are replies, and its lines are so many bytes at most.
use Prim.Native.Nat.{ℕ, suc, zero, ◌+◌, ◌*◌, ◌≤◌, ◌<◌}
use native.Mathlib.Omega.{arith}
use mathlib.Core.Path.{◌≡◌, refl, sym, ap, subst, ◌∙◌}
use mathlib.Core.Bool.{false}
use mathlib.Core.Logic.{⊎_elim}
use mathlib.Core.List.{List, [], ◌∷◌}
use lib.ListN.{length, get_or, length-append, get_or-eq_default}
use Rattle.law.specs.Choice.{split, lt_or_le, true_not_false}
use Rattle.record.specs.declared.Board.{Board}
use Rattle.record.specs.declared.Record.{Record}
use Rattle.record.specs.Lengths.{reply_places}
use Rattle.field.specs.Reads.{Stands}
use Rattle.field.specs.Room.{room}
use Rattle.field.proofs.Reading.{stands_length}
use Rattle.line.specs.Boards.{spelled_board, BoardOk}
use Rattle.line.specs.Records.{spelled}
use Rattle.line.proofs.OutputLaws.{spelled_length_min}
use Rattle.line.proofs.Theorems.{record_same, board_same}
use Rattle.record.specs.ReplyOf.{reply_of}
use Rattle.listing.specs.Bytes.{was_played, reply_at, match_at}
use Rattle.listing.specs.Listing.{ListedFrom, Listed, record_lines}
use Rattle.listing.proofs.Lengths.{record_length}
use Rattle.line.proofs.Here.{RecordHere, record_here, board_here}

-- a record for which there are no four bytes was not played
pub beyond : (replies : List ℕ) (k : ℕ) → length replies ≤ 4 * k → was_played (reply_at replies k) ≡ false
unfolding reply_at
beyond replies k h = ap (λ (z : ℕ). was_played (reply_of z (get_or replies (4 * k + 1) 0) (get_or replies (4 * k + 2) 0))) (get_or-eq_default replies 0 {n = 4 * k} h)

module _ (text replies : List ℕ) where
  -- at most one list
  one_from : (at k : ℕ) (rs xs : List Record) → ListedFrom text replies at k rs → ListedFrom text replies at k xs → rs ≡ xs
  unfolding ListedFrom
  one_from at k [] [] p q = refl
  one_from at k [] (x ∷ xs) p q = absurd (true_not_false (sym q.2 ∙ p x q.0 q.1))
  one_from at k (r ∷ rs) [] p q = absurd (true_not_false (sym p.2 ∙ q r p.0 p.1))
  one_from at k (r ∷ rs) (x ∷ xs) p q =
      let e = record_same text at r x p.0 q.0 p.1 q.1 in
      let es = one_from (at + length (spelled r)) (suc k) rs xs p.3 (subst (λ (z : Record). ListedFrom text replies (at + length (spelled z)) (suc k) xs) (sym e) q.3) in
      λ i. e i ∷ es i

  -- at least one: as many steps as the text has bytes left are enough
  some_within : (n at k : ℕ) → length text < at + n → (rs : List Record) × ListedFrom text replies at k rs
  unfolding ListedFrom RecordHere
  some_within zero at k h = ([], λ r o s. absurd (omega (arith, spelled_length_min r o.0, stands_length text (spelled r) at s (omega (arith, spelled_length_min r o.0)))))
  some_within (suc n) at k h =
      ⊎_elim (λ z. split (was_played (reply_at replies k))
      (λ e. let t = some_within n (at + length (spelled z.0)) (suc k) (omega (arith, spelled_length_min z.0 z.1.0)) in (z.0 ∷ t.0, (z.1, z.2, e, t.1)))
      (λ e. ([], λ r o s. e)))
      (λ m. ([], λ r o s. absurd (m (r, o, s))))
      (record_here text at)

  some_from : (at k : ℕ) → (rs : List Record) × ListedFrom text replies at k rs
  some_from at k = some_within (suc (length text)) at k (omega arith)

  -- ---- the records of the text: those behind the board, if there is one
  pub listed_behind : (b : Board) (rs : List Record) → BoardOk b → Stands text 0 (spelled_board b) → ListedFrom text replies (length (spelled_board b)) 0 rs → Listed text replies rs
  listed_behind b rs o s l = record {
    behind = λ x p t. subst (λ (y : Board). ListedFrom text replies (length (spelled_board y)) 0 rs) (board_same text 0 b x o p s t) l;
    none = λ n. absurd (n b o s);
  }

  pub one_listed : (rs xs : List Record) → Listed text replies rs → Listed text replies xs → rs ≡ xs
  one_listed rs xs p q =
      ⊎_elim (λ z. one_from (length (spelled_board z.0)) 0 rs xs (p.behind z.0 z.1 z.2) (q.behind z.0 z.1 z.2))
      (λ m. p.none (λ b o s. m (b, o, s)) ∙ sym (q.none (λ b o s. m (b, o, s))))
      (board_here text)

  pub some_listed : (rs : List Record) × Listed text replies rs
  some_listed =
      ⊎_elim (λ z. let t = some_from (length (spelled_board z.0)) 0 in (t.0, listed_behind z.0 t.0 z.1 z.2 t.1))
      (λ m. ([], record { behind = λ b o s. absurd (m (b, o, s)); none = λ n. refl }))
      (board_here text)

  -- they stand from some place on: where there is none, from the text's end on
  pub from_somewhere : (rs : List Record) → Listed text replies rs → (at : ℕ) × ListedFrom text replies at 0 rs
  unfolding ListedFrom
  from_somewhere rs p =
      ⊎_elim (λ z. (length (spelled_board z.0), p.behind z.0 z.1 z.2))
      (λ m. (length text, subst (ListedFrom text replies (length text) 0) (sym (p.none (λ b o s. m (b, o, s)))) nothing))
      (board_here text)
    where
      nothing : ListedFrom text replies (length text) 0 []
      nothing r o s = absurd (omega (arith, spelled_length_min r o.0, stands_length text (spelled r) (length text) s (omega (arith, spelled_length_min r o.0))))

  -- no more records than replies
  pub few : (most : ℕ) → length replies ≤ 4 * most → (at k : ℕ) (rs : List Record) → k ≤ most → ListedFrom text replies at k rs → k + length rs ≤ most
  unfolding ListedFrom
  few most h at k [] l p = omega arith
  few most h at k (r ∷ rs) l p =
      ⊎_elim (λ (m : k < most). let t = few most h (at + length (spelled r)) (suc k) rs m p.3 in omega arith)
      (λ (m : most ≤ k). absurd (true_not_false (sym p.2 ∙ beyond replies k (omega arith))))
      (lt_or_le k most)

  -- the lines of the records
  pub lines_length : (at k : ℕ) (rs : List Record) → ListedFrom text replies at k rs → k + length rs ≤ reply_places → length (record_lines replies k rs) ≤ room * length rs
  unfolding ListedFrom record_lines
  lines_length at k [] p h = omega arith
  lines_length at k (r ∷ rs) p h =
      let t = lines_length (at + length (spelled r)) (suc k) rs p.3 (omega arith) in
      let w = record_length (k + 2) r.stamp (omega arith) p.0.0 (reply_at replies k) (match_at replies k) in
      simp length-append (omega arith)
