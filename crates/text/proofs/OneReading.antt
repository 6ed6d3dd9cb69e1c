-- A text has one reading: it is readable in one way, or refused in one way, and not both.
use Prim.Native.Nat.{ℕ, ◌+◌, ◌<◌}
use native.Mathlib.Omega.{arith}
use mathlib.Core.Path.{◌≡◌, refl, sym, ap, subst, ◌∙◌}
use mathlib.Core.Logic.{inl, inr}
use mathlib.Core.List.{List, [], ◌++◌, append_assoc, append-nil}
use lib.ListN.{length, drop, length-append}
use lib.Seq.{drop-append_seam}
use Rattle.std.specs.Prelude.{Some}
use Rattle.record.specs.declared.Record.{Record}
use Rattle.record.specs.declared.Board.{Board}
use Rattle.record.specs.declared.Answer.{Answer}
use Rattle.field.specs.Reads.{Stands}
use Rattle.field.proofs.Reading.{stands_left, stands_length}
use Rattle.line.specs.Records.{spelled, RecordOk}
use Rattle.line.specs.Boards.{spelled_board, BoardOk}
use Rattle.line.proofs.OutputLaws.{spelled_length_min}
use Rattle.line.proofs.Theorems.{one_board, record_same}
use Rattle.text.specs.Buses.{all_closed, onwards, buses_after}
use Rattle.text.specs.Texts.{spelled_all, spelled_trace, Readable, Front, Wrong, Refused, Checks, accepted, refusal}
use Rattle.text.specs.Texts.Wrong.{no_record, falls, cannot}
use Rattle.text.specs.Texts.Refused.{no_board, bad_line}
use Rattle.text.proofs.Goods.{Good, good_of, good_first, good_stamp, good_next, never, Stop, agree}

pub some : (r : Record) → RecordOk r → 0 < length (spelled r)
some r o = omega (arith, spelled_length_min r o.0)

-- a reading up to where it cannot go on
record Ends (text : List ℕ) (b : Board) (rs : List Record) : Type 0 where
  board : BoardOk b
  good : Good 0 (Some all_closed) rs
  rest : List ℕ
  is : text ≡ spelled_board b ++ (spelled_all rs ++ rest)
  stop : Stop 0 (Some all_closed) rs rest

ends_same : {text : List ℕ} {b b' : Board} {rs rs' : List Record} → Ends text b rs → Ends text b' rs' → (b ≡ b') × (rs ≡ rs')
ends_same {text} {b} {b'} {rs} {rs'} e e' = (boards, agree rs rs' 0 (Some all_closed) e.good e'.good e.rest e'.rest e.stop e'.stop records)
  where
    both : spelled_board b ++ (spelled_all rs ++ e.rest) ≡ spelled_board b' ++ (spelled_all rs' ++ e'.rest)
    both = sym e.is ∙ e'.is

    boards : b ≡ b'
    boards = one_board b b' (spelled_all rs ++ e.rest) (spelled_all rs' ++ e'.rest) e.board e'.board both

    records : spelled_all rs ++ e.rest ≡ spelled_all rs' ++ e'.rest
    records =
        sym (drop-append_seam (spelled_board b) (spelled_all rs ++ e.rest)) ∙ ap (λ (l : List ℕ). drop (length (spelled_board b)) l) both
        ∙ ap (λ (x : Board). drop (length (spelled_board x)) (spelled_board b' ++ (spelled_all rs' ++ e'.rest))) boards ∙ drop-append_seam (spelled_board b') (spelled_all rs' ++ e'.rest)

ends_readable : {text : List ℕ} {b : Board} {rs : List Record} → Readable text b rs → Ends text b rs
unfolding spelled_trace
ends_readable {text} {b} {rs} q = record {
  board = q.board;
  good = good_of q.fits q.acceptable;
  rest = [];
  is = q.is ∙ ap (λ (l : List ℕ). spelled_board b ++ l) (sym (append-nil (spelled_all rs)));
  stop = λ r u e g. omega (arith, some r (good_first g), ap length e, length-append (spelled r) u);
}

-- ---- the line after a front
module _ {text : List ℕ} {b : Board} {rs : List Record} (f : Front text b rs) where
  front_board : Stands text 0 (spelled_board b)
  unfolding spelled_trace
  front_board = stands_left text (spelled_board b) (spelled_all rs) 0 f.stands

  front_rest : drop (length (spelled_trace b rs)) text ≡ f.stands.rest
  front_rest = ap (λ (l : List ℕ). drop (length (spelled_trace b rs)) l) f.stands.is ∙ drop-append_seam (spelled_trace b rs) f.stands.rest

  stands_there : (w u : List ℕ) → f.stands.rest ≡ w ++ u → Stands text (length (spelled_trace b rs)) w
  stands_there w u e = record { rest = u; is = front_rest ∙ e }

  wrong_stop : {a : Answer} {k : ℕ} → Wrong text (length (spelled_trace b rs)) rs a k → Stop 0 (Some all_closed) rs f.stands.rest
  wrong_stop (no_record h n) r u e g = n r (good_first g) (stands_there (spelled r) u e)
  wrong_stop (falls x o s h) r u e g =
      let same = record_same text (length (spelled_trace b rs)) x r o (good_first g) s (stands_there (spelled r) u e) in
      let t = ap (λ (k : Record). k.stamp) same in
      let l = good_stamp g in
      omega arith
  wrong_stop (cannot x o s h i) r u e g =
      let same = record_same text (length (spelled_trace b rs)) x r o (good_first g) s (stands_there (spelled r) u e) in
      never (sym i ∙ ap (λ (k : Record). onwards (buses_after rs) k.event) same ∙ (good_next g).1)

  ends_refused : {a : Answer} {k : ℕ} → Wrong text (length (spelled_trace b rs)) rs a k → Ends text b rs
  unfolding spelled_trace
  ends_refused w = record {
    board = f.board;
    good = good_of f.fits f.acceptable;
    rest = f.stands.rest;
    is = f.stands.is ∙ append_assoc (spelled_board b) (spelled_all rs) f.stands.rest;
    stop = wrong_stop w;
  }

wrong_less : {text : List ℕ} {at : ℕ} {rs : List Record} {a : Answer} {k : ℕ} → Wrong text at rs a k → at < length text
wrong_less (no_record h n) = h
wrong_less {text} {at} (falls x o s h) = omega (arith, stands_length text (spelled x) at s (some x o), some x o)
wrong_less {text} {at} (cannot x o s h i) = omega (arith, stands_length text (spelled x) at s (some x o), some x o)

-- the answer is one, and the field
wrong_one : {text : List ℕ} {at : ℕ} {rs : List Record} {a a' : Answer} {k k' : ℕ} → Wrong text at rs a k → Wrong text at rs a' k' → (a ≡ a') × (k ≡ k')
wrong_one (no_record h n) (no_record h' n') = (refl, refl)
wrong_one (no_record h n) (falls x o s l) = absurd (n x o s)
wrong_one (no_record h n) (cannot x o s l i) = absurd (n x o s)
wrong_one (falls x o s l) (no_record h n) = absurd (n x o s)
wrong_one (falls x o s l) (falls y p q k) = (refl, refl)
wrong_one {text} {at} (falls x o s l) (cannot y p q k i) = let t = ap (λ (z : Record). z.stamp) (record_same text at x y o p s q) in absurd (omega arith)
wrong_one (cannot x o s l i) (no_record h n) = absurd (n x o s)
wrong_one {text} {at} (cannot x o s l i) (falls y p q k) = let t = ap (λ (z : Record). z.stamp) (record_same text at x y o p s q) in absurd (omega arith)
wrong_one (cannot x o s l i) (cannot y p q k j) = (refl, refl)

wrong_as : {text : List ℕ} {b b' : Board} {rs rs' : List Record} {a : Answer} {k : ℕ} → b ≡ b' → rs ≡ rs' → Wrong text (length (spelled_trace b rs)) rs a k → Wrong text (length (spelled_trace b' rs')) rs' a k
wrong_as {text} {b} {b'} {rs} {rs'} {a} {k} e f w = subst (λ (x : List Record). Wrong text (length (spelled_trace b' x)) x a k) f (subst (λ (x : Board). Wrong text (length (spelled_trace x rs)) rs a k) e w)

-- ---- one reading
pub readable_one : {text : List ℕ} {b b' : Board} {rs rs' : List Record} → Readable text b rs → Readable text b' rs' → (b ≡ b') × (rs ≡ rs')
readable_one q q' = ends_same (ends_readable q) (ends_readable q')

pub not_both : {text : List ℕ} {b : Board} {rs : List Record} {a : Answer} {n k : ℕ} → Readable text b rs → Refused text a n k → ⊥
unfolding spelled_trace
not_both {text} {b} {rs} q (no_board none) = none b q.board (record { rest = spelled_all rs; is = q.is })
not_both {text} {b} {rs} q (bad_line b' rs' f w) =
    let e = ends_same (ends_readable q) (ends_refused f w) in
    let l = wrong_less w in
    omega (arith, ap length q.is, ap (λ (x : Board). length (spelled_trace x rs)) e.0, ap (λ (x : List Record). length (spelled_trace b' x)) e.1)

pub refused_one : {text : List ℕ} {a a' : Answer} {n n' k k' : ℕ} → Refused text a n k → Refused text a' n' k' → (a ≡ a') × (n ≡ n') × (k ≡ k')
refused_one (no_board none) (no_board none') = (refl, refl, refl)
refused_one (no_board none) (bad_line b rs f w) = absurd (none b f.board (front_board f))
refused_one (bad_line b rs f w) (no_board none) = absurd (none b f.board (front_board f))
refused_one (bad_line b rs f w) (bad_line b' rs' f' w') =
    let e = ends_same (ends_refused f w) (ends_refused f' w') in
    let o = wrong_one (wrong_as e.0 e.1 w) w' in
    (o.0, ap (λ (x : List Record). length x + 2) e.1, o.1)

-- ---- so each reading gives the whole promise of the check
pub checks_readable : {text : List ℕ} (b : Board) (rs : List Record) → Readable text b rs → Checks text (accepted b (length (spelled_board b)))
checks_readable b rs q = record {
  readable = λ b' rs' q'. ap (λ (x : Board). accepted x (length (spelled_board x))) (readable_one q q').0;
  refused = λ a n k w. absurd (not_both q w);
  only = inl (b, rs, q);
}

pub checks_refused : {text : List ℕ} (a : Answer) (n k : ℕ) → Refused text a n k → Checks text (refusal a n k)
checks_refused a n k w = record {
  readable = λ b rs q. absurd (not_both q w);
  refused = λ a' n' k' w'. let e = refused_one w w' in λ i. refusal (e.0 i) (e.1 i) (e.2 i);
  only = inr (a, n, k, w);
}
