-- Whether there is room for the text, its lines behind the board's, and the four ways in which the merge ends.
use Prim.Native.Nat.{ℕ, ◌+◌, ◌≤◌, ◌<◌}
use native.Mathlib.Omega.{arith}
use mathlib.Core.Path.{◌≡◌, sym, ap, ap₂, ◌∙◌}
use mathlib.Core.Bool.{Bool, true, false, not}
use mathlib.Core.Logic.{⊎_elim}
use mathlib.Core.List.{List, ◌++◌, append_assoc}
use lib.Dec.{eqb, ltb, leb}
use lib.ListN.{length, drop, length-append, length-drop}
use lib.Seq.{take-append_seam, drop-append-add, drop-drop}
use borrow.Author.Tests.{eq-eqb, ne_eqb, ltb-false, lt-ltb, le-ltb, leb-true, leb-false, not-true}
use Rattle.law.specs.Words.{pick}
use Rattle.law.specs.Choice.{true_not_false, lt_or_le}
use Rattle.law.specs.Deciding.{Decides, decides_true, decides_as, passed}
use Rattle.record.specs.declared.Answer.TheVariants.{Settled, BadBuffers}
use Rattle.record.specs.declared.LevelsAnswer.TheVariants.{TooShort}
use Rattle.record.specs.declared.Board.{Board}
use Rattle.record.specs.declared.Record.{Record}
use Rattle.record.specs.Answers.{answer_number, levels_answer_number}
use Rattle.record.specs.Lengths.{result_length}
use Rattle.std.specs.Prelude.{Result, Ok, Err}
use Rattle.line.specs.declared.output.WriteError.{WriteError}
use Rattle.line.specs.Boards.{spelled_board, WroteBoard}
use Rattle.line.proofs.OutputLaws.{board_length}
use Rattle.text.specs.Texts.{text_limit, spelled_all, spelled_trace}
use Rattle.level.specs.declared.Level.{Level}
use Rattle.buffers.specs.Buffers.{result_after}
use Rattle.capture.specs.Merge.{Judgement, refused, merged, Judges}
use Rattle.capture.specs.Merge as judged
use Rattle.capture.proofs.OneJudgement.{one_judgement}
use Rattle.judge.specs.declared.JudgeAnswer.{JudgeAnswer}
use Rattle.judge.specs.Judging.{judge_number, Judged, judged_refused, judged_both, Judging}
use Rattle.judge.proofs.Usable.{Usable, refused_by, both_by}
use Rattle.weave.specs.declared.Weave.{Weave}
use Rattle.weave.specs.Weaving.{Starts}
use Rattle.weave.proofs.StartLaws.{levels_from, records_from}
use Rattle.merged.specs.Merging.{longest_text, Outputs, outputs_of, Wrote, wrote_as, unwritten, written, merge_left, Merges}
use Rattle.merged.specs.Writing.{board_line, put_at, CountsLevels, CountsTaken, HasRoom, WritesAll, WritesText}
use Rattle.merged.proofs.Room.{trace_length, text_fits}
use Rattle.merged.proofs.CountLaws.{merged_length}
use Rattle.merged.proofs.LineLaws.{wrote_length, not_refused, wrote_content}

room : (b : Board) (m : List Record) (old : List ℕ) → length (spelled_trace b m) ≤ length old → length (spelled_board b) ≤ length old
room b m old h = omega (arith, trace_length b m, board_length b)

joined : (u v old : List ℕ) → put_at (length u) v (u ++ drop (length u) old) ≡ (u ++ v) ++ drop (length (u ++ v)) old
joined u v old =
    ap₂ (λ (x y : List ℕ). x ++ (v ++ y)) (take-append_seam u (drop (length u) old))
    (drop-append-add u (drop (length u) old) (length v) ∙ drop-drop (length v) (length u) old ∙ ap (λ (i : ℕ). drop i old) (sym (length-append u v)))
    ∙ sym (append_assoc u v (drop (length (u ++ v)) old))

-- ---- the board's line, then the others
module _ {w : Weave} {b : Board} {old mid : List ℕ} {r : Result ℕ WriteError} (d : WroteBoard b old mid r) where
  pub text_refused : (e : WriteError) {n : ℕ} → r ≡ Err e → WritesText w b old mid n
  text_refused e h = record { writes = λ m o l n f. absurd (not_refused (d.in_range o) e (room b m old f) h) }

  pub text_all : {n k : ℕ} {new : List ℕ} → r ≡ Ok n → WritesAll w n mid new k → WritesText w b old new k
  unfolding spelled_trace
  text_all {n} {k} {new} e v = record {
    writes = λ m o l c h.
        let len : n ≡ length (spelled_board b) = wrote_length (d.in_range o) (room b m old h) e in
        let is : mid ≡ spelled_board b ++ drop (length (spelled_board b)) old = wrote_content (d.in_range o) (room b m old h) in
        let fits : n + length (spelled_all m) ≤ length mid =
        omega (arith, len, ap length is, length-append (spelled_board b) (drop (length (spelled_board b)) old), trace_length b m, board_length b, length-drop (length (spelled_board b)) old) in
        let z = v.writes m l c fits in (
          z.0 ∙ ap (λ (i : ℕ). i + length (spelled_all m)) len ∙ sym (length-append (spelled_board b) (spelled_all m)),
          z.1 ∙ ap₂ (λ (i : ℕ) (x : List ℕ). put_at i (spelled_all m) x) len is ∙ joined (spelled_board b) (spelled_all m) old,
        );
  }

-- ---- the call
above : (a b : ℕ) → (a ≤ b → ⊥) → b < a
above a b h = ⊎_elim (λ z. z) (λ z. absurd (h z)) (lt_or_le b a)

-- where there is room for the longest text, and where the lines are counted
module _ {levels trace : List ℕ} {a : Level} {at first bytes : ℕ} where
  pub room_known : longest_text ≤ bytes → HasRoom levels trace a at first bytes true
  room_known h = record { room = λ ls rs m f g p z. decides_true (omega arith) }

  pub room_counted : {n k : ℕ} → CountsLevels levels a at n → CountsTaken trace first k → HasRoom levels trace a at first bytes (leb (board_line + n + k) bytes)
  room_counted {n} {k} v w = record {
    room = λ ls rs m f g p z.
        let e = v.counts ls f in
        let h = w.counts rs g in
        let t = merged_length a ls rs m p in
        decides_as (record { holds = leb-true (board_line + n + k) bytes; fails = λ h j. absurd (omega (arith, leb-false (board_line + n + k) bytes h)) }) (λ j. omega (arith, e, h, t)) (λ j. omega (arith, e, h, t));
  }

clash : {A : Type 0} {t : Bool} → t ≡ true → t ≡ false → A
clash e f = absurd (true_not_false (sym e ∙ f))

settle : {levels trace : List ℕ} {x : Outputs} {e : Wrote} (j : Judgement) → eqb (length x.result) result_length ≡ true → Judges levels trace j → e ≡ merge_left j x → Merges levels trace x e
settle {levels} {trace} {x} {e} j t h q = record {
  unfit = λ u. clash t u;
  judged = λ u k z. q ∙ ap (λ (y : Judgement). merge_left y x) (one_judgement h z);
  some = λ u. (j, h);
}

module _ {levels trace : List ℕ} {b : Board} {first : ℕ} {a : Level} {at : ℕ} (u : Usable levels trace b first a at) where
  short : board_line + length (spelled_all u.m) ≤ longest_text
  short = omega (arith, trace_length b u.m, text_fits u.judges)

  -- the flag decides whether there is room for the text
  fits : {bytes : ℕ} {r : Bool} → HasRoom levels trace a at first bytes r → Decides r (length (spelled_trace b u.m) ≤ bytes)
  fits v =
      decides_as
      (v.room u.ls u.rs u.m (levels_from u.readable u.place u.captures u.behind) (records_from u.readable u.place u.captures u.behind) u.in_order short)
      (λ h. omega (arith, trace_length b u.m)) (λ h. omega (arith, trace_length b u.m))

  wrote : {w : Weave} {out out' : List ℕ} {c : ℕ} {t : Bool} → Starts levels trace a at first w → HasRoom levels trace a at first (length out) t → not t ≡ false → WritesText w b out out' c →
      (c ≡ length (spelled_trace b u.m)) × (out' ≡ spelled_trace b u.m ++ drop (length (spelled_trace b u.m)) out)
  wrote s v h p =
      p.writes u.m u.readable.board (s.starts b u.rs u.ls u.m u.readable u.place u.captures u.behind u.in_order) u.small (passed (fits v) h)

-- both texts are within their limits
within : {levels trace : List ℕ} {b : Board} {m : List Record} → Judges levels trace (merged b m) → (length levels ≤ text_limit) × (length trace ≤ text_limit)
within {levels} {trace} (judged.both b rs ls m t q s c p) = (ltb-false text_limit (length levels) s, ltb-false text_limit (length trace) t)

pub both_within : {levels trace : List ℕ} {j : Judged} {b : Board} {first : ℕ} {a : Level} {at : ℕ} → Judging levels trace j → j ≡ judged_both b first a at → (length levels ≤ text_limit) × (length trace ≤ text_limit)
both_within {b = b} {first = first} {a = a} {at = at} g d = within (both_by g b first a at d).judges

-- the text's length has room in the result
pub length_small : {levels trace out out' : List ℕ} {j : Judged} {b : Board} {first : ℕ} {a : Level} {at : ℕ} {w : Weave} {t : Bool} {c : ℕ} → Judging levels trace j → j ≡ judged_both b first a at →
    HasRoom levels trace a at first (length out) t → not t ≡ false → Starts levels trace a at first w → WritesText w b out out' c → c ≤ longest_text
length_small {b = b} {first = first} {a = a} {at = at} g d v h s p = let u = both_by g b first a at d in omega (arith, (wrote u s v h p).0, text_fits u.judges)

-- a refusal leaves the output alone
refusal : (out old : List ℕ) {new : List ℕ} {n : ℕ} (a k f : ℕ) → (n ≡ a) × (new ≡ result_after a k 0 f old) → wrote_as n (outputs_of out new) ≡ unwritten a k f (outputs_of out old)
unfolding unwritten
refusal out old a k f q = ap₂ (λ (i : ℕ) (l : List ℕ). wrote_as i (outputs_of out l)) q.0 q.1

-- refusal 10 or the text, by whether there is room for all of it
by_room : {levels trace : List ℕ} {x : Outputs} {e : Wrote} (b : Board) (m : List Record) (t : Bool) → Judges levels trace (merged b m) → eqb (length x.result) result_length ≡ true →
    ltb (length x.output) (length (spelled_trace b m)) ≡ t → e ≡ pick t (unwritten (levels_answer_number TooShort) 0 0 x) (written (spelled_trace b m) x) → Merges levels trace x e
unfolding merge_left
by_room {x = x} b m t j fit h q =
    settle (merged b m) fit j (q ∙ sym (ap (λ (y : Bool). pick y (unwritten (levels_answer_number TooShort) 0 0 x) (written (spelled_trace b m) x)) h))

module _ {levels trace out old new : List ℕ} {n : ℕ} where
  pub merge_unfit : {a : ℕ} → (length old ≡ result_length → ⊥) → a ≡ answer_number BadBuffers → (n ≡ a) × (new ≡ result_after a 0 0 0 old) → Merges levels trace (outputs_of out old) (wrote_as n (outputs_of out new))
  merge_unfit {a} h e q = record {
    unfit = λ u. refusal out old a 0 0 q ∙ ap (λ (i : ℕ). unwritten i 0 0 (outputs_of out old)) e;
    judged = λ u j z. clash u (ne_eqb (length old) result_length h);
    some = λ u. clash u (ne_eqb (length old) result_length h);
  }

  module _ (fit : length old ≡ result_length) {j : Judged} (g : Judging levels trace j) where
    pub merge_refused : {a : JudgeAnswer} {k f i : ℕ} → j ≡ judged_refused a k f → i ≡ judge_number a → (n ≡ i) × (new ≡ result_after i k 0 f old) → Merges levels trace (outputs_of out old) (wrote_as n (outputs_of out new))
    unfolding merge_left
    merge_refused {a} {k} {f} {i} d e q =
        settle (refused (judge_number a) k f) (eq-eqb (length old) result_length fit) (refused_by g a k f d) (refusal out old i k f q ∙ ap (λ (b : ℕ). unwritten b k f (outputs_of out old)) e)

    module _ {b : Board} {first : ℕ} {a : Level} {at : ℕ} {t : Bool} (d : j ≡ judged_both b first a at) (v : HasRoom levels trace a at first (length out) t) where
      pub merge_short : {i : ℕ} → not t ≡ true → i ≡ levels_answer_number TooShort → (n ≡ i) × (new ≡ result_after i 0 0 0 old) → Merges levels trace (outputs_of out old) (wrote_as n (outputs_of out new))
      merge_short {i} h e q =
          let u = both_by g b first a at d in
          let text = spelled_trace b u.m in
          by_room b u.m true u.judges (eq-eqb (length old) result_length fit) (lt-ltb (length out) (length text) (above (length text) (length out) (λ z. (fits u v).fails (not-true t h) z)))
          (refusal out old i 0 0 q ∙ ap (λ (k : ℕ). unwritten k 0 0 (outputs_of out old)) e)

      pub merge_written : {w : Weave} {out' : List ℕ} {c i : ℕ} → not t ≡ false → Starts levels trace a at first w → WritesText w b out out' c → i ≡ answer_number Settled → (n ≡ i) × (new ≡ result_after i 0 c 0 old) →
          Merges levels trace (outputs_of out old) (wrote_as n (outputs_of out' new))
      unfolding written
      merge_written {w} {out'} {c} {i} h s p e q =
          let u = both_by g b first a at d in
          let text = spelled_trace b u.m in
          let z = wrote u s v h p in
          let put : out' ≡ text ++ drop (length text) out = z.1 in
          let res : new ≡ result_after (answer_number Settled) 0 (length text) 0 old = q.1 ∙ ap₂ (λ (x y : ℕ). result_after x 0 y 0 old) e z.0 in
          let num : n ≡ answer_number Settled = q.0 ∙ e in
          by_room b u.m false u.judges (eq-eqb (length old) result_length fit) (le-ltb (length out) (length text) (passed (fits u v) h))
          (λ y. wrote_as (num y) (outputs_of (put y) (res y)))
