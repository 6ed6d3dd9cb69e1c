-- What the code's judgement says to those who go on from it: a refusal, or two texts with their merged records.
use Prim.Native.Nat.{ℕ, ◌≤◌}
use mathlib.Core.Path.{◌≡◌, refl, subst}
use mathlib.Core.List.{List, ◌∷◌}
use lib.ListN.{length}
use borrow.Author.Tests.{ltb-false}
use Rattle.record.specs.declared.Board.{Board}
use Rattle.record.specs.declared.Record.{Record}
use Rattle.line.specs.Boards.{spelled_board}
use Rattle.text.specs.Texts.{text_limit, Readable}
use Rattle.level.specs.declared.Level.{Level}
use Rattle.level.specs.Spelled.{spelled_level}
use Rattle.capture.specs.Taken.{taken_of}
use Rattle.capture.specs.Captures.{Captures}
use Rattle.capture.specs.Merge.{refused, merged, Judges, both, Merged}
use Rattle.capture.specs.Most.{most}
use Rattle.capture.proofs.Few.{few}
use Rattle.capture.proofs.OneJudgement.{merged_some}
use Rattle.judge.specs.declared.Accepted.{Accepted}
use Rattle.judge.specs.declared.JudgeAnswer.{JudgeAnswer}
use Rattle.judge.specs.declared.Refused.{Refused}
use Rattle.judge.specs.Judging.{judge_number, Judged, judged_refused, judged_both, Judging, is_refused, is_both}

pub refused_by : {levels trace : List ℕ} {j : Judged} → Judging levels trace j → (a : JudgeAnswer) (k f : ℕ) → j ≡ judged_refused a k f → Judges levels trace (refused (judge_number a) k f)
refused_by {levels} {trace} (is_refused a k f h) a' k' f' e =
    let one : ◌≡◌ {A = Refused} (record { answer = a; line = k; field = f }) (record { answer = a'; line = k'; field = f' }) = cc in
    subst (λ (x : Refused). Judges levels trace (refused (judge_number x.answer) x.line x.field)) one h
refused_by (is_both b rs a ls t q s c) a' k f e = cc

-- both texts can be used: the places from which they are read, and the records of the merged trace, no more than the most
pub record Usable (levels trace : List ℕ) (b : Board) (first : ℕ) (a : Level) (at : ℕ) : Type 0 where
  pub rs : List Record
  pub ls : List Level
  pub readable : Readable trace b rs
  pub captures : Captures (taken_of rs) levels (a ∷ ls)
  pub place : first ≡ length (spelled_board b)
  pub behind : at ≡ length (spelled_level a)
  pub m : List Record
  pub in_order : Merged (a ∷ ls) rs m
  pub judges : Judges levels trace (merged b m)
  pub small : length m ≤ most

pub both_by : {levels trace : List ℕ} {j : Judged} → Judging levels trace j → (b : Board) (first : ℕ) (a : Level) (at : ℕ) → j ≡ judged_both b first a at → Usable levels trace b first a at
both_by (is_refused a k f h) b first l at e = cc
both_by {levels} {trace} (is_both b rs a ls t q s c) b' first a' at e =
    let one : ◌≡◌ {A = Accepted} (record { board = b; first = length (spelled_board b); level = a; at = length (spelled_level a) }) (record { board = b'; first = first; level = a'; at = at }) = cc in
    let k = merged_some (a ∷ ls) rs in
    subst (λ (x : Accepted). Usable levels trace x.board x.first x.level x.at) one
    (record {
      rs = rs;
      ls = ls;
      readable = q;
      captures = c;
      place = refl;
      behind = refl;
      m = k.0;
      in_order = k.1;
      judges = both b rs (a ∷ ls) k.0 t q s c k.1;
      small = few a ls k.0 q (ltb-false text_limit (length trace) t) c (ltb-false text_limit (length levels) s) k.1;
    })
