-- No merged text is longer than `longest_text`: the board's line, and as many records as both texts can give.
use Prim.Native.Nat.{ℕ, ◌+◌, ◌*◌, ◌≤◌}
use native.Mathlib.Omega.{arith}
use mathlib.Core.Path.{◌≡◌, ap, ◌∙◌}
use mathlib.Core.List.{List, [], ◌∷◌}
use lib.ListN.{length, length-append}
use borrow.Author.Tests.{ltb-false}
use Rattle.law.specs.Words.{All}
use Rattle.record.specs.declared.Board.{Board}
use Rattle.record.specs.declared.Record.{Record}
use Rattle.line.specs.Records.{spelled, RecordOk}
use Rattle.line.specs.Boards.{spelled_board}
use Rattle.line.proofs.OutputLaws.{spelled_length_max, board_length}
use Rattle.text.specs.Texts.{text_limit, spelled_all, spelled_trace, Readable}
use Rattle.level.specs.declared.Level.{Level}
use Rattle.capture.specs.Taken.{taken_of}
use Rattle.capture.specs.Captures.{Captures}
use Rattle.capture.specs.Merge.{merged, Judges, Merged}
use Rattle.capture.specs.Merge as merge
use Rattle.capture.proofs.Few.{few}
use Rattle.capture.proofs.Reading.{merged_readable}
use Rattle.merged.specs.Merging.{longest_text}
use Rattle.merged.specs.Writing.{board_line, longest}

pub trace_length : (b : Board) (m : List Record) → length (spelled_trace b m) ≡ board_line + length (spelled_all m)
unfolding spelled_trace
trace_length b m = length-append (spelled_board b) (spelled_all m) ∙ ap (λ (n : ℕ). n + length (spelled_all m)) (board_length b)

lines_short : (m : List Record) → All RecordOk m → length (spelled_all m) ≤ longest * length m
unfolding spelled_all All
lines_short [] o = omega arith
lines_short (r ∷ m) o = omega (arith, spelled_length_max r o.0.0, lines_short m o.1, length-append (spelled r) (spelled_all m))

short : {levels trace : List ℕ} {b : Board} {rs : List Record} (ls : List Level) (m : List Record) → Readable trace b rs → length trace ≤ text_limit → Captures (taken_of rs) levels ls → length levels ≤ text_limit →
    Merged ls rs m → length (spelled_trace b m) ≤ longest_text
short [] m q h c k p = absurd (omega (arith, c.some))
short {b = b} (a ∷ ls) m q h c k p = omega (arith, trace_length b m, lines_short m (merged_readable (a ∷ ls) m q c p).fits, few a ls m q h c k p)

pub text_fits : {levels trace : List ℕ} {b : Board} {m : List Record} → Judges levels trace (merged b m) → length (spelled_trace b m) ≤ longest_text
text_fits {levels} {trace} (merge.both b rs ls m t q s c p) = short ls m q (ltb-false text_limit (length trace) t) c (ltb-false text_limit (length levels) s) p
