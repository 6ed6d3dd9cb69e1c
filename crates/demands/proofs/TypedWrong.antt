-- Any outcome for a board's line and a line typed wrong, or for a text whose first line is: 3, that line, and the number of its first bad field.
use Prim.Native.Nat.{ℕ, ◌≤◌}
use native.Mathlib.Omega.{arith}
use mathlib.Core.Path.{◌≡◌, sym, ap, subst, ◌∙◌}
use mathlib.Core.List.{List, [], ◌++◌, append-nil}
use lib.ListN.{length, drop, length-append}
use lib.Seq.{drop-append_seam}
use borrow.Author.Tests.{le-ltb}
use Rattle.law.specs.Words.{All}
use Rattle.law.specs.Lists.{all_map}
use Rattle.record.specs.declared.Answer.TheVariants.{BadLine}
use Rattle.line.specs.Boards.{spelled_board}
use Rattle.line.specs.Places.{first_bad_field}
use Rattle.line.specs.TypedWrong.{typed_wrong, typed_wrong_first}
use Rattle.line.proofs.Examples.{Mistyped, MistypedFirst, typed_wrong_lem, typed_wrong_first_lem}
use Rattle.line.proofs.OutputLaws.{board_length}
use Rattle.text.specs.Texts.{text_limit, spelled_all, spelled_trace, Refused}
use Rattle.text.specs.Texts.Wrong.{no_record}
use Rattle.text.specs.Texts.Refused.{no_board, bad_line}
use Rattle.buffers.specs.Buffers.{result_bytes}
use Rattle.buffers.proofs.Fit.{fit_says}
use Rattle.demands.specs.Bench.{plain}
use Rattle.demands.specs.ShutOut.{EveryText, EveryAfter}
use Rattle.demands.proofs.FirstBadLine.{result_of_lem}
use Rattle.demands.proofs.FourTexts.{board_written, plain_ok}

-- the board's line alone
board_alone : spelled_trace plain [] ≡ spelled_board plain
unfolding spelled_trace spelled_all
board_alone = append-nil (spelled_board plain)

-- what comes after it
rest : (l : List ℕ) → drop (length (spelled_trace plain [])) (spelled_board plain ++ l) ≡ l
rest l = ap (λ (w : List ℕ). drop (length w) (spelled_board plain ++ l)) board_alone ∙ drop-append_seam (spelled_board plain) l

pub refused_second : (l : List ℕ) (k : ℕ) → Mistyped l k → Refused (spelled_board plain ++ l) BadLine 2 k
refused_second l k m =
    let w = (board_written plain plain_ok).reads in
    subst (λ (f : ℕ). Refused (spelled_board plain ++ l) BadLine 2 f) (ap first_bad_field (rest l) ∙ m.number)
    (bad_line plain [] (record { board = w.board; fits = w.fits; acceptable = w.acceptable; stands = record { rest = l; is = ap (λ (u : List ℕ). u ++ l) (sym board_alone) } })
    (no_record (omega (arith, m.some, ap length board_alone, length-append (spelled_board plain) l)) (λ r o s. m.none r o s.rest (sym (rest l) ∙ s.is))))

refused_first : (text : List ℕ) (k : ℕ) → MistypedFirst text k → Refused text BadLine 1 k
refused_first text k m = subst (λ (f : ℕ). Refused text BadLine 1 f) m.number (no_board (λ b o s. m.none b o s.rest s.is))

told : (text : List ℕ) → length text ≤ text_limit → (n k : ℕ) → Refused text BadLine n k → EveryText text (λ x e. e.buffers.result ≡ result_bytes 3 n 0 k)
told text s n k r x e f p = result_of_lem x BadLine n k (p.bad f (le-ltb text_limit (length text) s) BadLine n k r) (fit_says x f).result_long

pub typed_wrong_told : All (λ (z : List ℕ × ℕ). EveryAfter z.0 (λ x e. e.buffers.result ≡ result_bytes 3 2 0 z.1)) typed_wrong
typed_wrong_told = all_map _ _ (λ (z : List ℕ × ℕ) m. told _ (omega (arith, m.short, board_length plain, length-append (spelled_board plain) z.0)) 2 z.1 (refused_second z.0 z.1 m)) typed_wrong typed_wrong_lem

pub typed_wrong_first_told : All (λ (z : List ℕ × ℕ). EveryText z.0 (λ x e. e.buffers.result ≡ result_bytes 3 1 0 z.1)) typed_wrong_first
typed_wrong_first_told = all_map _ _ (λ (z : List ℕ × ℕ) m. told _ (omega (arith, m.short)) 1 z.1 (refused_first z.0 z.1 m)) typed_wrong_first typed_wrong_first_lem
