-- One line at a place of the output.
use Prim.Native.Nat.{ℕ, ◌+◌, ◌≤◌}
use native.Mathlib.Omega.{arith}
use native.Mathlib.Nat.{add_assoc}
use mathlib.Core.Path.{◌≡◌, sym, ap, ap₂, ◌∙◌}
use mathlib.Core.Bool.{Bool}
use mathlib.Core.List.{List, ◌++◌, append_assoc}
use lib.ListN.{length, take, drop, length-append}
use lib.Seq.{drop-drop, take-append_seam, drop-append-add, length-take-le}
use borrow.Author.Tests.{le-ltb}
use Rattle.law.specs.Words.{pick}
use Rattle.std.specs.Prelude.{Result, Ok, Err}
use Rattle.line.specs.declared.output.WriteError.{WriteError}
use Rattle.line.specs.Output.{on_paper, Wrote}
use Rattle.merged.specs.Writing.{put_at}

-- what a writer says where there is room, and where there is not
module _ {w old new : List ℕ} {r : Result ℕ WriteError} (d : Wrote w old new r) where
  room_answer : length w ≤ length old → on_paper r ≡ (0, length w)
  room_answer h = d.answer ∙ ap (λ (t : Bool). pick t (10, 0) (0, length w)) (le-ltb (length old) (length w) h)

  pub wrote_length : {n : ℕ} → length w ≤ length old → r ≡ Ok n → n ≡ length w
  wrote_length {n} h e = ap (λ (x : ℕ × ℕ). x.1) (ap on_paper (sym e) ∙ room_answer h)

  pub not_refused : (e : WriteError) → length w ≤ length old → r ≡ Err e → ⊥
  not_refused WriteError.OutOfRange h e = let z : ◌≡◌ {A = ℕ} 9 0 = ap (λ (x : ℕ × ℕ). x.0) (ap on_paper (sym e) ∙ room_answer h) in omega arith
  not_refused WriteError.TooShort h e = let z : ◌≡◌ {A = ℕ} 10 0 = ap (λ (x : ℕ × ℕ). x.0) (ap on_paper (sym e) ∙ room_answer h) in omega arith

  pub wrote_content : length w ≤ length old → new ≡ w ++ drop (length w) old
  wrote_content h = d.content ∙ ap (λ (t : Bool). pick t old (w ++ drop (length w) old)) (le-ltb (length old) (length w) h)

-- a part written is the whole put
pub part_put : (at : ℕ) (w old new : List ℕ) → new ≡ w ++ drop (length w) (drop at old) → take at old ++ new ≡ put_at at w old
part_put at w old new e = ap (λ (l : List ℕ). take at old ++ l) (e ∙ ap (λ (l : List ℕ). w ++ l) (drop-drop (length w) at old))

-- one put behind another is one put
pub put_put : (at : ℕ) (u v old : List ℕ) → at + length u ≤ length old → put_at (at + length u) v (put_at at u old) ≡ put_at at (u ++ v) old
put_put at u v old h =
    ap₂ (λ (x y : List ℕ). x ++ (v ++ y)) front back
    ∙ append_assoc (take at old) u (v ++ drop (at + (length u + length v)) old)
    ∙ ap (λ (l : List ℕ). take at old ++ l) (sym (append_assoc u v (drop (at + (length u + length v)) old)))
    ∙ ap (λ (n : ℕ). take at old ++ ((u ++ v) ++ drop (at + n) old)) (sym (length-append u v))
  where
    long : length (take at old ++ u) ≡ at + length u
    long = length-append (take at old) u ∙ ap (λ (n : ℕ). n + length u) (length-take-le at old (omega arith))

    whole : put_at at u old ≡ (take at old ++ u) ++ drop (at + length u) old
    whole = sym (append_assoc (take at old) u (drop (at + length u) old))

    front : take (at + length u) (put_at at u old) ≡ take at old ++ u
    front = ap₂ (λ (n : ℕ) (l : List ℕ). take n l) (sym long) whole ∙ take-append_seam (take at old ++ u) (drop (at + length u) old)

    back : drop (at + length u + length v) (put_at at u old) ≡ drop (at + (length u + length v)) old
    back =
        ap₂ (λ (n : ℕ) (l : List ℕ). drop (n + length v) l) (sym long) whole ∙ drop-append-add (take at old ++ u) (drop (at + length u) old) (length v)
        ∙ drop-drop (length v) (at + length u) old
        ∙ ap (λ (n : ℕ). drop n old) (add_assoc at (length u) (length v))
