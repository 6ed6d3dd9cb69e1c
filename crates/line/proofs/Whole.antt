-- A whole line is accepted exactly where it is spelled, whatever is read: stated once for every reader.
use Prim.Native.Nat.{ℕ, ◌≤◌}
use native.Mathlib.Omega.{arith}
use native.Mathlib.Nat.{zero-add}
use mathlib.Core.Path.{◌≡◌, refl, sym, ap, ◌∙◌}
use mathlib.Core.Logic.{⊎_elim}
use mathlib.Core.List.{List, [], ◌∷◌, ◌++◌, append-nil}
use lib.Dec.{ltb}
use lib.ListN.{length, drop, length-append}
use borrow.Author.Tests.{le-ltb}
use Rattle.law.specs.Choice.{pick_says}
use Rattle.field.specs.Reads.{Reads}
use Rattle.field.proofs.Reading.{Tells, got_one}
use Rattle.line.specs.Output.{on_paper, Wrote}
use Rattle.std.specs.Prelude.{Result, Ok, Err}
use Rattle.line.specs.declared.output.WriteError.{WriteError}

pub nil_of : {A : Type 0} (l : List A) → length l ≡ 0 → l ≡ []
nil_of [] e = refl
nil_of (x ∷ l) e = absurd (omega arith)

-- the number and the length tell the answer
pub paper_one : (a b : Result ℕ WriteError) → on_paper a ≡ on_paper b → a ≡ b
paper_one (Err WriteError.OutOfRange) (Err WriteError.OutOfRange) e = refl
paper_one (Err WriteError.OutOfRange) (Err WriteError.TooShort) e = absurd (let z : ◌≡◌ {A = ℕ} 9 10 = ap (λ (x : ℕ × ℕ). x.0) e in omega arith)
paper_one (Err WriteError.OutOfRange) (Ok n) e = absurd (let z : ◌≡◌ {A = ℕ} 9 0 = ap (λ (x : ℕ × ℕ). x.0) e in omega arith)
paper_one (Err WriteError.TooShort) (Err WriteError.OutOfRange) e = absurd (let z : ◌≡◌ {A = ℕ} 10 9 = ap (λ (x : ℕ × ℕ). x.0) e in omega arith)
paper_one (Err WriteError.TooShort) (Err WriteError.TooShort) e = refl
paper_one (Err WriteError.TooShort) (Ok n) e = absurd (let z : ◌≡◌ {A = ℕ} 10 0 = ap (λ (x : ℕ × ℕ). x.0) e in omega arith)
paper_one (Ok m) (Err WriteError.OutOfRange) e = absurd (let z : ◌≡◌ {A = ℕ} 0 9 = ap (λ (x : ℕ × ℕ). x.0) e in omega arith)
paper_one (Ok m) (Err WriteError.TooShort) e = absurd (let z : ◌≡◌ {A = ℕ} 0 10 = ap (λ (x : ℕ × ℕ). x.0) e in omega arith)
paper_one (Ok m) (Ok n) e = ap (λ (x : ℕ × ℕ). Ok x.1) e

-- what is written is determined: the answer and the output's whole content
pub wrote_determined : (w old new new' : List ℕ) (r r' : Result ℕ WriteError) → Wrote w old new r → Wrote w old new' r' → (r ≡ r') × (new ≡ new')
wrote_determined w old new new' r r' p q = (paper_one r r' (p.answer ∙ sym q.answer), p.content ∙ sym q.content)

-- where nothing was refused, the bytes stand at the front, and they are as many as was said
pub wrote_front : (w old new : List ℕ) (n : ℕ) → Wrote w old new (Ok n) → (n ≡ length w) × (new ≡ w ++ drop (length w) old)
wrote_front w old new n p =
    ⊎_elim (λ z. absurd (let y : ◌≡◌ {A = ℕ} 10 0 = ap (λ (x : ℕ × ℕ). x.0) z.1 in omega arith))
    (λ z. (sym (ap (λ (x : ℕ × ℕ). x.1) z.1), simp z.0 at p.content))
    (pick_says (ltb (length old) (length w)) _ _ _ (sym p.answer))

module _ {A R : Type 0} {spell : A → List ℕ} {Fits : A → Type 0} {value : A → ℕ → R} {bad : R} (t : Tells value bad) where
  -- a line is accepted whole as x exactly when it is x's spelling
  pub spelled_if_accepted : (line : List ℕ) (a : R) (x : A) → Reads spell Fits value bad line 0 a → a ≡ value x (length line) → line ≡ spell x
  spelled_if_accepted line a x d e =
      let g = got_one t d x (length line) e in
      let n : length g.stands.rest ≡ 0 = omega (arith, g.next, ap length g.stands.is, length-append (spell x) g.stands.rest) in
      g.stands.is ∙ ap (λ (l : List ℕ). spell x ++ l) (nil_of g.stands.rest n) ∙ append-nil (spell x)

  pub accepted_if_spelled : (line : List ℕ) (a : R) (x : A) → Fits x → Reads spell Fits value bad line 0 a → line ≡ spell x → a ≡ value x (length line)
  accepted_if_spelled line a x o d e =
      d.found x o (record { rest = []; is = e ∙ sym (append-nil (spell x)) }) ∙ ap (λ (k : ℕ). value x k) (zero-add (length (spell x)) ∙ ap length (sym e))

  -- what was written reads back as itself, whatever stood and stands behind it
  pub reads_back : (x : A) (old new : List ℕ) (n : ℕ) (a : R) → Fits x → Wrote (spell x) old new (Ok n) → Reads spell Fits value bad new 0 a → a ≡ value x n
  reads_back x old new n a o w d =
      let f = wrote_front (spell x) old new n w in
      d.found x o (record { rest = drop (length (spell x)) old; is = f.1 }) ∙ ap (λ (k : ℕ). value x k) (zero-add (length (spell x)) ∙ sym f.0)

  -- a line that was read and then written gives the same bytes
  pub same_bytes : (line old new : List ℕ) (a : R) (x : A) (r : Result ℕ WriteError) → Reads spell Fits value bad line 0 a → a ≡ value x (length line) → Wrote (spell x) old new r → length line ≤ length old
      → new ≡ line ++ drop (length line) old
  same_bytes line old new a x r d e w h =
      let s = spelled_if_accepted line a x d e in
      let l = ap length s in
      (simp (le-ltb (length old) (length (spell x)) (omega arith)) at w.content) ∙ ap (λ (k : List ℕ). k ++ drop (length k) old) (sym s)
