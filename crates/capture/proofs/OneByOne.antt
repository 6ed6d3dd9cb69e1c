-- Lines one after another: the first of them is the one that stands there. Said once for a trace's records and a capture's level lines.
use Prim.Native.Nat.{ℕ, ◌+◌, ◌≤◌, ◌<◌}
use native.Mathlib.Omega.{arith}
use mathlib.Core.Path.{◌≡◌, refl, sym, ap, ◌∙◌}
use mathlib.Core.List.{List, [], ◌∷◌}
use lib.ListN.{length, drop, length-append, length-drop}
use lib.Seq.{drop-drop, drop-append_seam}
use Rattle.law.specs.Words.{All}
use Rattle.field.specs.Reads.{Stands}
use Rattle.field.proofs.Reading.{Got, stands_length}
use Rattle.text.proofs.OneReading as text
use Rattle.level.proofs.Theorems.{level_length}
use Rattle.capture.specs.OneByOne.{Lines, From, records, levels}

-- each is spelled in one byte at least
pub record Some {A : Type 0} (k : Lines A) : Type 0 where
  pub some : (x : A) → k.Ok x → 0 < length (k.spell x)

module _ {A : Type 0} {k : Lines A} {text : List ℕ} {at : ℕ} where
  -- the first of them is the one that stands there
  pub took : Some k → {x : A} {p : ℕ} (xs : List A) → From k text at xs → Got k.spell k.Ok text at x p → (rest : List A) × From k text p rest × (xs ≡ x ∷ rest)
  unfolding All
  took some {x} {p} [] f g =
      absurd (omega (arith, some.some x g.ok, stands_length text (k.spell x) at g.stands (some.some x g.ok), ap length (f.is ∙ k.nil), length-drop at text))
  took some {x} {p} (y ∷ xs) f g =
      let is = f.is ∙ k.cons y xs in
      let same = g.only y f.fits.0 (record { rest = k.all xs; is = is }) in
      let place : p ≡ at + length (k.spell y) = g.next ∙ ap (λ (z : A). at + length (k.spell z)) same in (
        xs,
        record {
          fits = f.fits.1;
          is =
              ap (λ (n : ℕ). drop n text) place ∙ sym (drop-drop (length (k.spell y)) at text) ∙ ap (λ (l : List ℕ). drop (length (k.spell y)) l) is
              ∙ drop-append_seam (k.spell y) (k.all xs);
        },
        ap (λ (z : A). z ∷ xs) (sym same),
      )

  -- a line stands where the text has not ended
  pub not_none : (xs : List A) → From k text at xs → at < length text → ((x : A) → k.Ok x → Stands text at (k.spell x) → ⊥) → ⊥
  unfolding All
  not_none [] f h n = omega (arith, ap length (f.is ∙ k.nil), length-drop at text)
  not_none (x ∷ xs) f h n = n x f.fits.0 (record { rest = k.all xs; is = f.is ∙ k.cons x xs })

  -- and none where it has
  pub at_end : Some k → (xs : List A) → From k text at xs → length text ≤ at → xs ≡ []
  unfolding All
  at_end some [] f h = refl
  at_end some (x ∷ xs) f h =
      absurd (omega (arith, some.some x f.fits.0, ap length (f.is ∙ k.cons x xs), length-append (k.spell x) (k.all xs), length-drop at text))

-- the place behind a line
pub behind : {A : Type 0} {k : Lines A} → Some k → {text : List ℕ} {at : ℕ} {x : A} {p : ℕ} → Got k.spell k.Ok text at x p → (at < p) × (p ≤ length text)
behind {k = k} some {text} {at} {x} g =
    let s = some.some x g.ok in
    let z = stands_length text (k.spell x) at g.stands s in
    (omega (arith, g.next), omega (arith, g.next))

pub some_record : Some records
unfolding records
some_record = record { some = λ r o. text.some r o }

pub some_level : Some levels
unfolding levels
some_level = record { some = λ l o. omega (arith, level_length l) }
