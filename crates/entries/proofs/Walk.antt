-- The line of an entry, and the loop over the entries: what is still to be printed from here is what was to be printed at the start. Assumes nothing.
use Prim.Native.Nat.{ℕ, suc, ◌+◌, ◌-◌, ◌*◌, ◌≤◌, ◌<◌}
use native.Mathlib.Omega.{arith}
use mathlib.Core.Path.{◌≡◌, refl, sym, ap, ap₂, subst, ◌∙◌}
use mathlib.Core.List.{List, [], ◌++◌, append-nil}
use lib.Dec.{eqb}
use lib.ListN.{length, drop, length-append, length-drop}
use lib.Seq.{sets, length-sets, length-take-le}
use borrow.Author.Tests.{eq-eqb, ne_eqb}
use Rattle.law.specs.Words.{pick}
use Rattle.law.specs.Choice.{of_both}
use Rattle.page.specs.Geometry.{flash_page}
use Rattle.field.specs.Ends.{lf}
use Rattle.listing.proofs.Stores.{joined}
use Rattle.std.specs.Prelude.{Result, Ok, Err, IsOk}
use mathlib.Core.Logic.{◌⊎◌, ⊎_elim}
use Rattle.planner.specs.declared.Kind.{Kind}
use Rattle.planner.specs.declared.Kind.TheVariants.{SectorErase, ChipErase}
use Rattle.planner.specs.declared.UnknownKind.{UnknownKind}
use Rattle.planner.specs.Kinds.{kind_byte, Tells}
use Rattle.entries.specs.Printed.{hex_bytes}
use Rattle.entries.specs.Lines.{kind_at, head_at, page_at, entry_size, line_at, lines_from, Known, Inside, Kinds}
use Rattle.entries.proofs.Digits.{hex_length}

size_least : (kind : ℕ) → 4 ≤ entry_size kind
size_least kind = of_both (λ (n : ℕ). 4 ≤ n) (eqb kind 3) 260 4 (omega arith) (omega arith)

-- what reads a known byte as a kind has one, the kind of that byte
pub told : (b : ℕ) (r : Result Kind UnknownKind) → Known b → Tells b r → IsOk r
told b (Ok kind) k t = refl
told b (Err e) k t = absurd (t.1 k.0 k.1)

pub told_kind : (b : ℕ) (r : Result Kind UnknownKind) (kind : Kind) → r ≡ Ok kind → Tells b r → kind_byte kind ≡ b
told_kind b r kind e t = subst (λ (s : Result Kind UnknownKind). Tells b s) e t

-- an erase is no program
pub no_program : (kind : Kind) → (kind ≡ SectorErase) ⊎ (kind ≡ ChipErase) → (b : ℕ) → kind_byte kind ≡ b → b ≡ 3 → ⊥
no_program kind e b k z = ⊎_elim (λ (w : kind ≡ SectorErase). one (sym (ap kind_byte w) ∙ k ∙ z)) (λ (w : kind ≡ ChipErase). two (sym (ap kind_byte w) ∙ k ∙ z)) e
  where
    one : ◌≡◌ {A = ℕ} 1 3 → ⊥
    one q = omega arith

    two : ◌≡◌ {A = ℕ} 2 3 → ⊥
    two q = omega arith

pub inside_head : (kind p n : ℕ) → p + entry_size kind ≤ n → p + 4 ≤ n
inside_head kind p n h = omega (arith, size_least kind)

pub inside_program : (kind p n : ℕ) → kind ≡ 3 → p + entry_size kind ≤ n → p + 260 ≤ n
inside_program kind p n e h = let z : entry_size kind ≡ 260 = simp (eq-eqb kind 3 e) in omega arith

module _ (list : List ℕ) (p : ℕ) where
  -- a program's line, and an erase's
  program_line : kind_at list p ≡ 3 → line_at list p ≡ head_at list p ++ (hex_bytes (page_at list (p + 4)) ++ lf)
  unfolding line_at
  program_line e = simp (eq-eqb (kind_at list p) 3 e)

  erase_line : (kind_at list p ≡ 3 → ⊥) → line_at list p ≡ head_at list p
  unfolding line_at
  erase_line e = simp (ne_eqb (kind_at list p) 3 e, append-nil (head_at list p))

  pub program_length : kind_at list p ≡ 3 → p + 260 ≤ length list → length (line_at list p) ≡ length (head_at list p) + (2 * flash_page + 1)
  program_length e h =
      ap length (program_line e)
      ∙ omega (
        arith,
        length-append (head_at list p) (hex_bytes (page_at list (p + 4)) ++ lf),
        length-append (hex_bytes (page_at list (p + 4))) lf,
        hex_length (page_at list (p + 4)),
        length-take-le flash_page (drop (p + 4) list) (omega (arith, length-drop (p + 4) list)),
      )

  pub erase_length : (kind_at list p ≡ 3 → ⊥) → length (line_at list p) ≡ length (head_at list p)
  erase_length e = ap length (erase_line e)

  pub head_fits : length (head_at list p) ≤ length (line_at list p)
  unfolding line_at
  head_fits = omega (arith, length-append (head_at list p) (pick (eqb (kind_at list p) 3) (hex_bytes (page_at list (p + 4)) ++ lf) []))

  module _ (old mid : List ℕ) (first at : ℕ) (e : mid ≡ sets old first (head_at list p)) (f : at ≡ first + length (head_at list p)) where
    pub program_printed : (new : List ℕ) → kind_at list p ≡ 3 → new ≡ sets mid at (hex_bytes (page_at list (p + 4)) ++ lf) → new ≡ sets old first (line_at list p)
    program_printed new k g =
        g
        ∙ ap₂ (λ (o : List ℕ) (j : ℕ). sets o j (hex_bytes (page_at list (p + 4)) ++ lf)) e f
        ∙ joined (head_at list p) (hex_bytes (page_at list (p + 4)) ++ lf) old first
        ∙ ap (sets old first) (sym (program_line k))

    pub erase_printed : (kind_at list p ≡ 3 → ⊥) → mid ≡ sets old first (line_at list p)
    erase_printed k = e ∙ ap (sets old first) (sym (erase_line k))

-- ---- the loop
module _ (list old : List ℕ) (number : ℕ) where
  -- `left` entries stand at p, and their lines belong at `at`
  pub record Still (left p at : ℕ) (out : List ℕ) : Type 0 where
    pub same : length out ≡ length old
    pub inside : Inside list left p
    pub kinds : Kinds list left p
    pub many : at + length (lines_from list left p) ≡ length (lines_from list number 0)
    pub bytes : sets out at (lines_from list left p) ≡ sets old 0 (lines_from list number 0)

  pub still_start : Inside list number 0 → Kinds list number 0 → Still (number - 0) 0 0 old
  still_start h k = let z : number ≡ number - 0 = omega arith in subst (λ (n : ℕ). Still n 0 0 old) z record { same = refl; inside = h; kinds = k; many = omega arith; bytes = refl }

  -- a turn of the loop, which counts the entries passed
  pub still_turn : (passed p at : ℕ) (out : List ℕ) → passed < number → Still (number - passed) p at out → Still (suc (number - (passed + 1))) p at out
  still_turn passed p at out h s = let e : number - passed ≡ suc (number - (passed + 1)) = omega arith in subst (λ (n : ℕ). Still n p at out) e s

  module _ (left p at : ℕ) (out : List ℕ) (s : Still (suc left) p at out) where
    as_lines : lines_from list (suc left) p ≡ line_at list p ++ lines_from list left (p + entry_size (kind_at list p))
    unfolding lines_from
    as_lines = refl

    as_length : length (lines_from list (suc left) p) ≡ length (line_at list p) + length (lines_from list left (p + entry_size (kind_at list p)))
    as_length = ap length as_lines ∙ length-append (line_at list p) (lines_from list left (p + entry_size (kind_at list p)))

    pub still_inside : p + entry_size (kind_at list p) ≤ length list
    unfolding Inside
    still_inside = s.inside.0

    pub still_known : Known (kind_at list p)
    unfolding Kinds
    still_known = s.kinds.0

    pub still_room : length (lines_from list number 0) ≤ length old → at + length (line_at list p) ≤ length out
    still_room r = omega (arith, s.same, s.many, as_length)

    pub still_more : (size next : ℕ) (new : List ℕ) → size ≡ entry_size (kind_at list p) → next ≡ at + length (line_at list p) → new ≡ sets out at (line_at list p)
        → Still left (p + size) next new
    unfolding Inside Kinds
    still_more size next new z e f =
        let rest = lines_from list left (p + entry_size (kind_at list p)) in
        subst (λ (n : ℕ). Still left (p + n) next new) (sym z)
        record {
          same = ap length f ∙ length-sets out at (line_at list p) ∙ s.same;
          inside = s.inside.1;
          kinds = s.kinds.1;
          many = omega (arith, e, s.many, as_length);
          bytes =
              ap₂ (λ (o : List ℕ) (j : ℕ). sets o j rest) f e
              ∙ joined (line_at list p) rest out at
              ∙ ap (sets out at) (sym as_lines)
              ∙ s.bytes;
        }

  pub still_ended : (left p at : ℕ) (out : List ℕ) → left ≡ 0 → Still left p at out → (at ≡ length (lines_from list number 0)) × (out ≡ sets old 0 (lines_from list number 0))
  unfolding lines_from
  still_ended left p at out z s =
      let none : lines_from list left p ≡ [] = ap (λ (n : ℕ). lines_from list n p) z in
      (omega (arith, s.many, ap length none), ap (sets out at) (sym none) ∙ s.bytes)
