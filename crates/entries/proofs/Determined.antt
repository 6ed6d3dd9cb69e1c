-- What is printed of two contents and a status is one. Assumes nothing.
use Prim.Native.Nat.{ℕ, ◌≤◌, ◌<◌}
use mathlib.Core.Path.{◌≡◌, refl, sym, ap, ◌∙◌, subst}
use mathlib.Core.Logic.{⊎_elim}
use mathlib.Core.List.{List, [], ◌++◌}
use lib.ListN.{length, get_or}
use Rattle.law.specs.Choice.{lt_or_le}
use Rattle.field.specs.Hex.{hex_field}
use Rattle.field.specs.Ends.{lf}
use Rattle.field.proofs.HexLaws.{unhex, unhex_is}
use Rattle.fewest.specs.Entries.{Entry}
use Rattle.fewest.specs.Fewest.{IsPlan, DiffersLocked}
use Rattle.fewest.specs.Call.{laid_over}
use Rattle.fewest.proofs.Outcomes.{the_plan}
use Rattle.entries.specs.Printed.{entry_lines, cycles_line, print_room, Usable, PlanPrinted, unfit, locked, planned, PrintsPlan}

-- a text spells one status
one_status : (text : List ℕ) (s t : ℕ) → s < 256 → t < 256 → text ≡ hex_field s ++ lf → text ≡ hex_field t ++ lf → s ≡ t
unfolding hex_field
one_status text s t a b p q =
    sym (unhex_is s a) ∙ ap (λ (l : List ℕ). unhex (get_or l 0 0) (get_or l 1 0)) (sym p ∙ q) ∙ unhex_is t b

module _ (present wanted text : List ℕ) (presentBytes : (k : ℕ) → get_or present k 0 < 256) (wantedBytes : (k : ℕ) → get_or wanted k 0 < 256) where
  same_status : (s t : ℕ) → Usable present wanted text s → Usable present wanted text t → s ≡ t
  same_status s t u v = one_status text s t u.status_bits.0 v.status_bits.0 u.spelled v.spelled

  -- with one status there is one plan
  same_plan : (s t : ℕ) (os ps : List Entry) → s ≡ t → Usable present wanted text s → (DiffersLocked s present wanted → ⊥) → IsPlan s present wanted os → IsPlan t present wanted ps → os ≡ ps
  same_plan s t os ps e u none is ip =
      let that = subst (λ (x : ℕ). IsPlan x present wanted ps) (sym e) ip in
      the_plan s present wanted [] [] u.status_bits.0 presentBytes wantedBytes os none is
      ∙ sym (the_plan s present wanted [] [] u.status_bits.0 presentBytes wantedBytes ps none that)

  one_printed : (p q : List ℕ) → PlanPrinted present wanted text p → PlanPrinted present wanted text q → p ≡ q
  one_printed p q (unfit n) (unfit m) = refl
  one_printed p q (unfit n) (locked t u d) = absurd (n t u)
  one_printed p q (unfit n) (planned t os u d i) = absurd (n t u)
  one_printed p q (locked s u d) (unfit m) = absurd (m s u)
  one_printed p q (locked s u d) (locked t v c) = refl
  one_printed p q (locked s u d) (planned t os v c i) = absurd (c (subst (λ (x : ℕ). DiffersLocked x present wanted) (same_status s t u v) d))
  one_printed p q (planned s os u d i) (unfit m) = absurd (m s u)
  one_printed p q (planned s os u d i) (locked t v c) = absurd (d (subst (λ (x : ℕ). DiffersLocked x present wanted) (same_status t s v u) c))
  one_printed p q (planned s os u d i) (planned t ps v c j) =
      ap (λ (o : List Entry). entry_lines o ++ cycles_line (length o)) (same_plan s t os ps (same_status s t u v) u d i j)

  -- so the number and the output are fixed
  pub prints_one : (old new new' : List ℕ) (n n' : ℕ) → PrintsPlan present wanted text old new n → PrintsPlan present wanted text old new' n' → (n ≡ n') × (new ≡ new')
  prints_one old new new' n n' a b =
      let e : a.printed ≡ b.printed = one_printed a.printed b.printed a.is b.is in
      ⊎_elim
      (λ (l : length old < print_room). ((a.short l).0 ∙ sym (b.short l).0, (a.short l).1 ∙ sym (b.short l).1))
      (λ (l : print_room ≤ length old). (
        (a.written l).0 ∙ ap (λ (p : List ℕ). length p) e ∙ sym (b.written l).0,
        (a.written l).1 ∙ ap (λ (p : List ℕ). laid_over p old) e ∙ sym (b.written l).1,
      ))
      (lt_or_le (length old) print_room)
