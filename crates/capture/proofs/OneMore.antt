-- The lines at the front of a level text, and one line more.
use Prim.Native.Nat.{ℕ, ◌+◌, ◌≤◌, ◌<◌}
use native.Mathlib.Omega.{arith}
use native.Mathlib.Nat.{zero-add}
use mathlib.Core.Path.{◌≡◌, refl, sym, ap, subst, ◌∙◌}
use mathlib.Core.List.{List, [], ◌∷◌, ◌++◌, append_assoc, append-nil}
use lib.ListN.{length, length-append}
use Rattle.record.specs.declared.Record.{Record}
use Rattle.field.specs.Reads.{Stands}
use Rattle.field.proofs.Reading.{stands_join}
use Rattle.line.proofs.Whole.{nil_of}
use Rattle.level.specs.declared.Level.{Level}
use Rattle.level.specs.Spelled.{spelled_level, LevelOk}
use Rattle.std.specs.Prelude.{Ok}
use Rattle.capture.specs.Captures.{spelled_levels, Before, none, line, last_of, fault_of, Faultless, Captures, Begins}

faultless_snoc : (ts : List Record) (p : Before) (ls : List Level) (l : Level) → Faultless ts p ls → LevelOk l → fault_of ts (last_of p ls) l ≡ Ok tt → Faultless ts p (ls ++ (l ∷ []))
unfolding Faultless last_of
faultless_snoc ts p [] l f o e = (o, e, tt)
faultless_snoc ts p (x ∷ ls) l f o e = (f.0, f.1, faultless_snoc ts (line x) ls l f.2 o e)

pub last_snoc : (p : Before) (ls : List Level) (l : Level) → last_of p (ls ++ (l ∷ [])) ≡ line l
unfolding last_of
last_snoc p [] l = refl
last_snoc p (x ∷ ls) l = last_snoc (line x) ls l

levels_snoc : (ls : List Level) (l : Level) → spelled_levels (ls ++ (l ∷ [])) ≡ spelled_levels ls ++ spelled_level l
unfolding spelled_levels
levels_snoc [] l = append-nil (spelled_level l)
levels_snoc (x ∷ ls) l = ap (λ (k : List ℕ). spelled_level x ++ k) (levels_snoc ls l) ∙ sym (append_assoc (spelled_level x) (spelled_levels ls) (spelled_level l))

-- the place behind it
pub length_snoc : (ls : List Level) (l : Level) → length (spelled_levels (ls ++ (l ∷ []))) ≡ length (spelled_levels ls) + length (spelled_level l)
length_snoc ls l = ap length (levels_snoc ls l) ∙ length-append (spelled_levels ls) (spelled_level l)

-- no line is at the front of any text
pub begins_none : (ts : List Record) (text : List ℕ) → Begins ts text []
unfolding Faultless spelled_levels
begins_none ts text = record { faultless = tt; stands = record { rest = text; is = refl } }

module _ {ts : List Record} {text : List ℕ} (ls : List Level) (b : Begins ts text ls) where
  -- a line without a fault stands behind them
  pub begins_snoc : (l : Level) → LevelOk l → Stands text (length (spelled_levels ls)) (spelled_level l) → fault_of ts (last_of none ls) l ≡ Ok tt → Begins ts text (ls ++ (l ∷ []))
  begins_snoc l o s e = record {
    faultless = faultless_snoc ts none ls l b.faultless o e;
    stands =
        subst (λ (x : List ℕ). Stands text 0 x) (sym (levels_snoc ls l))
        (stands_join text (spelled_levels ls) (spelled_level l) 0 b.stands (subst (λ (k : ℕ). Stands text k (spelled_level l)) (sym (zero-add _)) s));
  }

  -- nothing stands behind them
  pub begins_whole : 0 < length ls → length text ≤ length (spelled_levels ls) → Captures ts text ls
  begins_whole h le =
      let t = b.stands in
      let nothing : length t.rest ≡ 0 = omega (arith, ap length t.is, length-append (spelled_levels ls) t.rest) in
      record { some = h; faultless = b.faultless; is = t.is ∙ ap (λ (k : List ℕ). spelled_levels ls ++ k) (nil_of t.rest nothing) ∙ append-nil (spelled_levels ls) }
