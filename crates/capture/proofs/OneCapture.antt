-- A level text has one reading: it can be used in one way, or has one first bad line, and not both.
use Prim.Native.Nat.{ℕ, ◌+◌, ◌<◌}
use native.Mathlib.Omega.{arith}
use mathlib.Core.Path.{◌≡◌, refl, sym, ap, ap₂, subst, ◌∙◌}
use mathlib.Core.Logic.{◌⊎◌, inl, inr}
use mathlib.Core.List.{List, [], ◌∷◌, ◌++◌, append_assoc, append-nil}
use lib.ListN.{length, drop, length-append}
use lib.Seq.{drop-append_seam}
use Rattle.record.specs.declared.Record.{Record}
use Rattle.record.specs.declared.LevelsAnswer.{LevelsAnswer}
use Rattle.field.specs.Reads.{Stands}
use Rattle.field.proofs.Reading.{stands_length}
use Rattle.level.specs.declared.Level.{Level}
use Rattle.level.specs.Spelled.{spelled_level, LevelOk}
use Rattle.level.proofs.Theorems.{one_level, level_same, level_length}
use Rattle.std.specs.Prelude.{Ok, Err}
use Rattle.capture.specs.Captures.{spelled_levels, Before, none, line, last_of, Fault, fault_of, Faultless, Captures, Begins, BadCapture, no_level, faulty}

-- ---- two lists of faultless lines at the front of the same bytes, neither of which can go on, are one
-- no line more that is faultless stands at the front of the rest
abbrev Stop : List Record → Before → List Level → List ℕ → Type 0
Stop ts p ls rest = (l : Level) (u : List ℕ) → rest ≡ spelled_level l ++ u → LevelOk l → fault_of ts (last_of p ls) l ≡ Ok tt → ⊥

agree : (ts : List Record) (ls ls' : List Level) (p : Before) → Faultless ts p ls → Faultless ts p ls' → (rest rest' : List ℕ) → Stop ts p ls rest → Stop ts p ls' rest' → spelled_levels ls ++ rest ≡ spelled_levels ls' ++ rest' → ls ≡ ls'
unfolding spelled_levels Faultless last_of
agree ts [] [] p g g' rest rest' s s' e = refl
agree ts [] (l ∷ ls) p g g' rest rest' s s' e = absurd (s l (spelled_levels ls ++ rest') (e ∙ append_assoc (spelled_level l) (spelled_levels ls) rest') g'.0 g'.1)
agree ts (l ∷ ls) [] p g g' rest rest' s s' e = absurd (s' l (spelled_levels ls ++ rest) (sym e ∙ append_assoc (spelled_level l) (spelled_levels ls) rest) g.0 g.1)
agree ts (l ∷ ls) (l' ∷ ls') p g g' rest rest' s s' e =
    let f = sym (append_assoc (spelled_level l) (spelled_levels ls) rest) ∙ e ∙ append_assoc (spelled_level l') (spelled_levels ls') rest' in
    let h = one_level l l' (spelled_levels ls ++ rest) (spelled_levels ls' ++ rest') f in
    ap₂ (λ (x : Level) (xs : List Level). x ∷ xs) h
    (agree ts ls ls' (line l) g.2 (subst (λ (x : Level). Faultless ts (line x) ls') (sym h) g'.2) rest rest' s
    (subst (λ (x : Level). Stop ts (line x) ls' rest') (sym h) s')
    (sym (drop-append_seam (spelled_level l) (spelled_levels ls ++ rest)) ∙ ap (λ (k : List ℕ). drop (length (spelled_level l)) k) f
    ∙ ap (λ (x : Level). drop (length (spelled_level x)) (spelled_level l' ++ (spelled_levels ls' ++ rest'))) h ∙ drop-append_seam (spelled_level l') (spelled_levels ls' ++ rest')))

pub bad_not_nothing : {A : Type 0} {a : LevelsAnswer} → ◌≡◌ {A = Fault} (Err a) (Ok tt) → A
bad_not_nothing e = cc

-- a reading up to where it cannot go on
record Ends (ts : List Record) (text : List ℕ) (ls : List Level) : Type 0 where
  faultless : Faultless ts none ls
  rest : List ℕ
  is : text ≡ spelled_levels ls ++ rest
  stop : Stop ts none ls rest

ends_same : {ts : List Record} {text : List ℕ} {ls ls' : List Level} → Ends ts text ls → Ends ts text ls' → ls ≡ ls'
ends_same {ts} {text} {ls} {ls'} e e' = agree ts ls ls' none e.faultless e'.faultless e.rest e'.rest e.stop e'.stop (sym e.is ∙ e'.is)

ends_whole : {ts : List Record} {text : List ℕ} {ls : List Level} → Captures ts text ls → Ends ts text ls
ends_whole {ts} {text} {ls} c = record {
  faultless = c.faultless;
  rest = [];
  is = c.is ∙ sym (append-nil (spelled_levels ls));
  stop = λ l u e o f. omega (arith, level_length l, ap length e, length-append (spelled_level l) u);
}

module _ {ts : List Record} {text : List ℕ} {ls : List Level} (b : Begins ts text ls) where
  behind : drop (length (spelled_levels ls)) text ≡ b.stands.rest
  behind = ap (λ (l : List ℕ). drop (length (spelled_levels ls)) l) b.stands.is ∙ drop-append_seam (spelled_levels ls) b.stands.rest

  stands_there : (w u : List ℕ) → b.stands.rest ≡ w ++ u → Stands text (length (spelled_levels ls)) w
  stands_there w u e = record { rest = u; is = behind ∙ e }

  ends_none : ((l : Level) → LevelOk l → Stands text (length (spelled_levels ls)) (spelled_level l) → ⊥) → Ends ts text ls
  ends_none n = record {
    faultless = b.faultless;
    rest = b.stands.rest;
    is = b.stands.is;
    stop = λ l u e o f. n l o (stands_there (spelled_level l) u e);
  }

  ends_fault : (x : Level) (n : LevelsAnswer) → LevelOk x → Stands text (length (spelled_levels ls)) (spelled_level x) → fault_of ts (last_of none ls) x ≡ Err n → Ends ts text ls
  ends_fault x n o s e = record {
    faultless = b.faultless;
    rest = b.stands.rest;
    is = b.stands.is;
    stop = λ l u q p f.
        let same = level_same text (length (spelled_levels ls)) x l s (stands_there (spelled_level l) u q) in
        bad_not_nothing (sym e ∙ ap (fault_of ts (last_of none ls)) same ∙ f);
  }

ends_bad : {ts : List Record} {text : List ℕ} {n : LevelsAnswer} {k : ℕ} → BadCapture ts text n k → (ls : List Level) × Ends ts text ls × (k ≡ length ls + 1)
ends_bad (no_level ls b h n) = (ls, ends_none b n, refl)
ends_bad (faulty ls l n b o s e) = (ls, ends_fault b l n o s e, refl)

-- ---- one reading
pub capture_one : {ts : List Record} {text : List ℕ} {ls ls' : List Level} → Captures ts text ls → Captures ts text ls' → ls ≡ ls'
capture_one c c' = ends_same (ends_whole c) (ends_whole c')

not_long : {ts : List Record} {text : List ℕ} {ls ls' : List Level} → Captures ts text ls → ls ≡ ls' → ((ls' ≡ []) ⊎ (length (spelled_levels ls') < length text)) → ⊥
not_long {ts} {text} {ls} {ls'} c e (inl z) = omega (arith, c.some, ap length (e ∙ z))
not_long {ts} {text} {ls} {ls'} c e (inr z) = omega (arith, ap length c.is, ap (λ (x : List Level). length (spelled_levels x)) e)

pub capture_not_bad : {ts : List Record} {text : List ℕ} {ls : List Level} {n : LevelsAnswer} {k : ℕ} → Captures ts text ls → BadCapture ts text n k → ⊥
capture_not_bad c (no_level ls b h n) = not_long c (ends_same (ends_whole c) (ends_none b n)) h
capture_not_bad {ts} {text} {ls} c (faulty ls' l n b o s e) =
    let same = ends_same (ends_whole c) (ends_fault b l n o s e) in
    not_long c same (inr (omega (arith, stands_length text (spelled_level l) (length (spelled_levels ls')) s (omega (arith, level_length l)), level_length l)))

same_bad : {a b : LevelsAnswer} → ◌≡◌ {A = Fault} (Err a) (Err b) → a ≡ b
same_bad e = cc

pub bad_one : {ts : List Record} {text : List ℕ} {n n' : LevelsAnswer} {k k' : ℕ} → BadCapture ts text n k → BadCapture ts text n' k' → (n ≡ n') × (k ≡ k')
bad_one {ts} {text} (no_level ls b h n) (no_level ls' b' h' n') =
    (refl, ap (λ (x : List Level). length x + 1) (ends_same (ends_none b n) (ends_none b' n')))
bad_one {ts} {text} (no_level ls b h n) (faulty ls' l n' b' o s e) =
    absurd (n l o (subst (λ (x : List Level). Stands text (length (spelled_levels x)) (spelled_level l)) (sym (ends_same (ends_none b n) (ends_fault b' l n' o s e))) s))
bad_one {ts} {text} (faulty ls l n b o s e) (no_level ls' b' h' n') =
    absurd (n' l o (subst (λ (x : List Level). Stands text (length (spelled_levels x)) (spelled_level l)) (ends_same (ends_fault b l n o s e) (ends_none b' n')) s))
bad_one {ts} {text} (faulty ls l n b o s e) (faulty ls' l' n' b' o' s' e') =
    let same = ends_same (ends_fault b l n o s e) (ends_fault b' l' n' o' s' e') in
    let one = level_same text (length (spelled_levels ls)) l l' s (subst (λ (x : List Level). Stands text (length (spelled_levels x)) (spelled_level l')) (sym same) s') in (
      same_bad (sym e ∙ ap (λ (x : List Level). fault_of ts (last_of none x) l) same ∙ ap (fault_of ts (last_of none ls')) one ∙ e'),
      ap (λ (x : List Level). length x + 1) same,
    )
