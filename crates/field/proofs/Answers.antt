-- The constructors of each answer are apart, and a value's parts are told from it.
use Prim.Native.Nat.{ℕ}
use native.Mathlib.Omega.{arith}
use mathlib.Core.Path.{◌≡◌, refl, ap, ◌∙◌}
use mathlib.Core.List.{List}
use Rattle.std.specs.Prelude.{Result, Err, IsErrAnd}
use Rattle.std.proofs.lemmas.Result.{err_from_is_err_and}
use Rattle.field.specs.declared.Cursor.{Cursor}
use Rattle.field.specs.declared.BadField.{BadField}
use Rattle.field.specs.Reads.{Stands, Reads}
use Rattle.field.specs.Read.{got, past, bad_field}
use Rattle.field.specs.Readers.{content_at}
use Rattle.field.proofs.Reading.{Tells, Got, got_none, got_bad}

pub zero_one : ◌≡◌ {A = ℕ} 0 1 → ⊥
zero_one e = omega arith

pub at_same : {p q : ℕ} → ◌≡◌ {A = Cursor} (record { at = p }) (record { at = q }) → p ≡ q
at_same e = ap (λ (k : Cursor). k.at) e

pub both_same : {A B : Type 0} {x y : A × B} → x.0 ≡ y.0 → x.1 ≡ y.1 → x ≡ y
both_same e f = λ i. (e i, f i)

pub tells_got : {T : Type 0} {e : BadField} → Tells {A = T} got (Err e)
tells_got {T} = record { apart = λ x p e. zero_one (cc); same = λ x y p q e. let z : (x, record { at = p }) ≡ (y, record { at = q }) = cc in (ap (λ (w : T × Cursor). w.0) z, at_same (ap (λ (w : T × Cursor). w.1) z)) }

pub tells_past : {e : BadField} → Tells {A = Unit {0}} (λ _. past) (Err e)
tells_past = record { apart = λ x p e. zero_one (cc); same = λ x y p q e. (refl, at_same (cc)) }

-- nothing of a kind stands here
abbrev pub No : {A : Type 0} → (A → List ℕ) → (A → Type 0) → List ℕ → ℕ → Type 0
No {A} spell Ok text at = (x : A) → Ok x → Stands text at (spell x) → ⊥

-- the content of the field that starts here spells x and ends at p
abbrev pub GotField : {A : Type 0} → (A → List ℕ) → (A → Type 0) → List ℕ → ℕ → A → ℕ → Type 0
GotField spell Ok text at x p = Got spell (λ y. Ok y × (content_at text at ≡ spell y)) text at x p

-- bytes stand here and p is next; they do not stand here
abbrev pub GotWord : List ℕ → List ℕ → ℕ → ℕ → Type 0
GotWord w text at p = Got {A = Unit {0}} (λ _. w) (λ _. Unit {0}) text at tt p

abbrev pub NoWord : List ℕ → List ℕ → ℕ → Type 0
NoWord w text at = No {A = Unit {0}} (λ _. w) (λ _. Unit {0}) text at

-- What is known at the exit of a `?` on a reader's answer: nothing that it reads stands here, and the answer tells its number.
pub record Refused {A T : Type 0} (spell : A → List ℕ) (Ok : A → Type 0) (text : List ℕ) (at k : ℕ) (q : Result T BadField) : Type 0 where
  pub none : No spell Ok text at
  pub same : q ≡ bad_field k

pub refused : {A X T : Type 0} {spell : A → List ℕ} {Ok : A → Type 0} {value : A → ℕ → Result X BadField} {text : List ℕ} {at k : ℕ} {r : Result X BadField} {e : BadField} {q : Result T BadField}
    → Tells value (Err e) → Reads spell Ok value (bad_field k) text at r → r ≡ Err e → IsErrAnd q (λ y. y ≡ e) → Refused spell Ok text at k q
refused {r} {e} {q} t d w i =
    let z = err_from_is_err_and q i in
    let b = got_bad t d w in
    let f : e ≡ record { 0 = _ } = cc in
    record { none = got_none t d w; same = z.1 ∙ ap Err (z.2 ∙ f) }
