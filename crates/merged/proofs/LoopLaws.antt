-- Where the loop stands: what is still to write from here gives the whole.
use Prim.Native.Nat.{ℕ, ◌+◌, ◌≤◌}
use native.Mathlib.Omega.{arith}
use native.Mathlib.Nat.{add-zero}
use mathlib.Core.Path.{◌≡◌, refl, sym, ap, ap₂, subst, ◌∙◌}
use mathlib.Core.List.{List, [], ◌∷◌, ◌++◌}
use lib.ListN.{length, take, drop, length-append, take-append-drop}
use Rattle.record.specs.declared.Record.{Record}
use Rattle.line.specs.Records.{spelled}
use Rattle.text.specs.Texts.{spelled_all}
use Rattle.capture.specs.Most.{most}
use Rattle.std.specs.Prelude.{Some, None}
use Rattle.std.specs.declared.iter.Take.{Take}
use Rattle.std.specs.Iterator.Adapters.{take_source, take_count, take_steps}
use Rattle.weave.specs.declared.Weave.{Weave}
use Rattle.weave.specs.Weaving.{Left, Weaves}
use Rattle.weave.proofs.WovenLaws.{then_next, none_left}
use Rattle.merged.specs.Writing.{put_at, WritesLine, WritesAll}
use Rattle.merged.proofs.LineLaws.{put_put}

all_nil : (m : List Record) → m ≡ [] → spelled_all m ≡ []
unfolding spelled_all
all_nil m e = ap spelled_all e

all_cons : (m : List Record) (x : Record) (m' : List Record) → m ≡ x ∷ m' → spelled_all m ≡ spelled x ++ spelled_all m'
unfolding spelled_all
all_cons m x m' e = ap spelled_all e

pub record Going (w₀ : Weave) (from : ℕ) (old : List ℕ) (w : Take Weave) (at : ℕ) (out : List ℕ) : Type 0 where
  pub going : (m : List Record) → Left w₀ m → length m ≤ most → from + length (spelled_all m) ≤ length old →
      (m' : List Record) × Left (take_source w) m' × (length m' ≤ take_count w) × (at + length (spelled_all m') ≡ from + length (spelled_all m))
      × (put_at at (spelled_all m') out ≡ put_at from (spelled_all m) old)

pub going_start : {w₀ : Weave} (w : Take Weave) (from : ℕ) (old : List ℕ) → take_source w ≡ w₀ → take_count w ≡ most → Going w₀ from old w from old
going_start w from old e n = record { going = λ m l k h. (m, subst (λ (v : Weave). Left v m) (sym e) l, omega arith, refl, refl) }

put_nothing : (at : ℕ) (w out : List ℕ) → w ≡ [] → put_at at w out ≡ out
put_nothing at w out e =
    ap (λ (x : List ℕ). put_at at x out) e ∙ ap (λ (n : ℕ). take at out ++ drop n out) (add-zero at) ∙ take-append-drop at out

module _ {w₀ : Weave} {from : ℕ} {old : List ℕ} {w : Take Weave} {at : ℕ} {out : List ℕ} (g : Going w₀ from old w at out) (v : Take Weave) where
  pub going_end : take_steps Weaves w None v → WritesAll w₀ from old out at
  going_end s = record {
    writes = λ m l n f.
        let z = g.going m l n f in
        let q = all_nil z.0 (none_left w v s z.0 z.1 z.2) in
        (omega (arith, z.3, ap length q), sym (put_nothing at (spelled_all z.0) out q) ∙ z.4);
  }

  pub going_next : {x : Record} {at' : ℕ} {out' : List ℕ} → take_steps Weaves w (Some x) v → WritesLine x at out out' at' → length out ≡ length old → Going w₀ from old v at' out'
  going_next {x} {at'} {out'} s d same = record {
    going = λ m l n f.
        let z = g.going m l n f in
        let y = then_next s.0 z.0 z.1 in
        let q = z.2 in
        let t = all_cons z.0 x y.0 y.2 in
        let room : at + length (spelled x) ≤ length out = omega (arith, z.3, ap length t, length-append (spelled x) (spelled_all y.0), same) in
        let c = d.writes room in (
          y.0,
          y.1,
          omega (arith, s.1, ap length y.2),
          omega (arith, c.0, z.3, ap length t, length-append (spelled x) (spelled_all y.0)),
          ap₂ (λ (n : ℕ) (u : List ℕ). put_at n (spelled_all y.0) u) c.0 c.1 ∙ put_put at (spelled x) (spelled_all y.0) out room ∙ ap (λ (u : List ℕ). put_at at u out) (sym t) ∙ z.4,
        );
  }
