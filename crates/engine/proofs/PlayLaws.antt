-- Where the loop stands: what is still to play from here leads to where all leads from the start. The pages' times go along unseen.
use Prim.Native.Nat.{◌≤◌}
use native.Mathlib.Omega.{arith}
use mathlib.Core.Path.{◌≡◌, sym, ap, subst, ◌∙◌}
use mathlib.Core.List.{List, []}
use lib.ListN.{length}
use Rattle.meaning.specs.Meaning.{after}
use Rattle.record.specs.declared.Board.{Board}
use Rattle.record.specs.declared.Record.{Record}
use Rattle.record.specs.declared.Reply.{Reply}
use Rattle.controls.specs.declared.Controls.{Controls}
use Rattle.controls.specs.Play.{start_of, moved_of}
use Rattle.image.specs.Images.{Images}
use Rattle.times.specs.declared.Touched.{Touched}
use Rattle.times.specs.Times.{Times, never_written, times_after}
use Rattle.machine.specs.Effects.{touched_by}
use Rattle.machine.specs.Machine.{Machine, machine_of, machine_at_start, play_on, on_machine}
use Rattle.machine.specs.Turn.{Turn, turn, turn_of}
use Rattle.capture.specs.Most.{most}
use Rattle.std.specs.Prelude.{Some, None}
use Rattle.std.specs.declared.iter.Take.{Take}
use Rattle.std.specs.Iterator.Adapters.{take_source, take_count, take_steps}
use Rattle.weave.specs.declared.Weave.{Weave}
use Rattle.weave.specs.Weaving.{Left, Weaves}
use Rattle.weave.proofs.WovenLaws.{then_next, none_left}
use Rattle.engine.specs.Straight.{PlaysAll}

-- what one record did, as the machine does it
played_as_lem : (b : Board) (c c' : Controls) (x x' : Images) (y : Times) (r : Record) (e : Reply) (t : Touched) → turn c' x' e t ≡ turn_of b c x r →
    machine_of c' x' (times_after r.stamp (touched_by b c r.event (moved_of b c r).reply) y) ≡ play_on b (machine_of c x y) r
unfolding turn_of play_on
played_as_lem b c c' x x' y r e t h =
    λ i. machine_of (ap (λ (u : Turn). u.controls) h i) (ap (λ (u : Turn). u.images) h i) (times_after r.stamp (touched_by b c r.event (moved_of b c r).reply) y)

pub record Ongoing (w₀ : Weave) (b : Board) (x₀ : Images) (w : Take Weave) (c : Controls) (x : Images) : Type 0 where
  pub ongoing : (m : List Record) → Left w₀ m → length m ≤ most →
      (m' : List Record) × (y : Times) × Left (take_source w) m' × (length m' ≤ take_count w)
      × (after (on_machine b) m' (machine_of c x y) ≡ after (on_machine b) m (machine_at_start b x₀))

pub ongoing_start : {w₀ : Weave} (w : Take Weave) (b : Board) (x : Images) (c : Controls) → take_source w ≡ w₀ → take_count w ≡ most → c ≡ start_of b → Ongoing w₀ b x w c x
ongoing_start w b x c e n h = record {
  ongoing = λ m l k. (m, never_written, subst (λ (v : Weave). Left v m) (sym e) l, omega arith, ap (λ (z : Controls). after (on_machine b) m (machine_of z x never_written)) h);
}

module _ {w₀ : Weave} {b : Board} {x₀ : Images} {w : Take Weave} {c : Controls} {x : Images} (o : Ongoing w₀ b x₀ w c x) (v : Take Weave) where
  pub ongoing_end : take_steps Weaves w None v → PlaysAll w₀ b x₀ x
  unfolding after
  ongoing_end s = record {
    plays = λ m l n.
        let z = o.ongoing m l n in
        let e : z.0 ≡ [] = none_left w v s z.0 z.2 z.3 in
        ap (λ (t : Machine). t.images) (ap (λ (l : List Record). after (on_machine b) l (machine_of c x z.1)) (sym e) ∙ z.4);
  }

  pub ongoing_next : {r : Record} {c' : Controls} {x' : Images} {e : Reply} {t : Touched} → take_steps Weaves w (Some r) v → turn c' x' e t ≡ turn_of b c x r → Ongoing w₀ b x₀ v c' x'
  unfolding after
  ongoing_next {r} {c'} {x'} {e} {t} g p = record {
    ongoing = λ m l n.
        let z = o.ongoing m l n in
        let q = z.3 in
        let s = then_next g.0 z.0 z.2 in
        let y = z.1 in (
          s.0,
          times_after r.stamp (touched_by b c r.event (moved_of b c r).reply) y,
          s.1,
          omega (arith, g.1, ap length s.2),
          ap (after (on_machine b) s.0) (played_as_lem b c c' x x' y r e t p) ∙ ap (λ (a : List Record). after (on_machine b) a (machine_of c x y)) (sym s.2) ∙ z.4,
        );
  }
