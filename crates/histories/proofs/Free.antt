-- Whatever values the marked bits are given at the end, a history ends with them. From the last record back to the first: what a bit is afterwards, and what it was shown as before, give a choice and a bit before it.
use mathlib.Core.Path.{◌≡◌, refl, ap, ◌∙◌}
use mathlib.Core.List.{List, [], ◌∷◌}
use Prim.Native.Nat.{ℕ, zero, suc, ◌<◌}
use Rattle.law.specs.Words.{All}
use Rattle.meaning.specs.Meaning.{after}
use Rattle.record.specs.declared.Board.{Board}
use Rattle.record.specs.declared.Chip.{Chip}
use Rattle.record.specs.declared.Record.{Record}
use Rattle.image.specs.Image.{cell_at}
use Rattle.image.specs.Images.{image_at, kept_bytes}
use Rattle.controls.specs.declared.Controls.{Controls}
use Rattle.controls.specs.Play.{moved_of}
use Rattle.machine.specs.Machine.{Machine, on_machine, play_on}
use Rattle.histories.specs.History.{becomes, fate_at, Bits, Real, play_real, on_real, StandFor}
use Rattle.histories.proofs.OneBit.{filled_with, filled_may, may_filled, fills}
use Rattle.histories.proofs.Along.{Sound, Ok, sound_play, turns}

-- the same bits at the places kept
abbrev pub Same : Bits → Bits → Type 0
Same x y = (chip : Chip) (k j : ℕ) → k < kept_bytes chip → j < 8 → x chip k j ≡ y chip k j

abbrev real_of : Controls → Bits → (ℕ → Bits) → Real
real_of c x g = record { controls = c; bits = x; choices = g }

-- the first choice, then the rest
abbrev followed : Bits → (ℕ → Bits) → ℕ → Bits
followed x g zero = x
followed x g (suc n) = g n

module _ (b : Board) where
  -- what each bit becomes
  abbrev next : Controls → Record → Bits → Bits → Bits
  next c r g x chip k j = becomes (fate_at b c r chip k) j (g chip k j) (x chip k j)

  same_after : (o : List Record) (c : Controls) (g : ℕ → Bits) (x y : Bits) → Same x y → Same (after (on_real b) o (real_of c x g)).bits (after (on_real b) o (real_of c y g)).bits
  unfolding after play_real
  same_after [] c g x y h = h
  same_after (r ∷ o) c g x y h =
      same_after o (moved_of b c r).controls (λ n. g (suc n)) (next c r (g 0) x) (next c r (g 0) y) (λ chip k j l n. ap (becomes (fate_at b c r chip k) j (g 0 chip k j)) (h chip k j l n))

  -- the bits before a record that becomes y
  abbrev back : Machine → Bits → Bits
  back m y chip k j = filled_with (y chip k j) (cell_at (image_at chip m.images) k) j

  back_stands : (m : Machine) (y : Bits) → StandFor m.images (back m y)
  unfolding StandFor
  back_stands m y chip k j l n = filled_may (y chip k j) (cell_at (image_at chip m.images) k) j

  back_next : (m : Machine) (r : Record) → Sound m → (y : Bits) → StandFor (play_on b m r).images y → Same (next m.controls r y (back m y)) y
  unfolding StandFor
  back_next m r s y h chip k j l n =
      let d = cell_at (image_at chip (play_on b m r).images) k in
      fills (fate_at b m.controls r chip k) (cell_at (image_at chip m.images) k) d (turns b m r s chip k l) j n (y chip k j) ∙ may_filled (y chip k j) d j (h chip k j l n)

  pub reach : (o : List Record) (m : Machine) → All Ok o → Sound m → (y : Bits) → StandFor (after (on_machine b) o m).images y →
      (x : Bits) × (g : ℕ → Bits) × StandFor m.images x × Same (after (on_real b) o (real_of m.controls x g)).bits y
  unfolding after All play_real play_on
  reach [] m k s y h = (y, (λ n. y), h, λ chip k j l n. refl)
  reach (r ∷ o) m k s y h =
      let w = reach o (play_on b m r) k.1 (sound_play b m r k.0 s) y h in
      let x = w.0 in (
        back m x,
        followed x w.1,
        back_stands m x,
        λ chip i j l n. same_after o (moved_of b m.controls r).controls w.1 (next m.controls r x (back m x)) x (back_next m r s x w.2) chip i j l n ∙ w.3 chip i j l n,
      )
