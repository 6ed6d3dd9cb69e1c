-- The five bytes of a page's entry are those of its time, and where the mark is 0 the page was never written.
use mathlib.Core.Path.{◌≡◌, refl, sym, ap, ◌∙◌}
use mathlib.Core.List.{List, [], ◌∷◌}
use Prim.Native.Nat.{ℕ, ◌+◌, ◌-◌, ◌/◌, ◌%◌, ◌≤◌, ◌<◌}
use native.Mathlib.Omega.{arith}
use borrow.Author.Tests.{lt-ltb, le-ltb}
use lib.ListN.{length, take, drop, get_or, replicate, length-replicate, length-drop}
use lib.Seq.{get_or-drop}
use Rattle.law.specs.Places.{by_place_at, by_place_length}
use Rattle.record.specs.declared.Chip.{Chip}
use Rattle.times.specs.Times.{Time, never, written, Times, pages_of, first_entry, entry_of, entry_bytes, entry_byte, times_length, time_bytes}
use Rattle.demands.specs.Times.{entry_place, entry_at}
use Rattle.demands.proofs.LastTime.{time_of}

-- the first five of a list
first_five : (l : List ℕ) → 5 ≤ length l → take 5 l ≡ get_or l 0 0 ∷ get_or l 1 0 ∷ get_or l 2 0 ∷ get_or l 3 0 ∷ get_or l 4 0 ∷ []
first_five [] h = absurd (omega arith)
first_five (a ∷ []) h = absurd (omega arith)
first_five (a ∷ (b ∷ [])) h = absurd (omega arith)
first_five (a ∷ (b ∷ (c ∷ []))) h = absurd (omega arith)
first_five (a ∷ (b ∷ (c ∷ (d ∷ [])))) h = absurd (omega arith)
first_five (a ∷ (b ∷ (c ∷ (d ∷ (e ∷ l))))) h = refl

five_bytes : (time : Time) → entry_byte time 0 ∷ entry_byte time 1 ∷ entry_byte time 2 ∷ entry_byte time 3 ∷ entry_byte time 4 ∷ [] ≡ entry_bytes time
five_bytes never = refl
five_bytes (written t) = refl

few : (chip : Chip) (n : ℕ) → n < pages_of chip → first_entry chip + n < 640
few Chip.Flash n l = omega arith
few Chip.Eeprom n l = omega arith

-- byte k of the table
abbrev spelled : Times → ℕ → ℕ → ℕ
spelled y k z = entry_byte (entry_of y (k / 5)) (k % 5)

pub table_length : (y : Times) → length (time_bytes y) ≡ times_length
unfolding time_bytes
table_length y = by_place_length (spelled y) 0 (replicate times_length 0) ∙ length-replicate {A = ℕ} times_length 0

module _ (y : Times) where
  entry_of_lem : (chip : Chip) (n : ℕ) → n < pages_of chip → entry_of y (first_entry chip + n) ≡ time_of chip n y
  entry_of_lem Chip.Flash n l = let z : 0 + n ≡ n = omega arith in simp (z, lt-ltb n 128 l)
  entry_of_lem Chip.Eeprom n l = let z : 128 + n - 128 ≡ n = omega arith in simp (le-ltb (128 + n) 128 (omega arith), lt-ltb (128 + n) 640 (omega arith), z)

  module _ (chip : Chip) (n : ℕ) (l : n < pages_of chip) where
    pub byte_at : (q : ℕ) → q < 5 → get_or (time_bytes y) (entry_place chip n + q) 0 ≡ entry_byte (time_of chip n y) q
    unfolding time_bytes
    byte_at q h =
        let f : first_entry chip + n < 640 = few chip n l in
        let e : entry_place chip n + q < length {A = ℕ} (replicate times_length 0) = rw (length-replicate {A = ℕ} times_length 0) (omega arith) in
        let d : (entry_place chip n + q) / 5 ≡ first_entry chip + n = omega arith in
        let m : (entry_place chip n + q) % 5 ≡ q = omega arith in
        by_place_at (spelled y) (entry_place chip n + q) (replicate times_length 0) e
        ∙ (λ i. entry_byte (entry_of y (d i)) (m i))
        ∙ ap (λ (t : Time). entry_byte t q) (entry_of_lem chip n l)

    pub entry_bytes_lem : entry_at chip n (time_bytes y) ≡ entry_bytes (time_of chip n y)
    entry_bytes_lem =
        let f : first_entry chip + n < 640 = few chip n l in
        let long : 5 ≤ length (drop (entry_place chip n) (time_bytes y)) = rw (length-drop (entry_place chip n) (time_bytes y), table_length y) (omega arith) in
        let at : (q : ℕ) → q < 5 → get_or (drop (entry_place chip n) (time_bytes y)) q 0 ≡ entry_byte (time_of chip n y) q = λ q h. get_or-drop (entry_place chip n) (time_bytes y) q 0 ∙ byte_at q h in
        first_five (drop (entry_place chip n) (time_bytes y)) long
        ∙ (λ i. at 0 (omega arith) i ∷ at 1 (omega arith) i ∷ at 2 (omega arith) i ∷ at 3 (omega arith) i ∷ at 4 (omega arith) i ∷ [])
        ∙ five_bytes (time_of chip n y)

    unmarked : (time : Time) → entry_byte time 0 ≡ 0 → time ≡ never
    unmarked never h = refl
    unmarked (written t) h = absurd (omega arith)

    pub mark_never : get_or (time_bytes y) (entry_place chip n) 0 ≡ 0 → time_of chip n y ≡ never
    mark_never h =
        let z : entry_place chip n ≡ entry_place chip n + 0 = omega arith in
        unmarked (time_of chip n y) (sym (byte_at 0 (omega arith)) ∙ ap (λ (k : ℕ). get_or (time_bytes y) k 0) (sym z) ∙ h)
