-- Believed: What the second engine answers and leaves (document 02, request 4/12: 'A second engine that plays the levels straight through'): the merged records played in the written order, for every input.
use Rattle.std.specs.Prelude.{ℕ, ◌≡◌, true, false, List}
use Rattle.meaning.specs.Meaning.{after}
use Rattle.record.specs.declared.Answer.TheVariants.{Settled, BadBuffers}
use Rattle.record.specs.Answers.{answer_number}
use Rattle.image.specs.Images.{Images, images_of}
use Rattle.machine.specs.Machine.{machine_at_start, on_machine}
use Rattle.buffers.specs.Buffers.{fit_images, result_after}
use Rattle.capture.specs.Merge.{Judgement, refused, merged, Judges}

-- both images with their masks, and the result
pub record Lent : Type 0 where
  pub images : Images
  pub result : List ℕ

-- flash values, flash masks, EEPROM values, EEPROM masks, result
abbrev pub lent_of : List ℕ → List ℕ → List ℕ → List ℕ → List ℕ → Lent
lent_of fv fm ev em result = record { images = images_of fv fm ev em; result = result }

-- the answer, and what is in the buffers
pub record Played : Type 0 where
  pub answer : ℕ
  pub lent : Lent

abbrev pub played_as : ℕ → Lent → Played
played_as n x = record { answer = n; lent = x }

-- a refusal writes only the result: the answer, the line, 0, the field of a 3
unfoldable pub unplayed : ℕ → ℕ → ℕ → Lent → Played
unplayed n line field x = played_as n (record { images = x.images; result = result_after n line 0 field x.result })

-- the images after the merged records, each played as it is written
unfoldable pub play_left : Judgement → Lent → Played
play_left (refused n line field) x = unplayed n line field x
play_left (merged b m) x =
    played_as (answer_number Settled)
    (record { images = (after (on_machine b) m (machine_at_start b x.images)).images; result = result_after (answer_number Settled) 0 0 0 x.result })

-- The order of refusals: 1, then how both texts are judged. Every two texts have a judgement.
pub record Plays (levels trace : List ℕ) (x : Lent) (e : Played) : Type 0 where
  pub unfit : fit_images x.images x.result ≡ false → e ≡ unplayed (answer_number BadBuffers) 0 0 x
  pub judged : fit_images x.images x.result ≡ true → (j : Judgement) → Judges levels trace j → e ≡ play_left j x
  pub some : fit_images x.images x.result ≡ true → (j : Judgement) × Judges levels trace j
