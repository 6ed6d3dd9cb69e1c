-- Believed: The lent buffers: when they fit, and what the result holds (document 01, 'Replies and stopping'; document 02, requests 1/12, 2/12, 4/12 and 6/12).
use Rattle.std.specs.Prelude.{ℕ, Bool, true, false, List, [], ◌∷◌, ◌++◌, eqb, length}
use Rattle.std.specs.Int.Bits.{bit_and}
use Rattle.law.specs.Words.{pick}
use Rattle.record.specs.Lengths.{replies_length, result_length, plan_result_length}
use Rattle.record.specs.Word.{word}
use Rattle.image.specs.Image.{Image, spans}
use Rattle.image.specs.Images.{Images, images_of, every_chip, image_at, kept_bytes}
use Rattle.times.specs.Times.{times_length}

-- what a replay changes: the images with their masks, the table of times, the replies, the result
pub record Buffers : Type 0 where
  pub images : Images
  pub times : List ℕ
  pub replies : List ℕ
  pub result : List ℕ

-- flash values, flash masks, EEPROM values, EEPROM masks, times, replies, result
abbrev pub buffers_of : List ℕ → List ℕ → List ℕ → List ℕ → List ℕ → List ℕ → List ℕ → Buffers
buffers_of fv fm ev em times replies result =
    record { images = images_of fv fm ev em; times = times; replies = replies; result = result }

-- refusal 1: 'a bit is set in both', value and mask. Here none is, place by place
unfoldable pub clear : List ℕ → List ℕ → Bool
clear [] ms = true
clear (v ∷ vs) [] = true
clear (v ∷ vs) (m ∷ ms) = pick (eqb (bit_and v m) 0) (clear vs ms) false

-- the same of an image
abbrev pub is_clear : Image → Bool
is_clear i = clear i.values i.masks

-- of the images and the result none of the grounds of refusal 1 holds: every length is right, and in each image no bit is set in both
unfoldable pub fit_images : Images → List ℕ → Bool
fit_images x result =
    pick (every_chip (λ chip. spans (kept_bytes chip) (image_at chip x)))
    (pick (eqb (length result) result_length) (every_chip (λ chip. is_clear (image_at chip x))) false) false

-- and of all that a replay is lent
unfoldable pub fit : Buffers → Bool
fit x =
    pick (eqb (length x.times) times_length)
    (pick (eqb (length x.replies) replies_length) (fit_images x.images x.result) false) false

-- 'answer, line or stamp, count', and 'the last four the field or 0'
unfoldable pub result_bytes : ℕ → ℕ → ℕ → ℕ → List ℕ
result_bytes answer number count field = word answer ++ (word number ++ (word count ++ word field))

-- 'with a wrong length nothing is written there'
unfoldable pub result_after : ℕ → ℕ → ℕ → ℕ → List ℕ → List ℕ
result_after answer number count field old = pick (eqb (length old) result_length) (result_bytes answer number count field) old

-- a plan's result: the answer and the number of entries, or nothing where its length is wrong
unfoldable pub plan_result_after : ℕ → ℕ → List ℕ → List ℕ
plan_result_after answer number old = pick (eqb (length old) plan_result_length) (word answer ++ word number) old
