-- What is lent to the call for dumps, and what it leaves.
use Rattle.std.specs.Prelude.{ℕ, ◌≡◌, true, false, Some, None, List, [], eqb, length, replicate}
use Rattle.law.specs.Words.{pick}
use Rattle.record.specs.Lengths.{replies_length, result_length}
use Rattle.image.specs.Image.{Image, image_of}
use Rattle.times.specs.Times.{times_length}
use Rattle.buffers.specs.Buffers.{Buffers, fit}
use Rattle.call.specs.Replay.{Ended, Replays}
use Rattle.printing.specs.Printed.{Dump, Dumps, images_from, all_taken}

-- in place of an image whose dump is there: the dump, sure, where it has the image's length; else no byte, which is refusal 1
unfoldable pub lent_for : Dump → Image → Image
lent_for (Some bytes) i = pick (eqb (length bytes) (length i.values)) (image_of bytes (replicate (length i.masks) 0)) (image_of [] i.masks)
lent_for None i = i

-- the dumps' images, where all are taken; else what does not fit
pub record LentFor (d : Dumps) (x : Buffers) : Type 0 where
  pub taken : all_taken d ≡ true → (fit x ≡ true) × (x.images ≡ images_from d)
  pub not_taken : all_taken d ≡ false → fit x ≡ false
  pub times : length x.times ≡ times_length
  pub replies : length x.replies ≡ replies_length
  pub result : length x.result ≡ result_length

-- the call on buffers that were lent so left this table, these replies and this result
pub record LeftFor (text : List ℕ) (d : Dumps) (times replies result : List ℕ) : Type 0 where
  pub lent : Buffers
  pub ended : Ended
  pub is_lent : LentFor d lent
  pub is_ended : Replays text lent ended
  pub times_are : ended.buffers.times ≡ times
  pub replies_are : ended.buffers.replies ≡ replies
  pub result_is : ended.buffers.result ≡ result
