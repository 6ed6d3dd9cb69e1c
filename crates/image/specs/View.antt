-- Believed: The page view: which part of which image is shown (document 01, 'Replies and stopping', refusal 11).
use Rattle.std.specs.Prelude.{ℕ, ◌+◌, ◌*◌, ◌/◌, ◌≡◌, Bool, false, List, [], eqb, ltb, length, take, drop}
use Rattle.std.specs.Borrow.{Bor}
use Rattle.law.specs.Words.{pick}
use Rattle.record.specs.declared.Chip.{Chip}
use Rattle.image.specs.Images.{every_chip, kept_bytes, page_size}

-- refusal 11 is given where this is false: a page number above the chip's last (127 and 511), or an image, of any chip, not as long as is kept (32,768 bytes). `long` has the images' lengths
abbrev pub can_show : (Chip → ℕ) → Chip → ℕ → Bool
can_show long chip number = pick (every_chip (λ c. eqb (long c) (kept_bytes c))) (ltb number (kept_bytes chip / page_size chip)) false

-- where in its image the page stands, by the images' lengths, and how long it is: 0 and 0 on refusal
unfoldable pub view_place : (Chip → ℕ) → Chip → ℕ → ℕ
view_place long chip number = pick (can_show long chip number) (page_size chip * number) 0

unfoldable pub view_length : (Chip → ℕ) → Chip → ℕ → ℕ
view_length long chip number = pick (can_show long chip number) (page_size chip) 0

-- the page that is shown: a part of the image asked for, or, on refusal, the empty part. `bytes` has the images' values
unfoldable pub page_shown : (Chip → List ℕ) → Chip → ℕ → List ℕ
page_shown bytes chip number =
    pick (can_show (λ c. length (bytes c)) chip number) (take (page_size chip) (drop (page_size chip * number) (bytes chip))) []

-- What is shown is a part of the image asked for, not a copy: it lies where that image lies, further on by the page's place, and its bytes are the page's. A lent
-- part's `ref_ptr` is the memory that it lies in and the place in that.
pub record Shows (images : Chip → Bor (List ℕ)) (chip : Chip) (number : ℕ) (part : Bor (List ℕ)) : Type 0 where
  pub lies : part.ref_ptr ≡ ((images chip).ref_ptr.0, view_place (λ c. length (images c).now) chip number + (images chip).ref_ptr.1)
  pub bytes : part.now ≡ page_shown (λ c. (images c).now) chip number
