-- What the parts of the code that writes the listings promise.
use Rattle.std.specs.Prelude.{ℕ, suc, ◌+◌, ◌*◌, ◌≤◌, ◌≡◌, Option, Some, None, List, [], ◌∷◌, ◌++◌, eqb, length}
use Rattle.std.proofs.lemmas.List.Edits.{sets}
use Rattle.law.specs.Words.{pick}
use Rattle.record.specs.declared.Chip.{Chip}
use Rattle.record.specs.declared.Record.{Record}
use Rattle.record.specs.Lengths.{result_length}
use Rattle.field.specs.Room.{room}
use Rattle.times.specs.Times.{pages_of, first_entry}
use Rattle.listing.specs.declared.told.Told.{Told}
use Rattle.listing.specs.Bytes.{was_played, reply_at, answer_in, place_in, count_in, field_in}
use Rattle.listing.specs.Lines.{heading, refused_line}
use Rattle.listing.specs.Listing.{Listed, record_lines}
use Rattle.listing.specs.Pages.{lines_below, time_at}

-- the records before the first that was not played; the first of them is record k
unfoldable pub played : List ℕ → ℕ → List Record → List Record
played replies k [] = []
played replies k (r ∷ rs) = pick (was_played (reply_at replies k)) (r ∷ played replies (suc k) rs) []

-- The lines of the records of which P holds are written from a place on, and n is the place after them.
pub record ListsRecords (P : List Record → Type 0) (replies old : List ℕ) (from : ℕ) (new : List ℕ) (n : ℕ) : Type 0 where
  pub records : List Record
  pub listed : P records
  pub place : n ≡ from + length (record_lines replies 0 records)
  pub content : new ≡ sets old from (record_lines replies 0 records)

-- The heading and the records' lines are written from the front on, and n is the place after them.
pub record ListsPlayed (text replies old new : List ℕ) (n : ℕ) : Type 0 where
  pub records : List Record
  pub listed : Listed text replies records
  pub place : n ≡ length (heading ++ record_lines replies 0 records)
  pub content : new ≡ sets old 0 (heading ++ record_lines replies 0 records)

-- The lines w, so many at most, are written from a place on, and n is the place after them.
pub record ListsLines (w old : List ℕ) (from most : ℕ) (new : List ℕ) (n : ℕ) : Type 0 where
  pub place : n ≡ from + length w
  pub content : new ≡ sets old from w
  pub space : n ≤ from + room * most

-- the lines of a chip's pages that the table tells as written
abbrev pub chip_lines : Chip → List ℕ → List ℕ
chip_lines chip table = lines_below chip (λ n. time_at table (first_entry chip + n)) (pages_of chip)

-- the numbers of a result of its length; none of another
unfoldable pub told_of : List ℕ → Option Told
told_of result = pick (eqb (length result) result_length) (Some (record { answer = answer_in result; place = place_in result; count = count_in result; field = field_in result })) None

-- of a result of its length: the line of the refusal that it tells, and its count; of any other nothing
unfoldable pub refusal_of : List ℕ → List ℕ
refusal_of result = pick (eqb (length result) result_length) (refused_line (answer_in result) (place_in result) (field_in result)) []

unfoldable pub count_of : List ℕ → ℕ
count_of result = pick (eqb (length result) result_length) (count_in result) 0
