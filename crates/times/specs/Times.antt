-- Believed: The last writing times (document 02, request 1/12): which pages a cycle touches, the time of each page, and the table that tells them.
use Rattle.std.specs.Prelude.{ℕ, ◌+◌, ◌-◌, ◌*◌, ◌/◌, ◌%◌, Bool, true, false, List, ◌∷◌, eqb, ltb, get_or, replicate}
use Rattle.law.specs.Words.{pick, by_place}
use Rattle.record.specs.declared.Chip.{Chip}
use Rattle.record.specs.declared.Chip.TheVariants.{Flash, Eeprom}
use Rattle.record.specs.Word.{word}
use Rattle.image.specs.Images.{kept_bytes, page_size}
use Rattle.times.specs.declared.Pages.{Pages}
use Rattle.times.specs.declared.Pages.TheVariants.{None, One, All}
use Rattle.times.specs.declared.Touched.{Touched}

-- ---- which pages are touched: none, one, or all that are kept of the chip
-- is page n among them?
abbrev pub reaches : Pages → ℕ → Bool
reaches None n = false
reaches (One k) n = eqb n k
reaches All n = true

-- what becomes of what is kept, with a rule for one page and one for all; where none is touched it stays
abbrev pub on_pages : {A : Type 0} → (ℕ → A → A) → (A → A) → Pages → A → A
on_pages one all None a = a
on_pages one all (One n) a = one n a
on_pages one all All a = all a

-- ---- the time of a page: 'the stamp of the last cycle that ended or was cut on it'
pub data Time : Type 0 where
  never : Time
  written : ℕ → Time

-- of each page by its number: of the watched sector's, and of the EEPROM's
pub record Times : Type 0 where
  pub flash : ℕ → Time
  pub eeprom : ℕ → Time

abbrev pub never_written : Times
never_written = record { flash = λ n. never; eeprom = λ n. never }

-- after a cycle on these pages that ended or was cut at the stamp t
abbrev pub timed_at : ℕ → Pages → (ℕ → Time) → ℕ → Time
timed_at t p y n = pick (reaches p n) (written t) (y n)

abbrev pub times_after : ℕ → Touched → Times → Times
times_after t x y = record { flash = timed_at t x.flash y.flash; eeprom = timed_at t x.eeprom y.eeprom }

-- ---- the table: '640 entries, flash first'
-- 'the flash window's 128 pages and the EEPROM's 512'
abbrev pub pages_of : Chip → ℕ
pages_of chip = kept_bytes chip / page_size chip

abbrev pub first_entry : Chip → ℕ
first_entry Flash = 0
first_entry Eeprom = pages_of Flash

abbrev pub entries : ℕ
entries = pages_of Flash + pages_of Eeprom

-- the page that entry e tells of; there is none behind the last
abbrev pub entry_of : Times → ℕ → Time
entry_of y e = pick (ltb e (first_entry Eeprom)) (y.flash e) (pick (ltb e entries) (y.eeprom (e - first_entry Eeprom)) never)

-- 'each a mark (0 never, 1 written) and four stamp bytes, low first, 0 for never'
abbrev pub entry_bytes : Time → List ℕ
entry_bytes never = 0 ∷ word 0
entry_bytes (written t) = 1 ∷ word t

abbrev pub entry_length : ℕ
entry_length = 5

abbrev pub entry_byte : Time → ℕ → ℕ
entry_byte time q = get_or (entry_bytes time) q 0

abbrev pub times_length : ℕ
times_length = entry_length * entries

-- byte k is byte k % 5 of entry k / 5
unfoldable pub time_bytes : Times → List ℕ
time_bytes y = by_place (λ k x. entry_byte (entry_of y (k / entry_length)) (k % entry_length)) 0 (replicate times_length 0)
