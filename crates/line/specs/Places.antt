-- Believed: What each place of a line allows, and the number of a line's first bad field (document 01, 'The trace'; document 02, request 2/12).
use Rattle.std.specs.Prelude.{ℕ, ◌/◌, ◌%◌, Bool, true, false, List, [], ◌∷◌, eqb, drop}
use Rattle.law.specs.Words.{pick}
use Rattle.field.specs.Fields.{fields_of, first_of, Places, first_bad, same, one_of}
use Rattle.field.specs.Decimal.{is_decimal}
use Rattle.field.specs.Hex.{is_byte_in}
use Rattle.field.specs.Digit.{is_digit}
use Rattle.line.specs.Words.{word_board, channel_f, channel_e, channel_l, word_sel, word_x, word_cut, word_des, word_end, word_sta, word_b, word_sto, word_on, word_off, word_lock, word_free}

-- ---- the events' own fields
abbrev pub is_byte : List ℕ → Bool
is_byte = is_byte_in (λ n. true)

-- the acknowledge bit
abbrev pub is_bit : List ℕ → Bool
is_bit = is_digit 0 1

-- SI and SO; a byte and its acknowledge bit
abbrev pub pair_places : Places
pair_places = is_byte ∷ is_byte ∷ []

abbrev pub data_places : Places
data_places = is_byte ∷ is_bit ∷ []

-- ---- the channels' events
unfoldable pub is_flash_event : List ℕ → Bool
is_flash_event = one_of (word_sel ∷ word_x ∷ word_cut ∷ word_des ∷ word_end ∷ [])

unfoldable pub is_eeprom_event : List ℕ → Bool
is_eeprom_event = one_of (word_sta ∷ word_b ∷ word_cut ∷ word_sto ∷ word_end ∷ [])

unfoldable pub is_line_event : List ℕ → Bool
is_line_event = one_of (word_on ∷ word_off ∷ word_lock ∷ word_free ∷ [])

-- the places after the event, of which the content is given: only `x` and `b` have fields of their own
abbrev pub after_flash : List ℕ → Places
after_flash event = pick (same event word_x) pair_places []

abbrev pub after_eeprom : List ℕ → Places
after_eeprom event = pick (same event word_b) data_places []

-- from the event on, of which fs are the fields
abbrev pub flash_places : List (List ℕ) → Places
flash_places fs = is_flash_event ∷ after_flash (first_of fs)

abbrev pub eeprom_places : List (List ℕ) → Places
eeprom_places fs = is_eeprom_event ∷ after_eeprom (first_of fs)

abbrev pub line_places : Places
line_places = is_line_event ∷ []

-- ---- a record's line: stamp, channel, the channel's event
unfoldable pub is_channel : List ℕ → Bool
is_channel = one_of (channel_f ∷ channel_e ∷ channel_l ∷ [])

abbrev pub after_channel : List ℕ → List (List ℕ) → Places
after_channel channel fs =
    pick (same channel channel_f) (flash_places fs) (pick (same channel channel_e) (eeprom_places fs) (pick (same channel channel_l) line_places []))

abbrev pub event_places : List (List ℕ) → Places
event_places fs = is_channel ∷ after_channel (first_of fs) (drop 1 fs)

abbrev pub record_places : List (List ℕ) → Places
record_places fs = is_decimal ∷ event_places (drop 1 fs)

-- ---- the board's line: only bits 7, 3, 2 of the status may be set, sector 1 to 4, address 0 to 7
unfoldable pub is_board : List ℕ → Bool
is_board = one_of (word_board ∷ [])

unfoldable pub is_status : List ℕ → Bool
is_status = is_byte_in (λ n. pick (eqb (n % 4) 0) (eqb (n / 16 % 8) 0) false)

abbrev pub after_status : Places
after_status = is_digit 1 4 ∷ is_digit 0 7 ∷ []

abbrev pub board_places : Places
board_places = is_board ∷ is_status ∷ after_status

-- ---- the number of the first bad field, counted from 1, of a record's line and of the board's: the bytes from the line's start on are given
-- the fields of l and their places, of which the first has the number n
abbrev pub bad_from : (List (List ℕ) → Places) → ℕ → List ℕ → ℕ
bad_from places n l = first_bad (places (fields_of l)) n (fields_of l)

unfoldable pub first_bad_field : List ℕ → ℕ
first_bad_field l = bad_from record_places 1 l

unfoldable pub first_bad_of_board : List ℕ → ℕ
first_bad_of_board l = bad_from (λ _. board_places) 1 l
