-- Believed: The words of the listings as bytes (document 01, 'One listing in full'; document 02, request 1/12).
use Rattle.std.specs.Prelude.{ℕ, List, [], ◌∷◌}

abbrev pub word_line : List ℕ
word_line = 108 ∷ 105 ∷ 110 ∷ 101 ∷ []

abbrev pub word_stamp : List ℕ
word_stamp = 115 ∷ 116 ∷ 97 ∷ 109 ∷ 112 ∷ []

abbrev pub word_reply : List ℕ
word_reply = 114 ∷ 101 ∷ 112 ∷ 108 ∷ 121 ∷ []

abbrev pub word_match : List ℕ
word_match = 109 ∷ 97 ∷ 116 ∷ 99 ∷ 104 ∷ []

abbrev pub dash : List ℕ
dash = 45 ∷ []

abbrev pub slash : List ℕ
slash = 47 ∷ []

abbrev pub word_ack : List ℕ
word_ack = 97 ∷ 99 ∷ 107 ∷ []

abbrev pub word_no : List ℕ
word_no = 110 ∷ 111 ∷ []

abbrev pub word_starts : List ℕ
word_starts = 115 ∷ 116 ∷ 97 ∷ 114 ∷ 116 ∷ 115 ∷ []

abbrev pub word_ends : List ℕ
word_ends = 101 ∷ 110 ∷ 100 ∷ 115 ∷ []

abbrev pub word_idle : List ℕ
word_idle = 105 ∷ 100 ∷ 108 ∷ 101 ∷ []

abbrev pub point : List ℕ
point = 46 ∷ []

abbrev pub equals : List ℕ
equals = 61 ∷ []

abbrev pub bang : List ℕ
bang = 33 ∷ []

abbrev pub word_settled : List ℕ
word_settled = 115 ∷ 101 ∷ 116 ∷ 116 ∷ 108 ∷ 101 ∷ 100 ∷ []

abbrev pub word_stop : List ℕ
word_stop = 115 ∷ 116 ∷ 111 ∷ 112 ∷ []

abbrev pub word_refused : List ℕ
word_refused = 114 ∷ 101 ∷ 102 ∷ 117 ∷ 115 ∷ 101 ∷ 100 ∷ []

-- of the pages' listing
abbrev pub word_chip : List ℕ
word_chip = 99 ∷ 104 ∷ 105 ∷ 112 ∷ []

abbrev pub word_page : List ℕ
word_page = 112 ∷ 97 ∷ 103 ∷ 101 ∷ []

abbrev pub word_flash : List ℕ
word_flash = 102 ∷ 108 ∷ 97 ∷ 115 ∷ 104 ∷ []

abbrev pub word_eeprom : List ℕ
word_eeprom = 101 ∷ 101 ∷ 112 ∷ 114 ∷ 111 ∷ 109 ∷ []
