-- Believed: The words of a trace as bytes (document 01, 'The trace').
use Rattle.std.specs.Prelude.{ℕ, List, [], ◌∷◌}

abbrev pub word_board : List ℕ
word_board = 98 ∷ 111 ∷ 97 ∷ 114 ∷ 100 ∷ []

abbrev pub channel_f : List ℕ
channel_f = 70 ∷ []

abbrev pub channel_e : List ℕ
channel_e = 69 ∷ []

abbrev pub channel_l : List ℕ
channel_l = 76 ∷ []

abbrev pub word_sel : List ℕ
word_sel = 115 ∷ 101 ∷ 108 ∷ []

abbrev pub word_x : List ℕ
word_x = 120 ∷ []

abbrev pub word_cut : List ℕ
word_cut = 99 ∷ 117 ∷ 116 ∷ []

abbrev pub word_des : List ℕ
word_des = 100 ∷ 101 ∷ 115 ∷ []

abbrev pub word_end : List ℕ
word_end = 101 ∷ 110 ∷ 100 ∷ []

abbrev pub word_sta : List ℕ
word_sta = 115 ∷ 116 ∷ 97 ∷ []

abbrev pub word_b : List ℕ
word_b = 98 ∷ []

abbrev pub word_sto : List ℕ
word_sto = 115 ∷ 116 ∷ 111 ∷ []

abbrev pub word_on : List ℕ
word_on = 111 ∷ 110 ∷ []

abbrev pub word_off : List ℕ
word_off = 111 ∷ 102 ∷ 102 ∷ []

abbrev pub word_lock : List ℕ
word_lock = 108 ∷ 111 ∷ 99 ∷ 107 ∷ []

abbrev pub word_free : List ℕ
word_free = 102 ∷ 114 ∷ 101 ∷ 101 ∷ []
