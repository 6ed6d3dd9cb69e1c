-- Believed: The places that a write is for (document 01, 'EEPROM rules', Write).
use Rattle.std.specs.Prelude.{ℕ, ◌+◌, ◌-◌, ◌/◌, ◌%◌, List, ltb, set}
use Rattle.law.specs.Words.{pick}
use Rattle.page.specs.Geometry.{eeprom_page}
use Rattle.page.specs.Rolling.{next_in}
use Rattle.eeprom.specs.declared.Sent.{Sent}

-- the low six bits roll over in a 64-byte page
abbrev pub next_in_page : ℕ → ℕ
next_in_page p = next_in eeprom_page p

-- a later byte for a place replaces the earlier
abbrev pub put_byte : ℕ → ℕ → List ℕ → List ℕ
put_byte p b page = set page (p % eeprom_page) b

-- how many places were sent: 64 are all
abbrev pub counted : ℕ → ℕ
counted n = pick (ltb n eeprom_page) (n + 1) eeprom_page

-- the first of n places before the next one, in the page's rolling; of all 64 every place is the first, and 0 stands for it
abbrev pub first_sent : ℕ → ℕ → ℕ
first_sent next n = pick (ltb n eeprom_page) ((next % eeprom_page + (eeprom_page - n)) % eeprom_page) 0

-- the places of n data bytes, where the next one's place is known
abbrev pub sent_by : ℕ → ℕ → Sent
sent_by next n = record { page = next / eeprom_page; first = first_sent next n; count = n }
