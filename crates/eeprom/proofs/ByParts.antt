-- A chip, and what was sent, are the same where their parts are.
-- Assumes nothing.
use mathlib.Core.Path.{◌≡◌}
use Rattle.eeprom.specs.declared.Sent.{Sent}
use Rattle.eeprom.specs.declared.Eeprom.{Eeprom}

pub chip_cong : (a b : Eeprom) → a.frame ≡ b.frame → a.cycle ≡ b.cycle → a.counter ≡ b.counter → a.page ≡ b.page → a ≡ b
chip_cong a b f c n p i = record { frame = f i; cycle = c i; counter = n i; page = p i }

pub sent_cong : (s t : Sent) → s.page ≡ t.page → s.first ≡ t.first → s.count ≡ t.count → s ≡ t
sent_cong s t p f c i = record { page = p i; first = f i; count = c i }
