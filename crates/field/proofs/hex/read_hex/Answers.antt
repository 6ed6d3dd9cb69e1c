use Rattle.std.proofs.Common.{sym, ◌∙◌}
use Rattle.field.proofs.HexLaws.{hex_past, hex_short, hex_high, hex_low, hex_both}
use Rattle.field.proofs.Reading.{none, got_is, rest_some, rest_none}
use Rattle.field.proofs.hex.read_hex.Goals as goal

pub returns-in_default : goal.returns-in_default
returns-in_default c = none (hex_past _ _ (rest_none _ _ c.get.ensures.lookup c.in_default.is))

pub returns-in_default-rest : goal.returns-in_default-rest
returns-in_default-rest c = none (hex_short _ _ (rest_some _ _ _ c.get.ensures.lookup c.in-Some.is) c.in_default-rest.len_below)

pub returns-in_default-nibble_of : goal.returns-in_default-nibble_of
returns-in_default-nibble_of c = none (hex_high _ _ (rest_some _ _ _ c.get.ensures.lookup c.in-Some.is) (sym c.nibble_of.ensures ∙ c.in_default-nibble_of.is))

pub returns-in_default-nibble_of-2 : goal.returns-in_default-nibble_of-2
returns-in_default-nibble_of-2 c = none (hex_low _ _ (rest_some _ _ _ c.get.ensures.lookup c.in-Some.is) (sym c.nibble_of-2.ensures ∙ c.in_default-nibble_of-2.is))

pub returns : goal.returns
returns c =
    got_is (hex_both _ _ (rest_some _ _ _ c.get.ensures.lookup c.in-Some.is) _ _ c.in-len2-up.len_at_least
    (sym c.nibble_of.ensures ∙ c.in-Some-nibble_of.is) (sym c.nibble_of-2.ensures ∙ c.in-Some-nibble_of-2.is))
