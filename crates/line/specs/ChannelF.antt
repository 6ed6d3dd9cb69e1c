-- Believed: The events of channel F (document 01, 'The trace').
use Rattle.std.specs.Prelude.{ℕ, ◌<◌, List, ◌++◌}
use Rattle.record.specs.declared.FlashEvent.{FlashEvent}
use Rattle.record.specs.declared.FlashEvent.TheVariants.{Select, Byte, Cut, Deselect, End}
use Rattle.field.specs.Ends.{tab, lf}
use Rattle.field.specs.Hex.{hex_field}
use Rattle.line.specs.Words.{word_sel, word_x, word_cut, word_des, word_end}

-- from the event's word to the line's end
unfoldable pub spelled_flash : FlashEvent → List ℕ
spelled_flash Select = word_sel ++ lf
spelled_flash (Byte si so) = word_x ++ (tab ++ (hex_field si ++ (tab ++ (hex_field so ++ lf))))
spelled_flash Cut = word_cut ++ lf
spelled_flash Deselect = word_des ++ lf
spelled_flash End = word_end ++ lf

-- bytes are bytes: the types give it
abbrev pub FlashOk : FlashEvent → Type 0
FlashOk Select = Unit {0}
FlashOk (Byte si so) = (si < 256) × (so < 256)
FlashOk Cut = Unit {0}
FlashOk Deselect = Unit {0}
FlashOk End = Unit {0}
