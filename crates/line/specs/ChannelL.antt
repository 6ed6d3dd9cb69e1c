-- Believed: The events of channel L (document 01, 'The trace').
use Rattle.std.specs.Prelude.{ℕ, List, ◌++◌}
use Rattle.record.specs.declared.LineEvent.{LineEvent}
use Rattle.record.specs.declared.LineEvent.TheVariants.{SupplyOn, SupplyOff, LockOn, LockOff}
use Rattle.field.specs.Ends.{lf}
use Rattle.line.specs.Words.{word_on, word_off, word_lock, word_free}

unfoldable pub spelled_line : LineEvent → List ℕ
spelled_line SupplyOn = word_on ++ lf
spelled_line SupplyOff = word_off ++ lf
spelled_line LockOn = word_lock ++ lf
spelled_line LockOff = word_free ++ lf
