-- Believed: A record of each channel, by its stamp and its event.
use Rattle.std.specs.Prelude.{ℕ}
use Rattle.record.specs.declared.Record.{Record}
use Rattle.record.specs.declared.Event.TheVariants as event
use Rattle.record.specs.declared.FlashEvent.{FlashEvent}
use Rattle.record.specs.declared.EepromEvent.{EepromEvent}
use Rattle.record.specs.declared.LineEvent.{LineEvent}

abbrev pub on_f : ℕ → FlashEvent → Record
on_f stamp e = record { stamp = stamp; event = event.Flash e }

abbrev pub on_e : ℕ → EepromEvent → Record
on_e stamp e = record { stamp = stamp; event = event.Eeprom e }

abbrev pub on_l : ℕ → LineEvent → Record
on_l stamp e = record { stamp = stamp; event = event.Line e }
