use Rattle.machine.proofs.Playing.{turned}
use Rattle.machine.proofs.play.Goals as goal

pub returns-clause-turns : goal.returns-clause-turns
returns-clause-turns c =
    turned _ _ _ _ _ c.play-moved.ensures _ _ _ _ _ _ c.deliver_for-reply.ensures c.stroke_for-on_flash.ensures c.flash_touched-flash_pages.ensures
    c.change_flash.ensures c.stroke_for-on_eeprom.ensures c.eeprom_touched-eeprom_pages.ensures c.change_eeprom.ensures
