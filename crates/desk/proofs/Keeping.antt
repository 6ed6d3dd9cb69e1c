-- What is kept over two steps.
use mathlib.Core.Path.{◌≡◌, ◌∙◌}
use lib.ListN.{length}
use Rattle.machine.specs.Lent as lent
use Rattle.desk.specs.declared.Desk.{Desk}
use Rattle.desk.specs.Desk.{Keeps}

pub kept_on : {a b c : Desk} → Keeps a b → Keeps b c → Keeps a c
kept_on p q = record {
  same_board = q.same_board ∙ p.same_board;
  same_images = q.same_images ∙ p.same_images;
  images = record {
    same_flash = q.images.same_flash ∙ p.images.same_flash;
    same_flash_mask = q.images.same_flash_mask ∙ p.images.same_flash_mask;
    same_eeprom = q.images.same_eeprom ∙ p.images.same_eeprom;
    same_eeprom_mask = q.images.same_eeprom_mask ∙ p.images.same_eeprom_mask;
    flash_long = q.images.flash_long ∙ p.images.flash_long;
    flash_mask_long = q.images.flash_mask_long ∙ p.images.flash_mask_long;
    eeprom_long = q.images.eeprom_long ∙ p.images.eeprom_long;
    eeprom_mask_long = q.images.eeprom_mask_long ∙ p.images.eeprom_mask_long;
  };
  same_times = q.same_times ∙ p.same_times;
  same_replies = q.same_replies ∙ p.same_replies;
  times_long = q.times_long ∙ p.times_long;
  replies_long = q.replies_long ∙ p.replies_long;
}

-- and over a step between that changes the images alone
pub kept_past : {a b b' c : Desk} → Keeps b' c → Keeps a b → b'.board ≡ b.board → b'.images.ghost_name ≡ b.images.ghost_name → lent.Keeps b.images.now b'.images.now →
    b'.times.ghost_name ≡ b.times.ghost_name → b'.replies.ghost_name ≡ b.replies.ghost_name → length b'.times.now ≡ length b.times.now → length b'.replies.now ≡ length b.replies.now → Keeps a c
kept_past q p board images played times replies times_long replies_long =
    kept_on (kept_on p (record {
      same_board = board;
      same_images = images;
      images = played;
      same_times = times;
      same_replies = replies;
      times_long = times_long;
      replies_long = replies_long;
    })) q
