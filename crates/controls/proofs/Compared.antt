-- What `==` says of the controls: whether they are in one state.
use mathlib.Core.Path.{◌≡◌, ap}
use Rattle.std.proofs.Common.{rules}
use Rattle.law.specs.Deciding.{Decides, decides_as, decides_both}
use Rattle.record.specs.declared.Lines.{Lines}
use Rattle.record.specs.contracts.LinesPartialEq.TheImpl as lines-eq
use Rattle.flash.proofs.Compared.{flash_decides}
use Rattle.eeprom.proofs.Compared.{eeprom_decides}
use Rattle.controls.specs.declared.Controls.{Controls}
use Rattle.controls.specs.contracts.ControlsPartialEq.TheImpl as controls-eq

pub lines_decides : (a b : Lines) → Decides (lines-eq.ghosts.eq a b) (a ≡ b)
lines_decides a b = search rules

pub all_same : (a b : Controls) → a.flash ≡ b.flash → a.eeprom ≡ b.eeprom → a.lines ≡ b.lines → a ≡ b
all_same a b f e l i = record { flash = f i; eeprom = e i; lines = l i }

pub controls_decides : (a b : Controls) → Decides (controls-eq.ghosts.eq a b) (a ≡ b)
controls_decides a b =
    decides_as (decides_both (flash_decides a.flash b.flash) (decides_both (eeprom_decides a.eeprom b.eeprom) (lines_decides a.lines b.lines)))
    (λ p. all_same a b p.0 p.1.0 p.1.1)
    (λ e. (ap (λ (c : Controls). c.flash) e, (ap (λ (c : Controls). c.eeprom) e, ap (λ (c : Controls). c.lines) e)))
