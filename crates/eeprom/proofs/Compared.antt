-- What `==` says of two chips: whether they are in one state.
use mathlib.Core.Path.{◌≡◌, ap}
use Rattle.std.specs.Prelude.{ℕ, List, nat_eq, Option}
use Rattle.std.proofs.Common.{rules}
use Rattle.std.specs.Cmp.Lexicographic.{pointwise}
use Rattle.std.specs.Option.{option_eq}
use Rattle.law.specs.Deciding.{Decides, decides_as, decides_both}
use Rattle.eeprom.specs.declared.Sent.{Sent}
use Rattle.eeprom.specs.declared.EepromFrame.{EepromFrame}
use Rattle.eeprom.specs.declared.Eeprom.{Eeprom}
use Rattle.eeprom.specs.contracts.SentPartialEq.TheImpl as sent-eq
use Rattle.eeprom.specs.contracts.EepromFramePartialEq.TheImpl as frame-eq
use Rattle.eeprom.specs.contracts.EepromPartialEq.TheImpl as eeprom-eq

pub frame_decides : (a b : EepromFrame) → Decides (frame-eq.ghosts.eq a b) (a ≡ b)
frame_decides a b = search rules

pub cycle_decides : (a b : Option Sent) → Decides (option_eq sent-eq.ghosts.eq a b) (a ≡ b)
cycle_decides a b = search rules

pub counter_decides : (a b : Option ℕ) → Decides (option_eq nat_eq a b) (a ≡ b)
counter_decides a b = search rules

pub pages_decide : (a b : List ℕ) → Decides (pointwise nat_eq a b) (a ≡ b)
pages_decide a b = search rules

pub eeprom_decides : (a b : Eeprom) → Decides (eeprom-eq.ghosts.eq a b) (a ≡ b)
eeprom_decides a b =
    decides_as (decides_both (frame_decides a.frame b.frame) (decides_both (cycle_decides a.cycle b.cycle) (decides_both (counter_decides a.counter b.counter) (pages_decide a.page b.page))))
    (λ p i. record { frame = p.0 i; cycle = p.1.0 i; counter = p.1.1.0 i; page = p.1.1.1 i })
    (λ e. (ap (λ (x : Eeprom). x.frame) e, (ap (λ (x : Eeprom). x.cycle) e, (ap (λ (x : Eeprom). x.counter) e, ap (λ (x : Eeprom). x.page) e))))
