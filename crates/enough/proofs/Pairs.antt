-- Two allowed orders of one stamp's records end alike on the machine exactly when they end alike on the controls: so, of records that never go back, the demand stops both at the same stamp, for the same reason.
use mathlib.Core.Path.{◌≡◌, refl, sym, ap, ◌∙◌}
use mathlib.Core.Bool.{true}
use mathlib.Core.Logic.Iff
use mathlib.Core.Logic.{◌↔◌}
use mathlib.Core.List.{List}
use Prim.Native.Nat.{ℕ}
use Rattle.law.specs.Words.{All}
use Rattle.meaning.specs.Meaning.{Channel, F, E, L, same, Outcome, Reason, of, NeverBack, Allowed, after, replies, outcome, Passes, Earliest}
use Rattle.meaning.proofs.Channels.{same_outcome}
use Rattle.meaning.proofs.Chips.{lines_agree}
use Rattle.meaning.proofs.TwoMachines as two
use Rattle.record.specs.declared.Board.{Board}
use Rattle.record.specs.declared.Record.{Record}
use Rattle.record.specs.declared.Reply.{Reply}
use Rattle.record.specs.declared.Skeleton.{Skeleton}
use Rattle.controls.specs.declared.Controls.{Controls}
use Rattle.controls.specs.Sides.{flash_side, eeprom_side}
use Rattle.controls.specs.Play.{moved_of}
use Rattle.machine.specs.Machine.{Machine, play_on, channel_of, on_machine, on_controls}
use Rattle.enough.specs.Enough.{Good}
use Rattle.enough.proofs.AtStamp.{play_at, at_stamp, allowed_at, pair_at}
use Rattle.enough.proofs.Enough.{good_play}
use Rattle.enough.proofs.OneChip.{told_alike, said_alike, seen_alike}
use Rattle.enough.proofs.Whole.{seen_all, flash_chip, eeprom_chip, line_silent, quiet}

module _ (b : Board) where
  -- the lines say nothing
  quiet_skeletons : (c d : Controls) (r : Record) → same L (channel_of r.event) ≡ true → (moved_of b c r).reply ≡ (moved_of b d r).reply
  unfolding moved_of
  quiet_skeletons c d r i = line_silent b r.event c i ∙ sym (line_silent b r.event d i)

  -- the controls go their way whatever the images and the times hold
  plays_controls : (t : ℕ) (m : Machine) (r : Record) → (play_at b t m r).controls ≡ (moved_of b m.controls r).controls
  unfolding play_on moved_of
  plays_controls t m r = refl

  -- two allowed orders of the records of one stamp
  module _ (m : Machine) (good : Good m.controls) (t : ℕ) (p : List Record) (hp : All (λ (r : Record). r.stamp ≡ t) p)
      (o q : List Record) (x : Allowed (on_machine b) p o) (y : Allowed (on_machine b) p q) where
    records : (c : Channel) → of (on_machine b) c o ≡ of (on_machine b) c q
    records c = x.keeps c ∙ sym (y.keeps c)

    controls_only : (l : List Record) → (after (at_stamp b t) l m).controls ≡ after (on_controls b) l m.controls
    controls_only l = two.see_after (at_stamp b t) _ _ _ (λ m. m.controls) (plays_controls t) l m

    -- where they agree in the last controls and in the replies, they end alike on the controls
    pub by_replies : (after (at_stamp b t) o m).controls ≡ (after (at_stamp b t) q m).controls → ((c : Channel) → replies (at_stamp b t) c o m ≡ replies (at_stamp b t) c q m) →
        outcome (on_controls b) o m.controls ≡ outcome (on_controls b) q m.controls
    unfolding All
    by_replies h k =
        same_outcome _ _ (sym (controls_only o) ∙ h ∙ controls_only q) (
          told_alike (flash_chip b t) o q (records F) m good.flash (k F),
          (
            told_alike (eeprom_chip b t) o q (records E) m good.eeprom (k E),
            (lines_agree (on_controls b) quiet_skeletons p m.controls o q ((two.allowed (on_machine b) _ _ _).0 x) ((two.allowed (on_machine b) _ _ _).0 y), tt),
          ),
        )

    -- and where they do, on the machine
    by_controls : outcome (on_controls b) o m.controls ≡ outcome (on_controls b) q m.controls → outcome (at_stamp b t) o m ≡ outcome (at_stamp b t) q m
    unfolding All
    by_controls h =
        let state = controls_only o ∙ ap (λ (v : Outcome Controls Skeleton). v.state) h ∙ sym (controls_only q) in
        let flash = ap (λ (v : Outcome Controls Skeleton). v.replies F) h in
        let eeprom = ap (λ (v : Outcome Controls Skeleton). v.replies E) h in
        same_outcome _ _
        (seen_all _ _ (seen_alike (flash_chip b t) o q (records F) m good.flash flash (ap flash_side state))
        (seen_alike (eeprom_chip b t) o q (records E) m good.eeprom eeprom (ap eeprom_side state))) (
          said_alike (flash_chip b t) o q (records F) m good.flash flash,
          (
            said_alike (eeprom_chip b t) o q (records E) m good.eeprom eeprom,
            (lines_agree (at_stamp b t) (quiet b) p m o q ((allowed_at b t).0 x) ((allowed_at b t).0 y), tt),
          ),
        )

    pub two_orders : (outcome (on_machine b) o m ≡ outcome (on_machine b) q m) ↔ (outcome (on_controls b) o m.controls ≡ outcome (on_controls b) q m.controls)
    two_orders =
        Iff.trans (pair_at b t p hp m o q x y)
        ((λ h. by_replies (ap (λ (v : Outcome Machine Reply). v.state.controls) h) (λ c. ap (λ (v : Outcome Machine Reply). v.replies c) h)), by_controls)

  -- so the demand stops both at the same stamp, for the same reason
  module _ (m : Machine) (good : Good m.controls) (rs : List Record) (back : NeverBack (on_machine b) rs) where
    pub earliest_by_controls : (n : Reason) (t : ℕ) → Earliest (on_machine b) rs m n t ↔ Earliest (on_controls b) rs m.controls n t
    earliest_by_controls =
        two.same_earliest (on_machine b) _ _ _ (λ m. m.controls) (λ m r. plays_controls r.stamp m r) (λ m. refl) (λ m. Good m.controls) (good_play b) (λ t p hp m g. two_orders m g t p hp) rs back m good

    pub settled_by_controls : ((t : ℕ) → Passes (on_machine b) rs m t) ↔ ((t : ℕ) → Passes (on_controls b) rs m.controls t)
    settled_by_controls =
        two.same_settled (on_machine b) _ _ _ (λ m. m.controls) (λ m r. plays_controls r.stamp m r) (λ m. refl) (λ m. Good m.controls) (good_play b) (λ t p hp m g. two_orders m g t p hp) rs back m good
