-- What `judge` finds of a stamp's records on the controls is the reason that demand 3 has at that stamp.
use mathlib.Core.Path.{◌≡◌, refl, sym, ap, subst, ◌∙◌}
use mathlib.Core.List.{List, [], ◌∷◌, ◌++◌, append-nil}
use Prim.Native.Nat.{ℕ, ◌≤◌, ◌<◌}
use native.Mathlib.Omega.{arith}
use lib.ListN.{length, take}
use lib.Seq.{take_all}
use Rattle.law.specs.Choice.{true_not_false}
use Rattle.tied.specs.Orders.{after_buses, after_lines}
use Rattle.law.specs.Lists.{gather}
use Rattle.law.specs.Words.{All}
use Rattle.meaning.specs.Meaning.{Channel, F, E, L, most, Outcome, of, Allowed, after, Alike, Crowded}
use Rattle.meaning.proofs.Channels.{same_outcome}
use Rattle.meaning.proofs.Allowing.{itself, level}
use Rattle.meaning.proofs.InTurn.{in_turn, turns_allowed}
use Rattle.meaning.proofs.Chips.{lines_agree}
use Rattle.meaning.proofs.Steps.{at_here}
use Rattle.record.specs.declared.Board.{Board}
use Rattle.record.specs.declared.Record.{Record}
use Rattle.record.specs.declared.Reply.{Reply}
use Rattle.controls.specs.declared.Controls.{Controls}
use Rattle.controls.specs.Play.{start_of, lost_of}
use Rattle.flash.proofs.Bounds as flash-bounds
use Rattle.eeprom.proofs.Bounds as eeprom-bounds
use Rattle.orders.specs.declared.Held.{Held}
use Rattle.orders.specs.Stamp.{played}
use Rattle.orders.specs.Verdicts.{held_of, TooMany, Few, BusesAgree, last_of}
use Rattle.machine.specs.Machine.{Machine, play_on, on_machine}
use Rattle.enough.specs.Enough.{Good, HoldsMost, Holds, ControlsDecide, Decided}
use Rattle.enough.proofs.AtStamp.{at_stamp, alike_at}
use Rattle.enough.proofs.OneChip.{chip_good, chip_alike, alike_chip}
use Rattle.enough.proofs.Whole.{seen_all, flash_chip, eeprom_chip, quiet}

-- ---- controls that are reached
pub good_start : (b : Board) → b.status < 256 → Good (start_of b)
good_start b h = record { flash = flash-bounds.good_start b.status h; eeprom = eeprom-bounds.good_start }

module _ (b : Board) where
  pub good_play : (m : Machine) (r : Record) → Good m.controls → Good (play_on b m r).controls
  unfolding play_on
  good_play m r g = record {
    flash = chip_good (flash_chip b r.stamp) m.controls r g.flash;
    eeprom = chip_good (eeprom_chip b r.stamp) m.controls r g.eeprom;
  }

  pub good_after : (o : List Record) (m : Machine) → Good m.controls → Good (after (on_machine b) o m).controls
  unfolding after
  good_after [] m g = g
  good_after (r ∷ o) m g = good_after o (play_on b m r) (good_play m r g)

  -- ---- the controls decide: all allowed orders of a stamp's records end alike on the machine exactly when each bus's orders with the lines agree on the controls
  module _ (p : List Record) (m : Machine) (good : Good m.controls) where
    pub controls_decide : ControlsDecide b p m
    unfolding Alike All
    controls_decide t hp a =
        (alike_at b t p hp m).1
        (λ o q x y.
        let flash = chip_alike (flash_chip b t) p m good.flash (a F refl) o q x y in
        let eeprom = chip_alike (eeprom_chip b t) p m good.eeprom (a E refl) o q x y in
        same_outcome _ _ (seen_all _ _ flash.0 eeprom.0) (flash.1, (eeprom.1, (lines_agree (at_stamp b t) (quiet b) p m o q x y, tt))))

    pub decided : Decided b p m
    decided t hp h F n = alike_chip (flash_chip b t) p m good.flash hp ((alike_at b t p hp m).0 h)
    decided t hp h E n = alike_chip (eeprom_chip b t) p m good.eeprom hp ((alike_at b t p hp m).0 h)
    decided t hp h L n = absurd (true_not_false n)

  -- ---- the controls after a list of records
  pub controls_after : (o : List Record) (m : Machine) → (after (on_machine b) o m).controls ≡ after_buses (played b) o m.controls
  unfolding after after_buses play_on
  controls_after [] m = refl
  controls_after (r ∷ o) m = controls_after o (play_on b m r)

  buses_append : (o p : List Record) (c : Controls) → after_buses (played b) (o ++ p) c ≡ after_buses (played b) p (after_buses (played b) o c)
  unfolding after_buses
  buses_append [] p c = refl
  buses_append (r ∷ o) p c = buses_append o p (played b c r)

  lines_buses : (o : List Record) (c : Controls) → after_lines (played b) o c ≡ after_buses (played b) o c
  unfolding after_buses after_lines
  lines_buses [] c = refl
  lines_buses (r ∷ o) c = lines_buses o (played b c r)

  in_turn_lem : (fs es ls : List Record) (c : Controls) → after_lines (played b) ls (after_buses (played b) es (after_buses (played b) fs c)) ≡ after_buses (played b) (fs ++ (es ++ (ls ++ []))) c
  in_turn_lem fs es ls c =
      lines_buses ls _ ∙ sym (buses_append es ls (after_buses (played b) fs c)) ∙ sym (buses_append fs (es ++ ls) c)
      ∙ ap (λ (l : List Record). after_buses (played b) (fs ++ (es ++ l)) c) (sym (append-nil ls))

-- ---- what is held of a channel
module _ (most count : ℕ) (array xs : List Record) (h : HoldsMost most count array xs) where
  pub holds_all : count ≤ most → take count array ≡ xs
  holds_all l =
      let c = h.counts in
      let k : length xs ≤ most = omega arith in
      h.holds ∙ take_all most xs k

  pub holds_few : count ≤ most → length xs ≤ most
  holds_few l = let c = h.counts in omega arith

  pub holds_many : most < count → most < length xs
  holds_many l = let c = h.counts in omega arith

-- ---- the verdict on the stamp t: p its records, rest those above, held as h, from the machine m
module _ (b : Board) (h : Held) (p rest : List Record) (t : ℕ) (held : Holds b h p) (hp : All (λ (r : Record). r.stamp ≡ t) p) (hr : All (λ (r : Record). t < r.stamp) rest) where
  pub too_many : TooMany h → Crowded (on_machine b) (p ++ rest) t
  unfolding Crowded
  too_many k = rw (at_here (on_machine b) p rest t hp hr) (k.0, holds_many _ _ _ _ (held k.0) k.1)

  pub few_each : Few h → (c : Channel) → length (of (on_machine b) c p) ≤ most c
  few_each f c = holds_few _ _ _ _ (held c) (f c)

  pub not_crowded : Few h → Crowded (on_machine b) (p ++ rest) t → ⊥
  unfolding Crowded
  not_crowded f x =
      let k : most x.0 < length (of (on_machine b) x.0 p) = subst (λ (l : List Record). most x.0 < length (of (on_machine b) x.0 l)) (at_here (on_machine b) p rest t hp hr) x.1 in
      let l = few_each f x.0 in
      omega arith

  module _ (m : Machine) (good : Good m.controls) (f : Few h) where
    held_is : (c : Channel) → held_of h c ≡ of (on_machine b) c p
    held_is c = holds_all _ _ _ _ (held c) (f c)

    pub agree_alike : BusesAgree b (held_of h) m.controls → Alike (on_machine b) p m
    agree_alike a = controls_decide b p m good t hp (subst (λ (rs : Channel → List Record). BusesAgree b rs m.controls) (λ i c. held_is c i) a)

    pub alike_agree : Alike (on_machine b) p m → BusesAgree b (held_of h) m.controls
    alike_agree a = subst (λ (rs : Channel → List Record). BusesAgree b rs m.controls) (λ i c. sym (held_is c) i) (decided b p m good t hp a)

    -- the order of the file is one of them
    pub as_written : Allowed (on_machine b) p p
    as_written = itself (on_machine b) p (level (on_machine b) t p hp)

    -- so the status after the records as written is that after all of F, of E and of L
    pub lost_as : Alike (on_machine b) p m → lost_of (last_of b h m.controls) ≡ lost_of (after (on_machine b) p m).controls
    unfolding Alike gather
    lost_as a =
        ap lost_of
        ((λ i. after_lines (played b) (held_is L i) (after_buses (played b) (held_is E i) (after_buses (played b) (held_is F i) m.controls)))
        ∙ in_turn_lem b _ _ _ m.controls ∙ sym (controls_after b (in_turn (on_machine b) p) m) ∙ ap (λ (v : Outcome Machine Reply). v.state.controls) (a _ p (turns_allowed (on_machine b) p t hp) as_written))
